-- The walk that lists keys meets a node exactly if it is reachable from the root.
use Rattle.std.specs.Prelude.{Bool, true, false, ◌≡◌, ℕ, ◌≤◌, ◌<◌, get_or}
use Rattle.std.proofs.Common.{sym, ◌∙◌, subst, arith}
use Rattle.rules.specs.List.{reached}
use Rattle.rules.specs.declared.state.State.{State}
use Rattle.graph.specs.Cases.{is_some, is_apart}
use Rattle.graph.specs.Walk.{kid}
use Rattle.graph.specs.Tree.{Tree, fork, label, count, Shape, leaf, branch, label_in, Stands, top, in_l, in_r, stands}
use Rattle.graph.specs.Graph.{summit}
use Rattle.runs.specs.Holders.{Reaches, at, below}
use Rattle.order.specs.World.{World, cell, world_of}
use Rattle.order.specs.Bridge.{reads_route, reads_kid}
use Rattle.order.specs.Invariant.{Invariant}
use Rattle.order.specs.KeyList.{root_tree, rest_small, reached_met, reached-only}
use Rattle.order.proofs.Search.{reached_small, reached_in}

module _ {s : State} (i : Invariant s) where
  abbrev w : World
  w = world_of s i.nodes.tree i.nodes.own

  -- the nodes of a tree are reached from its top
  reaches : {t : Tree} → Shape (cell w) t → ((x : ℕ) → 1 ≤ count x t → x < summit) → (b : ℕ) → 1 ≤ count b t → Reaches s (label t) b
  reaches (leaf {n} e) m b j = at (sym (is_some j))
  reaches (branch {n} {l} {r} f a c) m b j =
      go (stands j) (reaches a (λ x k. m x (omega arith)) b) (reaches c (λ x k. m x (omega arith)) b)
    where
      small : n < summit
      small = m n (label_in (fork n l r))

      down : (t : Bool) {y : ℕ} → kid t (cell w n) ≡ y → Reaches s y b → Reaches s n b
      down t e p =
          below n t (subst (λ (z : ℕ). Reaches s z b) (sym (reads_kid s i.nodes.tree i.nodes.own t n small ∙ e)) p)
          (reads_route s i.nodes.tree i.nodes.own n small ∙ f.route)

      go : Stands b n l r → (1 ≤ count b l → Reaches s (label l) b) → (1 ≤ count b r → Reaches s (label r) b) → Reaches s n b
      go (top e) u v = at (sym e)
      go (in_l k) u v = down false f.left (u k)
      go (in_r k) u v = down true f.right (v k)

  -- whatever it meets is reachable, and it meets all that is
  pub met_reached : (b : ℕ) → get_or (reached s).seen b false ≡ true → Reaches s s.root b
  met_reached b e =
      subst (λ (z : ℕ). Reaches s z b) (root_tree i).head (reaches (root_tree i).shape (rest_small i) b (reached-only i b e))

  pub reached-is_met : (b : ℕ) → Reaches s s.root b → get_or (reached s).seen b false ≡ true
  reached-is_met b p =
      let m = reached_small i p in
      reached_met i b
      (omega (
        arith,
        (root_tree i).inside b,
        reached_in i p,
        is_apart {x = b} {y = summit} (λ z. omega arith),
        is_apart {x = b} {y = 129} (λ z. omega arith),
      ))
