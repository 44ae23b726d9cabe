-- The order of the tree: below each reachable route, keys on its left are smaller than its key and keys on its right are not.
use Rattle.std.specs.Prelude.{Bool, true, false, not, ◌≡◌, ℕ, ◌≤◌, ◌<◌, ltb}
use Rattle.std.proofs.Common.{true≢false, sym, ap, ◌∙◌, arith, ltb-true, ltb-false}
use Rattle.std.proofs.lemmas.Bool.{not-true, not-false}
use Rattle.keys.specs.Keys.{has}
use Rattle.rules.specs.State.{place_at, thread_at}
use Rattle.rules.specs.Places.{is_route, is_base, keys_of, route_key, child_on}
use Rattle.rules.specs.declared.state.Place.{Place}
use Rattle.rules.specs.declared.state.State.{State}
use Rattle.graph.specs.Cases.{Way, onto, off, way}
use Rattle.graph.specs.Walk.{kid, by, Walk, walk_from, first, Below, itself, down, walk_below, below-from}
use Rattle.graph.specs.Tree.{Through, through, sides_apart, kid_in}
use Rattle.graph.specs.Graph.{summit}
use Rattle.runs.specs.Holders.{Reaches, at, below}
use Rattle.order.specs.World.{World, cell, in_tree, world_of, Sound}
use Rattle.order.specs.Bridge.{place_at_lem, reads_route, reads_key, reads_kid}
use Rattle.order.specs.Walks.{summit_in, summit-at, root_next}
use Rattle.order.specs.Invariant.{Invariant}

module _ {s : State} (i : Invariant s) where
  abbrev w : World
  w = world_of s i.nodes.tree i.nodes.own

  sound : Sound (world_of s i.nodes.tree i.nodes.own) (thread_at s) s.made
  sound = i.nodes.safe.sound

  -- a node of the tree that is no summit
  record Node (x : ℕ) : Type 0 where
    small : x < summit
    inside : in_tree w x

  -- what is reached from a node of the tree is below it, and such a node
  record Met (x y : ℕ) : Type 0 where
    under : Below (cell w) x y
    node : Node y

  kind : (x : ℕ) → x < summit → is_route (place_at s x) ≡ (cell w x).route
  kind x m = reads_route s i.nodes.tree i.nodes.own x m

  child : (x : ℕ) → Node x → is_route (place_at s x) ≡ true → (t : Bool) → Node (kid t (cell w x))
  child x n r t =
      let q : (cell w x).route ≡ true = sym (kind x n.small) ∙ r in
      record {
        small = sound.good.small x (record { hung = sound.good.grown x n.inside; route = q }) n.small t;
        inside = kid_in sound.good.shape x n.inside q t;
      }

  met : {x y : ℕ} → Node x → Reaches s x y → Met x y
  met n (at e) = record { under = itself e; node = rw e at n }
  met n (below x t b r) =
      let e = reads_kid s i.nodes.tree i.nodes.own t x n.small in
      let k = met (rw e (child x n r t)) b in
      record { under = down x t (below-from (sym e) k.under) (sym (kind x n.small) ∙ r); node = k.node }

  root_node : Node s.root
  root_node =
      record {
        small = sound.entry;
        inside =
            rw (root_next sound 0 (omega arith)) at
            (kid_in sound.good.shape summit (summit_in sound) (summit-at sound).route (not (ltb 0 (cell w summit).key)));
      }

  -- what is reached from the root is a node, and in the tree
  pub reached_small : {x : ℕ} → Reaches s s.root x → x < summit
  reached_small p = (met root_node p).node.small

  pub reached_in : {x : ℕ} → Reaches s s.root x → in_tree w x
  reached_in p = (met root_node p).node.inside

  -- from a route down to a route numbers rise
  starts : {a y : ℕ} → Reaches s a y → is_route (place_at s y) ≡ true → is_route (place_at s a) ≡ true
  starts (at e) r = ap (λ (z : ℕ). is_route (place_at s z)) e ∙ r
  starts (below x t b q) r = q

  child_node : {x : ℕ} → Node x → is_route (place_at s x) ≡ true → (t : Bool) → Node (child_on t (place_at s x))
  child_node {x} n r t = rw (reads_kid s i.nodes.tree i.nodes.own t x n.small) (child x n r t)

  rises : {x y : ℕ} → Node x → is_route (place_at s x) ≡ true → (t : Bool) → Reaches s (child_on t (place_at s x)) y → is_route (place_at s y) ≡ true
      → x < child_on t (place_at s x)
  rises {x} n r t b f =
      let e = reads_kid s i.nodes.tree i.nodes.own t x n.small in
      rw e
      (sound.good.rises x (record { hung = sound.good.grown x n.inside; route = sym (kind x n.small) ∙ r }) n.small t
      (sym (ap (λ (z : ℕ). (cell w z).route) e) ∙ sym (kind (child_on t (place_at s x)) (child_node n r t).small) ∙ starts b f))

  climbs : {a y : ℕ} → Node a → Reaches s a y → is_route (place_at s y) ≡ true → a ≤ y
  climbs n (at e) f = omega (arith, e)
  climbs n (below x t b r) f = omega (arith, climbs (child_node n r t) b f, rises n r t b f)

  -- a key that leads to a node below the child of x on side t goes to that side at x
  sends : {x y : ℕ} (t : Bool) (p : Reaches s s.root x) (r : is_route (place_at s x) ≡ true) (q : Reaches s (child_on t (place_at s x)) y) (j : ℕ)
      → Walk (cell w) (by j) summit y → (x ≡ y → ⊥) → not (ltb j (route_key (place_at s x))) ≡ t
  sends {x} {y} t p r q j leads apart = rw (reads_key s i.nodes.tree i.nodes.own x n.small) (go (way (not (ltb j (cell w x).key)) t))
    where
      n : Node x
      n = (met root_node p).node

      k : Met (kid t (cell w x)) y
      k = met (child x n r t) (rw (reads_kid s i.nodes.tree i.nodes.own t x n.small) at q)

      route : (cell w x).route ≡ true
      route = sym (kind x n.small) ∙ r

      passes : Through (cell w) (by j) summit x y
      passes =
          rw sound.good.head at
          (through sound.good.shape sound.good.once n.inside (walk_from sound.good.head leads) (down x t k.under route))

      go : Way (not (ltb j (cell w x).key)) t → not (ltb j (cell w x).key) ≡ t
      go (onto a) = a
      go (off a) =
          absurd (sides_apart sound.good.shape sound.good.once x n.inside route t k.under
          (below-from (ap (λ (c : Bool). kid c (cell w x)) (sym a)) (walk_below (first passes.after apart).rest)))

  -- what is reached below a node that is reached
  below_node : {x y : ℕ} (t : Bool) → Reaches s s.root x → is_route (place_at s x) ≡ true → Reaches s (child_on t (place_at s x)) y → Node y
  below_node {x} t p r q =
      let n = (met root_node p).node in
      (met (child x n r t) (rw (reads_kid s i.nodes.tree i.nodes.own t x n.small) at q)).node

  -- a key of a base below the child of x on side t goes to that side at x
  turns : {x b : ℕ} (t : Bool) → Reaches s s.root x → is_route (place_at s x) ≡ true → Reaches s (child_on t (place_at s x)) b
      → is_base (place_at s b) ≡ true → (j : ℕ) → has (keys_of (place_at s b)) j ≡ true → not (ltb j (route_key (place_at s x))) ≡ t
  turns {x} {b} t p r q f j h =
      sends t p r q j
      (sound.belongs.leads b n.inside (sym (kind b n.small) ∙ not-true (is_route (place_at s b)) f) j
      (ap (λ (a : Place). has (keys_of a) j) (sym (place_at_lem s b n.small)) ∙ h))
      (λ z. true≢false (sym r ∙ ap (λ (m : ℕ). is_route (place_at s m)) z ∙ not-true (is_route (place_at s b)) f))
    where
      n : Node b
      n = below_node t p r q

  -- so does the key of a route
  turns_route : {x y : ℕ} (t : Bool) → Reaches s s.root x → is_route (place_at s x) ≡ true → Reaches s (child_on t (place_at s x)) y
      → is_route (place_at s y) ≡ true → not (ltb (route_key (place_at s y)) (route_key (place_at s x))) ≡ t
  turns_route {x} {y} t p r q f =
      sends t p r q (route_key (place_at s y))
      (rw (reads_key s i.nodes.tree i.nodes.own y n.small)
      (sound.good.search y n.inside (sym (kind y n.small) ∙ f)))
      (λ z. omega (arith, climbs (child_node m r t) q f, rises m r t q f, z))
    where
      n : Node y
      n = below_node t p r q

      m : Node x
      m = (met root_node p).node

  -- keys of bases on the left of a reachable route are smaller than its key
  pub left_smaller : {x b : ℕ} → Reaches s s.root x → is_route (place_at s x) ≡ true → Reaches s (child_on false (place_at s x)) b
      → is_base (place_at s b) ≡ true → (j : ℕ) → has (keys_of (place_at s b)) j ≡ true → j < route_key (place_at s x)
  left_smaller {x} p r q f j h = ltb-true j (route_key (place_at s x)) (not-false (ltb j (route_key (place_at s x))) (turns false p r q f j h))

  -- keys of bases on the right of a reachable route are not
  pub right_not_smaller : {x b : ℕ} → Reaches s s.root x → is_route (place_at s x) ≡ true → Reaches s (child_on true (place_at s x)) b
      → is_base (place_at s b) ≡ true → (j : ℕ) → has (keys_of (place_at s b)) j ≡ true → route_key (place_at s x) ≤ j
  right_not_smaller {x} p r q f j h = ltb-false j (route_key (place_at s x)) (not-true (ltb j (route_key (place_at s x))) (turns true p r q f j h))

  -- and so are the keys of the routes below it
  pub left_route_smaller : {x y : ℕ} → Reaches s s.root x → is_route (place_at s x) ≡ true → Reaches s (child_on false (place_at s x)) y
      → is_route (place_at s y) ≡ true → route_key (place_at s y) < route_key (place_at s x)
  left_route_smaller {x} {y} p r q f = ltb-true _ _ (not-false _ (turns_route false p r q f))

  pub right_route-not_smaller : {x y : ℕ} → Reaches s s.root x → is_route (place_at s x) ≡ true → Reaches s (child_on true (place_at s x)) y
      → is_route (place_at s y) ≡ true → route_key (place_at s x) ≤ route_key (place_at s y)
  right_route-not_smaller {x} {y} p r q f = ltb-false _ _ (not-true _ (turns_route true p r q f))
