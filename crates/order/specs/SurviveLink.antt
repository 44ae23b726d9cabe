-- The conditions of a thread between splice and link survive a change.
use Rattle.std.specs.Prelude.{Bool, not, ◌≡◌, ℕ, ltb}
use Rattle.std.proofs.Common.{sym, ap, ◌∙◌}
use Rattle.keys.specs.Keys.{has}
use Rattle.graph.specs.Walk.{Cell, kid}
use Rattle.graph.specs.Graph.{Good}
use Rattle.order.specs.World.{World, graph, cell}
use Rattle.order.specs.Stages.{Linking, Closing, Descending, Parent}
use Rattle.order.specs.Change.{Other, Holds, Change}
use Rattle.order.specs.Survive.{base-at, route-at, route_of, holding, held_keys, union_of, child_by_lem}

module _ {w w' : World} {me : ℕ} {K : ℕ → Type 0} {F : Type 0} (good : Good (graph w)) (c : Change w w' me K F) (v : ℕ) (o : Other v me) where
  pub linking : (u : Bool) (P B N M : ℕ) → K B → K N → Linking w v u P B N M → Linking w' v u P B N M
  linking u P B N M κ ν s =
      let had : Holds w v N = record { hung = s.neighbour.hung; holds = s.holds_n } in
      let i = c.stays v N o had s.inside in
      record {
        small = s.small;
        prev = route-at good c v o s.prev;
        base = base-at good c v o s.base;
        neighbour = base-at good c v o s.neighbour;
        holds_b = holding good c v o κ s.base.hung s.holds_b;
        holds_n = holding good c v o ν s.neighbour.hung s.holds_n;
        differ = s.differ;
        out_p = c.moves.gone P s.prev.hung s.out_p;
        out_b = c.moves.gone B s.base.hung s.out_b;
        inside = i;
        invalid_b = c.invalid B s.base.hung s.invalid_b;
        invalid_n = c.invalid N s.neighbour.hung s.invalid_n;
        only = λ x r n t e.
            let q = c.back v x t N o had s.neighbour.base r e in
            c.parent v x t N o had s.neighbour.base q.route (s.only x q.route n t q.child) q.child;
        reach = λ j e. c.moves.walks (s.reach j (ap (λ (n : ℕ). has n j) (sym (held_keys good c v o κ s.base s.holds_b)) ∙ e)) i;
        union = union_of good c v o B N M κ ν s.base s.holds_b s.neighbour s.holds_n s.union;
      }

  pub closing : (u : Bool) (P B N M G : ℕ) → Linking w v u P B N M → Closing w u P N G → Closing w' u P N G
  closing u P B N M G l s =
      let had : Holds w v N = record { hung = l.neighbour.hung; holds = l.holds_n } in
      let f : kid u (cell w' P) ≡ kid u (cell w P) = ap (λ (x : Cell). kid u x) (c.moves.frozen P l.prev.hung (c.moves.gone P l.prev.hung l.out_p)) in
      record {
        at = route-at good c v o s.at;
        path = c.moves.walks s.path (c.stays v N o had l.inside);
        above = λ e.
            c.parent v G (not (ltb (cell w P).key (cell w G).key)) N o had l.neighbour.base (route_of good c v o s.at) (s.above (sym f ∙ e))
            (s.child (sym f ∙ e));
        child = λ e. child_by_lem good c v o P G N l.prev.hung s.at had (s.child (sym f ∙ e));
      }

  pub descending : (u : Bool) (P B N M x : ℕ) → Linking w v u P B N M → Descending w u P N x → Descending w' u P N x
  descending u P B N M x l s =
      record {
        rise = s.rise;
        small = s.small;
        at = route-at good c v o s.at;
        path = c.moves.walks s.path (c.stays v N o (record { hung = l.neighbour.hung; holds = l.holds_n }) l.inside);
      }

  pub parent_of : (u : Bool) (P B N M x : ℕ) → Linking w v u P B N M → Parent w N x → Parent w' N x
  parent_of u P B N M x l s =
      let had : Holds w v N = record { hung = l.neighbour.hung; holds = l.holds_n } in
      record {
        at = route-at good c v o s.at;
        above = c.parent v x s.side N o had l.neighbour.base (route_of good c v o s.at) s.above s.child;
        side = s.side;
        child = c.child v x s.side N o had (route_of good c v o s.at) s.child;
      }
