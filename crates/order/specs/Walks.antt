-- What the walking rows come to: from the condition before a step of a walk to the one after.
use Rattle.std.specs.Prelude.{Bool, true, false, not, ◌≡◌, refl, ℕ, ◌≤◌, ◌<◌, ltb, eqb}
use Rattle.std.proofs.Common.{true≢false, sym, ap, ◌∙◌, arith, eq-eqb, ne_eqb, lt-ltb, eqb-true}
use Rattle.std.proofs.lemmas.Bool.{eqb-false}
use Rattle.rules.specs.declared.state.Thread.{Thread}
use Rattle.graph.specs.Cases.{Amount, none, some, amount}
use Rattle.graph.specs.Walk.{Cell, kid, Direction, by, along, next, Walk, walk_from, walk_on, first, walk_stops}
use Rattle.graph.specs.Tree.{count, label_in, walk_in}
use Rattle.graph.specs.Graph.{summit, hung, Route, Good}
use Rattle.graph.specs.Track.{Track, on, dead, past}
use Rattle.order.specs.World.{World, graph, cell, cell-summit, valid, hold, in_tree, Sound}
use Rattle.order.specs.Stages.{BaseAt, RouteAt, Searching, Arrived, Turning, Joining, Seeking, Reached, Dying, Towards, Under, Linking, Closing, Descending, Parent}

module _ {w : World} {thread : ℕ → Thread} {made : ℕ} (sound : Sound w thread made) where
  good : Good (graph w)
  good = sound.good

  pub summit_in : in_tree w summit
  summit_in = rw good.head at (label_in w.tree)

  pub summit-at : RouteAt w summit
  summit-at =
      record { small = omega arith; hung = good.grown summit summit_in; route = ap (λ (c : Cell). c.route) (cell-summit w.root w.place) }

  pub route_of : {x : ℕ} → RouteAt w x → Route (graph w) x
  route_of r = record { hung = r.hung; route = r.route }

  -- the children of a route are hung, and nodes
  pub kid_small : {x : ℕ} → RouteAt w x → x < summit → (s : Bool) → kid s (cell w x) < summit
  kid_small {x} r l s = good.small x (route_of r) l s

  pub kid-route : {x : ℕ} → RouteAt w x → (s : Bool) {y : ℕ} → kid s (cell w x) ≡ y → y < summit → (cell w y).route ≡ true → RouteAt w y
  kid-route {x} r s e l t = record { small = omega arith; hung = rw e at (good.kids x (route_of r) s); route = t }

  pub kid-base : {x : ℕ} → RouteAt w x → (s : Bool) {y : ℕ} → kid s (cell w x) ≡ y → y < summit → (cell w y).route ≡ false → BaseAt w y
  kid-base {x} r s e l t = record { small = l; hung = rw e at (good.kids x (route_of r) s); base = t }

  -- the root as the summit's child
  pub root_next : (k : ℕ) → k < 64 → next (cell w) (by k) summit ≡ w.root
  root_next k l = rw (cell-summit w.root w.place, lt-ltb k 64 l)

  -- a valid node that I hold, not being at phase 8, is in the tree
  pub held_in : {me x : ℕ} → w.own x ≡ hung → hold w x ≡ me → valid w x ≡ true → ((thread me).phase ≡ 8 → ⊥) → in_tree w x
  held_in {me} {x} h e f n = go (amount (count x w.tree))
    where
      go : Amount (count x w.tree) → in_tree w x
      go (some i) = i
      go (none o) = absurd (n (rw e at (sound.late x h o f).phase))

  -- ---- search: phases 1 and 2

  track_on : (d : Direction) (a x : ℕ) {y : ℕ} → RouteAt w x → Track (graph w) d a x → next (cell w) d x ≡ y → Track (graph w) d a y
  track_on d a x r (on u) e = on (walk_on u r.route e)
  track_on d a x r (dead h o b) e = absurd (true≢false (sym r.route ∙ b))
  track_on d a x r (past x' t h o p n) e = rw (sym n ∙ e) at t

  pub search_route : (k x y : ℕ) → k < 64 → RouteAt w x → Track (graph w) (by k) summit x → next (cell w) (by k) x ≡ y → y < summit
      → (cell w y).route ≡ true → Searching w k y
  search_route k x y l r t e m b =
      record { key = l; small = m; at = kid-route r (not (ltb k (cell w x).key)) e m b; track = track_on (by k) summit x r t e }

  -- a base under x that is valid and in the tree is met by the walk, if x is on the track
  met : (d : Direction) (a x y : ℕ) → RouteAt w x → in_tree w a → Track (graph w) d a x → next (cell w) d x ≡ y → (cell w y).route ≡ false
      → valid w y ≡ true → in_tree w y → in_tree w x × Walk (cell w) d a y
  met d a x y r i (on u) e b f j = (walk_in good.shape i u, walk_on u r.route e)
  met d a x y r i (dead h o c) e b f j = absurd (true≢false (sym r.route ∙ c))
  met d a x y r i (past x' t h o p n) e b f j =
      absurd (true≢false (sym f ∙ (rw e at (sound.stale x h p o (d x (cell w x).key) (rw e b) (rw e j)))))

  pub search_base : (k x y : ℕ) → k < 64 → RouteAt w x → Track (graph w) (by k) summit x → next (cell w) (by k) x ≡ y → y < summit
      → (cell w y).route ≡ false → Arrived w k x y
  search_base k x y l r t e m b =
      record {
        key = l;
        base = kid-base r (not (ltb k (cell w x).key)) e m b;
        prev = r;
        meets = λ f j. let q = met (by k) summit x y r summit_in t e b f j in record { above = q.0; child = e; path = q.1 };
      }

  -- ---- the neighbour: phases 9 and 10

  pub along-first : (P : ℕ) (v : Bool) → next (cell w) (along P v) P ≡ kid v (cell w P)
  along-first P v = rw (eq-eqb P P refl)

  pub along_then : (P x : ℕ) (v : Bool) → P < x → next (cell w) (along P v) x ≡ kid (not v) (cell w x)
  along_then P x v l = rw (ne_eqb x P (λ e. omega arith))

  rises : {x : ℕ} → RouteAt w x → x < summit → (s : Bool) {y : ℕ} → kid s (cell w x) ≡ y → (cell w y).route ≡ true → x < y
  rises {x} r l s e b = rw e at (good.rises x (route_of r) l s (rw e b))

  pub seek_route : {me : ℕ} {v : Bool} {P B : ℕ} (x y : ℕ) → Joining w me v P B → RouteAt w x → x < summit → P ≤ x
      → Track (graph w) (along P v) P x → next (cell w) (along P v) x ≡ y → (cell w y).route ≡ true → Seeking w me v P B y
  seek_route {v = v} {P} x y j r l m t e b =
      let s = along P v x (cell w x).key in
      let z = rw e at (kid_small r l s) in
      record {
        joining = j;
        rise = omega (arith, rises r l s e b);
        small = z;
        at = kid-route r s e z b;
        track = track_on (along P v) P x r t e;
      }

  pub seek_base : {me : ℕ} {v : Bool} {P B : ℕ} (x y : ℕ) → Joining w me v P B → RouteAt w x → x < summit
      → Track (graph w) (along P v) P x → next (cell w) (along P v) x ≡ y → (cell w y).route ≡ false → Reached w me v P B y
  seek_base {v = v} {P} x y j r l t e b =
      let s = along P v x (cell w x).key in
      record {
        joining = j;
        base = kid-base r s e (rw e at (kid_small r l s)) b;
        meets = λ f i. (met (along P v) P x y r j.above t e b f i).1;
      }

  -- the side fixed at phase 9: B is the near child
  pub fixed : {me k P B : ℕ} → Turning w me k P B → Joining w me (eqb (cell w P).left B) P B
  fixed {me} {k} {P} {B} t =
      let o = t.owning in
      record {
        small = t.small;
        prev = o.prev;
        base = o.base;
        holds = o.holds;
        above = o.meets.above;
        near = go (eqb (cell w P).left B) refl (not (ltb k (cell w P).key)) o.meets.child;
      }
    where
      go : (b : Bool) → eqb (cell w P).left B ≡ b → (s : Bool) → kid s (cell w P) ≡ B → kid (not b) (cell w P) ≡ B
      go true e s q = eqb-true (cell w P).left B e
      go false e true q = q
      go false e false q = absurd (eqb-false (cell w P).left B e q)

  -- ---- the grandparent: phases 15 and 16

  module _ {me : ℕ} {v : Bool} {P B N M : ℕ} (d : Dying w me v P B N M) where
    prev_key : (cell w P).key < 64
    prev_key = good.keys P (route_of d.pairing.joining.prev) d.pairing.joining.small

    pub under_summit : w.root ≡ P → Under w me P summit
    under_summit e =
        record { at = summit-at; above = summit_in; child = root_next (cell w P).key prev_key ∙ e; holds = λ l. absurd (omega arith) }

    pub towards_from : {x y : ℕ} → RouteAt w x → (x ≡ P → ⊥) → Walk (cell w) (by (cell w P).key) x P → next (cell w) (by (cell w P).key) x ≡ y
        → y < summit → (y ≡ P → ⊥) → Towards w P y
    towards_from {x} {y} r n u e l m =
        let q = walk_from (sym e) (first u n).rest in
        record {
          small = l;
          at = kid-route r (not (ltb (cell w P).key (cell w x).key)) e l (first q m).route;
          differ = m;
          path = q;
        }

    pub towards_root : (w.root ≡ P → ⊥) → Towards w P w.root
    towards_root n =
        towards_from summit-at (λ e. omega (arith, d.pairing.joining.small))
        (good.search P d.pairing.joining.above d.pairing.joining.prev.route) (root_next (cell w P).key prev_key) sound.entry n

  -- ---- the link: phases 21 and 22

  module _ {me : ℕ} {v : Bool} {P B N M : ℕ} (l : Linking w me v P B N M) where
    pub parent_over : {G : ℕ} → Closing w v P N G → kid v (cell w P) ≡ N → Parent w N G
    parent_over {G} c e =
        record { at = c.at; above = c.above e; side = not (ltb (cell w P).key (cell w G).key); child = c.child e }

    routes_differ : {x : ℕ} → RouteAt w x → x ≡ N → ⊥
    routes_differ r e = true≢false (sym r.route ∙ ap (λ (n : ℕ). (cell w n).route) e ∙ l.neighbour.base)

    pub descend_far : {G : ℕ} → Closing w v P N G → (kid v (cell w P) ≡ N → ⊥) → Descending w v P N (kid v (cell w P))
    descend_far c n =
        let q = walk_from (sym (along-first P v)) (first c.path (routes_differ l.prev)).rest in
        let r = (first q n).route in
        let z = kid_small l.prev l.small v in
        record { rise = rises l.prev l.small v refl r; small = z; at = kid-route l.prev v refl z r; path = q }

    step_down : {x : ℕ} → Descending w v P N x → Walk (cell w) (along P v) (kid (not v) (cell w x)) N
    step_down {x} d = walk_from (sym (along_then P x v d.rise)) (first d.path (routes_differ d.at)).rest

    pub descend_on : {x : ℕ} → Descending w v P N x → (cell w (kid (not v) (cell w x))).route ≡ true → Descending w v P N (kid (not v) (cell w x))
    descend_on {x} d r =
        let z = kid_small d.at d.small (not v) in
        record {
          rise = omega (arith, rises d.at d.small (not v) refl r, d.rise);
          small = z;
          at = kid-route d.at (not v) refl z r;
          path = step_down d;
        }

    pub descend_ends : {x : ℕ} → Descending w v P N x → (cell w (kid (not v) (cell w x))).route ≡ false → Parent w N x
    descend_ends {x} d b =
        let e = walk_stops (step_down d) b in
        record { at = d.at; above = l.only x (route_of d.at) (λ q. omega (arith, d.rise)) (not v) e; side = not v; child = e }
