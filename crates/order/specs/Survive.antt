-- The conditions of a thread survive a change, one by one.
use Rattle.std.specs.Prelude.{Bool, true, false, not, ◌≡◌, refl, ℕ, ltb}
use Rattle.std.proofs.Common.{true≢false, sym, ap, ◌∙◌, arith}
use Rattle.graph.specs.Cases.{Amount, none, some, amount, Same, same, apart, compared}
use Rattle.graph.specs.Walk.{Cell, kid, Direction, by, next, Walk}
use Rattle.graph.specs.Tree.{count, label_in, kid_in}
use Rattle.graph.specs.Graph.{summit, hung, Route, Good, Moves, hung_made}
use Rattle.graph.specs.Track.{tracks}
use Rattle.order.specs.World.{World, graph, cell, valid, hold, keys, in_tree}
use Rattle.order.specs.Stages.{BaseAt, RouteAt, Searching, Meets, Arrived, Locked, Owning, Dense, Mine, Splitting, Replaced, Turning, Joining, Seeking, Reached, Taken, Union, Pairing, Ready, Dying, Towards, Over, Under, Holding}
use Rattle.order.specs.Change.{Other, Holds, Change}

module _ {w w' : World} {me : ℕ} {K : ℕ → Type 0} {F : Type 0} (good : Good (graph w)) (c : Change w w' me K F) (v : ℕ) (o : Other v me) where
  m : Moves (graph w) (graph w')
  m = c.moves

  summit_in : in_tree w summit
  summit_in = rw good.head at (label_in w.tree)

  summit_in' : in_tree w' summit
  summit_in' = rw c.good.head at (label_in w'.tree)

  pub base-at : {x : ℕ} → BaseAt w x → BaseAt w' x
  base-at {x} b = record { small = b.small; hung = m.hangs x b.hung; base = m.kind x (hung_made b.hung) ∙ b.base }

  pub route-at : {x : ℕ} → RouteAt w x → RouteAt w' x
  route-at {x} b = record { small = b.small; hung = m.hangs x b.hung; route = m.kind x (hung_made b.hung) ∙ b.route }

  -- the key of a hung node stays, and so the child that a direction takes where that slot stays
  key_of : (x : ℕ) → w.own x ≡ hung → (cell w' x).key ≡ (cell w x).key
  key_of x h = m.key x (hung_made h)

  next_of : (d : Direction) (x : ℕ) → w.own x ≡ hung → {z : ℕ} → kid (d x (cell w x).key) (cell w' x) ≡ z → next (cell w') d x ≡ z
  next_of d x h e = ap (λ (k : ℕ). kid (d x k) (cell w' x)) (key_of x h) ∙ e

  -- what was out of the tree is out: what is in was in
  pub was_in : (x : ℕ) → w.own x ≡ hung → in_tree w' x → in_tree w x
  was_in x h i = go (amount (count x w.tree))
    where
      go : Amount (count x w.tree) → in_tree w x
      go (some j) = j
      go (none e) = absurd (omega (arith, m.gone x h e))

  pub was_valid : (x : ℕ) → w.own x ≡ hung → valid w' x ≡ true → valid w x ≡ true
  was_valid x h e = go (valid w x) refl
    where
      go : (b : Bool) → valid w x ≡ b → b ≡ true
      go true q = refl
      go false q = absurd (true≢false (sym e ∙ c.invalid x h q))

  mine : {x : ℕ} → Mine w v x → Mine w' v x
  mine {x} n = record { small = n.small; own = (c.unhung v x o n.own).own }

  pub holding : {x : ℕ} → K x → w.own x ≡ hung → hold w x ≡ v → hold w' x ≡ v
  holding {x} κ h e = (c.held v x o κ (record { hung = h; holds = e })).holds

  pub searching : (k x : ℕ) → Searching w k x → Searching w' k x
  searching k x s = record { key = s.key; small = s.small; at = route-at s.at; track = tracks good m summit_in s.track }

  pub arrived : (k P B : ℕ) → Arrived w k P B → Arrived w' k P B
  arrived k P B s =
      record {
        key = s.key;
        base = base-at s.base;
        prev = route-at s.prev;
        meets = λ e i.
            let h = s.base.hung in
            let p = s.meets (was_valid B h e) (was_in B h i) in
            let l = c.live P (not (ltb k (cell w P).key)) B (record { hung = s.prev.hung; route = s.prev.route }) p.above p.child s.base.base e i in
            record { above = l.above; child = next_of (by k) P s.prev.hung l.child; path = m.walks p.path i };
      }

  pub locked : (k P B : ℕ) → K B → Locked w v k P B → Locked w' v k P B
  locked k P B κ s = record { arrived = arrived k P B s.arrived; holds = holding κ s.arrived.base.hung s.holds }

  pub route_of : {x : ℕ} → RouteAt w x → Route (graph w) x
  route_of r = record { hung = r.hung; route = r.route }

  -- what a key leads to, where v holds the base
  meets : (k P B : ℕ) → RouteAt w P → BaseAt w B → hold w B ≡ v → Meets w k P B → Meets w' k P B
  meets k P B p b h s =
      let had : Holds w v B = record { hung = b.hung; holds = h } in
      let side = not (ltb k (cell w P).key) in
      let i : in_tree w B = rw s.child at (kid_in good.shape P s.above p.route side) in
      record {
        above = c.parent v P side B o had b.base (route_of p) s.above s.child;
        child = next_of (by k) P p.hung (c.child v P side B o had (route_of p) s.child);
        path = m.walks s.path (c.stays v B o had i);
      }

  pub owning : (k P B : ℕ) → K B → F → Owning w v k P B → Owning w' v k P B
  owning k P B κ f s =
      let had : Holds w v B = record { hung = s.base.hung; holds = s.holds } in
      record {
        key = s.key;
        base = base-at s.base;
        prev = route-at s.prev;
        holds = holding κ s.base.hung s.holds;
        valid = c.flag v B o f had ∙ s.valid;
        meets = meets k P B s.prev s.base s.holds s.meets;
      }

  pub held_keys : {B : ℕ} → K B → BaseAt w B → hold w B ≡ v → keys w' B ≡ keys w B
  held_keys {B} κ b h = (c.held v B o κ (record { hung = b.hung; holds = h })).keys

  pub dense : (k P B : ℕ) → K B → F → Dense w v k P B → Dense w' v k P B
  dense k P B κ f s =
      record { owning = owning k P B κ f s.owning; dense = rw (held_keys κ s.owning.base s.owning.holds) s.dense }

  pub splitting : (k P B M : ℕ) → K B → F → Splitting w v k P B M → Splitting w' v k P B M
  splitting k P B M κ f s =
      let e = (c.unhung v M o s.mine.own).cell in
      let l = c.unhung v (cell w M).left o s.mine_l.own in
      let r = c.unhung v (cell w M).right o s.mine_r.own in
      let b = held_keys κ s.owning.base s.owning.holds in
      record {
        owning = owning k P B κ f s.owning;
        mine = mine s.mine;
        mine_l = rw e (mine s.mine_l);
        mine_r = rw e (mine s.mine_r);
        apart = rw e s.apart;
        route = ap (λ (x : Cell). x.route) e ∙ s.route;
        base_l = rw e (ap (λ (x : Cell). x.route) l.cell ∙ s.base_l);
        base_r = rw e (ap (λ (x : Cell). x.route) r.cell ∙ s.base_r);
        key = rw (e, b) s.key;
        small = rw e s.small;
        keys_l = rw (e, b) (l.keys ∙ s.keys_l);
        keys_r = rw (e, b) (r.keys ∙ s.keys_r);
        above = s.above;
      }

  pub replaced : (B : ℕ) → K B → Replaced w v B → Replaced w' v B
  replaced B κ s = record { base = base-at s.base; holds = holding κ s.base.hung s.holds; out = m.gone B s.base.hung s.out }

  pub turning : (k P B : ℕ) → K B → F → Turning w v k P B → Turning w' v k P B
  turning k P B κ f s = record { owning = owning k P B κ f s.owning; small = s.small }

  pub joining : (u : Bool) (P B : ℕ) → K B → Joining w v u P B → Joining w' v u P B
  joining u P B κ s =
      let had : Holds w v B = record { hung = s.base.hung; holds = s.holds } in
      record {
        small = s.small;
        prev = route-at s.prev;
        base = base-at s.base;
        holds = holding κ s.base.hung s.holds;
        above = c.parent v P (not u) B o had s.base.base (route_of s.prev) s.above s.near;
        near = c.child v P (not u) B o had (route_of s.prev) s.near;
      }

  pub seeking : (u : Bool) (P B x : ℕ) → K B → Seeking w v u P B x → Seeking w' v u P B x
  seeking u P B x κ s =
      record {
        joining = joining u P B κ s.joining;
        rise = s.rise;
        small = s.small;
        at = route-at s.at;
        track = tracks good m s.joining.above s.track;
      }

  pub reached : (u : Bool) (P B x : ℕ) → K B → Reached w v u P B x → Reached w' v u P B x
  reached u P B x κ s =
      record {
        joining = joining u P B κ s.joining;
        base = base-at s.base;
        meets = λ e i. m.walks (s.meets (was_valid x s.base.hung e) (was_in x s.base.hung i)) i;
      }

  pub taken : (u : Bool) (P B N : ℕ) → K B → K N → Taken w v u P B N → Taken w' v u P B N
  taken u P B N κ ν s =
      record { reached = reached u P B N κ s.reached; holds = holding ν s.reached.base.hung s.holds; differ = s.differ }

  pub union_of : (B N M : ℕ) → K B → K N → BaseAt w B → hold w B ≡ v → BaseAt w N → hold w N ≡ v → Union w v B N M → Union w' v B N M
  union_of B N M κ ν b h n k s =
      let q = c.unhung v M o s.mine.own in
      record {
        mine = mine s.mine;
        base = ap (λ (x : Cell). x.route) q.cell ∙ s.base;
        sum = rw (held_keys κ b h, held_keys ν n k) (q.keys ∙ s.sum);
        apart = rw (held_keys κ b h, held_keys ν n k) s.apart;
      }

  pub pairing : (u : Bool) (P B N M : ℕ) → K B → K N → Pairing w v u P B N M → Pairing w' v u P B N M
  pairing u P B N M κ ν s =
      let had : Holds w v N = record { hung = s.neighbour.hung; holds = s.holds } in
      let i = c.stays v N o had s.inside in
      record {
        joining = joining u P B κ s.joining;
        neighbour = base-at s.neighbour;
        holds = holding ν s.neighbour.hung s.holds;
        differ = s.differ;
        inside = i;
        path = m.walks s.path i;
        only = λ x r t e.
            let q = c.back v x t N o had s.neighbour.base r e in
            c.parent v x t N o had s.neighbour.base q.route (s.only x q.route t q.child) q.child;
        union = union_of B N M κ ν s.joining.base s.joining.holds s.neighbour s.holds s.union;
      }

  pub ready : (u : Bool) (P B N M : ℕ) → K P → K B → K N → Ready w v u P B N M → Ready w' v u P B N M
  ready u P B N M π κ ν s = record { pairing = pairing u P B N M κ ν s.pairing; holds = holding π s.pairing.joining.prev.hung s.holds }

  pub dying : (u : Bool) (P B N M : ℕ) → K P → K B → K N → Dying w v u P B N M → Dying w' v u P B N M
  dying u P B N M π κ ν s =
      let p = s.pairing in
      record {
        pairing = pairing u P B N M κ ν p;
        holds = holding π p.joining.prev.hung s.holds;
        invalid_p = c.invalid P p.joining.prev.hung s.invalid_p;
        invalid_n = c.invalid N p.neighbour.hung s.invalid_n;
        invalid_b = c.invalid B p.joining.base.hung s.invalid_b;
      }

  -- a direction by a hung node's key
  by_key : {P x z : ℕ} → w.own P ≡ hung → Walk (cell w') (by (cell w P).key) x z → Walk (cell w') (by (cell w' P).key) x z
  by_key {P} h t = rw (key_of P h) t

  pub towards : (u : Bool) (P B N M x : ℕ) → Dying w v u P B N M → Towards w P x → Towards w' P x
  towards u P B N M x d s =
      let h = d.pairing.joining.prev.hung in
      let i = c.stays v P o (record { hung = h; holds = d.holds }) d.pairing.joining.above in
      record { small = s.small; at = route-at s.at; differ = s.differ; path = by_key h (m.walks s.path i) }

  -- the child by P's key of a route, where v holds that child
  pub child_by_lem : (P x z : ℕ) → w.own P ≡ hung → RouteAt w x → Holds w v z → next (cell w) (by (cell w P).key) x ≡ z
      → next (cell w') (by (cell w' P).key) x ≡ z
  child_by_lem P x z h r had e =
      rw (key_of P h)
      (next_of (by (cell w P).key) x r.hung
      (c.child v x (not (ltb (cell w P).key (cell w x).key)) z o had (route_of r) e))

  pub over : (u : Bool) (P B N M G : ℕ) → Dying w v u P B N M → Over w P G → Over w' P G
  over u P B N M G d s =
      let h = d.pairing.joining.prev.hung in
      record { small = s.small; at = route-at s.at; child = child_by_lem P G P h s.at (record { hung = h; holds = d.holds }) s.child }

  pub under : (u : Bool) (P B N M G : ℕ) → K G → Dying w v u P B N M → Under w v P G → Under w' v P G
  under u P B N M G κ d s =
      let h = d.pairing.joining.prev.hung in
      record {
        at = route-at s.at;
        above = go (compared G summit);
        child = child_by_lem P G P h s.at (record { hung = h; holds = d.holds }) s.child;
        holds = λ l. holding κ s.at.hung (s.holds l);
      }
    where
      go : Same G summit → in_tree w' G
      go (same e) = rw e summit_in'
      go (apart n) =
          c.stays v G o (record { hung = s.at.hung; holds = s.holds (omega (arith, s.at.small, n)) }) s.above

  pub holding_of : (x : ℕ) → K x → Holding w v x → Holding w' v x
  holding_of x κ s = record { base = base-at s.base; holds = holding κ s.base.hung s.holds }
