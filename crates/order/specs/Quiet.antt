-- Steps that change registers, locks, statistics and flags alone: from the places that they store to the invariant.
use Rattle.std.specs.Prelude.{false, ◌≡◌, ℕ, ◌≤◌, ◌<◌, get_or, length}
use Rattle.std.proofs.Math.Path.{refl, ap, subst}
use Rattle.std.proofs.Common.{sym, ◌∙◌, arith}
use Rattle.rules.specs.State.{zero_place, place_at, thread_at}
use Rattle.rules.specs.Places.{keys_of_body}
use Rattle.rules.specs.Rows.{at, only, stores1}
use Rattle.rules.specs.Step.{view_before, view_of, put, apply}
use Rattle.rules.specs.declared.state.Place.{Place}
use Rattle.rules.specs.declared.state.Thread.{Thread}
use Rattle.rules.specs.declared.state.State.{State}
use Rattle.rules.specs.declared.row.Plan.{Plan}
use Rattle.graph.specs.Cases.{Same, same, apart, compared}
use Rattle.graph.specs.Walk.{Cell}
use Rattle.graph.specs.Count.{routes_same}
use Rattle.graph.specs.Graph.{summit, hung, Good, Makes, makes_belongs}
use Rattle.order.specs.World.{cell_same, World, graph, cell, valid, hold, keys, world_of}
use Rattle.order.specs.Stages.{Stage}
use Rattle.order.specs.Change.{Other, Change}
use Rattle.order.specs.Steady.{Safe, Any, Touched, as_was, by_me, let_go, falls, Calm, calm, steady}
use Rattle.order.specs.Ordered.{Ordered, Stepped}
use Rattle.order.specs.Bridge.{place_at_lem, thread_me, thread_other, put_new, put_old}

-- only registers change
pub relabel : {w : World} {thread thread' : ℕ → Thread} {made me : ℕ} → Safe w thread made → ((v : ℕ) → (v ≡ me → ⊥) → thread' v ≡ thread v)
    → ((thread me).phase ≡ 8 → ⊥) → Stage w me (thread' me) → Safe w thread' made
relabel {w} {thread} {thread'} {made} {me} safe f n c =
    record {
      sound =
          record {
            good = safe.sound.good;
            belongs = safe.sound.belongs;
            late = λ x h o e.
                let l = safe.sound.late x h o e in
                let q = f (hold w x) (λ y. n (rw y at l.phase)) in
                record { holder = l.holder; phase = rw q l.phase; base = rw q l.base };
            stale = safe.sound.stale;
            entry = safe.sound.entry;
            room = safe.sound.room;
            fresh = safe.sound.fresh;
            many = safe.sound.many;
          };
      each = λ t l. go t l (compared t me);
    }
  where
    go : (t : ℕ) → t ≤ 7 → Same t me → Stage w t (thread' t)
    go t l (same e) = rw e c
    go t l (apart k) = rw (f t k) (safe.each t l)

-- the nodes have the bodies that they had
pub record Quiet (w w' : World) : Type 0 where
  pub root : w'.root ≡ w.root
  pub tree : w'.tree ≡ w.tree
  pub own : (x : ℕ) → w'.own x ≡ w.own x
  pub bodies : (x : ℕ) → (w'.place x).body ≡ (w.place x).body

-- how a place may change: as it was in holder and flag; held by nobody but me; let go of; invalid now
pub data Touch (me : ℕ) (K : Type 0) (F : Type 0) (q p : Place) : Type 0 where
  stays : p.lock.holder ≡ q.lock.holder → p.valid ≡ q.valid → Touch me K F q p
  mine : ((v : ℕ) → Other v me → q.lock.holder ≡ v → ⊥) → (q.valid ≡ false → p.valid ≡ false) → Touch me K F q p
  frees : (K → ⊥) → p.valid ≡ q.valid → Touch me K F q p
  fades : (F → ⊥) → p.lock.holder ≡ q.lock.holder → p.valid ≡ false → Touch me K F q p

-- a place that I hold
pub own_touch : {me : ℕ} {K F : Type 0} {q p : Place} → q.lock.holder ≡ me → (q.valid ≡ false → p.valid ≡ false) → Touch me K F q p
own_touch e f = mine (λ v o h. o.differ (sym h ∙ e)) f

-- a phase that is not 8
pub not8 : {p : ℕ} (n : ℕ) → p ≡ n → (n ≡ 8 → ⊥) → p ≡ 8 → ⊥
not8 n e h q = h (sym e ∙ q)

module _ {w w' : World} (q : Quiet w w') where
  quiet-cell : (x : ℕ) → cell w' x ≡ cell w x
  quiet-cell x = cell_same w.place w'.place x q.root (q.bodies x)

  quiet-keys : (x : ℕ) → keys w' x ≡ keys w x
  quiet-keys x = ap keys_of_body (q.bodies x)

  quiet_makes : Good (graph w) → Makes (graph w) (cell w') w'.own
  quiet_makes good =
      record {
        cells = λ x u. quiet-cell x;
        owns = λ x u. q.own x;
        loose = λ x e. sym (q.own x) ∙ e;
        bare = λ x e. ap (λ (c : Cell). c.route) (quiet-cell x) ∙ good.bare x (sym (q.own x) ∙ e);
      }

  touched : {me : ℕ} {K : ℕ → Type 0} {F : Type 0} (x : ℕ) → Touch me (K x) F (w.place x) (w'.place x) → Touched w w' me K F x
  touched x (stays a b) = as_was a b (quiet-keys x)
  touched x (mine a b) = by_me a b
  touched x (frees a b) = let_go a b
  touched x (fades a b c) = falls a b (quiet-keys x) c

  pub quiet_calm : {me : ℕ} {K : ℕ → Type 0} {F : Type 0} → Good (graph w)
      → ((x : ℕ) → w.own x ≡ hung → Touch me (K x) F (w.place x) (w'.place x)) → Calm w w' me K F
  quiet_calm good t =
      record { tree = q.tree; makes = quiet_makes good; touched = λ x h. touched x (t x h); unhung = λ v x o e. quiet-keys x }

  pub quiet : {thread thread' : ℕ → Thread} {made me : ℕ} → Safe w thread made → ((v : ℕ) → (v ≡ me → ⊥) → thread' v ≡ thread v)
      → ((x : ℕ) → w.own x ≡ hung → Touch me (Unit {0}) (Unit {0}) (w.place x) (w'.place x))
      → ((thread me).phase ≡ 8 → valid w' (thread me).base ≡ false) → Stage w' me (thread' me) → Safe w' thread' made
  quiet safe f t r c =
      steady safe
      (record {
        calm = quiet_calm safe.sound.good t;
        threads = f;
        retires = r;
        belongs = rw q.tree (makes_belongs safe.sound.good (quiet_makes safe.sound.good) safe.sound.belongs (λ x h. quiet-keys x));
        entry = rw q.root safe.sound.entry;
        room = safe.sound.room;
        fresh = λ x l m. q.own x ∙ safe.sound.fresh x l m;
        many = rw (routes_same (cell w) (cell w') summit (λ x l. ap (λ (c : Cell). c.route) (quiet-cell x))) safe.sound.many;
      }) c

module _ {s : State} (r : Ordered s) (size : length s.threads ≡ 8) {me : ℕ} (l : me ≤ 7) where
  -- a row that stores no place
  pub only_row : (th : Thread) → ((thread_at s me).phase ≡ 8 → ⊥) → Stage (world_of s r.tree r.own) me th
      → Stepped r me (apply s me (only (view_of s me) th))
  unfolding apply put view_of view_before
  only_row th n c =
      record {
        tree = r.tree;
        own = r.own;
        safe = relabel r.safe (thread_other s me (only (view_of s me) th)) n (rw (thread_me s me (only (view_of s me) th) size l) c);
        kinds = λ x e. e;
        unmoved = λ z. record { tree = refl; cells = λ x h. refl; keys = λ x h n. refl };
      }

module _ {s : State} (r : Ordered s) (size : length s.threads ≡ 8) {me : ℕ} (l : me ≤ 7) (p : Plan) where
  -- a row that keeps all bodies
  pub quiet_row : p.made ≡ s.made → Quiet (world_of s r.tree r.own) (world_of (apply s me p) r.tree r.own)
      → ((x : ℕ) → r.own x ≡ hung → Touch me (Unit {0}) (Unit {0}) (get_or s.places x zero_place) (get_or (apply s me p).places x zero_place))
      → ((thread_at s me).phase ≡ 8 → ⊥) → Stage (world_of (apply s me p) r.tree r.own) me p.thread → Stepped r me (apply s me p)
  unfolding apply
  quiet_row e q t n c =
      record {
        tree = r.tree;
        own = r.own;
        safe =
            subst (λ (m : ℕ). Safe (world_of (apply s me p) r.tree r.own) (thread_at (apply s me p)) m) (sym e)
            (quiet q r.safe (thread_other s me p) t (λ z. absurd (n z)) (rw (thread_me s me p size l) c));
        kinds = λ x z. ap (λ (a : Cell). a.route) (quiet-cell q x) ∙ z;
        unmoved = λ z. record { tree = refl; cells = λ x h. quiet-cell q x; keys = λ x h n. quiet-keys q x };
      }

-- one place is stored: n's
pub record One (w w' : World) (n : ℕ) (p : Place) : Type 0 where
  pub root : w'.root ≡ w.root
  pub tree : w'.tree ≡ w.tree
  pub own : (x : ℕ) → w'.own x ≡ w.own x
  pub new : w'.place n ≡ p
  pub old : (x : ℕ) → (x ≡ n → ⊥) → w'.place x ≡ w.place x

module _ {w w' : World} {n : ℕ} {p : Place} (o : One w w' n p) where
  pub one-quiet : p.body ≡ (w.place n).body → Quiet w w'
  one-quiet b = record { root = o.root; tree = o.tree; own = o.own; bodies = λ x. go x (compared x n) }
    where
      go : (x : ℕ) → Same x n → (w'.place x).body ≡ (w.place x).body
      go x (same e) = rw e (ap (λ (q : Place). q.body) o.new ∙ b)
      go x (apart h) = ap (λ (q : Place). q.body) (o.old x h)

  pub one_touch : {me : ℕ} (K : ℕ → Type 0) {F : Type 0} → Touch me (K n) F (w.place n) p → (x : ℕ) → Touch me (K x) F (w.place x) (w'.place x)
  one_touch {me} K {F} t x = go (compared x n)
    where
      go : Same x n → Touch me (K x) F (w.place x) (w'.place x)
      go (same e) = rw e (rw o.new t)
      go (apart h) = stays (ap (λ (q : Place). q.lock.holder) (o.old x h)) (ap (λ (q : Place). q.valid) (o.old x h))

  -- what every thread relies on, me too
  pub one_change : (K : ℕ → Type 0) {F : Type 0} → Good (graph w) → p.body ≡ (w.place n).body → Touch 9 (K n) F (w.place n) p → Change w w' 9 K F
  one_change K good b t = calm good (quiet_calm (one-quiet b) good (λ x h. one_touch K t x))

-- me as a thread other than number 9
pub self : {me : ℕ} → me ≤ 7 → Other me 9
self l = record { differ = λ e. omega arith; thread = l }

module _ {s : State} (r : Ordered s) (size : length s.threads ≡ 8) (room : length s.places ≡ 128) {me : ℕ} (l : me ≤ 7) where
  -- a row that stores one place, a new form of the old
  pub one_row : (th : Thread) (n : ℕ) (f : Place → Place) → n < summit → ((q : Place) → (f q).body ≡ q.body)
      → Touch me (Unit {0}) (Unit {0}) (get_or s.places n zero_place) (f (get_or s.places n zero_place))
      → ((w' : World) → One (world_of s r.tree r.own) w' n (f (get_or s.places n zero_place))
      → ((thread_at s me).phase ≡ 8 → valid w' (thread_at s me).base ≡ false) × Stage w' me th)
      → Stepped r me (apply s me (stores1 (view_of s me) th (at n (f (place_at s n)))))
  unfolding apply put view_of view_before
  one_row th n f m b t c =
      let p = f (place_at s n) in
      let w = world_of s r.tree r.own in
      let w' = world_of (apply s me (stores1 (view_of s me) th (at n p))) r.tree r.own in
      let e : p ≡ f (get_or s.places n zero_place) = ap f (place_at_lem s n m) in
      let o : One w w' n (f (get_or s.places n zero_place)) =
      record { root = refl; tree = refl; own = λ x. refl; new = put_new s.places n p room m ∙ e; old = put_old s.places n p } in
      let still = one-quiet o (b (get_or s.places n zero_place)) in
      let q = c w' o in
      record {
        tree = r.tree;
        own = r.own;
        safe =
            quiet still r.safe
            (thread_other s me (stores1 (view_of s me) th (at n p))) (λ x h. one_touch o Any t x) q.0
            (rw (thread_me s me (stores1 (view_of s me) th (at n p)) size l) q.1);
        kinds = λ x z. ap (λ (a : Cell). a.route) (quiet-cell still x) ∙ z;
        unmoved = λ z. record { tree = refl; cells = λ x h. quiet-cell still x; keys = λ x h n. quiet-keys still x };
      }
