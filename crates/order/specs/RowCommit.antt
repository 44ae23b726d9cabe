-- Row 5: the commit.
use Rattle.std.specs.Prelude.{Bool, cond, not, ◌||◌, ◌&&◌, ◌≡◌, ℕ, ◌≤◌, ◌<◌, length}
use Rattle.std.proofs.Math.Bool.{true, false, true≢false}
use Rattle.std.proofs.Math.Path.{refl, ap}
use Rattle.std.proofs.Common.{sym, ◌∙◌, arith}
use Rattle.std.proofs.Math.Dec.{ltb, eqb}
use borrow.Author.Tests.{eqb-false, ltb-false, ne_eqb}
use Rattle.keys.specs.Keys.{has, with, without, size}
use Rattle.keys.proofs.Laws.{has-with, has-without}
use Rattle.rules.specs.State.{none, place_at, thread_at}
use Rattle.rules.specs.Registers.{at_phase, set_answer}
use Rattle.rules.specs.Places.{keys_of, keys_after, with_keys, release, zero}
use Rattle.rules.specs.Rows.{at, stores1, above_max, below_min, commits, decides, row5}
use Rattle.rules.specs.Step.{view_before, view_of, put, apply}
use Rattle.rules.specs.declared.state.Body.{Body}
use Rattle.rules.specs.declared.state.Body.TheVariants.{Base, Route}
use Rattle.rules.specs.declared.state.Place.{Place}
use Rattle.rules.specs.declared.state.Thread.{Thread}
use Rattle.rules.specs.declared.state.State.{State}
use Rattle.graph.specs.Cases.{Same, same, apart, compared}
use Rattle.graph.specs.Walk.{Cell, by, Walk}
use Rattle.graph.specs.Count.{routes_same}
use Rattle.graph.specs.Graph.{summit, Belongs, Makes, makes_moves}
use Rattle.order.specs.World.{cell_of_body, cell_at, cell_node, cell_same, World, graph, cell, valid, hold, keys, in_tree, world_of}
use Rattle.order.specs.Stages.{Stage, BaseAt, Locked, Owning, Holding}
use Rattle.order.specs.Change.{Change}
use Rattle.order.specs.Survive.{base-at, arrived}
use Rattle.order.specs.Steady.{Safe, Any, Touched, as_was, by_me, let_go, Calm, calm, steady}
use Rattle.order.specs.Bridge.{place_at_lem, thread_me, thread_other, put_new, put_old}
use Rattle.order.specs.Walks.{held_in}
use Rattle.order.specs.Ordered.{Ordered, Stepped}
use Rattle.order.specs.Quiet.{One, self}
use Rattle.order.specs.AtPhase.{at_phase_lem}
use Rattle.order.specs.RowsLock.{release5_kept}

-- the operation brings in no key but its own
after-has : (o ks k j : ℕ) → k < 64 → has (keys_after o ks k) j ≡ true → (j ≡ k → ⊥) → has ks j ≡ true
after-has o ks k j l = go (eqb o 0) (eqb o 1)
  where
    go : (a b : Bool) → has (cond a (with ks k) (cond b (without ks k) ks)) j ≡ true → (j ≡ k → ⊥) → has ks j ≡ true
    go true b h n = sym (has-with ks k j l ∙ ap (λ (x : Bool). x || has ks j) (ne_eqb j k n)) ∙ h
    go false true h n = sym (has-without ks k j ∙ ap (λ (x : Bool). not x && has ks j) (ne_eqb j k n)) ∙ h
    go false false h n = h

-- all bases have the same cell
base-cell : (b : Body) (ks : ℕ) → (cell_of_body b).route ≡ false → cell_of_body (Base ks) ≡ cell_of_body b
base-cell (Base k) ks e = refl
base-cell (Route k l r) ks e = absurd (true≢false e)

-- B, which I hold, gets other keys, and of those none is new but k
module _ {w w' : World} {thread : ℕ → Thread} {made me B ks k : ℕ} {p : Place} (safe : Safe w thread made) (o : One w w' B p) (base : BaseAt w B)
    (holds : hold w B ≡ me) (holder : p.lock.holder ≡ hold w B) (flag : p.valid ≡ valid w B) (body : p.body ≡ Base ks)
    (path : Walk (cell w) (by k) summit B) (few : (j : ℕ) → has ks j ≡ true → (j ≡ k → ⊥) → has (keys w B) j ≡ true) where
  pub commit_cells : (x : ℕ) → cell w' x ≡ cell w x
  commit_cells x = go (compared x B)
    where
      nodes : (root : ℕ) (place : ℕ → Place) → cell_at root place B ≡ cell_of_body (place B).body
      nodes root place = cell_node root place B (λ e. omega (arith, base.small))

      go : Same x B → cell w' x ≡ cell w x
      go (same e) =
          rw e
          (nodes w'.root w'.place ∙ ap (λ (q : Place). cell_of_body q.body) o.new ∙ ap cell_of_body body
          ∙ base-cell (w.place B).body ks (ap (λ (c : Cell). c.route) (sym (nodes w.root w.place)) ∙ base.base)
          ∙ sym (nodes w.root w.place))
      go (apart h) = cell_same w.place w'.place x o.root (ap (λ (q : Place). q.body) (o.old x h))

  makes : Makes (graph w) (cell w') w'.own
  makes =
      record {
        cells = λ x u. commit_cells x;
        owns = λ x u. o.own x;
        loose = λ x e. sym (o.own x) ∙ e;
        bare = λ x e. ap (λ (c : Cell). c.route) (commit_cells x) ∙ safe.sound.good.bare x (sym (o.own x) ∙ e);
      }

  other_keys : (x : ℕ) → (x ≡ B → ⊥) → keys w' x ≡ keys w x
  other_keys x h = ap keys_of (o.old x h)

  calms : {m : ℕ} (K : ℕ → Type 0) → Touched w w' m K (Unit {0}) B → Calm w w' m K (Unit {0})
  calms {m} K t =
      record {
        tree = o.tree;
        makes = makes;
        touched = λ x h. go x (compared x B);
        unhung = λ v x q e. other_keys x (λ z. omega (arith, base.hung, q.thread, ap w.own z));
      }
    where
      go : (x : ℕ) → Same x B → Touched w w' m K (Unit {0}) x
      go x (same e) = rw e t
      go x (apart h) =
          as_was (ap (λ (q : Place). q.lock.holder) (o.old x h)) (ap (λ (q : Place). q.valid) (o.old x h)) (other_keys x h)

  new_flag : valid w' B ≡ valid w B
  new_flag = ap (λ (q : Place). q.valid) o.new ∙ flag

  -- what every thread relies on but for B's keys and lock
  pub commit_change : Change w w' 9 (λ x. x ≡ B → ⊥) (Unit {0})
  commit_change = calm safe.sound.good (calms (λ x. x ≡ B → ⊥) (let_go (λ z. z refl) new_flag))

  pub commit_holds : hold w' B ≡ me
  commit_holds = ap (λ (q : Place). q.lock.holder) o.new ∙ holder ∙ holds

  pub commit_valid : valid w' B ≡ valid w B
  commit_valid = new_flag

  pub commit_keys : keys w' B ≡ ks
  commit_keys = ap keys_of o.new ∙ ap (λ (b : Body). keys_of (record { lock = p.lock; valid = p.valid; body = b })) body

  belongs : Belongs (graph w') (keys w')
  belongs = record { leads = λ x i r j h. go x i (ap (λ (c : Cell). c.route) (sym (commit_cells x)) ∙ r) j h (compared x B) (compared j k) }
    where
      was : (x : ℕ) → in_tree w' x → in_tree w x
      was x i = rw o.tree at i

      walks : (x : ℕ) → in_tree w' x → (j : ℕ) → Walk (cell w) (by j) summit x → Walk (cell w') (by j) summit x
      walks x i j u = (makes_moves safe.sound.good makes).walks u (was x i)

      go : (x : ℕ) → in_tree w' x → (cell w x).route ≡ false → (j : ℕ) → has (keys w' x) j ≡ true → Same x B → Same j k → Walk (cell w') (by j) summit x
      go x i r j h (apart n) q = walks x i j (safe.sound.belongs.leads x (was x i) r j (ap (λ (y : ℕ). has y j) (sym (other_keys x n)) ∙ h))
      go x i r j h (same e) (same q) = walks x i j (rw (e, q) path)
      go x i r j h (same e) (apart q) =
          walks x i j
          (safe.sound.belongs.leads x (was x i) r j
          (ap (λ (y : ℕ). has (keys w y) j) e
          ∙ few j (ap (λ (y : ℕ). has y j) (sym (ap (λ (y : ℕ). keys w' y) e ∙ commit_keys)) ∙ h) q))

  pub commit_safe : {thread' : ℕ → Thread} → ((v : ℕ) → (v ≡ me → ⊥) → thread' v ≡ thread v) → ((thread me).phase ≡ 8 → ⊥)
      → Stage w' me (thread' me) → Safe w' thread' made
  commit_safe f n c =
      steady safe
      (record {
        calm = calms Any (by_me (λ v q h. q.differ (sym h ∙ holds)) (λ e. new_flag ∙ e));
        threads = f;
        retires = λ z. absurd (n z);
        belongs = belongs;
        entry = rw o.root safe.sound.entry;
        room = safe.sound.room;
        fresh = λ x a b. o.own x ∙ safe.sound.fresh x a b;
        many = rw (routes_same (cell w) (cell w') summit (λ x l. ap (λ (c : Cell). c.route) (commit_cells x))) safe.sound.many;
      }) c

-- f keeps holder, flag and body
Stores : (Place → Place) → Type 0
Stores f = (q : Place) → ((f q).lock.holder ≡ q.lock.holder) × ((f q).valid ≡ q.valid) × ((f q).body ≡ q.body)

module _ {s : State} (r : Ordered s) (len : length s.threads ≡ 8) (room : length s.places ≡ 128) {me : ℕ} (l : me ≤ 7)
    (e : (thread_at s me).phase ≡ 5) where
  abbrev B : ℕ
  B = (thread_at s me).base

  abbrev P : ℕ
  P = (thread_at s me).prev

  abbrev k : ℕ
  k = (thread_at s me).key

  abbrev ks : ℕ
  ks = keys_after (thread_at s me).operation (keys_of (place_at s B)) k

  abbrev w : World
  w = world_of s r.tree r.own

  c : Locked w me k P B
  c = at_phase_lem 5 e (r.safe.each me l)

  not8 : (thread_at s me).phase ≡ 8 → ⊥
  not8 q = omega arith

  -- the commit of a valid B, its place stored in the form f, the thread then at phase n
  commit_row : (place_at s B).valid ≡ true → (n : ℕ) (f : Place → Place) → Stores f
      → ((w' : World) → Holding w' me B × (Owning w' me k P B) × (keys w' B ≡ ks) → (a m : ℕ)
      → Stage w' me (at_phase n (set_answer a m (thread_at s me))))
      → Stepped r me (apply s me (commits (view_of s me) n (f (with_keys ks (place_at s B)))))
  unfolding commits apply put view_of view_before Stores
  commit_row v n f t d =
      let plan = commits (view_of s me) n (f (with_keys ks (place_at s B))) in
      let w' = world_of (apply s me plan) r.tree r.own in
      let p = f (with_keys ks (place_at s B)) in
      let base = c.arrived.base in
      let at_B = place_at_lem s B base.small in
      let o : One w w' B p =
      record { root = refl; tree = refl; own = λ x. refl; new = put_new s.places B p room base.small; old = put_old s.places B p } in
      let flag : p.valid ≡ valid w B = (t (with_keys ks (place_at s B))).1 ∙ ap (λ (q : Place). q.valid) at_B in
      let holder : p.lock.holder ≡ hold w B = (t (with_keys ks (place_at s B))).0 ∙ ap (λ (q : Place). q.lock.holder) at_B in
      let body = (t (with_keys ks (place_at s B))).2 in
      let was : valid w B ≡ true = ap (λ (q : Place). q.valid) (sym at_B) ∙ v in
      let i = held_in r.safe.sound base.hung c.holds was not8 in
      let m = c.arrived.meets was i in
      let few : (j : ℕ) → has ks j ≡ true → (j ≡ k → ⊥) → has (keys w B) j ≡ true =
      λ j h q. ap (λ (x : Place). has (keys_of x) j) (sym at_B) ∙ after-has (thread_at s me).operation (keys_of (place_at s B)) k j c.arrived.key h q in
      let change = commit_change r.safe o base c.holds holder flag body m.path few in
      let holds' = commit_holds r.safe o base c.holds holder flag body m.path few in
      let valid' = commit_valid r.safe o base c.holds holder flag body m.path few in
      let good = r.safe.sound.good in
      let base' = base-at good change me (self l) base in
      let arrived' = arrived good change me (self l) k P B c.arrived in
      let owning : Owning w' me k P B =
      record {
        key = c.arrived.key;
        base = base';
        prev = arrived'.prev;
        holds = holds';
        valid = valid' ∙ was;
        meets = arrived'.meets (valid' ∙ was) i;
      } in
      record {
        tree = r.tree;
        own = r.own;
        safe =
            commit_safe r.safe o base c.holds holder flag body m.path few (thread_other s me plan) not8
            (rw (thread_me s me plan len l)
            (d w' (record { base = base'; holds = holds' }, owning, commit_keys r.safe o base c.holds holder flag body m.path few) _ _));
        unmoved = λ z.
            record {
              tree = refl;
              cells = λ x h. commit_cells r.safe o base c.holds holder flag body m.path few x;
              keys = λ x h n. ap keys_of (o.old x (n e));
            };
        kinds = λ x z. change.moves.kind x (λ u. true≢false (sym z ∙ good.bare x u)) ∙ z;
      }

  ends : (w' : World) → Holding w' me B × (Owning w' me k P B) × (keys w' B ≡ ks) → (a m : ℕ)
      → Stage w' me (at_phase 25 (set_answer a m (thread_at s me)))
  ends w' h a m = record { holds = h.0 }

  -- row 5 keeps the order
  pub row5_kept : Stepped r me (apply s me (row5 (view_of s me)))
  unfolding row5 decides view_of view_before Stores
  row5_kept = valid-or-not (place_at s B).valid refl
    where
      decided : (place_at s B).valid ≡ true → (a b g d : Bool) → ltb (size ks) 2 ≡ b → eqb P none ≡ d
          → Stepped r me (apply s me (cond a (cond b (commits (view_of s me) 25 (zero (with_keys ks (place_at s B)))) (commits (view_of s me) 6 (with_keys ks (place_at s B))))
          (cond g (cond d (commits (view_of s me) 25 (zero (with_keys ks (place_at s B)))) (commits (view_of s me) 9 (with_keys ks (place_at s B))))
          (commits (view_of s me) 25 (with_keys ks (place_at s B))))))
      decided v true true g d x y = commit_row v 25 zero (λ q. (refl, refl, refl)) ends
      decided v true false g d x y =
          commit_row v 6 (λ q. q) (λ q. (refl, refl, refl))
          (λ w' h a m. record { holds = record { owning = h.1; dense = rw h.2 (ltb-false (size ks) 2 x) } })
      decided v false b true true x y = commit_row v 25 zero (λ q. (refl, refl, refl)) ends
      decided v false b true false x y =
          commit_row v 9 (λ q. q) (λ q. (refl, refl, refl))
          (λ w' h a m. record { holds = record { owning = h.1; small = omega (arith, h.1.prev.small, eqb-false P none y) } })
      decided v false b false d x y = commit_row v 25 (λ q. q) (λ q. (refl, refl, refl)) ends

      valid-or-not : (b : Bool) → (place_at s B).valid ≡ b
          → Stepped r me (apply s me (cond b (decides (view_of s me) (with_keys ks (place_at s B)))
          (stores1 (view_of s me) (at_phase 1 (thread_at s me)) (at B (release (place_at s B))))))
      valid-or-not true v = decided v (above_max (view_of s me)) (ltb (size ks) 2) (below_min (view_of s me)) (eqb P none) refl refl
      valid-or-not false v = release5_kept r len room l e
