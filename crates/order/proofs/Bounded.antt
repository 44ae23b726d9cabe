-- No walk passes more than 42 routes: their numbers rise, and one route in three nodes leaves room for 42.
use Rattle.std.specs.Prelude.{Bool, cond, ◌&&◌, List, [], ◌∷◌, ◌≡◌, ltb, leb, eqb}
use Rattle.std.proofs.Math.Bool.{true, false, not}
use Rattle.std.proofs.Common.{true≢false, sym, ap, ◌∙◌, arith, get_or-set_same, get_or-set_other, ltb-true, ltb-false, eqb-true}
use Rattle.std.proofs.Math.Path.{refl}
use Prim.Native.Nat.{ℕ, suc, ◌+◌, ◌≤◌, ◌<◌}
use Rattle.std.proofs.lemmas.Bool.{eqb-false}
use Rattle.rules.specs.State.{none, zero_thread, fresh, place_at, thread_at}
use Rattle.rules.specs.Registers.{set_operation}
use Rattle.rules.specs.Places.{is_route}
use Rattle.rules.specs.Range.{in_range}
use Rattle.rules.specs.Rows.{plan_of}
use Rattle.rules.specs.Needs.{route, stuck}
use Rattle.rules.specs.Step.{begun, begin_of, view_of, after, step_of, Replied}
use Rattle.rules.specs.declared.state.Settings.{Settings}
use Rattle.rules.specs.declared.state.Thread.{Thread}
use Rattle.rules.specs.declared.state.State.{State}
use Rattle.states.specs.Tests.{both, pick-by}
use Rattle.graph.specs.Cases.{Same, same, apart, compared}
use Rattle.graph.specs.Count.{routes, routes-next, routes_upto, routes_grow}
use Rattle.graph.specs.Graph.{summit}
use Rattle.runs.specs.Calls.{Move, begins, steps, after_move}
use Rattle.runs.specs.Passes.{one, walk_starts, walk_goes_on, takes_route, passed_by, passes, passed}
use Rattle.order.specs.World.{cells_of}
use Rattle.order.specs.Bridge.{reads_route, thread_other}
use Rattle.order.specs.Nodes.{after_nodes}
use Rattle.order.specs.Invariant.{Invariant, fresh_kept, after_kept, begin_kept, step_kept}
use Rattle.order.proofs.Room.{room}
use Rattle.order.specs.WalkRows.{leaves_off, walk_rises, walk_route, given-route}
use Rattle.rules.specs.declared.answer.StepReply.{StepReply}
use Rattle.rules.specs.Refusals.{reply_number}

-- n routes are passed so far: no more than there are up to the walk register's, while the walk goes on
record Bound (s : State) (t n : ℕ) : Type 0 where
  most : n ≤ 42
  sofar : walk_goes_on (thread_at s t).phase ≡ true → n ≤ routes (cells_of s) (suc (thread_at s t).walk)

-- a register that names a route
names : {s : State} → Invariant s → (x : ℕ) → route x (place_at s x) ≡ true → (x < summit) × ((cells_of s x).route ≡ true)
names {s} i x e =
    let p = both (ltb x none) (is_route (place_at s x)) e in
    let m = ltb-true x none p.0 in (m, sym (reads_route s i.nodes.tree i.nodes.own x m) ∙ p.1)

-- no phase is 23 at which a walk goes on
not_23 : (q : ℕ) → walk_goes_on q ≡ true → eqb q 23 ≡ false
not_23 q e = go (eqb q 23) refl
  where
    go : (b : Bool) → eqb q 23 ≡ b → b ≡ false
    go false z = refl
    go true z = absurd (true≢false (sym e ∙ ap walk_goes_on (eqb-true q 23 z)))

module _ {s : State} (i : Invariant s) {t : ℕ} (l : t ≤ 7) where
  i' : Invariant (after s t)
  i' = after_kept i l

  kinds : (x : ℕ) → (cells_of s x).route ≡ true → (cells_of (after s t) x).route ≡ true
  kinds = (after_nodes i.nodes i.threads i.places l).kinds

  grows : (n : ℕ) → routes (cells_of s) n ≤ routes (cells_of (after s t)) n
  grows n = routes_grow (cells_of s) (cells_of (after s t)) n kinds

  -- the bound of a thread that does not step
  stays : {u n : ℕ} → (u ≡ t → ⊥) → Bound s u n → Bound (after s t) u n
  unfolding after
  stays {u} {n} d b =
      let e = thread_other s t (plan_of (view_of s t)) u d in
      record {
        most = b.most;
        sofar = rw e (λ g. omega (arith, b.sofar g, grows (suc (thread_at s u).walk)));
      }

  -- a step after which the walk goes on has taken a route
  gives : walk_goes_on (thread_at (after s t) t).phase ≡ true → takes_route s t ≡ true
  unfolding takes_route
  gives g =
      rw (walk_route i' l g, not_23 (thread_at (after s t) t).phase g) (and-false (eqb (thread_at s t).phase 22))
    where
      and-false : (a : Bool) → not (a && false) ≡ true
      and-false true = refl
      and-false false = refl

  -- the bound of the thread that steps
  moves : {n : ℕ} → Bound s t n → Bound (after s t) t (passed_by s t n)
  unfolding passed_by one
  moves {n} b = go (walk_starts (thread_at s t).phase) (walk_goes_on (thread_at s t).phase) (takes_route s t) refl refl refl
    where
      x : ℕ
      x = (thread_at (after s t) t).walk

      -- the walk register names a route, the last one counted
      last : route x (place_at (after s t) x) ≡ true → routes (cells_of (after s t)) (suc x) ≡ 1 + routes (cells_of (after s t)) x
      last e = routes-next (cells_of (after s t)) x (names i' x e).1

      go : (a c g : Bool) → walk_starts (thread_at s t).phase ≡ a → walk_goes_on (thread_at s t).phase ≡ c → takes_route s t ≡ g
          → Bound (after s t) t (cond a (one g) (cond c (n + one g) n))
      go true c true p q r = record { most = omega arith; sofar = λ h. omega (arith, last (walk_route i' l h)) }
      go true c false p q r = record { most = omega arith; sofar = λ h. omega arith }
      go false true true p q r =
          let e = given-route i l r in
          let f : n + 1 ≤ routes (cells_of (after s t)) (suc x) =
          omega (
            arith,
            b.sofar q,
            grows (suc (thread_at s t).walk),
            last e,
            routes_upto (cells_of (after s t)) (suc (thread_at s t).walk) x (walk_rises i l q r),
          ) in
          record { most = omega (arith, room i', routes_upto (cells_of (after s t)) (suc x) summit (names i' x e).0); sofar = λ h. f }
      go false true false p q r = record { most = omega (arith, b.most); sofar = λ h. absurd (true≢false (sym (gives h) ∙ r)) }
      go false false g p q r = record { most = b.most; sofar = λ h. absurd (true≢false (sym h ∙ leaves_off i l p q)) }

-- a begin changes one thread, which is then at phase 1
begun_bound : {s : State} → Invariant s → (t u o k : ℕ) {n : ℕ} → u ≤ 7 → Bound s t n → Bound (begun s u o k) t n
unfolding begun thread_at
begun_bound {s} i t u o k {n} l b = record { most = b.most; sofar = go (compared t u) }
  where
    th : Thread
    th = set_operation o k (thread_at s u)

    go : Same t u → walk_goes_on (thread_at (begun s u o k) t).phase ≡ true → n ≤ routes (cells_of s) (suc (thread_at (begun s u o k) t).walk)
    go (same e) h =
        let q : thread_at (begun s u o k) t ≡ th =
        ap (thread_at (begun s u o k)) e ∙ get_or-set_same s.threads u th zero_thread (omega (arith, i.threads)) in
        absurd (true≢false (sym h ∙ ap (λ (z : Thread). walk_goes_on z.phase) q))
    go (apart d) h =
        let q : thread_at (begun s u o k) t ≡ thread_at s t = get_or-set_other s.threads u t th zero_thread d in
        rw q (b.sofar (ap (λ (z : Thread). walk_goes_on z.phase) (sym q) ∙ h))

-- a refused step counts nothing
refused_bound : {s : State} {t n : ℕ} (m : ℕ) → Bound s t n → (a : Bool) → Bound s t (cond (a && false) m n)
refused_bound m b true = b
refused_bound m b false = b

-- an accepted step counts for its own thread
accepted_bound : {s : State} → Invariant s → (t u : ℕ) {n : ℕ} → u ≤ 7 → Bound s t n
    → Bound (after s u) t (cond (eqb u t && true) (passed_by s t n) n)
accepted_bound {s} i t u {n} l b = go (eqb u t) (eqb-true u t) (eqb-false u t)
  where
    go : (a : Bool) → (a ≡ true → u ≡ t) → (a ≡ false → u ≡ t → ⊥) → Bound (after s u) t (cond (a && true) (passed_by s t n) n)
    go true x y = let q = x refl in rw q (moves i (rw q at l) b)
    go false x y = stays i l (λ q. y refl (sym q)) b

-- one move
move_bound : {s : State} → Invariant s → (t : ℕ) {n : ℕ} → Bound s t n → (c : Move) → Bound (after_move s c) t (passes t s c n)
unfolding after_move passes begin_of step_of
move_bound {s} i t {n} b (begins u o k) =
    let Q : Replied (Unit {0}) → Type 0 = λ z. Bound z.state t n in
    pick-by Q (not (in_range s)) (λ e. b) λ r.
    pick-by Q (ltb 2 o) (λ e. b) λ x.
    pick-by Q (ltb 7 u) (λ e. b) λ l.
    pick-by Q (ltb 63 k) (λ e. b) λ y.
    pick-by Q (not (eqb (thread_at s u).phase 0)) (λ e. b) λ d.
    pick-by Q (leb 1000000 s.begun) (λ e. b) λ g. begun_bound i t u o k (ltb-false 7 u l) b
move_bound {s} i t {n} b (steps u) =
    let Q : Replied StepReply → Type 0 = λ z. Bound z.state t (cond (eqb u t && eqb (reply_number z.reply) 0) (passed_by s t n) n) in
    pick-by Q (not (in_range s)) (λ e. refused_bound (passed_by s t n) b (eqb u t)) λ r.
    pick-by Q (ltb 7 u) (λ e. refused_bound (passed_by s t n) b (eqb u t)) λ l.
    pick-by Q (eqb (thread_at s u).phase 0) (λ e. refused_bound (passed_by s t n) b (eqb u t)) λ d.
    pick-by Q (stuck (view_of s u)) (λ e. refused_bound (passed_by s t n) b (eqb u t)) λ g. accepted_bound i t u (ltb-false 7 u l) b

-- a move keeps the invariant
pub move_kept : {s : State} → Invariant s → (c : Move) → Invariant (after_move s c)
unfolding after_move
move_kept i (begins t o k) = begin_kept i t o k
move_kept i (steps t) = step_kept i t

moves_bound : {s : State} → Invariant s → (t : ℕ) {n : ℕ} → Bound s t n → (cs : List Move) → passed t s cs n ≤ 42
unfolding passed
moves_bound i t b [] = b.most
moves_bound {s = s} i t {n = n} b (c ∷ cs) = moves_bound {s = after_move s c} (move_kept i c) t (move_bound i t b c) cs

-- no walk of any thread passes more than 42 routes, whatever the moves from a fresh state
pub at_most_42 : (c : Settings) (t : ℕ) (cs : List Move) → passed t (fresh c) cs 0 ≤ 42
at_most_42 c t cs = moves_bound (fresh_kept c) t (record { most = omega arith; sofar = λ h. omega arith }) cs
