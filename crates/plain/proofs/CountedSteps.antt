-- Counted steps are as many steps, one by one: calls come to the moves that `moves_of` says.
use Rattle.std.specs.Prelude.{Bool, not, List, [], ◌∷◌, ◌++◌, refl, ltb, eqb, Err, Ok, Result}
use Rattle.std.proofs.Math.Bool.{true, false, cond}
use Rattle.std.proofs.Common.{◌∙◌, ltb-false}
use Rattle.std.proofs.Math.Path.{◌≡◌, sym, ap, ap₂}
use Prim.Native.Nat.{ℕ, zero, suc, ◌≤◌}
use native.Mathlib.Omega.{arith}
use Rattle.std.proofs.lemmas.Bool.{eqb-false, not-false}
use Rattle.rules.specs.State.{thread_at}
use Rattle.rules.specs.Rows.{plan_of}
use Rattle.rules.specs.Needs.{stuck}
use Rattle.rules.specs.Range.{in_range}
use Rattle.rules.specs.Step.{view_of, after, ends, reply_of, step_of, run_of, Replied}
use Rattle.rules.specs.Step as Rules
use Rattle.rules.specs.declared.state.State.{State}
use Rattle.states.specs.Tests.{pick-by}
use Rattle.states.specs.Calls.{steps_tests, run_tests_lem}
use Rattle.states.specs.Kept.{after_in_range}
use Rattle.runs.specs.Calls.{Move, steps, after_move, after_moves, times, Call, move, counted, after_call, after_calls, moves_by, moves_of}
use Rattle.order.specs.Invariant.{Invariant, after_kept, run_kept}
use Rattle.order.proofs.Bounded.{move_kept}
use Rattle.plain.proofs.Goes.{goes_on}
use Rattle.plain.proofs.RunSteps.{times_last, accepts, taken, run_is-steps}
use Rattle.plain.specs.CountedSteps.{Last}
use Rattle.rules.specs.declared.answer.StepReply as StepReply
use Rattle.rules.specs.declared.answer.RunReply.{RunReply}
use Rattle.rules.specs.declared.answer.RunReply as RunReply
use Rattle.rules.specs.declared.answer.StepReply.{StepReply}
use Rattle.rules.specs.declared.answer.Refusal.{Refusal}

refuses : {x : Refusal} {j a c : ℕ} → Err x ≡ Ok (RunReply.TheVariants.Ends j a c) → ⊥
refuses q = let w : ◌≡◌ {A = ℕ} 0 1 = cc in omega arith

-- counted steps, where some were taken
module _ (from : State) (t : ℕ) (l : t ≤ 7) where
  abbrev Told : Replied RunReply → Type 0
  Told r = (j a c : ℕ) → r.reply ≡ Ok (RunReply.TheVariants.Ends j a c) → Last from t j a c

  told : (n : ℕ) (s : State) (k : ℕ) → Invariant s → in_range s ≡ true → ((thread_at s t).phase ≡ 0 → ⊥) → s ≡ after_moves from (times k (steps t))
      → Told (Rules.steps n from s t k)
  unfolding Rules.steps times after_moves reply_of
  told zero s k i r n e = λ j a c z. absurd (stops z)
    where
      stops : {x y j a c : ℕ} → ◌≡◌ {A = Result RunReply Refusal} (Ok (RunReply.TheVariants.Stops x y)) (Ok (RunReply.TheVariants.Ends j a c)) → ⊥
      stops q = let w : ◌≡◌ {A = ℕ} 0 1 = cc in omega arith
  told (suc m) s k i r n e =
      rw (steps_tests m from s t k)
      (pick-by Told (stuck (view_of s t)) (λ f j a c z. absurd (refuses z)) λ f.
      pick-by Told (ends (thread_at s t)) (λ g j a c z. last f g z) λ g.
      told m (after s t) (suc k) (after_kept i l) (after_in_range s t l f r) (goes_on i r t l n g)
      (sym (taken s t r l n f) ∙ ap (λ (x : State). after_move x (steps t)) e ∙ sym (times_last from k (steps t))))
    where
      last : stuck (view_of s t) ≡ false → ends (thread_at s t) ≡ true → {j a c : ℕ}
          → ◌≡◌ {A = Result RunReply Refusal} (Ok (RunReply.TheVariants.Ends (suc k) (thread_at s t).answer (thread_at s t).commit))
          (Ok (RunReply.TheVariants.Ends j a c)) → Last from t j a c
      last f g {j} {a} {c} z =
          let done : StepReply → Result StepReply Refusal = Ok in
          let x : (thread_at s t).answer ≡ a = cc in
          let y : (thread_at s t).commit ≡ c = cc in
          record {
            before = k;
            count = cc;
            reply =
                ap (λ (u : State). (step_of u t).reply) (sym e) ∙ ap (λ (b : Replied StepReply). b.reply) (accepts s t r l n f)
                ∙ ap
                (λ (b : Bool).
                done
                (cond b (StepReply.TheVariants.Ends (thread_at s t).answer (thread_at s t).commit)
                (StepReply.TheVariants.Goes (plan_of (view_of s t)).thread.phase))) g
                ∙ ap₂ (λ (u v : ℕ). done (StepReply.TheVariants.Ends u v)) x y;
          }

-- a reply that ends the operation is that of the last of the steps taken
pub run_replies : {s : State} → Invariant s → (t n k a c : ℕ) → (run_of s t n).reply ≡ Ok (RunReply.TheVariants.Ends k a c) → Last s t k a c
unfolding times after_moves
run_replies {s} i t n =
    let Q : Replied RunReply → Type 0 = λ r. (k a c : ℕ) → r.reply ≡ Ok (RunReply.TheVariants.Ends k a c) → Last s t k a c in
    rw (run_tests_lem s t n)
    (pick-by Q (not (in_range s)) (λ e k a c z. absurd (refuses z)) λ r.
    pick-by Q (ltb 7 t) (λ e k a c z. absurd (refuses z)) λ l.
    pick-by Q (eqb n 0) (λ e k a c z. absurd (refuses z)) λ x.
    pick-by Q (ltb 1000 n) (λ e k a c z. absurd (refuses z)) λ y.
    pick-by Q (eqb (thread_at s t).phase 0) (λ e k a c z. absurd (refuses z)) λ p.
    told s t (ltb-false 7 t l) n s 0 i (not-false _ r) (eqb-false (thread_at s t).phase 0 p) refl)

-- moves one after the other
moves_join : (s : State) (a b : List Move) → after_moves s (a ++ b) ≡ after_moves (after_moves s a) b
unfolding after_moves
moves_join s [] b = refl
moves_join s (m ∷ a) b = moves_join (after_move s m) a b

-- a call comes to its moves
call_is_moves : {s : State} → Invariant s → (c : Call) → after_call s c ≡ after_moves s (moves_by s c)
unfolding after_call after_moves
call_is_moves i (move m) = refl
call_is_moves i (counted t n) = run_is-steps i t n

-- and keeps the invariant
call_kept : {s : State} → Invariant s → (c : Call) → Invariant (after_call s c)
unfolding after_call
call_kept i (move m) = move_kept i m
call_kept i (counted t n) = run_kept i t n

-- so do all calls
pub calls_kept : {s : State} → Invariant s → (cs : List Call) → Invariant (after_calls s cs)
unfolding after_calls
calls_kept i [] = i
calls_kept {s = s} i (c ∷ cs) = calls_kept {s = after_call s c} (call_kept i c) cs

-- from a state that has the invariant, such as a fresh one, calls come to their moves
pub calls_are_moves : {s : State} → Invariant s → (cs : List Call) → after_calls s cs ≡ after_moves s (moves_of s cs)
unfolding after_calls moves_of after_moves
calls_are_moves i [] = refl
calls_are_moves {s} i (c ∷ cs) =
    calls_are_moves {s = after_call s c} (call_kept i c) cs
    ∙ ap (λ (x : State). after_moves x (moves_of (after_call s c) cs)) (call_is_moves i c)
    ∙ sym (moves_join s (moves_by s c) (moves_of (after_call s c) cs))
