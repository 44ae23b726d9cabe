-- The state after counted steps is that after as many steps as their reply says were taken.
use Rattle.std.specs.Prelude.{not, refl, ltb, eqb, Ok}
use Rattle.std.proofs.Math.Bool.{true, false}
use Rattle.std.proofs.Common.{true≢false, ◌∙◌, ltb-false, eqb-true, le-ltb}
use Rattle.std.proofs.Math.Path.{◌≡◌, sym, ap}
use Prim.Native.Nat.{ℕ, zero, suc, ◌≤◌}
use Rattle.std.proofs.lemmas.Bool.{eqb-false, not-false}
use Rattle.rules.specs.State.{thread_at}
use Rattle.rules.specs.Needs.{stuck}
use Rattle.rules.specs.Range.{in_range}
use Rattle.rules.specs.Step.{view_of, after, ends, reply_of, step_of, run_of, Replied}
use Rattle.rules.specs.Step as Rules
use Rattle.rules.specs.declared.state.State.{State}
use Rattle.states.specs.Tests.{pick-by}
use Rattle.states.specs.Calls.{steps_tests, run_tests_lem}
use Rattle.states.specs.Kept.{after_in_range}
use Rattle.runs.specs.Calls.{Move, steps, after_move, after_moves, times, taken_by}
use Rattle.order.specs.Invariant.{Invariant, after_kept}
use Rattle.plain.proofs.Goes.{goes_on}
use Rattle.rules.specs.declared.answer.RunReply.{RunReply}
use Rattle.rules.specs.declared.answer.StepReply.{StepReply}

-- one more at the end is one more at the front
pub times_last : (s : State) (n : ℕ) (c : Move) → after_moves s (times (suc n) c) ≡ after_move (after_moves s (times n c)) c
unfolding times after_moves
times_last s zero c = refl
times_last s (suc n) c = times_last (after_move s c) n c

-- an accepted step
pub accepts : (s : State) (t : ℕ) → in_range s ≡ true → t ≤ 7 → ((thread_at s t).phase ≡ 0 → ⊥) → stuck (view_of s t) ≡ false
    → step_of s t ≡ record { reply = Ok (reply_of s t); state = after s t }
unfolding step_of
accepts s t r l n e =
    let Q : Replied StepReply → Type 0 = λ b. b ≡ record { reply = Ok (reply_of s t); state = after s t } in
    pick-by Q (not (in_range s)) (λ f. absurd (true≢false (sym f ∙ ap not r))) λ a.
    pick-by Q (ltb 7 t) (λ f. absurd (true≢false (sym f ∙ le-ltb 7 t l))) λ b.
    pick-by Q (eqb (thread_at s t).phase 0) (λ f. absurd (n (eqb-true (thread_at s t).phase 0 f))) λ c.
    pick-by Q (stuck (view_of s t)) (λ f. absurd (true≢false (sym f ∙ e))) λ d. refl

pub taken : (s : State) (t : ℕ) → in_range s ≡ true → t ≤ 7 → ((thread_at s t).phase ≡ 0 → ⊥) → stuck (view_of s t) ≡ false → after_move s (steps t) ≡ after s t
unfolding after_move
taken s t r l n e = ap (λ (b : Replied StepReply). b.state) (accepts s t r l n e)

-- counted steps, where some were taken
module _ (from : State) (t : ℕ) (l : t ≤ 7) where
  abbrev Played : Replied RunReply → Type 0
  Played r = r.state ≡ after_moves from (times (taken_by r.reply) (steps t))

  played : (n : ℕ) (s : State) (k : ℕ) → Invariant s → in_range s ≡ true → ((thread_at s t).phase ≡ 0 → ⊥)
      → s ≡ after_moves from (times k (steps t)) → Played (Rules.steps n from s t k)
  unfolding Rules.steps times after_moves
  played zero s k i r n e = e
  played (suc m) s k i r n e =
      rw (steps_tests m from s t k)
      (pick-by Played (stuck (view_of s t)) (λ f. refl) λ f.
      pick-by Played (ends (thread_at s t)) (λ g. then f) λ g.
      played m (after s t) (suc k) (after_kept i l) (after_in_range s t l f r) (goes_on i r t l n g) (then f))
    where
      then : stuck (view_of s t) ≡ false → after s t ≡ after_moves from (times (suc k) (steps t))
      then f = sym (taken s t r l n f) ∙ ap (λ (x : State). after_move x (steps t)) e ∙ sym (times_last from k (steps t))

-- the state after counted steps is that after as many steps as the reply says were taken; none, where it refuses
pub run_is-steps : {s : State} → Invariant s → (t n : ℕ) → (run_of s t n).state ≡ after_moves s (times (taken_by (run_of s t n).reply) (steps t))
unfolding times after_moves
run_is-steps {s} i t n =
    let Q : Replied RunReply → Type 0 = λ r. r.state ≡ after_moves s (times (taken_by r.reply) (steps t)) in
    rw (run_tests_lem s t n)
    (pick-by Q (not (in_range s)) (λ e. refl) λ r.
    pick-by Q (ltb 7 t) (λ e. refl) λ l.
    pick-by Q (eqb n 0) (λ e. refl) λ a.
    pick-by Q (ltb 1000 n) (λ e. refl) λ b.
    pick-by Q (eqb (thread_at s t).phase 0) (λ e. refl) λ c.
    played s t (ltb-false 7 t l) n s 0 i (not-false _ r) (eqb-false (thread_at s t).phase 0 c) refl)
