-- "Refusal 8 never occurs in a state reached from fresh": not at a step, not in counted steps, not in a key list.
use Rattle.std.specs.Prelude.{true, not, ◌≡◌, ℕ, zero, suc, ◌≤◌, ltb, eqb, Ok, Result}
use Rattle.std.proofs.Common.{true≢false, sym, ◌∙◌, arith, ltb-false}
use Rattle.rules.specs.State.{thread_at}
use Rattle.rules.specs.Range.{in_range}
use Rattle.rules.specs.Needs.{stuck}
use Rattle.rules.specs.Step.{view_of, ends, step_of, steps, run_of, Replied}
use Rattle.rules.specs.List.{reached, key_list_of}
use Rattle.rules.specs.declared.state.State.{State}
use Rattle.states.specs.Tests.{pick-by}
use Rattle.states.specs.Calls.{steps_tests, run_tests_lem}
use Rattle.order.specs.Invariant.{Invariant, after_kept}
use Rattle.order.specs.Stuck.{never_stuck}
use Rattle.order.specs.KeyList.{reached_once}
use Rattle.rules.specs.declared.answer.Refusal.{Refusal}
use Rattle.rules.specs.declared.answer.StepReply.{StepReply}
use Rattle.rules.specs.declared.answer.RunReply.{RunReply}
use Rattle.rules.specs.Refusals.{reply_number}

-- no step is refused with 8
pub step_not_8 : {s : State} → Invariant s → (t : ℕ) → reply_number (step_of s t).reply ≡ 8 → ⊥
unfolding step_of
step_not_8 {s} i t =
    let Q : Replied StepReply → Type 0 = λ b. reply_number b.reply ≡ 8 → ⊥ in
    pick-by Q (not (in_range s)) (λ a e. omega arith) λ r.
    pick-by Q (ltb 7 t) (λ a e. omega arith) λ l.
    pick-by Q (eqb (thread_at s t).phase 0) (λ a e. omega arith) λ b.
    pick-by Q (stuck (view_of s t)) (λ a e. true≢false (sym a ∙ never_stuck i (ltb-false 7 t l))) λ c e. omega arith

steps-not_8 : (n : ℕ) (from : State) {s : State} → Invariant s → (t taken : ℕ) → t ≤ 7 → reply_number (steps n from s t taken).reply ≡ 8 → ⊥
unfolding steps
steps-not_8 zero from i t taken l = λ e. omega arith
steps-not_8 (suc n) from {s} i t taken l =
    let Q : Replied RunReply → Type 0 = λ b. reply_number b.reply ≡ 8 → ⊥ in
    rw (steps_tests n from s t taken)
    (pick-by Q (stuck (view_of s t)) (λ a e. true≢false (sym a ∙ never_stuck i l)) λ c.
    pick-by Q (ends (thread_at s t)) (λ a e. omega arith) λ d. steps-not_8 n from (after_kept i l) t (suc taken) l)

-- no counted steps are refused with 8
pub run_not_8 : {s : State} → Invariant s → (t n : ℕ) → reply_number (run_of s t n).reply ≡ 8 → ⊥
run_not_8 {s} i t n =
    let Q : Replied RunReply → Type 0 = λ b. reply_number b.reply ≡ 8 → ⊥ in
    rw (run_tests_lem s t n)
    (pick-by Q (not (in_range s)) (λ a e. omega arith) λ r.
    pick-by Q (ltb 7 t) (λ a e. omega arith) λ l.
    pick-by Q (eqb n 0) (λ a e. omega arith) λ b.
    pick-by Q (ltb 1000 n) (λ a e. omega arith) λ c.
    pick-by Q (eqb (thread_at s t).phase 0) (λ a e. omega arith) λ d. steps-not_8 n s i t 0 (ltb-false 7 t l))

-- no key list is refused with 8
pub list_not_8 : {s : State} → Invariant s → reply_number (key_list_of s) ≡ 8 → ⊥
unfolding key_list_of
list_not_8 {s} i =
    let Q : Result ℕ Refusal → Type 0 = λ b. reply_number b ≡ 8 → ⊥ in
    pick-by Q (not (in_range s)) (λ a e. omega arith) λ r.
    pick-by Q (reached s).twice (λ a e. true≢false (sym a ∙ reached_once i)) λ b e. omega arith

-- in range it is not refused at all
pub list_keys : {s : State} → Invariant s → in_range s ≡ true → key_list_of s ≡ Ok (reached s).keys
unfolding key_list_of
list_keys i r = rw (r, reached_once i)
