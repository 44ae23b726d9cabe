-- What is kept where a call is accepted is kept by the call: begin, one step, counted steps.
use Rattle.std.specs.Prelude.{Bool, true, false, cond, not, ◌≡◌, refl, Ok}
use Prim.Native.Nat.{ℕ, zero, suc, ◌≤◌, ◌<◌}
use Rattle.std.proofs.Common.{ltb-false, leb-false}
use Rattle.std.proofs.lemmas.Bool.{not-false}
use Rattle.states.specs.Tests.{pick-by, None, first_by}
use Rattle.rules.specs.State.{thread_at}
use Rattle.rules.specs.Needs.{stuck}
use Rattle.rules.specs.Range.{in_range}
use Rattle.rules.specs.Refusals.{first}
use Rattle.rules.specs.Step.{begun, begin_order, begin_in, begin_of, view_of, after, ends, reply_of, step_order, step_of, refused_by, steps, run_tests, run_in, run_of, Replied}
use Rattle.rules.specs.declared.state.State.{State}
use Rattle.rules.specs.declared.answer.Refusal.{Refusal}
use Rattle.rules.specs.declared.answer.Refusal.TheVariants.{OutOfRange, Stuck}
use Rattle.rules.specs.declared.answer.StepReply.{StepReply}
use Rattle.rules.specs.declared.answer.RunReply.{RunReply}
use Rattle.rules.specs.declared.answer.RunReply as RunReply

-- a branch of the definition is a test
branch : (b : Bool) (x : Replied RunReply) {y z : Replied RunReply} → y ≡ z → (elim b as (λ c. Replied RunReply) [ true ↦ x | false ↦ y ]) ≡ cond b x z
branch true x e = refl
branch false x e = e

-- one of them: stuck, ending, or going on
pub steps_tests : (n : ℕ) (from s : State) (t taken : ℕ)
    → steps (suc n) from s t taken
    ≡ cond (stuck (view_of s t)) (refused_by from Stuck)
    (cond (ends (thread_at s t))
    (record { reply = Ok (RunReply.TheVariants.Ends (suc taken) (thread_at s t).answer (thread_at s t).commit); state = after s t })
    (steps n from (after s t) t (suc taken)))
unfolding steps
steps_tests n from s t taken = branch (stuck (view_of s t)) (refused_by from Stuck) (branch (ends (thread_at s t)) _ refl)

-- counted steps by their tests, and then by their steps
pub run_tests_lem : (s : State) (t n : ℕ) → run_of s t n ≡ first (run_tests s t n) (refused_by s) (steps n s s t 0)
unfolding run_of
run_tests_lem s t n = refl

-- the range test first
pub run_range : (s : State) (t n : ℕ) → run_of s t n ≡ cond (not (in_range s)) (refused_by s OutOfRange) (run_in s t n)
unfolding run_of
run_range s t n = refl

-- ---- what holds of every refused answer, and of the accepted one where no refusal applies, holds of the answer

-- begin
pub begin_by : (P : Replied (Unit {0}) → Type 0) (s : State) (t o k : ℕ) → ((r : Refusal) → P (refused_by s r))
    → (None (begin_order s t o k) → P (record { reply = Ok tt; state = begun s t o k })) → P (begin_of s t o k)
unfolding begin_of
begin_by P s t o k = first_by P (begin_order s t o k) (refused_by s) _

-- one step
pub step_by : (P : Replied StepReply → Type 0) (s : State) (t : ℕ) → ((r : Refusal) → P (refused_by s r))
    → (None (step_order s t) → P (record { reply = Ok (reply_of s t); state = after s t })) → P (step_of s t)
unfolding step_of
step_by P s t = first_by P (step_order s t) (refused_by s) _

-- counted steps
pub run_by : (P : Replied RunReply → Type 0) (s : State) (t n : ℕ) → ((r : Refusal) → P (refused_by s r)) → (None (run_tests s t n) → P (steps n s s t 0)) → P (run_of s t n)
unfolding run_of
run_by P s t n = first_by P (run_tests s t n) (refused_by s) _

-- ---- in a state that is in range the range test makes no difference

-- begin
pub begin_is_inner : (s : State) → in_range s ≡ true → (t o k : ℕ) → begin_of s t o k ≡ begin_in s t o k
unfolding begin_of
begin_is_inner s r t o k = rw r

-- counted steps
pub run_is_inner : (s : State) → in_range s ≡ true → (t n : ℕ) → run_of s t n ≡ run_in s t n
run_is_inner s r t n = rw (run_range, r)

-- ---- what holds of the state before, and is kept where the call is accepted, holds of the state after

module _ (P : State → Type 0) where
  -- begin
  pub begin_state : (s : State) (t o k : ℕ) → P s
      → (in_range s ≡ true → o ≤ 2 → k ≤ 63 → s.begun < 1000000 → P (begun s t o k)) → P (begin_of s t o k).state
  begin_state s t o k p q =
      begin_by (λ (b : Replied (Unit {0})). P b.state) s t o k (λ n. p) λ h.
      q (not-false _ h.0) (ltb-false 2 o h.1.0) (ltb-false 63 k h.1.1.1.0) (leb-false 1000000 s.begun h.1.1.1.1.1.0)

  -- one step
  pub step_state : (s : State) (t : ℕ) → P s
      → (in_range s ≡ true → t ≤ 7 → stuck (view_of s t) ≡ false → P (after s t)) → P (step_of s t).state
  step_state s t p q =
      step_by (λ (b : Replied StepReply). P b.state) s t (λ n. p) λ h. q (not-false _ h.0) (ltb-false 7 t h.1.0) h.1.1.1.0

  -- counted steps: kept by every step that is not stuck
  pub steps_state : (n : ℕ) (from s : State) (t taken : ℕ) → P from → P s
      → ((x : State) → P x → stuck (view_of x t) ≡ false → P (after x t)) → P (steps n from s t taken).state
  unfolding steps
  steps_state zero from s t taken p q k = q
  steps_state (suc n) from s t taken p q k =
      let Q : Replied RunReply → Type 0 = λ r. P r.state in
      rw (steps_tests n from s t taken)
      (pick-by Q (stuck (view_of s t)) (λ e. p) λ c.
      pick-by Q (ends (thread_at s t)) (λ e. k s q c) λ d. steps_state n from (after s t) t (suc taken) p (k s q c) k)

  -- and their tests
  pub run_state : (s : State) (t n : ℕ) → P s
      → (in_range s ≡ true → t ≤ 7 → (x : State) → P x → stuck (view_of x t) ≡ false → P (after x t)) → P (run_of s t n).state
  run_state s t n p k =
      run_by (λ (b : Replied RunReply). P b.state) s t n (λ m. p) λ h. steps_state n s s t 0 p p (k (not-false _ h.0) (ltb-false 7 t h.1.0))
