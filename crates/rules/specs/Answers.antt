-- Document 01's values for each case of the answers, in the order in which the sheet has them; and what the states say that these values are.
-- The number of a refusal is `number` of Refusals.antt.
use Rattle.std.specs.Prelude.{cond, List, [], ◌∷◌, ℕ, zero, suc, ◌-◌, Result, Ok, Err}
use Rattle.keys.specs.Keys.{list_of}
use Rattle.rules.specs.State.{thread_at}
use Rattle.rules.specs.Step.{after, ends}
use Rattle.rules.specs.declared.state.State.{State}
use Rattle.rules.specs.declared.answer.Refusal.{Refusal}
use Rattle.rules.specs.declared.answer.StepReply.{StepReply}
use Rattle.rules.specs.declared.answer.StepReply as StepReply
use Rattle.rules.specs.declared.answer.RunReply.{RunReply}
use Rattle.rules.specs.declared.answer.RunReply as RunReply

-- the phase gone to; on ending phase 0, the answer and the commit number
abbrev pub step_values : Result StepReply Refusal → List ℕ
step_values (Ok (StepReply.TheVariants.Goes p)) = p ∷ []
step_values (Ok (StepReply.TheVariants.Ends a c)) = 0 ∷ a ∷ c ∷ []
step_values (Err r) = []

-- the values of thread t's accepted step: its phase in the state after, and on ending its answer and commit number in the state before
abbrev pub step_says : State → ℕ → List ℕ
step_says s t = (thread_at (after s t) t).phase ∷ cond (ends (thread_at s t)) ((thread_at s t).answer ∷ (thread_at s t).commit ∷ []) []

-- "taken phase, or on ending .. taken answer commit"
abbrev pub run_values : Result RunReply Refusal → List ℕ
run_values (Ok (RunReply.TheVariants.Stops n p)) = n ∷ p ∷ []
run_values (Ok (RunReply.TheVariants.Ends n a c)) = n ∷ a ∷ c ∷ []
run_values (Err r) = []

-- "Steps are taken until n have been taken or the operation ends": how many come before the last, where at most m can
unfoldable pub steps_before : ℕ → State → ℕ → ℕ
steps_before zero s t = 0
steps_before (suc m) s t = cond (ends (thread_at s t)) 0 (suc (steps_before m (after s t) t))

-- the state after k steps of thread t
unfoldable pub after_steps : ℕ → State → ℕ → State
after_steps zero s t = s
after_steps (suc k) s t = after_steps k (after s t) t

-- the values where k steps come before the last, and the state before that is u: the last counts too; then the phase in the state after it,
-- or on ending the answer and the commit number in u
abbrev pub last_says : ℕ → State → ℕ → List ℕ
last_says k u t =
    suc k ∷ cond (ends (thread_at u t)) ((thread_at u t).answer ∷ (thread_at u t).commit ∷ []) ((thread_at (after u t) t).phase ∷ [])

-- the values of n accepted steps
abbrev pub run_says : State → ℕ → ℕ → List ℕ
run_says s t n = let k = steps_before (n - 1) s t in last_says k (after_steps k s t) t

-- "the keys .., rising, each once"
abbrev pub list_values : Result ℕ Refusal → List ℕ
list_values (Ok ks) = list_of ks
list_values (Err r) = []
