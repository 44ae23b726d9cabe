-- What a step comes to: it is accepted, or it is refused and leaves the state.
use Rattle.std.specs.Prelude.{◌≡◌, ℕ, ◌≤◌, Err, Ok}
use Rattle.std.proofs.Math.Bool.{true, false}
use Rattle.rules.specs.State.{thread_at}
use Rattle.rules.specs.Range.{in_range}
use Rattle.rules.specs.Step.{after, reply_of, step_of}
use Rattle.rules.specs.declared.state.State.{State}
use Rattle.runs.specs.Calls.{accepted}
use Rattle.rules.specs.declared.answer.Refusal.{Refusal}

-- an accepted step, or a refused one that leaves the state
pub data Outcome (s : State) (t : ℕ) : Type 0 where
  takes : t ≤ 7 → ((thread_at s t).phase ≡ 0 → ⊥) → accepted s t ≡ true → (step_of s t).state ≡ after s t → in_range s ≡ true
      → (step_of s t).reply ≡ Ok (reply_of s t) → Outcome s t
  leaves : accepted s t ≡ false → (step_of s t).state ≡ s → (r : Refusal) → (step_of s t).reply ≡ Err r → Outcome s t
