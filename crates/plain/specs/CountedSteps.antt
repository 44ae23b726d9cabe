-- The last of some counted steps, where it ends the operation.
use Rattle.std.proofs.Math.Path.{◌≡◌}
use Prim.Native.Nat.{ℕ, suc}
use Rattle.rules.specs.Step.{step_of}
use Rattle.rules.specs.declared.state.State.{State}
use Rattle.runs.specs.Calls.{steps, after_moves, times}
use Rattle.rules.specs.declared.answer.StepReply as StepReply
use Rattle.std.specs.Prelude.{Ok}

-- a reply that ends an operation after k steps is that of the last of them
pub record Last (s : State) (t k a c : ℕ) : Type 0 where
  pub before : ℕ
  pub count : k ≡ suc before
  pub reply : (step_of (after_moves s (times before (steps t))) t).reply ≡ Ok (StepReply.TheVariants.Ends a c)
