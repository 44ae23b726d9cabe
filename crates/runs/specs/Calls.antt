-- Calls one after the other: begins, steps and counted steps with any numbers, accepted or refused; and the moves that they come to.
use Rattle.std.specs.Prelude.{Bool, List, [], ◌∷◌, ◌++◌, ℕ, zero, suc, eqb, Ok, Err, Result}
use Rattle.rules.specs.Step.{begin_of, step_of, run_of}
use Rattle.rules.specs.declared.state.State.{State}
use Rattle.rules.specs.declared.answer.Refusal.{Refusal}
use Rattle.rules.specs.declared.answer.RunReply.{RunReply}
use Rattle.rules.specs.declared.answer.RunReply as RunReply
use Rattle.rules.specs.Refusals.{reply_number}

-- a move: thread t begins operation o on key k, or takes one step
pub data Move : Type 0 where
  begins : (t o k : ℕ) → Move
  steps : (t : ℕ) → Move

-- the state after a move, accepted or refused
unfoldable pub after_move : State → Move → State
after_move s (begins t o k) = (begin_of s t o k).state
after_move s (steps t) = (step_of s t).state

-- the state after some moves
unfoldable pub after_moves : State → List Move → State
after_moves s [] = s
after_moves s (c ∷ cs) = after_moves (after_move s c) cs

-- the begin is accepted
abbrev pub is_begun : State → ℕ → ℕ → ℕ → Bool
is_begun s t o k = eqb (reply_number (begin_of s t o k).reply) 0

-- the step of thread t is accepted
abbrev pub accepted : State → ℕ → Bool
accepted s t = eqb (reply_number (step_of s t).reply) 0

-- a move n times
unfoldable pub times : ℕ → Move → List Move
times zero c = []
times (suc n) c = c ∷ times n c

-- the steps that a reply to counted steps says were taken
abbrev pub taken_by : Result RunReply Refusal → ℕ
taken_by (Ok (RunReply.TheVariants.Stops n p)) = n
taken_by (Ok (RunReply.TheVariants.Ends n a c)) = n
taken_by (Err r) = 0

-- a call: a move, or counted steps: thread t is to take n of them
pub data Call : Type 0 where
  move : Move → Call
  counted : (t n : ℕ) → Call

-- the state after a call, accepted or refused
unfoldable pub after_call : State → Call → State
after_call s (move m) = after_move s m
after_call s (counted t n) = (run_of s t n).state

-- the state after some calls
unfoldable pub after_calls : State → List Call → State
after_calls s [] = s
after_calls s (c ∷ cs) = after_calls (after_call s c) cs

-- the moves that a call comes to: counted steps are as many steps as the reply says were taken
abbrev pub moves_by : State → Call → List Move
moves_by s (move m) = m ∷ []
moves_by s (counted t n) = times (taken_by (run_of s t n).reply) (steps t)

-- the moves that some calls come to
unfoldable pub moves_of : State → List Call → List Move
moves_of s [] = []
moves_of s (c ∷ cs) = moves_by s c ++ moves_of (after_call s c) cs
