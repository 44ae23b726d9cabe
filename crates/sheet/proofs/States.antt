-- The state after a begin line and after a step line is that of the call, whatever the reply; that of an accepted fresh call is the fresh one.
use Rattle.std.specs.Prelude.{◌≡◌, refl, true, ℕ, Result}
use Rattle.rules.specs.State.{fresh}
use Rattle.rules.specs.Range.{settings_in_range}
use Rattle.rules.specs.Step.{fresh_of}
use Rattle.rules.specs.declared.state.Settings.{Settings}
use Rattle.rules.specs.declared.state.State.{State}
use Rattle.rules.specs.declared.answer.Refusal.{Refusal}
use Rattle.rules.specs.declared.answer.RunReply.{RunReply}
use Rattle.sheet.specs.Sheet.{begin_line, run_line}

pub begin_state : (t : ℕ) (s : State) (r : Result (Unit {0}) Refusal) → (begin_line t s r).state ≡ s
unfolding begin_line
begin_state t s r = refl

pub run_state : (t : ℕ) (s : State) (r : Result RunReply Refusal) → (run_line t s r).state ≡ s
unfolding run_line
run_state t s r = refl

pub fresh_accepted : (c : Settings) → settings_in_range c ≡ true → (fresh_of c).state ≡ fresh c
unfolding fresh_of
fresh_accepted c h = rw h refl
