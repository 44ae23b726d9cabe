-- A schedule line leaves the state of its call.
use Rattle.std.specs.Prelude.{◌≡◌, refl, Option, Some, None}
use mathlib.Core.List.{List, ◌++◌}
use Rattle.std.proofs.Common.{sym, ap}
use Rattle.rules.specs.Step.{begin_of, run_of}
use Rattle.rules.specs.declared.state.State.{State}
use Rattle.runs.specs.Calls.{after_move, Call, after_call, after_calls}
use Rattle.forms.specs.declared.Line as Line
use Rattle.sheet.proofs.States.{begin_state, run_state}
use Rattle.sheet.specs.Sheet.{play_form}
use Rattle.schedules.specs.Played.{call_of}

-- a line leaves the state of its call
pub line-is_call : (s : State) (f : Option Line.Line) (cs : List Call) → after_calls s (call_of f ++ cs) ≡ after_calls (play_form s f).state cs
unfolding play_form after_calls after_call after_move
line-is_call s (Some (Line.TheVariants.Begin t o k)) cs =
    ap (λ (x : State). after_calls x cs) (sym (begin_state t (begin_of s t o k).state (begin_of s t o k).reply))
line-is_call s (Some (Line.TheVariants.Steps t n)) cs =
    ap (λ (x : State). after_calls x cs) (sym (run_state t (run_of s t n).state (run_of s t n).reply))
line-is_call s None cs = refl
