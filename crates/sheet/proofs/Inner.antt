-- In a state that is in range a line call without the range test is the line call.
use Rattle.std.specs.Prelude.{◌≡◌, true, List, ℕ, Option, Some, None}
use Rattle.std.proofs.Math.Path.{refl}
use Rattle.rules.specs.Range.{in_range}
use Rattle.rules.specs.declared.state.State.{State}
use Rattle.states.specs.Calls.{begin_is_inner, run_is_inner}
use Rattle.forms.specs.Form.{line_form}
use Rattle.forms.specs.declared.Line.{Line}
use Rattle.forms.specs.declared.Line.TheVariants.{Begin, Steps}
use Rattle.sheet.specs.Sheet.{play_form, line_of, play_in, line_in}

module _ (s : State) (r : in_range s ≡ true) where
  -- what a line says
  pub play_is_inner : (f : Option Line) → play_in s f ≡ play_form s f
  unfolding play_in play_form
  play_is_inner (Some (Begin t o k)) = rw (begin_is_inner s r t o k)
  play_is_inner (Some (Steps t n)) = rw (run_is_inner s r t n)
  play_is_inner None = refl

  -- the whole call
  pub line-is_inner : (room : ℕ) (l : List ℕ) → line_in room s l ≡ line_of room s l
  unfolding line_in line_of
  line-is_inner room l = rw (r, play_is_inner (line_form l))
