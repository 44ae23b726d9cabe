-- What the lines of a schedule come to: the state after them, their calls, their sheet lines.
use Rattle.std.specs.Prelude.{ℕ, Option, Some, None}
use mathlib.Core.List.{List, [], ◌∷◌, ◌++◌, flatten}
use Rattle.rules.specs.declared.state.State.{State}
use Rattle.runs.specs.Calls.{begins, Call, move, counted}
use Rattle.forms.specs.Form.{line_form}
use Rattle.forms.specs.declared.Line as Line
use Rattle.sheet.specs.Sheet.{play_form}

-- the state after the lines of a schedule
unfoldable pub after_lines : State → List (List ℕ) → State
after_lines s [] = s
after_lines s (l ∷ ls) = after_lines (play_form s (line_form l)).state ls

-- the call of a line; a slip is none
abbrev pub call_of : Option Line.Line → List Call
call_of (Some (Line.TheVariants.Begin t o k)) = move (begins t o k) ∷ []
call_of (Some (Line.TheVariants.Steps t n)) = counted t n ∷ []
call_of None = []

-- the calls of the lines of a schedule
unfoldable pub calls_of : List (List ℕ) → List Call
calls_of [] = []
calls_of (l ∷ ls) = call_of (line_form l) ++ calls_of ls

-- the sheet lines of the lines of a schedule, one for each, without `E`
unfoldable pub sheet_lines : State → List (List ℕ) → List (List ℕ)
sheet_lines s [] = []
sheet_lines s (l ∷ ls) = (play_form s (line_form l)).sheet ∷ sheet_lines (play_form s (line_form l)).state ls

-- their bytes
abbrev pub lines_sheet : State → List (List ℕ) → List ℕ
lines_sheet s ls = flatten (sheet_lines s ls)
