-- What the sheet of a whole file says.
use Rattle.std.specs.Prelude.{List, [], ◌∷◌, ◌++◌, ◌≡◌, ℕ, ◌+◌, ◌<◌, length, get_or, Ok}
use Rattle.keys.specs.Keys.{list_of}
use Rattle.rules.specs.State.{fresh}
use Rattle.rules.specs.List.{reached, key_list_of}
use Rattle.rules.specs.declared.state.Settings.{Settings}
use Rattle.rules.specs.declared.state.State.{State}
use Rattle.runs.specs.Calls.{moves_of}
use Rattle.runs.specs.PlainSet.{empty, keys_in}
use Rattle.runs.specs.Log.{log_of, play_log}
use Rattle.runs.specs.Events.{events_of}
use Rattle.runs.specs.Holders.{Quiet}
use Rattle.runs.specs.Demand.{Demand3}
use Rattle.text.specs.Text.{newline, lines, sheet_line, OneLine}
use Rattle.sheet.specs.Sheet.{refusal, end_text, sheet_of}
use Rattle.schedules.specs.Played.{calls_of, sheet_lines, lines_sheet}

-- c: the settings in a file's first line; ls: its further lines; s: the state after them
pub record PlayedFile (file : List ℕ) (c : Settings) (ls : List (List ℕ)) (s : State) : Type 0 where
  -- demand 3 holds of the calls of these lines
  pub demand : Demand3 c (calls_of ls) s (events_of (fresh c) (moves_of (fresh c) (calls_of ls))) (log_of (fresh c) (moves_of (fresh c) (calls_of ls)))
  -- the key list of that state is not refused
  pub list : key_list_of s ≡ Ok (reached s).keys
  -- the sheet is `R`, the sheet lines of these lines, and `E` with the counts and the keys of that state
  pub sheet : sheet_of file ≡ sheet_line 82 [] ++ (lines_sheet (fresh c) ls ++ end_text s (list_of (reached s).keys))
  -- these keys are those of the plain set where no thread is in phases 20 to 23
  pub plain : Quiet s → list_of (reached s).keys ≡ keys_in (play_log empty (log_of (fresh c) (moves_of (fresh c) (calls_of ls))))
  -- "it has one line for each schedule line, then `E`"
  pub each : length (sheet_lines (fresh c) ls) ≡ length ls
  pub one : (i : ℕ) → i < length ls → OneLine (get_or (sheet_lines (fresh c) ls) i [])
  pub count : length (lines (sheet_of file)) ≡ length (lines file) + 1

-- no line of a sheet, with its newline, is `X 8`
abbrev pub Without8 : List ℕ → Type 0
Without8 sheet = (i : ℕ) → get_or (lines sheet) i [] ++ (newline ∷ []) ≡ refusal 8 → ⊥
