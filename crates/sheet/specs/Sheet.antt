-- Line calls and whole files: a schedule's key sheet, byte by byte.
use Rattle.std.specs.Prelude.{Bool, cond, not, List, [], ◌∷◌, ◌++◌, ℕ, ltb, length, Option, Some, None, Result, Ok, Err}
use Rattle.rules.specs.State.{fresh}
use Rattle.rules.specs.Range.{in_range}
use Rattle.rules.specs.Step.{zero_settings, begin_in, begin_of, run_in, run_of}
use Rattle.rules.specs.List.{key_list_of}
use Rattle.rules.specs.Refusals.{number, refused_in}
use Rattle.rules.specs.Answers.{run_values, list_values}
use Rattle.rules.specs.declared.state.State.{State}
use Rattle.rules.specs.declared.state.Settings.{Settings}
use Rattle.rules.specs.declared.answer.Refusal.{Refusal}
use Rattle.rules.specs.declared.answer.Refusal.TheVariants.{BadSettings, OutOfRange, LittleRoom, TooLong}
use Rattle.rules.specs.declared.answer.RunReply.{RunReply}
use Rattle.rules.specs.declared.answer.RunReply.TheVariants.{Stops, Ends}
use Rattle.text.specs.Text.{lines, sheet_line, keys_line}
use Rattle.forms.specs.Form.{first_form, first_slip, first_number, line_form, line_slip, line_number}
use Rattle.forms.specs.declared.Line.{Line}
use Rattle.forms.specs.declared.Line.TheVariants.{Begin, Steps}

-- what a line call does: the refusal, if it is one, the state after, and the sheet line, which is empty where nothing is written
pub record Played : Type 0 where
  pub refused : Option Refusal
  pub state : State
  pub sheet : List ℕ

-- "the sheet line is `X`, tab, number, except 7 and 9, which write nothing"
unfoldable pub refusal : ℕ → List ℕ
refusal n = sheet_line 88 (n ∷ [])

-- a refusal that writes nothing
abbrev pub silent : State → Refusal → Played
silent s r = record { refused = Some r; state = s; sheet = [] }

-- a refusal with its line
abbrev pub refused : State → Refusal → Played
refused s r = record { refused = Some r; state = s; sheet = refusal (number r) }

-- a slip of form, with a line that has the number of the form's answer
abbrev pub slipped : State → Refusal → ℕ → Played
slipped s r n = record { refused = Some r; state = s; sheet = refusal n }

-- an accepted line
abbrev pub wrote : State → List ℕ → Played
wrote s l = record { refused = None; state = s; sheet = l }

-- "lent line room under 256 bytes"
abbrev pub narrow : ℕ → Bool
narrow room = ltb room 256

-- Sheet: `B thread`
abbrev pub begin_sheet : ℕ → Result (Unit {0}) Refusal → List ℕ
begin_sheet t (Ok u) = sheet_line 66 (t ∷ [])
begin_sheet t (Err r) = refusal (number r)

-- a begin line by what begin answers
unfoldable pub begin_line : ℕ → State → Result (Unit {0}) Refusal → Played
begin_line t s r = record { refused = refused_in r; state = s; sheet = begin_sheet t r }

-- Sheet: `S thread taken phase`, or on ending `D thread taken answer commit`
abbrev pub run_sheet : ℕ → Result RunReply Refusal → List ℕ
run_sheet t (Ok (Stops n p)) = sheet_line 83 (t ∷ run_values (Ok (Stops n p)))
run_sheet t (Ok (Ends n a c)) = sheet_line 68 (t ∷ run_values (Ok (Ends n a c)))
run_sheet t (Err r) = refusal (number r)

-- a step line by what the counted steps answer
unfoldable pub run_line : ℕ → State → Result RunReply Refusal → Played
run_line t s r = record { refused = refused_in r; state = s; sheet = run_sheet t r }

-- a line by what it says
unfoldable pub play_form : State → Option Line → Played
play_form s (Some (Begin t o k)) = begin_line t (begin_of s t o k).state (begin_of s t o k).reply
play_form s (Some (Steps t n)) = run_line t (run_of s t n).state (run_of s t n).reply
play_form s None = slipped s line_slip (line_number None)

-- a refusal alone, with its line
unfoldable pub refused_of : ℕ → State → Refusal → Played
refused_of room s r = cond (narrow room) (silent s LittleRoom) (refused s r)

-- "other line 9, 7, 1, then 3, 4, 10, 5, 6, 11, 8 as they apply"
unfoldable pub line_of : ℕ → State → List ℕ → Played
line_of room s l =
    cond (narrow room) (silent s LittleRoom) (cond (not (in_range s)) (silent s OutOfRange) (play_form s (line_form l)))

-- a line by what it says, without the range test
unfoldable pub play_in : State → Option Line → Played
play_in s (Some (Begin t o k)) = begin_line t (begin_in s t o k).state (begin_in s t o k).reply
play_in s (Some (Steps t n)) = run_line t (run_in s t n).state (run_in s t n).reply
play_in s None = slipped s line_slip (line_number None)

-- a line call without the range test: "9, .. 1, then 3, 4, 10, 5, 6, 11, 8 as they apply"
unfoldable pub line_in : ℕ → State → List ℕ → Played
line_in room s l = cond (narrow room) (silent s LittleRoom) (play_in s (line_form l))

-- `E committed made keys`
unfoldable pub end_text : State → List ℕ → List ℕ
end_text s ks = keys_line 69 (s.committed ∷ s.made ∷ []) ks

-- the keys of the key list, or its refusal
abbrev pub end_sheet : State → Result ℕ Refusal → List ℕ
end_sheet s (Ok ks) = end_text s (list_values (Ok ks))
end_sheet s (Err r) = refusal (number r)

-- the end line by what the key list answers
unfoldable pub end_form : State → Result ℕ Refusal → Played
end_form s r = record { refused = refused_in r; state = s; sheet = end_sheet s r }

-- "key list .. as a sheet line 9, 7, 8"
unfoldable pub end_of : ℕ → State → Played
end_of room s = cond (narrow room) (silent s LittleRoom) (cond (not (in_range s)) (silent s OutOfRange) (end_form s (key_list_of s)))

-- what a settings line does: a fresh state and the sheet line `R`, or `X 2`
unfoldable pub first_played : Option Settings → Played
first_played (Some c) = wrote (fresh c) (sheet_line 82 [])
first_played None = slipped (fresh zero_settings) first_slip (first_number None)

-- "settings line 9, 2"
unfoldable pub first_of : ℕ → List ℕ → Played
first_of room l = cond (narrow room) (silent (fresh zero_settings) LittleRoom) (first_played (first_form l))

-- ---- whole files

-- one sheet line for each line, then `E`
unfoldable pub play_lines : State → List (List ℕ) → List ℕ
play_lines s [] = (end_form s (key_list_of s)).sheet
play_lines s (l ∷ ls) = (play_form s (line_form l)).sheet ++ play_lines (play_form s (line_form l)).state ls

-- "If refused, the sheet is `X 2` alone"
unfoldable pub play_first : Option Settings → List (List ℕ) → List ℕ
play_first (Some c) ls = sheet_line 82 [] ++ play_lines (fresh c) ls
play_first None ls = refusal (first_number None)

-- 2 also where "the first line is missing"
unfoldable pub play_all : List (List ℕ) → List ℕ
play_all [] = refusal (number BadSettings)
play_all (l ∷ ls) = play_first (first_form l) ls

-- "A file too long gives `X 12` alone, whatever its first line"
unfoldable pub sheet_of : List ℕ → List ℕ
sheet_of file = cond (ltb 60000 (length file)) (refusal (number TooLong)) (play_all (lines file))
