-- The sheet line of a reply.
use Rattle.std.specs.Prelude.{List, [], ◌∷◌, ℕ, Result, Ok, Err}
use Rattle.keys.specs.Keys.{list_of}
use Rattle.rules.specs.Refusals.{number, refused_in}
use Rattle.rules.specs.declared.state.State.{State}
use Rattle.rules.specs.declared.answer.Refusal.{Refusal}
use Rattle.text.specs.Text.{sheet_line, keys_line}
use Rattle.sheet.specs.Sheet.{Played, refusal}
use Rattle.sheet.specs.declared.shown.SheetLine.{SheetLine}
use Rattle.sheet.specs.declared.shown.SheetLine.TheVariants.{Settings, Begun, Stops, Ends, Keys}

-- "Sheet line `R`", `B thread`, `S thread taken phase`, `D thread taken answer commit`, `E committed made keys`
abbrev pub text_of : SheetLine → List ℕ
text_of Settings = sheet_line 82 []
text_of (Begun t) = sheet_line 66 (t ∷ [])
text_of (Stops t n p) = sheet_line 83 (t ∷ n ∷ p ∷ [])
text_of (Ends t n a c) = sheet_line 68 (t ∷ n ∷ a ∷ c ∷ [])
text_of (Keys c m ks) = keys_line 69 (c ∷ m ∷ []) (list_of ks)

-- the line, or that of the refusal
abbrev pub shown : Result SheetLine Refusal → List ℕ
shown (Ok l) = text_of l
shown (Err r) = refusal (number r)

-- a line call that comes to a reply and leaves a state
abbrev pub plays : Result SheetLine Refusal → State → Played
plays r s = record { refused = refused_in r; state = s; sheet = shown r }
