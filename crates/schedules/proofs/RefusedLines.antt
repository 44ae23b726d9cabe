-- The sheet line of a refusal is `X 8` only where the number is 8.
use Rattle.std.specs.Prelude.{[], ◌∷◌, refl, ℕ}
use Rattle.std.proofs.Common.{arith}
use Rattle.text.proofs.Writing.{sheet_line-one, line_same}
use Rattle.sheet.specs.Sheet.{refusal}
use Rattle.schedules.specs.Lines.{Shown}

-- that of a refusal
pub refused_shown : (n : ℕ) → Shown n (refusal n)
unfolding refusal
refused_shown n = record { one = sheet_line-one 88 (n ∷ []) refl; eight = line_same 88 n 8 (omega arith) }
