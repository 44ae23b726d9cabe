-- What a sheet line shows of the number with which its line call answers.
use Rattle.std.specs.Prelude.{List, ◌≡◌, ℕ}
use Rattle.text.specs.Text.{OneLine}
use Rattle.sheet.specs.Sheet.{refusal}

-- a sheet line l, of a line call that answers with number n
pub record Shown (n : ℕ) (l : List ℕ) : Type 0 where
  pub one : OneLine l
  pub eight : l ≡ refusal 8 → n ≡ 8
