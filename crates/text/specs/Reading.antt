-- A digit among the bytes of a part.
use Rattle.std.specs.Prelude.{true, List, ◌≡◌, ℕ, suc, ◌≤◌, get_or, drop}
use Rattle.text.specs.Text.{digits}

-- a digit among digits
pub record Digit (l : List ℕ) (i : ℕ) : Type 0 where
  pub low : 48 ≤ get_or l i 0
  pub high : get_or l i 0 ≤ 57
  pub others : digits (drop (suc i) l) ≡ true
