-- Digits in std's words, of which the lemmas on iterators speak.
use Rattle.std.specs.Prelude.{◌&&◌, List, ◌≡◌, refl, ℕ}
use Rattle.std.specs.Char.{is_ascii_digit}
use Rattle.std.specs.List.{list_all}
use Rattle.std.proofs.lemmas.List.Recursion.{same_from_clauses}
use Rattle.text.specs.Text.{digits}

pub digits_all : (l : List ℕ) → digits l ≡ list_all is_ascii_digit l
unfolding digits
digits_all l = same_from_clauses digits (list_all is_ascii_digit) (λ x r. is_ascii_digit x && r) refl (λ _ _. refl) (λ _ _. refl) l
