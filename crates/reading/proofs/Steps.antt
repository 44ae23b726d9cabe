-- Laws of reading as a loop over the bytes needs them: by the byte at i, and with no byte left.
use Rattle.std.specs.Prelude.{true, cond, ◌&&◌, List, ◌≡◌, ℕ, suc, ◌+◌, ◌≤◌, ◌<◌, leb, eqb, length, get_or, drop}
use Rattle.std.proofs.Common.{add-one}
use lib.ListN.{drop_of_length-le}
use Rattle.text.specs.Text.{until, digits}
use Rattle.text.proofs.Reading.{until-at, digits-at}

pub until_next : (b : ℕ) (l : List ℕ) (i : ℕ) → i < length l → until b (drop i l) ≡ cond (eqb (get_or l i 0) b) 0 (suc (until b (drop (i + 1) l)))
until_next b l i h = rw add-one (until-at b l i h)

pub until_end : (b : ℕ) (l : List ℕ) (i : ℕ) → length l ≤ i → until b (drop i l) ≡ 0
unfolding until
until_end b l i h = rw (drop_of_length-le l h)

pub digits_next : (l : List ℕ) (i : ℕ) → i < length l → digits (drop i l) ≡ (leb 48 (get_or l i 0) && leb (get_or l i 0) 57 && digits (drop (i + 1) l))
digits_next l i h = rw add-one (digits-at l i h)

pub digits_end : (l : List ℕ) (i : ℕ) → length l ≤ i → digits (drop i l) ≡ true
unfolding digits
digits_end l i h = rw (drop_of_length-le l h)
