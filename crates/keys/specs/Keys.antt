-- Sets of the keys 0 to 63, each held in a number below 2 ^ 64: key k is in the set m where the digit of m for 2 ^ k is 1.
use Rattle.std.specs.Prelude.{Bool, cond, List, [], ◌∷◌, ℕ, zero, suc, ◌+◌, ◌-◌, ◌/◌, ◌%◌, ◌^◌, ltb, eqb, length, get_or}
use Rattle.std.specs.Int.Bits.{bit_or}

-- k is a key of m; no number above 63 is a key of a set
abbrev pub has : ℕ → ℕ → Bool
has m k = eqb (m / 2 ^ k % 2) 1

-- m and the key k; a number above 63 adds nothing
unfoldable pub with : ℕ → ℕ → ℕ
with m k = cond (has m k) m (cond (ltb k 64) (m + 2 ^ k) m)

-- m but for the key k
unfoldable pub without : ℕ → ℕ → ℕ
without m k = cond (has m k) (m - 2 ^ k) m

-- the keys of a and those of b
unfoldable pub union : ℕ → ℕ → ℕ
union a b = bit_or a b

-- the keys of m that are smaller than k: all of them for a k above 63
unfoldable pub below : ℕ → ℕ → ℕ
below m k = m % 2 ^ k

-- the keys of m from k on: none of them for a k above 63
unfoldable pub from : ℕ → ℕ → ℕ
from m k = m - m % 2 ^ k

-- the keys of m among the n numbers from i on, rising
unfoldable pub rising : ℕ → ℕ → ℕ → List ℕ
rising m i zero = []
rising m i (suc n) = cond (has m i) (i ∷ rising m (suc i) n) (rising m (suc i) n)

-- the keys of m, rising
unfoldable pub list_of : ℕ → List ℕ
list_of m = rising m 0 64

-- how many keys m has
unfoldable pub size : ℕ → ℕ
size m = length (list_of m)

-- "Split key: of n keys in rising order the one with ⌊n/2⌋ keys before it"
unfoldable pub split_key : ℕ → ℕ
split_key m = get_or (list_of m) (size m / 2) 0
