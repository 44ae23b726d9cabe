-- What the operations on key sets do to membership: whoever uses key sets goes by these laws and never by the digits.
use Rattle.std.specs.Prelude.{Bool, true, false, not, cond, ◌&&◌, ◌||◌, ◌≡◌, refl, ℕ, zero, suc, ◌+◌, ◌-◌, ◌*◌, ◌/◌, ◌%◌, ◌^◌, ◌<◌, ◌≤◌, max, ltb, eqb}
use Rattle.std.proofs.Common.{sym, ◌∙◌, zero-le, suc-le-suc, mod-lt, lt_of_le_of_lt, lt_of_lt_of_le, lt_of_not-le, not-suc-le-zero, arith, eqb-true, ltb-true, ltb-false, lt-ltb, le-ltb, pow_pos, pow_mono}
use Rattle.std.proofs.Math.Nat.{mod-one, mod-le, zero-div, div-eq_of_lt, sub-zero, zero-max}
use Rattle.std.proofs.Math.Arith.{lt-one}
use Rattle.std.specs.Int.Bits.{bit_or, or_step, or_shifted_r}
use Rattle.std.proofs.lemmas.Nat.{or_lt}
use Rattle.std.proofs.Math.Dec.{leb-suc-zero, leb-suc-suc, eqb-suc-zero, eqb-suc-suc, eqb-zero-suc}
use Rattle.std.proofs.Math.Pow.{split}
use Rattle.keys.proofs.Digits.{has-zero, has-suc, digit_in, digit_out, key_le, with_new, without_key, mod-suc}
use Rattle.keys.specs.Keys.{has, with, without, union, below, from}

-- ---- membership

-- the empty set has no key
pub has-none : (k : ℕ) → has 0 k ≡ false
has-none k = rw (zero-div (2 ^ k))

-- a key is below 64
pub has_small : (m k : ℕ) → m < 2 ^ 64 → has m k ≡ true → k < 64
has_small m k l h = lt_of_not-le (λ (g : 64 ≤ k). omega (arith, pow_mono g, key_le m k h))

-- a number above 63 is no key
pub has_large : (m k : ℕ) → m < 2 ^ 64 → 64 ≤ k → has m k ≡ false
has_large m k l g = rw (div-eq_of_lt (lt_of_lt_of_le l (pow_mono g)))

-- to add a key that is there changes nothing
pub with_old : (m k : ℕ) → has m k ≡ true → with m k ≡ m
unfolding with
with_old m k h = simp h

-- to add a number above 63 changes nothing
pub with_large : (m k : ℕ) → 64 ≤ k → with m k ≡ m
unfolding with
with_large m k g = go (has m k)
  where
    go : (b : Bool) → cond b m (cond (ltb k 64) (m + 2 ^ k) m) ≡ m
    go true = refl
    go false = rw (le-ltb k 64 g)

-- to take out what is no key changes nothing
pub without-none : (m k : ℕ) → has m k ≡ false → without m k ≡ m
unfolding without
without-none m k h = simp h

-- a new key's power put on adds the key
plus_has : (k m j : ℕ) → has m k ≡ false → has (m + 2 ^ k) j ≡ (eqb j k || has m j)
plus_has zero m zero h = let e : (m + 1) % 2 ≡ 1 = omega (arith, digit_out m 0 h) in simp (has-zero, e)
plus_has zero m (suc j) h = let e : (m + 1) / 2 ≡ m / 2 = omega (arith, digit_out m 0 h) in simp (eqb-suc-zero, has-suc, e)
plus_has (suc k) m zero h = let e : (m + 2 ^ suc k) % 2 ≡ m % 2 = omega arith in simp (eqb-zero-suc, has-zero, e)
plus_has (suc k) m (suc j) h =
    let e : (m + 2 ^ suc k) / 2 ≡ m / 2 + 2 ^ k = omega arith in
    simp (eqb-suc-suc, has-suc, e) (plus_has k (m / 2) j (sym (has-suc m k) ∙ h))

-- with adds k and nothing else
pub has-with : (m k j : ℕ) → k < 64 → has (with m k) j ≡ (eqb j k || has m j)
has-with m k j l = go (has m k) refl (eqb j k) refl
  where
    go : (b : Bool) → has m k ≡ b → (c : Bool) → eqb j k ≡ c → has (with m k) j ≡ (eqb j k || has m j)
    go false h c e = rw (with_new m k l h) (plus_has k m j h)
    go true h true e = rw (e, with_old m k h, eqb-true j k e) h
    go true h false e = rw (e, with_old m k h)

-- a key's power taken off takes the key out
minus-has : (k m j : ℕ) → has m k ≡ true → has (m - 2 ^ k) j ≡ (not (eqb j k) && has m j)
minus-has zero m zero h = let e : (m - 1) % 2 ≡ 0 = omega (arith, digit_in m 0 h) in simp (has-zero, e)
minus-has zero m (suc j) h = let e : (m - 1) / 2 ≡ m / 2 = omega (arith, digit_in m 0 h) in simp (eqb-suc-zero, has-suc, e)
minus-has (suc k) m zero h =
    let e : (m - 2 ^ suc k) % 2 ≡ m % 2 = omega (arith, key_le m (suc k) h) in simp (eqb-zero-suc, has-zero, e)
minus-has (suc k) m (suc j) h =
    let e : (m - 2 ^ suc k) / 2 ≡ m / 2 - 2 ^ k = omega arith in
    simp (eqb-suc-suc, has-suc, e) (minus-has k (m / 2) j (sym (has-suc m k) ∙ h))

-- without takes k out and nothing else
pub has-without : (m k j : ℕ) → has (without m k) j ≡ (not (eqb j k) && has m j)
has-without m k j = go (has m k) refl (eqb j k) refl
  where
    go : (b : Bool) → has m k ≡ b → (c : Bool) → eqb j k ≡ c → has (without m k) j ≡ (not (eqb j k) && has m j)
    go true h c e = rw (without_key m k h) (minus-has k m j h)
    go false h true e = rw (e, without-none m k h, eqb-true j k e) h
    go false h false e = rw (e, without-none m k h)

-- the larger of two digits is 1 where one of them is
max-one : (x y : ℕ) → x < 2 → y < 2 → eqb (max x y) 1 ≡ (eqb x 1 || eqb y 1)
max-one zero y h l = rw zero-max
max-one (suc zero) zero h l = refl
max-one (suc zero) (suc zero) h l = refl
max-one (suc zero) (suc (suc y)) h l = absurd (omega arith)
max-one (suc (suc x)) y h l = absurd (omega arith)

-- the digits of bit_or are those of both numbers
or-has : (j a b : ℕ) → has (bit_or a b) j ≡ (has a j || has b j)
or-has zero a b =
    let e : bit_or a b % 2 ≡ max (a % 2) (b % 2) = omega (arith, or_step a b) in
    simp (has-zero, e) (max-one (a % 2) (b % 2) (omega arith) (omega arith))
or-has (suc j) a b =
    let e : bit_or a b / 2 ≡ bit_or (a / 2) (b / 2) = omega (arith, or_step a b) in simp (has-suc, e) (or-has j (a / 2) (b / 2))

-- the union has the keys of both
pub has-union : (a b j : ℕ) → has (union a b) j ≡ (has a j || has b j)
unfolding union
has-union a b j = or-has j a b

-- the k lowest digits have the keys under k
mod-has : (k m j : ℕ) → has (m % 2 ^ k) j ≡ (ltb j k && has m j)
mod-has zero m j = simp (mod-one, leb-suc-zero) (has-none j)
mod-has (suc k) m zero =
    let e : (m / 2 % 2 ^ k * 2 + m % 2) % 2 ≡ m % 2 = omega arith in simp (lt-ltb 0 (suc k) (suc-le-suc zero-le), mod-suc, has-zero, e)
mod-has (suc k) m (suc j) =
    let e : (m / 2 % 2 ^ k * 2 + m % 2) / 2 ≡ m / 2 % 2 ^ k = omega arith in
    simp (leb-suc-suc, mod-suc, has-suc, e) (mod-has k (m / 2) j)

-- below keeps the keys under k
pub has-below : (m k j : ℕ) → has (below m k) j ≡ (ltb j k && has m j)
unfolding below
has-below m k j = mod-has k m j

-- the other digits have the keys from k on
rest_has : (k m j : ℕ) → has (m - m % 2 ^ k) j ≡ (not (ltb j k) && has m j)
rest_has zero m j = simp (mod-one, sub-zero, leb-suc-zero)
rest_has (suc k) m zero =
    let e : (m - (m / 2 % 2 ^ k * 2 + m % 2)) % 2 ≡ 0 = omega (arith, mod-le (m / 2) (2 ^ k)) in
    simp (lt-ltb 0 (suc k) (suc-le-suc zero-le), mod-suc, has-zero, e)
rest_has (suc k) m (suc j) =
    let e : (m - (m / 2 % 2 ^ k * 2 + m % 2)) / 2 ≡ m / 2 - m / 2 % 2 ^ k = omega arith in
    simp (leb-suc-suc, mod-suc, has-suc, e) (rest_has k (m / 2) j)

-- from keeps the keys from k on
pub has-from : (m k j : ℕ) → has (from m k) j ≡ (not (ltb j k) && has m j)
unfolding from
has-from m k j = rest_has k m j

-- ---- bounds: a set is a number below 2 ^ 64

-- a new key among n leaves a number of n digits
plus_lt : (n k m : ℕ) → m < 2 ^ n → k < n → has m k ≡ false → m + 2 ^ k < 2 ^ n
plus_lt zero k m l g h = absurd (not-suc-le-zero g)
plus_lt (suc n) zero m l g h = omega (arith, digit_out m 0 h)
plus_lt (suc n) (suc k) m l g h =
    let e : m / 2 < 2 ^ n = omega arith in omega (arith, plus_lt n k (m / 2) e (omega arith) (sym (has-suc m k) ∙ h))

-- with gives a set
pub with-lt : (m k : ℕ) → m < 2 ^ 64 → with m k < 2 ^ 64
with-lt m k l = go (has m k) refl (ltb k 64) refl
  where
    go : (b : Bool) → has m k ≡ b → (c : Bool) → ltb k 64 ≡ c → with m k < 2 ^ 64
    go true h c e = rw (with_old m k h) l
    go false h true e = rw (with_new m k (ltb-true k 64 e) h) (plus_lt 64 k m l (ltb-true k 64 e) h)
    go false h false e = rw (with_large m k (ltb-false k 64 e)) l

-- without gives a set
pub without-lt : (m k : ℕ) → m < 2 ^ 64 → without m k < 2 ^ 64
unfolding without
without-lt m k l = go (has m k)
  where
    go : (b : Bool) → cond b (m - 2 ^ k) m < 2 ^ 64
    go true = omega arith
    go false = l

-- union gives a set
pub union-lt : (a b : ℕ) → a < 2 ^ 64 → b < 2 ^ 64 → union a b < 2 ^ 64
unfolding union
union-lt = or_lt 64

-- below gives a set
pub below-lt : (m k : ℕ) → m < 2 ^ 64 → below m k < 2 ^ 64
unfolding below
below-lt m k l = lt_of_le_of_lt (mod-le m (2 ^ k)) l

-- from gives a set
pub from-lt : (m k : ℕ) → m < 2 ^ 64 → from m k < 2 ^ 64
unfolding from
from-lt m k l = omega arith

-- ---- equal sets

-- a digit is known by whether it is 1
digit_of : (x : ℕ) → x < 2 → cond (eqb x 1) 1 0 ≡ x
digit_of zero l = refl
digit_of (suc zero) l = refl
digit_of (suc (suc x)) l = absurd (omega arith)

-- so is the lowest digit by the key 0
low_digit : (m : ℕ) → cond (has m 0) 1 0 ≡ m % 2
low_digit m = rw (has-zero m) (digit_of (m % 2) (omega arith))

-- numbers of n digits with the same keys are equal
same_digits : (n a b : ℕ) → a < 2 ^ n → b < 2 ^ n → ((k : ℕ) → k < n → has a k ≡ has b k) → a ≡ b
same_digits zero a b h l e = lt-one h ∙ sym (lt-one l)
same_digits (suc n) a b h l e =
    let low : a % 2 ≡ b % 2 = sym (low_digit a) ∙ rw (e 0 (omega arith)) (low_digit b) in
    let high =
    same_digits n (a / 2) (b / 2) (omega arith) (omega arith)
    (λ k g. sym (has-suc a k) ∙ e (suc k) (suc-le-suc g) ∙ has-suc b k) in
    omega arith

-- sets with the same keys are equal
pub same_keys : (a b : ℕ) → a < 2 ^ 64 → b < 2 ^ 64 → ((k : ℕ) → k < 64 → has a k ≡ has b k) → a ≡ b
same_keys = same_digits 64

-- the keys under k and those from k on make the whole set
pub union_parts : (m k : ℕ) → union (below m k) (from m k) ≡ m
unfolding union below from
union_parts m k =
    let e : m - m % 2 ^ k ≡ m / 2 ^ k * 2 ^ k = omega (arith, split m k) in
    rw e (or_shifted_r (m / 2 ^ k) k (m % 2 ^ k) (mod-lt m (pow_pos k)) ∙ split m k)
