-- Key sets by their digits, lowest first: the key 0 is in m where m is odd, and m / 2 has the other keys, each one lower.
-- The laws of Laws and Sizes are proved from these; whoever uses key sets goes by those laws.
use Rattle.std.specs.Prelude.{true, false, ◌≡◌, ℕ, suc, ◌+◌, ◌-◌, ◌*◌, ◌/◌, ◌%◌, ◌^◌, ◌≤◌, ◌<◌, eqb}
use Rattle.std.proofs.Common.{sym, ap, ◌∙◌, zero-le, suc-le-suc, div-one, pow-suc, le-div_iff_mul-le, one-add, arith, eqb-true, lt-ltb, shr-shr, pow_pos}
use Rattle.std.proofs.lemmas.Bool.{eqb-false}
use Rattle.std.proofs.Math.Arith.{mod-mul}
use Rattle.keys.specs.Keys.{has, with, without}

-- the key 0 goes by the lowest digit
pub has-zero : (m : ℕ) → has m 0 ≡ eqb (m % 2) 1
has-zero m = ap (λ (x : ℕ). eqb (x % 2) 1) (div-one m)

-- the keys of m above 0 are those of m / 2, each one higher
pub has-suc : (m k : ℕ) → has m (suc k) ≡ has (m / 2) k
has-suc m k = ap (λ (x : ℕ). eqb (m / 2 ^ x % 2) 1) (sym (one-add k)) ∙ ap (λ (x : ℕ). eqb (x % 2) 1) (sym (shr-shr m 1 k))

-- the digit of a key is 1
pub digit_in : (m k : ℕ) → has m k ≡ true → m / 2 ^ k % 2 ≡ 1
digit_in m k h = eqb-true (m / 2 ^ k % 2) 1 h

-- the digit of what is no key is 0
pub digit_out : (m k : ℕ) → has m k ≡ false → m / 2 ^ k % 2 ≡ 0
digit_out m k h = omega (arith, eqb-false (m / 2 ^ k % 2) 1 h)

-- a set with the key k is no smaller a number than 2 ^ k
pub key_le : (m k : ℕ) → has m k ≡ true → 2 ^ k ≤ m
key_le m k h =
    let e : 1 ≤ m / 2 ^ k = omega (arith, digit_in m k h) in
    let l = (le-div_iff_mul-le (pow_pos k)).0 e in omega arith

-- a new key adds its power
pub with_new : (m k : ℕ) → k < 64 → has m k ≡ false → with m k ≡ m + 2 ^ k
unfolding with
with_new m k l h = simp (h, lt-ltb k 64 l)

-- a key that is taken out takes its power
pub without_key : (m k : ℕ) → has m k ≡ true → without m k ≡ m - 2 ^ k
unfolding without
without_key m k h = simp h

-- the k + 1 lowest digits of m are the k lowest of m / 2 and the lowest of m
pub mod-suc : (m k : ℕ) → m % 2 ^ suc k ≡ m / 2 % 2 ^ k * 2 + m % 2
mod-suc m k = ap (λ (x : ℕ). m % x) (pow-suc 2 k) ∙ mod-mul m (pow_pos k) (suc-le-suc zero-le)
