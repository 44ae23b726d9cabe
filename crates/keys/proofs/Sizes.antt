-- How many keys a set has, its keys as a list, and its split key.
use Rattle.std.specs.Prelude.{Bool, true, false, cond, List, ◌∷◌, ◌≡◌, refl, ℕ, zero, suc, ◌+◌, ◌-◌, ◌*◌, ◌/◌, ◌%◌, ◌^◌, ◌<◌, ◌≤◌, ltb, eqb, length, get_or}
use Rattle.std.proofs.Common.{sym, ap, ◌∙◌, zero-le, suc-le-suc, mod-lt, mod-eq_of_lt, div-one, lt_trans, lt_of_not-le, add-one, arith, eq-eqb, ne_eqb, eqb-true, ltb-true, ltb-false, pow_pos, shr-shr}
use Rattle.std.proofs.Math.Nat.{mod-one}
use Rattle.std.proofs.lemmas.Bool.{eqb-false}
use Rattle.std.specs.Int.Count.{ones, ones_step}
use Rattle.std.proofs.lemmas.Nat.{ones_cat, ones-le}
use Rattle.std.proofs.Math.Pow.{pow-lt, split}
use Rattle.keys.proofs.Digits.{has-suc, digit_in, digit_out, key_le, with_new, without_key, mod-suc}
use Rattle.keys.specs.Keys.{has, with, without, below, from, rising, list_of, size, split_key}
use Rattle.keys.proofs.Laws.{has_small, has_large, has-without, with-lt, without-lt, below-lt, from-lt}
use Rattle.keys.specs.Sizes.{is_in}

-- i in front of a list where it is a key: the step of rising
abbrev front : Bool → ℕ → List ℕ → List ℕ
front b i r = cond b (i ∷ r) r

-- the digits of 0
ones-zero : ones 0 ≡ 0
unfolding ones
ones-zero = refl

-- the ones among n + 1 digits from i on: the digit i, and the ones among the n digits after it
ones-from : (m i n : ℕ) → ones (m / 2 ^ i % 2 ^ suc n) ≡ m / 2 ^ i % 2 + ones (m / 2 ^ suc i % 2 ^ n)
ones-from m i n =
    let x = m / 2 ^ i in
    let q = x / 2 % 2 ^ n in
    let low : (q * 2 + x % 2) % 2 ≡ x % 2 = omega arith in
    let high : (q * 2 + x % 2) / 2 ≡ q = omega arith in
    let next : x / 2 ≡ m / 2 ^ suc i = rw (← add-one i) (shr-shr m i 1) in
    rw (mod-suc, ones_step (q * 2 + x % 2), low, high, next)

-- the keys among the n numbers from i on are as many as the ones among as many digits
rising-ones : (n m i : ℕ) → length (rising m i n) ≡ ones (m / 2 ^ i % 2 ^ n)
unfolding rising
rising-ones zero m i = rw mod-one (sym ones-zero)
rising-ones (suc n) m i = go (has m i) refl (rising-ones n m (suc i))
  where
    go : (b : Bool) → has m i ≡ b → length (rising m (suc i) n) ≡ ones (m / 2 ^ suc i % 2 ^ n)
        → length (front b i (rising m (suc i) n)) ≡ ones (m / 2 ^ i % 2 ^ suc n)
    go true h e = omega (arith, ones-from m i n, digit_in m i h)
    go false h e = omega (arith, ones-from m i n, digit_out m i h)

-- the keys are as many as the ones among 64 digits
size-mod : (m : ℕ) → size m ≡ ones (m % 2 ^ 64)
unfolding size list_of
size-mod m = rising-ones 64 m 0 ∙ ap (λ (x : ℕ). ones (x % 2 ^ 64)) (div-one m)

-- a set has as many keys as its number has ones
pub size-ones : (m : ℕ) → m < 2 ^ 64 → size m ≡ ones m
size-ones m l = size-mod m ∙ ap ones (mod-eq_of_lt l)

-- a set has at most 64 keys
pub size-le : (m : ℕ) → size m ≤ 64
size-le m = rw size-mod (ones-le 64 (m % 2 ^ 64) (mod-lt m (pow_pos 64)))

-- the empty set has no key
pub size_none : size 0 ≡ 0
size_none = size-mod 0 ∙ ones-zero

-- one more digit that is 1
ones_plus : (k m : ℕ) → has m k ≡ false → ones (m + 2 ^ k) ≡ ones m + 1
ones_plus zero m h =
    let e : (m + 1) / 2 ≡ m / 2 = omega (arith, digit_out m 0 h) in
    omega (arith, digit_out m 0 h, ones_step (m + 1), ones_step m, ap ones e)
ones_plus (suc k) m h =
    let e : (m + 2 ^ suc k) / 2 ≡ m / 2 + 2 ^ k = omega arith in
    omega (arith, ones_step (m + 2 ^ suc k), ones_step m, ap ones e, ones_plus k (m / 2) (sym (has-suc m k) ∙ h))

-- a new key makes the set one larger
pub size-with : (m k : ℕ) → m < 2 ^ 64 → k < 64 → has m k ≡ false → size (with m k) ≡ size m + 1
size-with m k l g h =
    rw (size-ones (with m k) (with-lt m k l), size-ones m l, with_new m k g h) (ones_plus k m h)

-- a key that is taken out makes the set one smaller
pub size-without : (m k : ℕ) → m < 2 ^ 64 → has m k ≡ true → size (without m k) + 1 ≡ size m
size-without m k l h =
    let w = without m k in
    let gone : has w k ≡ false = rw (has-without m k k, eq-eqb k k refl) in
    let g = has_small m k l h in
    let back : with w k ≡ m = omega (arith, with_new w k g gone, without_key m k h, key_le m k h) in
    sym (size-with w k (without-lt m k l) g gone) ∙ ap size back

-- the two parts of a set at k have together as many keys as the set
pub size_parts : (m k : ℕ) → m < 2 ^ 64 → size (below m k) + size (from m k) ≡ size m
unfolding below from
size_parts m k l =
    let e : m - m % 2 ^ k ≡ m / 2 ^ k * 2 ^ k + 0 = omega (arith, split m k) in
    let parts = ones_cat k (m / 2 ^ k) (m % 2 ^ k) (mod-lt m (pow_pos k)) in
    let high = ones_cat k (m / 2 ^ k) 0 (pow_pos k) in
    rw (size-ones (m % 2 ^ k) (below-lt m k l), size-ones (m - m % 2 ^ k) (from-lt m k l), size-ones m l, e)
    (omega (arith, parts, high, ones-zero, ap ones (split m k)))

-- a number before i or after the n numbers is not listed
not-rising : (n m i k : ℕ) → (i ≤ k → i + n ≤ k) → is_in k (rising m i n) ≡ false
unfolding is_in rising
not-rising zero m i k far = refl
not-rising (suc n) m i k far = go (has m i) (not-rising n m (suc i) k (λ q. omega (arith, far (omega arith))))
  where
    go : (b : Bool) → is_in k (rising m (suc i) n) ≡ false → is_in k (front b i (rising m (suc i) n)) ≡ false
    go true e = rw (ne_eqb k i (λ q. omega (arith, far (omega arith)))) e
    go false e = e

-- one of the n numbers is listed where it is a key
in_rising : (n m i k : ℕ) → i ≤ k → k < i + n → is_in k (rising m i n) ≡ has m k
unfolding is_in rising
in_rising zero m i k l g = absurd (omega arith)
in_rising (suc n) m i k l g =
    go (has m i) refl (eqb k i) refl (λ (q : i < k). in_rising n m (suc i) k q (omega arith))
  where
    go : (b : Bool) → has m i ≡ b → (c : Bool) → eqb k i ≡ c → (i < k → is_in k (rising m (suc i) n) ≡ has m k)
        → is_in k (front b i (rising m (suc i) n)) ≡ has m k
    go true h true e rest = rw (e, eqb-true k i e) (sym h)
    go true h false e rest = rw e (rest (omega (arith, eqb-false k i e)))
    go false h true e rest = not-rising n m (suc i) k (λ q. omega (arith, eqb-true k i e)) ∙ sym (rw (eqb-true k i e) h)
    go false h false e rest = rest (omega (arith, eqb-false k i e))

-- what stands in the list of a set are its keys
pub list_of-has : (m k : ℕ) → m < 2 ^ 64 → is_in k (list_of m) ≡ has m k
unfolding list_of
list_of-has m k l = go (ltb k 64) refl
  where
    go : (b : Bool) → ltb k 64 ≡ b → is_in k (rising m 0 64) ≡ has m k
    go true e = in_rising 64 m 0 k zero-le (ltb-true k 64 e)
    go false e = not-rising 64 m 0 k (λ q. ltb-false k 64 e) ∙ sym (has_large m k l (ltb-false k 64 e))

-- k is one of the n numbers from i on, and a key with p keys of m before it there
record Stands (m i n p k : ℕ) : Type 0 where
  steps : ℕ
  place : k ≡ i + steps
  near : steps < n
  key : has m k ≡ true
  before : length (rising m i steps) ≡ p

-- from one number earlier there is one key more before k where that number is a key
earlier : (m i n p k : ℕ) → Stands m (suc i) n p k → Stands m i (suc n) (cond (has m i) (suc p) p) k
unfolding rising
earlier m i n p k s = record {
  steps = suc s.steps;
  place = omega arith;
  near = omega arith;
  key = s.key;
  before = go (has m i);
}
  where
    go : (b : Bool) → length (front b i (rising m (suc i) s.steps)) ≡ cond b (suc p) p
    go true = ap suc s.before
    go false = s.before

-- the key that stands at p
rising-at : (n m i p : ℕ) → p < length (rising m i n) → Stands m i n p (get_or (rising m i n) p 0)
unfolding rising
rising-at zero m i p l = absurd (omega arith)
rising-at (suc n) m i p l = go (has m i) refl p l (λ q g. earlier m i n q _ (rising-at n m (suc i) q g))
  where
    go : (b : Bool) → has m i ≡ b → (p : ℕ) → p < length (front b i (rising m (suc i) n))
        → ((q : ℕ) → q < length (rising m (suc i) n) → Stands m i (suc n) (cond (has m i) (suc q) q) (get_or (rising m (suc i) n) q 0))
        → Stands m i (suc n) p (get_or (front b i (rising m (suc i) n)) p 0)
    go true h zero l rest = record { steps = 0; place = omega arith; near = omega arith; key = h; before = refl }
    go true h (suc p) l rest = rw h at (rest p (omega arith))
    go false h p l rest = rw h at (rest p l)

-- it is a key
pub key_has : (m p : ℕ) → p < size m → has m (get_or (list_of m) p 0) ≡ true
unfolding size list_of
key_has m p l = (rising-at 64 m 0 p l).key

-- it is below 64
pub key_small : (m p : ℕ) → p < size m → get_or (list_of m) p 0 < 64
unfolding size list_of
key_small m p l = omega (arith, rising-at 64 m 0 p l)

-- the keys under k are those among the k numbers from 0 on
size_below : (m k : ℕ) → k < 64 → size (below m k) ≡ length (rising m 0 k)
unfolding below
size_below m k l =
    let small : m % 2 ^ k < 2 ^ 64 = lt_trans (mod-lt m (pow_pos k)) (pow-lt l) in
    rw (size-ones (m % 2 ^ k) small, rising-ones k m 0, div-one m)

-- p keys are smaller
pub key_before : (m p : ℕ) → p < size m → size (below m (get_or (list_of m) p 0)) ≡ p
unfolding size list_of
key_before m p l =
    let s = rising-at 64 m 0 p l in
    let e : get_or (list_of m) p 0 ≡ s.steps = omega (arith, s.place) in
    size_below m (get_or (list_of m) p 0) (key_small m p l) ∙ ap (λ (n : ℕ). length (rising m 0 n)) e ∙ s.before

-- among more numbers are no fewer keys
rising_le : (a b m i : ℕ) → a ≤ b → length (rising m i a) ≤ length (rising m i b)
unfolding rising
rising_le zero b m i l = zero-le
rising_le (suc a) zero m i l = absurd (omega arith)
rising_le (suc a) (suc b) m i l = go (has m i) (rising_le a b m (suc i) (omega arith))
  where
    go : (h : Bool) → length (rising m (suc i) a) ≤ length (rising m (suc i) b)
        → length (front h i (rising m (suc i) a)) ≤ length (front h i (rising m (suc i) b))
    go true e = suc-le-suc e
    go false e = e

-- a later key is larger
pub key_rising : (m p q : ℕ) → p < q → q < size m → get_or (list_of m) p 0 < get_or (list_of m) q 0
unfolding size list_of
key_rising m p q l g =
    let a = rising-at 64 m 0 p (lt_trans l g) in
    let b = rising-at 64 m 0 q g in
    lt_of_not-le (λ (r : get_or (list_of m) q 0 ≤ get_or (list_of m) p 0).
    omega (arith, a.before, b.before, rising_le b.steps a.steps m 0 (omega (arith, a.place, b.place))))

-- the split key is a key
pub split-has : (m : ℕ) → 1 ≤ size m → has m (split_key m) ≡ true
unfolding split_key
split-has m l = key_has m (size m / 2) (omega arith)

-- the split key is below 64
pub split_small : (m : ℕ) → 1 ≤ size m → split_key m < 64
unfolding split_key
split_small m l = key_small m (size m / 2) (omega arith)

-- half of the keys, rounded down, are below the split key
pub split_below : (m : ℕ) → 1 ≤ size m → size (below m (split_key m)) ≡ size m / 2
unfolding split_key
split_below m l = key_before m (size m / 2) (omega arith)

-- a set of two keys or more has keys on both sides of its split key
pub split_parts : (m : ℕ) → m < 2 ^ 64 → 2 ≤ size m → (1 ≤ size (below m (split_key m))) × (1 ≤ size (from m (split_key m)))
split_parts m l g = omega (arith, split_below m (omega arith), size_parts m (split_key m) l)
