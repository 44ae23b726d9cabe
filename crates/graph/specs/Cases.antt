-- Case types: a test with its equation, two numbers that are equal or not, a count that is 0 or not.
use Rattle.std.specs.Prelude.{Bool, true, false, cond, not, ◌≡◌, refl, ℕ, zero, suc, ◌+◌, ◌≤◌, eqb}
use Rattle.std.proofs.Common.{sym, ◌∙◌, zero-le, suc-le-suc, arith, eqb-true, eq-eqb, ne_eqb}
use Rattle.std.proofs.lemmas.Bool.{eqb-false}

-- a test holds or fails
pub data Test (b : Bool) : Type 0 where
  holds : b ≡ true → Test b
  fails : b ≡ false → Test b

pub test : (b : Bool) → Test b
test true = holds refl
test false = fails refl

-- a side is the side v or the other
pub data Way (a v : Bool) : Type 0 where
  onto : a ≡ v → Way a v
  off : a ≡ not v → Way a v

pub way : (a v : Bool) → Way a v
way true true = onto refl
way true false = off refl
way false true = off refl
way false false = onto refl

-- two numbers are the same or not
pub data Same (x y : ℕ) : Type 0 where
  same : x ≡ y → Same x y
  apart : (x ≡ y → ⊥) → Same x y

pub compared : (x y : ℕ) → Same x y
compared x y = go (eqb x y) refl
  where
    go : (b : Bool) → eqb x y ≡ b → Same x y
    go true e = same (eqb-true x y e)
    go false e = apart (eqb-false x y e)

-- a count is 0 or at least 1
pub data Amount (n : ℕ) : Type 0 where
  none : n ≡ 0 → Amount n
  some : 1 ≤ n → Amount n

pub amount : (n : ℕ) → Amount n
amount zero = none refl
amount (suc n) = some (suc-le-suc zero-le)

-- 1 where x is y, else 0
pub is : ℕ → ℕ → ℕ
is x y = cond (eqb x y) 1 0

pub is_same : {x y : ℕ} → x ≡ y → is x y ≡ 1
unfolding is
is_same {x} {y} e = rw (eq-eqb x y e)

pub is_apart : {x y : ℕ} → (x ≡ y → ⊥) → is x y ≡ 0
unfolding is
is_apart {x} {y} h = rw (ne_eqb x y h)

pub is_some : {x y : ℕ} → 1 ≤ is x y → x ≡ y
is_some {x} {y} l = go (compared x y)
  where
    go : Same x y → x ≡ y
    go (same e) = e
    go (apart h) = absurd (omega (arith, is_apart h))

pub is_le : (x y : ℕ) → is x y ≤ 1
is_le x y = go (compared x y)
  where
    go : Same x y → is x y ≤ 1
    go (same e) = omega (arith, is_same e)
    go (apart h) = omega (arith, is_apart h)

-- no number is two
pub is_two : (y : ℕ) {a b : ℕ} → (a ≡ b → ⊥) → is y a + is y b ≤ 1
is_two y {a} {b} n = go (compared y a)
  where
    go : Same y a → is y a + is y b ≤ 1
    go (same e) = omega (arith, is_le y a, is_apart {x = y} {y = b} (λ q. n (sym e ∙ q)))
    go (apart h) = omega (arith, is_apart h, is_le y b)
