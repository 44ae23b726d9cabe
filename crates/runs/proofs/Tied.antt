-- What ties the plain set to the machine: an operation does to the key set of a base, and answers, what it does to the plain set and answers there.
use Rattle.std.specs.Prelude.{Bool, true, false, ◌≡◌, refl, ℕ, zero, suc, ◌<◌, eqb}
use Rattle.keys.specs.Keys.{has, rising, list_of}
use Rattle.keys.proofs.Laws.{has-with, has-without}
use Rattle.rules.specs.Places.{keys_after, answer_of}
use Rattle.runs.specs.PlainSet.{PlainSet, set_after, replies, numbers, only, keys_in}

-- the keys after the operation
pub keys_tied : (o ks k j : ℕ) → k < 64 → has (keys_after o ks k) j ≡ set_after o k (has ks) j
keys_tied o ks k j l = go (eqb o 0) (eqb o 1) refl refl
  where
    go : (a b : Bool) → eqb o 0 ≡ a → eqb o 1 ≡ b → has (keys_after o ks k) j ≡ set_after o k (has ks) j
    go true b e f = rw e (has-with ks k j l)
    go false true e f = rw (e, f) (has-without ks k j)
    go false false e f = rw (e, f)

-- the answer
pub answer_tied : (o ks k : ℕ) → answer_of o (has ks k) ≡ replies o k (has ks)
answer_tied o ks k = go (eqb o 0) (eqb o 1) refl refl
  where
    go : (a b : Bool) → eqb o 0 ≡ a → eqb o 1 ≡ b → answer_of o (has ks k) ≡ replies o k (has ks)
    go true b e f = rw e
    go false true e f = rw (e, f)
    go false false e f = rw (e, f)

-- the keys as a list
pub list_tied : (ks : ℕ) (p : PlainSet) → ((j : ℕ) → has ks j ≡ p j) → list_of ks ≡ keys_in p
unfolding list_of rising only numbers
list_tied ks p e = go 0 64
  where
    go : (i n : ℕ) → rising ks i n ≡ only p (numbers i n)
    go i zero = refl
    go i (suc n) = rw (e i, go (suc i) n)
