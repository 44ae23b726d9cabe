-- By the table of phases, phase 0 follows phase 25 alone.
use Rattle.std.specs.Prelude.{Bool, true, false, not, ◌&&◌, ◌||◌, ◌≡◌, refl, ℕ, zero, suc, ◌≤◌, ◌<◌, eqb}
use Rattle.std.proofs.Common.{true≢false, sym, ap, ◌∙◌, arith, ne_eqb}
use Rattle.rules.specs.Follow.{follows}
use Rattle.states.specs.Tests.{both}
use Rattle.graph.specs.Cases.{Same, same, apart, compared}

-- a test of the numbers below n
all_below : (ℕ → Bool) → ℕ → Bool
all_below f zero = true
all_below f (suc n) = f n && all_below f n

all_below_lem : (f : ℕ → Bool) (n : ℕ) → all_below f n ≡ true → (p : ℕ) → p < n → f p ≡ true
unfolding all_below
all_below_lem f zero e p l = absurd (omega arith)
all_below_lem f (suc n) e p l = go (compared p n) (all_below_lem f n (both (f n) (all_below f n) e).1 p)
  where
    go : Same p n → (p < n → f p ≡ true) → f p ≡ true
    go (same q) r = ap f q ∙ (both (f n) (all_below f n) e).0
    go (apart d) r = r (omega arith)

-- phase 0 follows phase 25 alone
pub last : (p : ℕ) → p ≤ 25 → (p ≡ 25 → ⊥) → follows p 0 ≡ true → ⊥
unfolding all_below
last p l n e = no (eqb p 25) (follows p 0) (ne_eqb p 25 n) e (all_below_lem (λ q. eqb q 25 || not (follows q 0)) 26 refl p (omega arith))
  where
    no : (a b : Bool) → a ≡ false → b ≡ true → (a || not b) ≡ true → ⊥
    no true b x y z = true≢false x
    no false true x y z = true≢false (sym z)
    no false false x y z = true≢false (sym y)
