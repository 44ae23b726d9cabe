-- Tests that hold, taken apart.
use Rattle.std.specs.Prelude.{Bool, true, false, cond, ◌&&◌, ◌||◌, List, [], ◌∷◌, map, ◌⊎◌, ◌≡◌, refl, ℕ, zero, suc, ◌<◌, eqb, get_or}
use Rattle.std.proofs.Common.{true≢false, inl, inr, sym, ap, ◌∙◌, not-suc-le-zero, arith, eqb-true}
use Rattle.std.proofs.lemmas.Bool.{eqb-false}
use Rattle.rules.specs.Refusals.{Ground, first}
use Rattle.rules.specs.declared.answer.Refusal.{Refusal}

-- both parts of a conjunction hold
pub both : (a b : Bool) → (a && b) ≡ true → (a ≡ true) × (b ≡ true)
both true b e = (refl, e)
both false b e = absurd (true≢false (sym e))

-- one part of a disjunction holds
pub either : (a b : Bool) → (a || b) ≡ true → (a ≡ true) ⊎ (b ≡ true)
either true b e = inl refl
either false b e = inr e

-- a and the tests of a list, as `◌&&◌` joins them
abbrev pub joined : Bool → List Bool → Bool
joined a [] = a
joined a (b ∷ bs) = joined (a && b) bs

-- each test of a list holds
abbrev pub Hold : List Bool → Type 0
Hold [] = Unit {0}
Hold (b ∷ bs) = (b ≡ true) × Hold bs

-- of a conjunction of any length each part holds
pub hold : (a : Bool) (bs : List Bool) → joined a bs ≡ true → Hold (a ∷ bs)
hold a [] e = (e, tt)
hold a (b ∷ bs) e = let h = hold (a && b) bs e in let p = both a b h.0 in (p.0, (p.1, h.1))

-- where each test of a list holds it holds at each index, and past the end for the default
pub each : {A : Type 0} (ok : A → Bool) (l : List A) (d : A) → Hold (map ok l) → ok d ≡ true → (i : ℕ) → ok (get_or l i d) ≡ true
each ok [] d h e i = e
each ok (x ∷ xs) d h e zero = h.0
each ok (x ∷ xs) d h e (suc i) = each ok xs d h.1 e i

-- what holds for both holds for the one that a test picks; each may go by how the test went
pub pick-by : {A : Type 0} (P : A → Type 0) (b : Bool) {x y : A} → (b ≡ true → P x) → (b ≡ false → P y) → P (cond b x y)
pick-by P true p q = p refl
pick-by P false p q = q refl

pub pick : {A : Type 0} (P : A → Type 0) (b : Bool) {x y : A} → P x → P y → P (cond b x y)
pick P b p q = pick-by P b (λ e. p) (λ e. q)

-- no refusal of a list applies
abbrev pub None : List Ground → Type 0
None [] = Unit {0}
None (g ∷ gs) = (g.applies ≡ false) × None gs

-- what holds of each refusal, and of what is accepted where none applies, holds of the first that applies
pub first_by : {A : Type 0} (P : A → Type 0) (gs : List Ground) (refuse : Refusal → A) (accept : A)
    → ((r : Refusal) → P (refuse r)) → (None gs → P accept) → P (first gs refuse accept)
first_by P [] refuse accept p q = q tt
first_by P (g ∷ gs) refuse accept p q =
    pick-by P g.applies (λ e. p g.refusal) (λ e. first_by P gs refuse accept p (λ h. q (e, h)))

-- a test holds for each number below a bound
abbrev pub all_below : ℕ → (ℕ → Bool) → Bool
all_below zero test = true
all_below (suc n) test = test n && all_below n test

-- and so for any one of them
pub all_below-at : (n : ℕ) (test : ℕ → Bool) → all_below n test ≡ true → (p : ℕ) → p < n → test p ≡ true
all_below-at zero test h p l = absurd (not-suc-le-zero l)
all_below-at (suc n) test h p l = let b = both (test n) (all_below n test) h in go (eqb p n) refl b.0 (all_below-at n test b.1 p)
  where
    go : (e : Bool) → eqb p n ≡ e → test n ≡ true → (p < n → test p ≡ true) → test p ≡ true
    go true e here rest = ap test (eqb-true p n e) ∙ here
    go false e here rest = let d = eqb-false p n e in rest (omega arith)
