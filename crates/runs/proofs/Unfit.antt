-- Events and logs that are refused: each equation of Fits and of Right is needed.
use Rattle.std.specs.Prelude.{[], ◌∷◌, ◌≡◌, ℕ}
use Rattle.std.proofs.Common.{ap, arith}
use Rattle.runs.specs.PlainSet.{empty}
use Rattle.runs.specs.Log.{Entry, Right}
use Rattle.runs.specs.Events.{begin, commit, finish, nothing, due, done, nothing_due, Fits}
use Rattle.runs.specs.Unfit.{inserted}

-- a thread begins while it has an operation
pub begun_twice : Fits nothing_due (begin 0 0 5 ∷ begin 0 0 9 ∷ []) → ⊥
begun_twice x =
    let e : due 0 5 ≡ nothing = x.1.0 in
    let z : ◌≡◌ {A = ℕ} 0 1 = cc in
    omega arith

-- a thread commits another operation than the one it has begun
pub committed_another : Fits nothing_due (begin 0 0 9 ∷ commit (inserted 1 1) ∷ []) → ⊥
committed_another x =
    let e : due 0 9 ≡ due 0 5 = x.1.0 in
    let z : ◌≡◌ {A = ℕ} 9 5 = cc in
    omega arith

-- an operation replies another answer than the one it has committed
pub replied_another : Fits nothing_due (begin 0 0 5 ∷ commit (inserted 1 1) ∷ finish (inserted 0 1) ∷ []) → ⊥
replied_another x =
    let e : done (inserted 1 1) ≡ done (inserted 0 1) = x.1.1.0 in
    let z : inserted 1 1 ≡ inserted 0 1 = cc in
    omega (arith, ap (λ (y : Entry). y.answer) z)

-- the insert of an absent key answers 0
pub answered_0 : Right empty 0 (inserted 0 1 ∷ []) → ⊥
answered_0 x = let e : ◌≡◌ {A = ℕ} 0 1 = x.0 in omega arith

-- the insert of a present key answers 1
pub answered_1 : Right empty 0 (inserted 1 1 ∷ inserted 1 2 ∷ []) → ⊥
answered_1 x = let e : ◌≡◌ {A = ℕ} 1 0 = x.2.0 in omega arith

-- the first commit has the number 2
pub numbered_2 : Right empty 0 (inserted 1 2 ∷ []) → ⊥
numbered_2 x = let e : ◌≡◌ {A = ℕ} 2 1 = x.1 in omega arith
