-- The rows by their phase: what is shown of each row holds for the plan of any thread.
use Rattle.std.specs.Prelude.{List, [], ◌∷◌, ◌≡◌, ℕ, zero, suc, ◌+◌, ◌≤◌, ◌<◌, length, get_or}
use Rattle.std.proofs.Common.{ap, add-zero, add-suc, suc-add, zero-add, arith}
use Rattle.rules.specs.Rows.{rows, row0, plan_of}
use Rattle.rules.specs.declared.row.View.{View}
use Rattle.rules.specs.declared.row.Plan.{Plan}

-- "A thread's phase is the step it takes next"
pub row_at : (v : View) (p : ℕ) → v.thread.phase ≡ p → plan_of v ≡ get_or rows p row0 v
unfolding plan_of
row_at v p e = ap (λ (n : ℕ). get_or rows n row0 v) e

-- P of each row of a list and its phase, where the first has phase n
pub data Each (P : ℕ → (View → Plan) → Type 0) : ℕ → List (View → Plan) → Type 0 where
  end : {n : ℕ} → Each P n []
  ◌then◌ : {n : ℕ} {r : View → Plan} {rs : List (View → Plan)} → P n r → Each P (suc n) rs → Each P n (r ∷ rs)

infixr 20 ◌then◌
-- row i of the list, where row0 has P past its end
nth : {P : ℕ → (View → Plan) → Type 0} {n : ℕ} {rs : List (View → Plan)} → Each P n rs
    → ((p : ℕ) → n + length rs ≤ p → P p row0) → (i : ℕ) → P (n + i) (get_or rs i row0)
nth {n = n} end d i = d (n + i) (omega arith)
nth (p then ps) d zero = rw add-zero p
nth (p then ps) d (suc i) = rw (add-suc, ← suc-add) (nth ps (λ q l. d q (omega arith)) i)

-- what is shown of each row, of the row at a phase; there is no row past 25
pub by_phase : {P : ℕ → (View → Plan) → Type 0} → Each P 0 rows → ((p : ℕ) → 25 < p → P p row0) → (p : ℕ) → P p (get_or rows p row0)
unfolding rows
by_phase ps d p = rw zero-add at (nth ps d p)
