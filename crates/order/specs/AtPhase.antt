-- A thread's condition at a known phase.
use Rattle.std.specs.Prelude.{Bool, true, false, ◌≡◌, refl, ℕ, ◌<◌, ltb, get_or}
use Rattle.std.proofs.Common.{subst, ltb-true, ltb-false}
use Rattle.std.proofs.Math.ListN.{get_or-eq_default}
use Rattle.rules.specs.declared.state.Thread.{Thread}
use Rattle.order.specs.World.{World}
use Rattle.order.specs.Stages.{stages, Stage}

-- the condition at phase n
pub at_phase_lem : {w : World} {me : ℕ} {t : Thread} (n : ℕ) → t.phase ≡ n → Stage w me t → get_or (stages w me t) n ⊥
at_phase_lem {w} {me} {t} n e c = subst (λ (m : ℕ). get_or (stages w me t) m ⊥) e c.holds

-- a phase is at most 25
pub phase_small : {w : World} {me : ℕ} {t : Thread} → Stage w me t → t.phase < 26
phase_small {w} {me} {t} s = go (ltb t.phase 26) refl
  where
    go : (b : Bool) → ltb t.phase 26 ≡ b → t.phase < 26
    go true e = ltb-true t.phase 26 e
    go false e =
        absurd (subst (λ (x : Type 0). x) (get_or-eq_default (stages w me t) ⊥ (ltb-false t.phase 26 e)) s.holds)
