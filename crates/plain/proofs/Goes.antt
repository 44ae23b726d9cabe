-- A step that does not end its operation leaves the thread in phases 1 to 25; the step at 25 leaves it in phase 0.
use Rattle.std.specs.Prelude.{true, false, ◌≡◌, ℕ, ◌≤◌}
use Rattle.std.proofs.Common.{sym, ap, ◌∙◌, arith}
use Rattle.std.proofs.lemmas.Bool.{eqb-false}
use Rattle.rules.specs.State.{thread_at}
use Rattle.rules.specs.Rows.{rows, row25}
use Rattle.rules.specs.Range.{in_range}
use Rattle.rules.specs.Follow.{follows}
use Rattle.rules.specs.Step.{view_before, view_of, after, ends}
use Rattle.rules.specs.declared.state.Thread.{Thread}
use Rattle.rules.specs.declared.state.State.{State}
use Rattle.states.specs.Facts.{facts}
use Rattle.states.specs.Followed.{followed}
use Rattle.order.specs.Bridge.{thread_after, thread_row}
use Rattle.order.specs.Invariant.{Invariant}
use Rattle.plain.proofs.ZeroFollows.{last}

-- a thread that does not end its operation stays in phases 1 to 25
pub goes_on : {s : State} → Invariant s → in_range s ≡ true → (t : ℕ) → t ≤ 7 → ((thread_at s t).phase ≡ 0 → ⊥) → ends (thread_at s t) ≡ false
    → (thread_at (after s t) t).phase ≡ 0 → ⊥
unfolding view_of view_before
goes_on {s} i r t l n e z =
    last (thread_at s t).phase ((facts s r).threads t).numbers.phase (eqb-false (thread_at s t).phase 25 e)
    (ap (follows (thread_at s t).phase) (sym (sym (ap (λ (x : Thread). x.phase) (thread_after s t i.threads l)) ∙ z))
    ∙ followed (view_of s t) (omega (arith, n)) ((facts s r).threads t).numbers.phase)

pub ended : {s : State} → Invariant s → {t : ℕ} → t ≤ 7 → (thread_at s t).phase ≡ 25 → (thread_at (after s t) t).phase ≡ 0
unfolding after rows row25 view_of view_before
ended {s} i {t} l e = ap (λ (x : Thread). x.phase) (thread_row s t i.threads l 25 e)
