-- Steps wait at 4, 13 and 17 alone, and only for a lock that is held: any other accepted step changes the state.
use Rattle.std.specs.Prelude.{Bool, ◌&&◌, ◌≡◌, ℕ, ◌≤◌, ltb}
use Rattle.std.proofs.Math.Bool.{true, false, not}
use Rattle.std.proofs.Common.{sym, ◌∙◌, eqb-true, ltb-false}
use Rattle.std.proofs.Math.Logic.{⊎_elim}
use Rattle.std.proofs.Math.Path.{refl, ap}
use native.Mathlib.Omega.{arith}
use Rattle.std.proofs.lemmas.Bool.{eqb-false, not-false}
use Rattle.std.proofs.Math.Dec.{eqb}
use Rattle.rules.specs.State.{thread_at}
use Rattle.rules.specs.Rows.{plan_of}
use Rattle.rules.specs.Needs.{stuck}
use Rattle.rules.specs.Range.{in_range}
use Rattle.rules.specs.Step.{view_before, view_of, after, step_of, Replied}
use Rattle.rules.specs.declared.state.Thread.{Thread}
use Rattle.rules.specs.declared.state.State.{State}
use Rattle.states.specs.Tests.{pick-by}
use Rattle.states.specs.Facts.{facts}
use Rattle.states.specs.Waits.{waits}
use Rattle.runs.specs.Passes.{walk_goes_on, takes_route}
use Rattle.order.specs.Bridge.{thread_after}
use Rattle.order.specs.Invariant.{Invariant}
use Rattle.order.specs.WalkRows.{walk_rises, walk_route}
use Rattle.order.proofs.Stays.{stays_at}
use Rattle.rules.specs.declared.answer.StepReply.{StepReply}
use Rattle.rules.specs.Refusals.{reply_number}

module _ {s : State} (i : Invariant s) {t : ℕ} (l : t ≤ 7) (e : after s t ≡ s) where
  -- a walk that goes on comes to a greater route, or to a base and then to another phase
  no_walk : walk_goes_on (thread_at s t).phase ≡ true → ⊥
  unfolding takes_route
  no_walk a = let n = rw e at (walk_rises i l a (rw (e, walk_route i l a) (apart (thread_at s t).phase))) in omega arith
    where
      apart : (p : ℕ) → not (eqb p 22 && eqb p 23) ≡ true
      apart p = go (eqb p 22) (eqb p 23) (eqb-true p 22) (eqb-true p 23)
        where
          go : (a b : Bool) → (a ≡ true → p ≡ 22) → (b ≡ true → p ≡ 23) → not (a && b) ≡ true
          go true true f g = let x = f refl in let y = g refl in absurd (omega arith)
          go true false f g = refl
          go false b f g = refl

  still : 1 ≤ (thread_at s t).phase → (thread_at s t).phase ≤ 25 → waits (view_of s t) ≡ true
  unfolding view_of view_before
  still m h =
      let same : (plan_of (view_of s t)).thread.phase ≡ (thread_at s t).phase =
      ap (λ (x : Thread). x.phase) (sym (thread_after s t i.threads l)) ∙ ap (λ (x : State). (thread_at x t).phase) e in
      ⊎_elim (λ w. w) (λ a. absurd (no_walk a)) (stays_at (view_of s t) same m h)

-- an accepted step that leaves the state as it was waits, at 4, 13 or 17, for a lock that is held
pub stays_waits : {s : State} → Invariant s → (t : ℕ) → reply_number (step_of s t).reply ≡ 0 → (step_of s t).state ≡ s → waits (view_of s t) ≡ true
unfolding step_of
stays_waits {s} i t =
    let Q : Replied StepReply → Type 0 = λ b. reply_number b.reply ≡ 0 → b.state ≡ s → waits (view_of s t) ≡ true in
    pick-by Q (not (in_range s)) (λ a n e. absurd (omega arith)) λ r.
    pick-by Q (ltb 7 t) (λ a n e. absurd (omega arith)) λ l.
    pick-by Q (eqb (thread_at s t).phase 0) (λ a n e. absurd (omega arith)) λ b.
    pick-by Q (stuck (view_of s t)) (λ a n e. absurd (omega arith)) λ c n e.
    still i (ltb-false 7 t l) e (omega (arith, eqb-false (thread_at s t).phase 0 b)) ((facts s (not-false _ r)).threads t).numbers.phase
