-- A step from a phase to itself waits at 4, 13 or 17, and only for a lock that is held, or goes on with a walk.
use Rattle.std.specs.Prelude.{Bool, ◌||◌, ◌⊎◌, ◌≡◌, ℕ, suc, ◌≤◌, get_or}
use Rattle.std.proofs.Math.Bool.{true, false, not, or-true}
use Rattle.std.proofs.Common.{true≢false, sym, ◌∙◌, eqb-true, eq-eqb}
use Rattle.std.proofs.Math.Logic.{inl, inr, ⊎_elim}
use Rattle.std.proofs.Math.Path.{refl, ap, subst}
use native.Mathlib.Omega.{arith}
use Rattle.std.proofs.Math.Dec.{eqb}
use Rattle.rules.specs.Places.{is_free}
use Rattle.rules.specs.Rows.{rows, row0, row4, row13, row17, plan_of}
use Rattle.rules.specs.Follow.{follows}
use Rattle.rules.specs.declared.state.Place.{Place}
use Rattle.rules.specs.declared.row.View.{View}
use Rattle.rules.specs.declared.row.Plan.{Plan}
use Rattle.states.specs.Tests.{either, all_below-at}
use Rattle.states.specs.Phase.{row_at}
use Rattle.states.specs.Followed.{followed}
use Rattle.states.specs.Waits.{waits_at, waits}
use Rattle.runs.specs.Passes.{walk_goes_on}

-- by the table a phase that may follow itself is 4, 13, 17 or one at which a walk goes on
abbrev stayers : ℕ → Bool
stayers p = not (follows p p) || eqb p 4 || eqb p 13 || eqb p 17 || walk_goes_on p

module _ (v : View) (e : (plan_of v).thread.phase ≡ v.thread.phase) where
  -- a lock that is free is taken, and the thread goes to the next phase: so this one is held
  held_at : (p : ℕ) (x : Place) → (is_free x ≡ true → (get_or rows p row0 v).thread.phase ≡ suc p) → v.thread.phase ≡ p → waits_at p x v ≡ true
  held_at p x f h = go (is_free x) refl
    where
      go : (b : Bool) → is_free x ≡ b → waits_at p x v ≡ true
      go true a = let n : suc p ≡ p = sym (f a) ∙ ap (λ (q : Plan). q.thread.phase) (sym (row_at v p h)) ∙ e ∙ h in absurd (omega arith)
      go false a = rw (eq-eqb v.thread.phase p h, a)

  -- in any state, a step from a phase to itself is a wait at 4, 13 or 17 with the lock there held, or goes on with a walk
  pub stays_at : 1 ≤ v.thread.phase → v.thread.phase ≤ 25 → (waits v ≡ true) ⊎ (walk_goes_on v.thread.phase ≡ true)
  unfolding rows row4 row13 row17
  stays_at l h =
      let p = v.thread.phase in
      let no = not (follows p p) in
      let own : follows p p ≡ true = subst (λ (q : ℕ). follows p q ≡ true) e (followed v l h) in
      ⊎_elim (λ x. inl (⊎_elim (λ y. ⊎_elim (λ z. ⊎_elim (λ n. absurd (true≢false (sym n ∙ ap not own))) at4 (either no (eqb p 4) z)) at13
      (either (no || eqb p 4) (eqb p 13) y)) at17 (either (no || eqb p 4 || eqb p 13) (eqb p 17) x))) inr
      (either (no || eqb p 4 || eqb p 13 || eqb p 17) (walk_goes_on p) (all_below-at 26 stayers refl p (omega arith)))
    where
      at4 : eqb v.thread.phase 4 ≡ true → waits v ≡ true
      at4 a = simp (held_at 4 v.base (λ f. simp f) (eqb-true v.thread.phase 4 a))

      at13 : eqb v.thread.phase 13 ≡ true → waits v ≡ true
      at13 a = simp (held_at 13 v.prev (λ f. simp f) (eqb-true v.thread.phase 13 a), or-true)

      at17 : eqb v.thread.phase 17 ≡ true → waits v ≡ true
      at17 a = simp (held_at 17 v.grandparent (λ f. simp f) (eqb-true v.thread.phase 17 a), or-true)
