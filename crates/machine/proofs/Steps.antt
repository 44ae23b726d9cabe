-- Counted steps, one at a time: what a loop that has taken k of n steps knows.
use mathlib.Core.Path.{◌≡◌, refl, sym, ap, subst, ◌∙◌}
use mathlib.Core.Bool.{true, false}
use Prim.Native.Nat.{ℕ, suc, ◌+◌, ◌-◌, ◌≤◌, ◌<◌}
use native.Mathlib.Numerals.{add-one}
use native.Mathlib.Omega.{arith}
use Rattle.states.specs.Calls.{steps_tests}
use Rattle.rules.specs.State.{zero_place, thread_at}
use Rattle.rules.specs.Needs.{stuck}
use Rattle.rules.specs.Step.{view_before, next_of, view_of, apply, ends, after, refused_by, steps}
use Rattle.machine.specs.Commits.{Planned}
use Rattle.machine.specs.InPlace.{planned}
use Rattle.rules.specs.declared.state.State.{State}
use Rattle.rules.specs.declared.row.View.{View}
use Rattle.rules.specs.declared.row.Plan.{Plan}
use Rattle.std.specs.Prelude.{Ok}
use Rattle.rules.specs.declared.answer.Refusal.TheVariants.{Stuck}
use Rattle.rules.specs.declared.answer.RunReply.TheVariants.{Stops, Ends}

module _ (from s : State) (t n k : ℕ) where
  -- all have been taken
  pub all_taken : n ≤ k → steps (n - k) from s t k ≡ record { reply = Ok (Stops k (thread_at s t).phase); state = s }
  unfolding steps
  all_taken h = let e : n - k ≡ 0 = omega arith in rw e

  one_more : k < n → n - k ≡ suc (n - (k + 1))
  one_more h = omega arith

  pub is_stuck : k < n → stuck (view_of s t) ≡ true → steps (n - k) from s t k ≡ refused_by from Stuck
  is_stuck h e = rw (one_more h, steps_tests, e)

  pub has_ended : k < n → stuck (view_of s t) ≡ false → ends (thread_at s t) ≡ true
      → steps (n - k) from s t k ≡ record { reply = Ok (Ends (k + 1) (thread_at s t).answer (thread_at s t).commit); state = after s t }
  has_ended h e f = rw (one_more h, steps_tests, e, f, add-one)

  pub goes_on : k < n → stuck (view_of s t) ≡ false → ends (thread_at s t) ≡ false
      → steps (n - k) from s t k ≡ steps (n - (k + 1)) from (after s t) t (k + 1)
  goes_on h e f = rw (one_more h, steps_tests, e, f, add-one k)

-- the plan that `plan_of` gives of a step that is not stuck, carried out
pub carried_out : (s : State) (t : ℕ) (v : View) (p : Plan) → v ≡ view_of s t → Planned v p → stuck v ≡ false → apply s t p ≡ after s t
unfolding view_before view_of
carried_out s t v p e h k =
    planned s t (next_of (view_before s t)) zero_place refl refl p (subst (λ (w : View). Planned w p) e h) (ap stuck (sym e) ∙ k)
