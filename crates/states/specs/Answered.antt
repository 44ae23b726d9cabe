-- The number that a step and counted steps answer is that of their list of refusals, and the values are those that the states say.
use Rattle.std.specs.Prelude.{Bool, true, false, cond, List, [], ◌∷◌, ◌≡◌, refl, ℕ, zero, suc, ◌+◌, ◌-◌, ◌<◌, eqb, length, get_or, Ok}
use Rattle.std.proofs.Common.{true≢false, ap, ◌∙◌, zero-add, add-zero, add-suc, suc-add, arith, eqb-true, get_or-set_same}
use Rattle.states.specs.Tests.{None}
use Rattle.states.specs.Phase.{row_at}
use Rattle.states.specs.Calls.{steps_tests}
use Rattle.rules.specs.State.{zero_thread, thread_at}
use Rattle.rules.specs.Rows.{rows, row25, plan_of}
use Rattle.rules.specs.Needs.{stuck}
use Rattle.rules.specs.Refusals.{Ground, first, refusal_of, first-map, reply_number}
use Rattle.rules.specs.Step.{view_before, view_of, apply, after, ends, reply_of, step_order, step_of, refused_by, steps, stuck_within, run_tests, run_order, run_of, Replied}
use Rattle.rules.specs.Answers.{step_values, step_says, run_values, steps_before, after_steps, run_says}
use Rattle.rules.specs.declared.state.Thread.{Thread}
use Rattle.rules.specs.declared.state.State.{State}
use Rattle.rules.specs.declared.answer.Refusal.{Refusal}
use Rattle.rules.specs.declared.answer.Refusal.TheVariants.{Stuck}
use Rattle.rules.specs.declared.answer.StepReply.{StepReply}
use Rattle.rules.specs.declared.answer.RunReply.{RunReply}
use Rattle.rules.specs.declared.answer.RunReply as RunReply

-- what is accepted counts only where no refusal applies
first_same : {A : Type 0} (gs : List Ground) (refuse : Refusal → A) {x y : A} → (None gs → x ≡ y) → first gs refuse x ≡ first gs refuse y
first_same [] refuse e = e tt
first_same (g ∷ gs) refuse {x} {y} e = by g.applies refl (λ f. first_same gs refuse (λ h. e (f, h)))
  where
    by : (b : Bool) → g.applies ≡ b → (g.applies ≡ false → first gs refuse x ≡ first gs refuse y)
        → cond b (refuse g.refusal) (first gs refuse x) ≡ cond b (refuse g.refusal) (first gs refuse y)
    by true f g = refl
    by false f g = g f

-- thread t after its step is that of the plan; at phase 25 it is as fresh
after_thread : (s : State) (t : ℕ) → t < length s.threads → thread_at (after s t) t ≡ (plan_of (view_of s t)).thread
unfolding thread_at after apply
after_thread s t l = get_or-set_same s.threads t (plan_of (view_of s t)).thread zero_thread l

-- a thread that is not idle is one of the list
busy_listed : (ts : List Thread) (t : ℕ) → eqb (get_or ts t zero_thread).phase 0 ≡ false → t < length ts
busy_listed [] t e = absurd (true≢false e)
busy_listed (x ∷ xs) zero e = omega arith
busy_listed (x ∷ xs) (suc t) e = let l = busy_listed xs t e in omega arith

-- what an accepted step answers
reply_says : (s : State) (t : ℕ) → t < length s.threads → step_values (Ok (reply_of s t)) ≡ step_says s t
unfolding reply_of view_of view_before rows row25
reply_says s t l = by (ends (thread_at s t)) refl
  where
    by : (b : Bool) → ends (thread_at s t) ≡ b → step_values (Ok (reply_of s t)) ≡ step_says s t
    by true e =
        let p : (thread_at (after s t) t).phase ≡ 0 = rw (after_thread s t l, row_at (view_of s t) 25 (eqb-true _ 25 e)) in
        rw (e, p) refl
    by false e = rw (e, after_thread s t l) refl

-- one step: with its answer, the number by the order and the values by the states
pub step_says_lem : (s : State) (t : ℕ) (r : Replied StepReply) → r ≡ step_of s t
    → (r ≡ step_of s t)
    × ((reply_number r.reply ≡ refusal_of (step_order s t)) × (step_values r.reply ≡ first (step_order s t) (λ n. []) (step_says s t)))
unfolding step_of thread_at
step_says_lem s t r e =
    let done : Replied StepReply = record { reply = Ok (reply_of s t); state = after s t } in
    let says : None (step_order s t) → step_values (Ok (reply_of s t)) ≡ step_says s t =
    λ h. reply_says s t (busy_listed s.threads t h.1.1.0) in
    let number = first-map (λ (b : Replied StepReply). reply_number b.reply) (step_order s t) (refused_by s) done in
    let values = first-map (λ (b : Replied StepReply). step_values b.reply) (step_order s t) (refused_by s) done in (
      e,
      (
        ap (λ (b : Replied StepReply). reply_number b.reply) e ∙ number,
        ap (λ (b : Replied StepReply). step_values b.reply) e ∙ values ∙ first_same (step_order s t) (λ m. []) says,
      ),
    )

-- ---- counted steps

-- the answer of an accepted run: k steps before the last, and the state u before that
abbrev lastly : ℕ → State → ℕ → Replied RunReply
lastly k u t =
    record {
      reply =
          Ok
          (cond (ends (thread_at u t)) (RunReply.TheVariants.Ends (suc k) (thread_at u t).answer (thread_at u t).commit)
          (RunReply.TheVariants.Stops (suc k) (thread_at (after u t) t).phase));
      state = after u t;
    }

-- what the steps that are left, one and m more at most, after k that were taken, answer
abbrev Last : State → ℕ → ℕ → State → ℕ → Type 0
Last from t m s k =
    steps (suc m) from s t k
    ≡ cond (stuck_within (suc m) s t) (refused_by from Stuck) (lastly (k + steps_before m s t) (after_steps (steps_before m s t) s t) t)

steps_last : (m : ℕ) (from s : State) (t k : ℕ) → Last from t m s k
unfolding steps stuck_within steps_before after_steps
steps_last zero from s t k = by (stuck (view_of s t)) (ends (thread_at s t)) refl refl
  where
    by : (a b : Bool) → stuck (view_of s t) ≡ a → ends (thread_at s t) ≡ b → Last from t 0 s k
    by true b e f = rw (steps_tests 0 from s t k, e)
    by false true e f = rw (steps_tests 0 from s t k, e, f, add-zero)
    by false false e f = rw (steps_tests 0 from s t k, e, f, add-zero)
steps_last (suc m) from s t k = by (stuck (view_of s t)) (ends (thread_at s t)) refl refl (steps_last m from (after s t) t (suc k))
  where
    by : (a b : Bool) → stuck (view_of s t) ≡ a → ends (thread_at s t) ≡ b → Last from t m (after s t) (suc k) → Last from t (suc m) s k
    by true b e f h = rw (steps_tests (suc m) from s t k, e)
    by false true e f h = rw (steps_tests (suc m) from s t k, e, f, add-zero, f)
    by false false e f h = rw (steps_tests (suc m) from s t k, e, f, add-suc, ← suc-add) h

-- an accepted run, by its first step and those that may follow
run_last : (s : State) (t n : ℕ) → None (run_tests s t n)
    → steps n s s t 0
    ≡ cond (stuck_within n s t) (refused_by s Stuck) (lastly (steps_before (n - 1) s t) (after_steps (steps_before (n - 1) s t) s t) t)
run_last s t zero h = absurd (true≢false h.1.1.0)
run_last s t (suc m) h = let e : suc m - 1 ≡ m = omega arith in rw (e, steps_last m s s t 0, zero-add)

-- counted steps: with their answer, the number by the order and the values by the states
pub run_says_lem : (s : State) (t n : ℕ) (r : Replied RunReply) → r ≡ run_of s t n
    → (r ≡ run_of s t n)
    × ((reply_number r.reply ≡ refusal_of (run_order s t n)) × (run_values r.reply ≡ first (run_order s t n) (λ m. []) (run_says s t n)))
unfolding run_of
run_says_lem s t n r e =
    let k = steps_before (n - 1) s t in
    let u = after_steps k s t in
    let f = e ∙ first_same (run_tests s t n) (refused_by s) (run_last s t n) in
    let number = first-map (λ (b : Replied RunReply). reply_number b.reply) (run_order s t n) (refused_by s) (lastly k u t) in
    let values = first-map (λ (b : Replied RunReply). run_values b.reply) (run_order s t n) (refused_by s) (lastly k u t) in (
      e,
      (
        ap (λ (b : Replied RunReply). reply_number b.reply) f ∙ number,
        ap (λ (b : Replied RunReply). run_values b.reply) f ∙ values ∙ first_same (run_order s t n) (λ m. []) (λ h. by _ _ _ _ (ends (thread_at u t))),
      ),
    )
  where
    by : (k a c p : ℕ) (b : Bool)
        → run_values (Ok (cond b (RunReply.TheVariants.Ends k a c) (RunReply.TheVariants.Stops k p))) ≡ k ∷ cond b (a ∷ c ∷ []) (p ∷ [])
    by k a c p true = refl
    by k a c p false = refl
