-- "State unchanged in all": a refused call leaves the state. And how many steps a run says that it took.
use Rattle.std.specs.Prelude.{◌≡◌, refl, ℕ, zero, suc, ◌+◌, ◌≤◌, ◌<◌, Err, Result, Ok}
use Rattle.std.proofs.Common.{subst, zero-add, arith}
use Rattle.states.specs.Tests.{pick}
use Rattle.states.specs.Calls.{steps_tests, begin_by, step_by, run_by}
use Rattle.rules.specs.State.{thread_at}
use Rattle.rules.specs.Needs.{stuck}
use Rattle.rules.specs.Step.{begin_of, view_of, after, ends, step_of, steps, run_of, Replied}
use Rattle.rules.specs.declared.state.State.{State}
use Rattle.rules.specs.declared.answer.Refusal.{Refusal}
use Rattle.rules.specs.declared.answer.StepReply.{StepReply}
use Rattle.rules.specs.declared.answer.RunReply.{RunReply}
use Rattle.rules.specs.declared.answer.RunReply as RunReply

-- begin
pub begin_refused : (s : State) (t o k : ℕ) (r : Refusal) → (begin_of s t o k).reply ≡ Err r → (begin_of s t o k).state ≡ s
begin_refused s t o k r =
    let Q : Replied (Unit {0}) → Type 0 = λ b. b.reply ≡ Err r → b.state ≡ s in
    begin_by Q s t o k (λ m e. refl) (λ h e. cc)

-- one step
pub step_refused : (s : State) (t : ℕ) (r : Refusal) → (step_of s t).reply ≡ Err r → (step_of s t).state ≡ s
step_refused s t r =
    let Q : Replied StepReply → Type 0 = λ b. b.reply ≡ Err r → b.state ≡ s in
    step_by Q s t (λ m e. refl) (λ h e. cc)

-- what the reply of counted steps tells: stopped, all of them were taken; ended, some; refused, the state is the one before
abbrev Tells : State → ℕ → ℕ → State → Result RunReply Refusal → Type 0
Tells from few all s (Ok (RunReply.TheVariants.Stops k p)) = k ≡ all
Tells from few all s (Ok (RunReply.TheVariants.Ends k a c)) = (few < k) × (k ≤ all)
Tells from few all s (Err r) = s ≡ from

-- of the whole answer
abbrev Told : State → ℕ → ℕ → Replied RunReply → Type 0
Told from few all r = Tells from few all r.state r.reply

-- what holds after one more step was taken, of one step fewer
later : (from : State) (few n : ℕ) (s : State) (r : Result RunReply Refusal)
    → Tells from (suc few) (suc few + n) s r → Tells from few (few + suc n) s r
later from few n s (Ok (RunReply.TheVariants.Stops k p)) h = omega arith
later from few n s (Ok (RunReply.TheVariants.Ends k a c)) h = omega arith
later from few n s (Err r) h = h

-- n more steps after `taken`
steps_tell : (n : ℕ) (from s : State) (t taken : ℕ) → Told from taken (taken + n) (steps n from s t taken)
unfolding steps
steps_tell zero from s t taken = omega arith
steps_tell (suc n) from s t taken =
    let Q = Told from taken (taken + suc n) in
    let r = steps n from (after s t) t (suc taken) in
    rw (steps_tests n from s t taken)
    (pick Q (stuck (view_of s t)) refl
    (pick Q (ends (thread_at s t)) (omega arith) (later from taken n r.state r.reply (steps_tell n from (after s t) t (suc taken)))))

-- the whole run
run_tells : (s : State) (t n : ℕ) → Told s 0 n (run_of s t n)
run_tells s t n = run_by (Told s 0 n) s t n (λ m. refl) (λ h. rw zero-add at (steps_tell n s s t 0))

-- counted steps
pub run_refused : (s : State) (t n : ℕ) (r : Refusal) → (run_of s t n).reply ≡ Err r → (run_of s t n).state ≡ s
run_refused s t n r e = subst (Tells s 0 n (run_of s t n).state) e (run_tells s t n)

-- "Steps are taken until n have been taken"
pub run_stops : (s : State) (t n k p : ℕ) → (run_of s t n).reply ≡ Ok (RunReply.TheVariants.Stops k p) → k ≡ n
run_stops s t n k p e = subst (Tells s 0 n (run_of s t n).state) e (run_tells s t n)

-- "or the operation ends"
pub run_ends : (s : State) (t n k a c : ℕ) → (run_of s t n).reply ≡ Ok (RunReply.TheVariants.Ends k a c) → (1 ≤ k) × (k ≤ n)
run_ends s t n k a c e = subst (Tells s 0 n (run_of s t n).state) e (run_tells s t n)
