-- `machine::run::run_in` meets its contract. The invariant: the steps that are left, from the state so far, give what all of them give.
use mathlib.Core.Path.{◌≡◌, sym, ap, ◌∙◌}
use Prim.Native.Nat.{ℕ, ◌+◌, ◌-◌}
use native.Mathlib.Omega.{arith}
use borrow.Author.Tests.{eq-eqb, ne_eqb}
use Rattle.rules.specs.declared.state.State.{State}
use Rattle.std.specs.Prelude.{Ok}
use Rattle.rules.specs.declared.answer.RunReply.TheVariants.{Stops, Ends}
use Rattle.rules.specs.State.{thread_at}
use Rattle.rules.specs.Needs.{stuck}
use Rattle.rules.specs.Step.{steps}
use Rattle.states.specs.Waits.{waits, waits-steps}
use Rattle.machine.proofs.Steps.{all_taken, is_stuck, has_ended, goes_on, carried_out}
use Rattle.machine.proofs.run.run_in.Goals as goal

pub loop-taken-preserved : goal.loop-taken-preserved
unfolding thread_at
loop-taken-preserved c =
    let a = c.args in
    let l = c.loop-taken in
    let w = c.view-v.ensures in
    let e = sym c.stuck.ensures ∙ c.if-stuck.false in
    let f = c.apply.ensures ∙ carried_out l.s a.t c.view-v.result c.plan_of.result w c.plan_of.ensures e in (
      omega (arith, c.if-n-taken.false),
      (
        l.invariant.1.0
            ∙ goes_on a.s.now l.s a.t a.n l.taken c.if-n-taken.false (ap stuck (sym w) ∙ e) (ne_eqb _ _ c.if-thread-eq25.false)
            ∙ ap (λ (x : State). steps (a.n - (l.taken + 1)) a.s.now x a.t (l.taken + 1)) (sym f),
        l.invariant.1.1,
      ),
    )

pub returns-then-n-taken : goal.returns-then-n-taken
unfolding thread_at
returns-then-n-taken c =
    let a = c.args in
    let l = c.loop-taken in
    sym (l.invariant.1.0 ∙ all_taken a.s.now l.s a.t a.n l.taken c.if-n-taken.true)

pub returns-then-stuck : goal.returns-then-stuck
returns-then-stuck c =
    let a = c.args in
    let l = c.loop-taken in
    let e = sym c.stuck.ensures ∙ c.if-stuck.true in
    sym (l.invariant.1.0 ∙ is_stuck a.s.now l.s a.t a.n l.taken c.if-n-taken.false (ap stuck (sym c.view-v.ensures) ∙ e))

pub returns-then-waits : goal.returns-then-waits
unfolding thread_at
returns-then-waits c =
    let a = c.args in
    let l = c.loop-taken in
    let w = c.view-v.ensures in
    let e : a.n ≡ l.taken + (a.n - l.taken) = omega arith in
    ap (λ (x : ℕ). record { reply = Ok (Stops x (thread_at l.s a.t).phase); state = l.s }) e
    ∙ sym (l.invariant.1.0 ∙ waits-steps (a.n - l.taken) a.s.now l.s a.t l.taken (ap waits (sym w) ∙ sym c.waits.ensures ∙ c.if-waits.true) (ap stuck (sym w) ∙ sym c.stuck.ensures ∙ c.if-stuck.false))

pub returns-then-thread-eq25 : goal.returns-then-thread-eq25
unfolding thread_at
returns-then-thread-eq25 c =
    let a = c.args in
    let l = c.loop-taken in
    let w = c.view-v.ensures in
    let e = sym c.stuck.ensures ∙ c.if-stuck.false in
    let f = c.apply.ensures ∙ carried_out l.s a.t c.view-v.result c.plan_of.result w c.plan_of.ensures e in
    ap (λ (x : State). record { reply = Ok (Ends (l.taken + 1) (thread_at l.s a.t).answer (thread_at l.s a.t).commit); state = x }) f
    ∙ sym (l.invariant.1.0 ∙ has_ended a.s.now l.s a.t a.n l.taken c.if-n-taken.false (ap stuck (sym w) ∙ e) (eq-eqb _ _ c.if-thread-eq25.true))
