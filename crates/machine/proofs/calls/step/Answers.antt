-- `machine::calls::step` meets its contract.
use mathlib.Core.Path.{sym, ap, ◌∙◌}
use borrow.Author.Tests.{eq-eqb, le-ltb, lt-ltb, ne_eqb}
use Rattle.rules.specs.Needs.{stuck}
use Rattle.states.specs.Answered.{step_says_lem}
use Rattle.machine.specs.Commits.{can_commit}
use Rattle.machine.proofs.Steps.{carried_out}
use Rattle.rules.specs.Step.{step_of, reply_of, after}
use Rattle.rules.specs.State.{thread_at}
use Rattle.machine.proofs.calls.step.Goals as goal

pub returns-then-not-in_range : goal.returns-then-not-in_range
unfolding step_of thread_at reply_of after
returns-then-not-in_range c =
    let both = step_says_lem _ c.args.t _ (simp (c.if-not-in_range.true, ← c.in_range.ensures)) in
    record { answer = both.0; number = both.1.0; values = both.1.1 }

pub returns-then-t-gt7 : goal.returns-then-t-gt7
unfolding step_of thread_at reply_of after
returns-then-t-gt7 c =
    let both = step_says_lem _ c.args.t _ (simp (lt-ltb _ _ c.if-t-gt7.true, c.if-not-in_range.false, ← c.in_range.ensures)) in
    record { answer = both.0; number = both.1.0; values = both.1.1 }

pub returns-then-thread-eq0 : goal.returns-then-thread-eq0
unfolding step_of thread_at reply_of after
returns-then-thread-eq0 c =
    let both = step_says_lem _ c.args.t _ (simp (eq-eqb _ _ c.if-thread-eq0.true, le-ltb _ _ c.if-t-gt7.false, c.if-not-in_range.false, ← c.in_range.ensures)) in
    record { answer = both.0; number = both.1.0; values = both.1.1 }

pub returns-then-stuck : goal.returns-then-stuck
unfolding step_of thread_at reply_of after
returns-then-stuck c =
    let both = step_says_lem _ c.args.t _ (simp (ap stuck (sym c.view-v.ensures) ∙ sym c.stuck.ensures ∙ c.if-stuck.true, ne_eqb _ _ c.if-thread-eq0.false, le-ltb _ _ c.if-t-gt7.false, c.if-not-in_range.false, c.view-v.ensures, ← c.in_range.ensures)) in
    record { answer = both.0; number = both.1.0; values = both.1.1 }

pub returns : goal.returns
unfolding step_of thread_at reply_of
returns c =
    let e = sym c.stuck.ensures ∙ c.if-stuck.false in
    let f = c.apply.ensures ∙ carried_out c.args.s.now c.args.t _ _ c.view-v.ensures c.plan_of-plan.ensures e in
    let both = step_says_lem _ c.args.t _ (simp (ap stuck (sym c.view-v.ensures) ∙ e, ne_eqb _ _ c.if-thread-eq0.false, le-ltb _ _ c.if-t-gt7.false, c.if-not-in_range.false, f, c.reply_of.ensures, c.plan_of-plan.ensures (can_commit _ e), c.view-v.ensures, ← c.in_range.ensures)) in
    record { answer = both.0; number = both.1.0; values = both.1.1 }
