-- `machine::run::run` meets its contract.
use Rattle.states.specs.Calls.{run_range}
use Rattle.states.specs.Answered.{run_says_lem}
use Rattle.machine.proofs.run.run.Goals as goal

pub returns-then-not-in_range : goal.returns-then-not-in_range
returns-then-not-in_range c =
    let both = run_says_lem _ _ _ _ (simp (run_range, c.if-not-in_range.true, ← c.in_range.ensures)) in
    record { answer = both.0; number = both.1.0; values = both.1.1 }

pub returns : goal.returns
returns c =
    let both = run_says_lem _ _ _ _ (simp (run_range, c.if-not-in_range.false, c.run_in.ensures, ← c.in_range.ensures)) in
    record { answer = both.0; number = both.1.0; values = both.1.1 }
