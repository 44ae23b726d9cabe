-- `machine::run::run_in` meets its contract. The invariant: the steps that are left, from the state so far, give what all of them give.
use mathlib.Core.Path.{◌≡◌}
use Prim.Native.Nat.{◌≤◌, ◌<◌, ◌-◌}
use Rattle.rules.specs.Step.{run_in, steps}
use Rattle.machine.proofs.run.run_in.Given as goal

abbrev pub invariant-loop-taken : goal.invariant-loop-taken
invariant-loop-taken l = (l.taken ≤ l.n) × ((run_in l.before l.t l.n ≡ steps (l.n - l.taken) l.before l.s l.t l.taken) × ((l.t < 8) × (l.n ≤ 1000)))

abbrev pub decreases-loop-taken : goal.decreases-loop-taken
decreases-loop-taken l = l.n - l.taken
