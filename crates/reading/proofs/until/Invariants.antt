-- `reading::until` meets its contract. The invariant: what is to be found is `i` and what is to be found behind it.
use mathlib.Core.Path.{◌≡◌}
use Prim.Native.Nat.{◌+◌, ◌≤◌}
use lib.ListN.{length, drop}
use Rattle.text.specs.Text.{until}
use Rattle.reading.proofs.until.Given as goal

abbrev pub invariant-loop-i : goal.invariant-loop-i
invariant-loop-i l = (l.i ≤ length l.text) × (until l.b l.text ≡ l.i + until l.b (drop l.i l.text))
