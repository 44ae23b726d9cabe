-- `reading::field_count` meets its contract. The invariant: the fields counted and those that are left make all, where one is counted twice.
use mathlib.Core.Path.{◌≡◌}
use Prim.Native.Nat.{suc, ◌+◌, ◌≤◌}
use lib.ListN.{length, drop}
use Rattle.text.specs.Text.{fields}
use Rattle.reading.proofs.field_count.Given as goal

abbrev pub invariant-loop-b : goal.invariant-loop-b
invariant-loop-b l = (l.count ≤ suc l.b-index) × (l.count + length (fields (drop l.b-index l.text)) ≡ suc (length (fields l.text)))
