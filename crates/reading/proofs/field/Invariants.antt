-- `reading::field` meets its contract. The invariant: the field asked for is that of what is left, as many fields on as turns are left.
use Rattle.std.proofs.Common.{◌≡◌, [], ◌≤◌, length, get_or, ◌-◌}
use Rattle.text.specs.Text.{fields}
use Rattle.reading.proofs.field.Given as goal

abbrev pub invariant-loop : goal.invariant-loop
invariant-loop l = (length l.rest ≤ length l.text) × (get_or (fields l.text) l.i [] ≡ get_or (fields l.rest) (l.i - l.counter) [])
