-- `reading::value` meets its contract. The invariant: the digits left, behind the value so far, give the whole value, and so many digits make less than that power of 10.
use mathlib.Core.Path.{◌≡◌}
use Prim.Native.Nat.{◌^◌, ◌<◌}
use mathlib.Core.Bool.{true}
use lib.ListN.{drop}
use Rattle.text.specs.Text.{digits, value, value_from}
use Rattle.reading.proofs.value.Given as goal

abbrev pub invariant-loop-b : goal.invariant-loop-b
invariant-loop-b l = record {
  small : l.value < 10 ^ l.b-index;
  whole : value_from l.value (drop l.b-index l.part) ≡ Rattle.text.specs.Text.value l.part;
  left : digits (drop l.b-index l.part) ≡ true;
}
