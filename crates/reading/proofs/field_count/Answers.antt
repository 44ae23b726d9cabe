-- `reading::field_count` meets its contract.
use native.Mathlib.Numerals.{add-one}
use lib.ListN.{drop_of_length-le}
use Rattle.text.specs.Text.{fields}
use Rattle.text.proofs.Reading.{count_at}
use borrow.Author.Rules.{rules}
use native.Mathlib.Omega.{arith}
use Rattle.std.proofs.lemmas.Bool.Decides.{nat_tests}
use Rattle.reading.proofs.field_count.Goals as goal

pub loop-b-preserved : goal.loop-b-preserved
loop-b-preserved c =
    let at = count_at c.args.text.now c.loop-b.b-index (search rules) in
    rw add-one (grind (arith, nat_tests))

pub returns : goal.returns
unfolding fields
returns c = omega (arith, rw (drop_of_length-le _ c.loop-b-test.false) at c.loop-b.invariant.1)
