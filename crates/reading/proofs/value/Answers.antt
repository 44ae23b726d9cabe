-- `reading::value` meets its contract.
use mathlib.Core.Path.{refl, sym, ◌∙◌}
use Prim.Native.Nat.{suc}
use native.Mathlib.Nat.{pow-suc, pow-le-pow_right}
use native.Mathlib.Numerals.{add-one}
use lib.Dec.{lit<}
use lib.ListN.{drop_of_length-le}
use Rattle.text.specs.Text.{value, value_from}
use Rattle.text.proofs.Reading.{digit_at, value-at}
use borrow.Author.Rules.{rules}
use native.Mathlib.Omega.{arith}
use Rattle.reading.proofs.value.Goals as goal

pub loop-b-init : goal.loop-b-init
unfolding value
loop-b-init c = record { small = search rules; whole = refl; left = c.requires.1 }

pub overflow_mul-value : goal.overflow_mul-value
overflow_mul-value c = omega (arith, pow-le-pow_right {n = 10} (lit< tt) {i = suc c.loop-b.b-index} {j = 7} (search rules), pow-suc 10 c.loop-b.b-index, c.loop-b.invariant.small)

pub overflow_sub-value : goal.overflow_sub-value
overflow_sub-value c = omega (arith, (digit_at c.args.part.now c.loop-b.b-index (search rules) c.loop-b.invariant.left))

pub overflow_add-value : goal.overflow_add-value
overflow_add-value c = omega (arith, (digit_at c.args.part.now c.loop-b.b-index (search rules) c.loop-b.invariant.left), pow-le-pow_right {n = 10} (lit< tt) {i = suc c.loop-b.b-index} {j = 7} (search rules), pow-suc 10 c.loop-b.b-index)

pub loop-b-preserved : goal.loop-b-preserved
loop-b-preserved c =
    let d = digit_at c.args.part.now c.loop-b.b-index (search rules) c.loop-b.invariant.left in
    rw add-one record {
      small = omega (arith, d, pow-suc 10 c.loop-b.b-index);
      whole = sym (value-at _ c.args.part.now c.loop-b.b-index (search rules)) ∙ c.loop-b.invariant.whole;
      left = d.others;
    }

pub returns : goal.returns
unfolding value value_from
returns c = rw (drop_of_length-le _ c.loop-b-test.false) at c.loop-b.invariant.whole
