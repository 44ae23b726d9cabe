-- `writing::Page::put_tabbed` meets its contract. The invariant: whoever puts the numbers that are left has put all of them.
use Rattle.std.proofs.Common.{add-one, arith, rules}
use Rattle.text.specs.Text.{decimal}
use Rattle.text.proofs.Writing.{tabbed-at}
use Rattle.writing.proofs.Puts.{puts_both, puts_within}
use Rattle.writing.proofs.Page.put_tabbed.Goals as goal

pub loop-n-preserved : goal.loop-n-preserved
unfolding decimal
loop-n-preserved c = record {
  room = omega (arith, c.loop-n.invariant.room, c.put_behind.ensures.fits, c.put_behind.ensures.size);
  rest = λ p w. c.loop-n.invariant.rest p (rw (tabbed-at c.args.numbers.now c.loop-n.n-index (search rules)) (puts_within (puts_both c.put_behind.ensures (rw add-one at w)) _ (omega arith)));
}
