-- `writing::Page::put_commas` meets its contract. The invariant: whoever puts the keys that are left has put all of them.
use Rattle.std.proofs.Common.{◌≡◌, ◌-◌, add-one, arith}
use Rattle.keys.specs.Keys.{rising}
use Rattle.text.specs.Text.{commas}
use Rattle.text.proofs.Writing.{commas-at}
use Rattle.writing.proofs.Puts.{puts_none, puts_both, puts_within}
use Rattle.writing.proofs.Page.put_commas.Goals as goal

pub loop-k-preserved : goal.loop-k-preserved
loop-k-preserved c = record {
  room = omega (arith, c.loop-k.invariant.room, c.put_key.ensures.fits, c.put_key.ensures.size);
  rest = λ p w. c.loop-k.invariant.rest p (rw (commas-at c.args.keys c.loop-k.k c.loop-k-test.true) (puts_within (puts_both c.put_key.ensures (rw add-one at w)) _ (omega arith)));
}

pub returns : goal.returns
unfolding rising commas
returns c = let e : 64 - c.loop-k.k ≡ 0 = omega arith in c.loop-k.invariant.rest _ (rw e (puts_none _ _))
