-- `writing::Page::put_keys` meets its contract.
use Rattle.std.proofs.Common.{arith, length-set}
use Rattle.text.proofs.Writing.{keys_some, keys_none}
use Rattle.writing.proofs.Page.put_keys.Goals as goal

pub returns-then-self-start : goal.returns-then-self-start
returns-then-self-start c =
    let w = c.put_commas.ensures in
    record {
      place = w.place;
      size = simp length-set w.size;
      wrote = keys_none _ w.wrote c.if-self-start.true;
      fits = omega arith;
    }

pub returns-else-self-start : goal.returns-else-self-start
returns-else-self-start c =
    let w = c.put_commas.ensures in
    record {
      place = w.place;
      size = simp length-set w.size;
      wrote = keys_some _ w.wrote c.if-self-start.false;
      fits = w.fits;
    }
