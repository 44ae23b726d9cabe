-- `writing::put_digits` meets its contract.
use Rattle.std.proofs.Common.{rules}
use Rattle.text.specs.Text.{decimal_of}
use Rattle.text.proofs.Writing.{wrote_none, wrote_byte, wrote-both, decimal-one, decimal_last}
use Rattle.writing.proofs.+put_digits.Goals as goal

pub returns-then-most-eq0-clause-wrote : goal.returns-then-most-eq0-clause-wrote
unfolding decimal_of
returns-then-most-eq0-clause-wrote t c = rw c.if-most-eq0.true (wrote_none _ _)

pub returns-then-n-lt10-clause-wrote : goal.returns-then-n-lt10-clause-wrote
returns-then-n-lt10-clause-wrote t c = rw (decimal-one c.args.most _ (search rules) c.if-n-lt10.true) (wrote_byte _ _ _)

pub returns-clause-wrote : goal.returns-clause-wrote
returns-clause-wrote t c = rw (decimal_last c.args.most _ (search rules) c.if-n-lt10.false) (wrote-both c.put_digits-end.ensures.wrote (wrote_byte _ _ _))
