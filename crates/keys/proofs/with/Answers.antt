-- `keys::with` meets its contract: the sum is a set.
use Rattle.std.proofs.Common.{arith}
use Rattle.keys.proofs.Digits.{with_new}
use Rattle.keys.proofs.Laws.{with-lt}
use Rattle.keys.proofs.with.Goals as goal

pub overflow_add-result : goal.overflow_add-result
overflow_add-result c = grind (arith, with_new, with-lt c.args.m c.args.k c.ranges.m.fits)
