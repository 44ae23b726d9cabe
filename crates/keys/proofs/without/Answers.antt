-- `keys::without` meets its contract where k is no key.
use Rattle.std.proofs.Common.{arith}
use Rattle.keys.proofs.Laws.{without-none}
use Rattle.keys.proofs.without.Goals as goal

pub returns-else-has : goal.returns-else-has
returns-else-has c = grind (arith, without-none)
