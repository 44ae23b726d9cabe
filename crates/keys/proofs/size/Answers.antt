-- `keys::size` meets its contract: a key is a digit that is 1.
use Rattle.std.proofs.Common.{sym}
use Rattle.keys.proofs.Sizes.{size-ones}
use Rattle.keys.proofs.size.Goals as goal

pub returns : goal.returns
returns c = sym (size-ones _ c.ranges.m.fits)
