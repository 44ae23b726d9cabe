-- `keys::below` meets its contract where k is no key: the whole set is below it.
use Rattle.std.proofs.Common.{sym, lt_of_lt_of_le, pow_mono}
use native.Mathlib.Nat.{mod-eq_of_lt}
use Rattle.keys.specs.Keys.{below}
use Rattle.keys.proofs.below.Goals as goal

pub returns-else-k-lt64 : goal.returns-else-k-lt64
unfolding below
returns-else-k-lt64 c = sym (mod-eq_of_lt (lt_of_lt_of_le c.ranges.m.fits (pow_mono c.if-k-lt64.false)))
