-- `listing::reached` meets its contract.
use mathlib.Core.Path.{refl}
use native.Mathlib.Omega.{arith}
use Rattle.rules.specs.List.{unmet, reached}
use Rattle.listing.specs.Gathered.{unseen}
use Rattle.listing.proofs.reached.Goals as goal

pub gather-requires : goal.gather-requires
unfolding unmet unseen
gather-requires c = rw c.unmet.ensures (record { right = refl })

pub returns : goal.returns
unfolding reached unmet
returns c = rw c.unmet.ensures at (c.gather.ensures.same 129 (rw c.unmet.ensures (omega arith)))
