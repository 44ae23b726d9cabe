-- The measure of `listing::gather`: how many nodes are not yet met.
use Rattle.listing.proofs.+gather.Given as goal

abbrev pub decreases-gather : goal.decreases-gather
decreases-gather l = l.m.left
