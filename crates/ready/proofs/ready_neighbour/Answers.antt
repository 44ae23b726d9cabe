-- `ready::ready_neighbour` meets its contract at the phase that asks for walk alone.
use Rattle.rules.specs.Needs.{needs as row_needs}
use Rattle.ready.proofs.ready_neighbour.Goals as goal

pub returns-in-10 : goal.returns-in-10
unfolding row_needs
returns-in-10 c = simp (c.in-10.is, c.is_route-in-10.ensures, c.walk.ensures.0, c.walk.ensures.1)
