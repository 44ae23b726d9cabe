-- `ready::ready_link` meets its contract at the phase that asks for walk alone.
use Rattle.rules.specs.Needs.{needs as row_needs}
use Rattle.ready.proofs.ready_link.Goals as goal

pub returns-in-22 : goal.returns-in-22
unfolding row_needs
returns-in-22 c = simp (c.in-22.is, c.is_route-in-22.ensures, c.walk.ensures.0, c.walk.ensures.1)
