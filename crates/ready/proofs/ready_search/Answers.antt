-- `ready::ready_search` meets its contract at the phase that asks for walk alone.
use Rattle.rules.specs.Needs.{needs as row_needs}
use Rattle.ready.proofs.ready_search.Goals as goal

pub returns-in-2 : goal.returns-in-2
unfolding row_needs
returns-in-2 c = simp (c.in-2.is, c.is_route.ensures, c.walk.ensures.0, c.walk.ensures.1)
