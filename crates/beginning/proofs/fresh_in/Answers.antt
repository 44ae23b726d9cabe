-- `beginning::fresh_in` meets its contract.
use Rattle.rules.specs.State.{fresh}
use Rattle.beginning.proofs.fresh_in.Goals as goal

pub returns : goal.returns
unfolding fresh
returns c = simp (c.fresh_thread-idle.ensures, c.unmade-none.ensures, c.new_node-first.ensures)
