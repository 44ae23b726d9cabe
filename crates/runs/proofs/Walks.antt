-- The walk of specs/Walks.antt, by computing.
use Rattle.std.specs.Prelude.{refl}
use Rattle.rules.specs.Computes.{computes}
use Rattle.runs.specs.Calls.{after_move, after_moves, times}
use Rattle.runs.specs.Passes.{one, takes_route, passed_by, passes, passed}
use Rattle.runs.specs.Instance.{plays, contended, grown}
use Rattle.runs.specs.Walks.{descends, Walked}

-- by computing
pub walked : Walked
unfolding computes one after_move after_moves takes_route passed_by passes passed times plays contended grown descends
walked = record { at_22 = refl; at_22_passes = refl; at_23 = refl; at_23_passes = refl }
