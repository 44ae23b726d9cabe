-- The two runs of specs/Instance.antt, by computing.
use Rattle.std.specs.Prelude.{refl}
use Rattle.rules.specs.State.{fresh}
use Rattle.runs.specs.Calls.{after_move, after_moves, times}
use Rattle.runs.specs.Passes.{one, takes_route, passed_by, passes, passed}
use Rattle.runs.specs.PlainSet.{numbers, only}
use Rattle.runs.specs.Log.{log_of, play_log}
use Rattle.runs.specs.Events.{events_of}
use Rattle.runs.specs.Holders.{how_many, holders}
use Rattle.rules.specs.Computes.{computes}
use Rattle.runs.specs.Instance.{example_settings, plays, joins, example_d, Seen, cross_settings, contended, grown, crossing, Crossed}

-- by computing
pub example_D : Seen (after_moves (fresh example_settings) example_d) (log_of (fresh example_settings) example_d)
unfolding computes one after_move takes_route passed_by passes passed how_many holders after_moves log_of play_log numbers only times plays joins events_of
example_D = record { phase = refl; set = refl; list = refl; count = refl; numbers = refl; stands = refl; routes = refl; linked = refl }

-- by computing
pub crossed : Crossed (after_moves (fresh cross_settings) crossing)
unfolding computes one after_move takes_route passed_by passes passed how_many holders after_moves log_of play_log times plays contended grown crossing
crossed = record { count = refl; list = refl; phase = refl }
