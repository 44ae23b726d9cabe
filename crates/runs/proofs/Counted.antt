-- The lines of specs/Counted.antt come to the moves of example D.
use Rattle.std.specs.Prelude.{◌≡◌, refl}
use Rattle.rules.specs.State.{fresh}
use Rattle.rules.specs.Computes.{computes}
use Rattle.runs.specs.Calls.{after_move, times, after_call, moves_of}
use Rattle.runs.specs.Instance.{example_settings, plays, joins, example_d}
use Rattle.runs.specs.Counted.{lines_d}

-- by computing
pub lines_come_to : moves_of (fresh example_settings) lines_d ≡ example_d
unfolding computes after_move times after_call moves_of plays joins lines_d
lines_come_to = refl
