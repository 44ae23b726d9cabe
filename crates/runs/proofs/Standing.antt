-- The moves of specs/Standing.antt, by computing.
use Rattle.std.specs.Prelude.{refl}
use Rattle.rules.specs.Computes.{computes}
use Rattle.runs.specs.Calls.{after_move, after_moves, times}
use Rattle.runs.specs.Passes.{one}
use Rattle.runs.specs.Events.{due_of}
use Rattle.runs.specs.Instance.{plays}
use Rattle.runs.specs.Standing.{waited, Stood}

-- by computing
pub stood : Stood
unfolding computes one after_move after_moves times plays waited due_of
stood =
    record {
      begun_yet = record { phase = refl; standing = refl };
      committed_yet = record { phase = refl; standing = refl };
      ended = record { phase = refl; standing = refl };
    }
