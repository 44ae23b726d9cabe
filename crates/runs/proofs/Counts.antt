-- The states of specs/Counts.antt, by computing.
use Rattle.std.specs.Prelude.{true, false, refl}
use Rattle.rules.specs.Computes.{computes}
use Rattle.runs.specs.Calls.{after_move, after_moves, times}
use Rattle.runs.specs.Passes.{one}
use Rattle.runs.specs.Holders.{at, below as child, how_many, holders}
use Rattle.runs.specs.Instance.{plays, joins}
use Rattle.runs.specs.Counts.{joining, stray, Played}

-- by computing
pub played : Played
unfolding computes one after_move after_moves how_many holders times plays joins joining stray
played =
    record {
      splice = record { phase = refl; count = refl };
      spliced = record { phase = refl; count = refl };
      link = record { phase = refl; count = refl };
      linked = record { phase = refl; count = refl };
      none = refl;
      left = child (joining 10).root false (at refl) refl;
      right = child (joining 10).root true (at refl) refl;
    }
