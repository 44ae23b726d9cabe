-- The trials of specs/Trials.antt come out as they say.
use Rattle.std.specs.Prelude.{◌≡◌, refl, map}
use Rattle.rules.specs.Computes.{computes}
use Rattle.rules.specs.Trials.{standing, halved, trials, given, wanted}

-- every trial gives what is wanted
pub trials-given : map given trials ≡ map wanted trials
unfolding computes standing halved trials
trials-given = refl
