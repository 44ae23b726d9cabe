-- A walk played that passes two routes in phases 21 and 22; its last step in 22 takes none.
use Rattle.std.specs.Prelude.{List, ◌++◌, ◌≡◌, ℕ}
use Rattle.rules.specs.State.{fresh, thread_at}
use Rattle.runs.specs.Calls.{Move, after_moves}
use Rattle.runs.specs.Passes.{passed}
use Rattle.runs.specs.Instance.{plays, cross_settings, grown}

-- thread 1 joins the base with 4, 5 and 6 and takes n steps: the near way from its P's far child goes by two routes
unfoldable pub descends : ℕ → List Move
descends n = grown ++ plays 1 2 4 5 ++ plays 1 2 4 n

-- before that step and after it
pub record Walked : Type 0 where
  pub at_22 : (thread_at (after_moves (fresh cross_settings) (descends 16)) 1).phase ≡ 22
  pub at_22_passes : passed 1 (fresh cross_settings) (descends 16) 0 ≡ 2
  pub at_23 : (thread_at (after_moves (fresh cross_settings) (descends 17)) 1).phase ≡ 23
  pub at_23_passes : passed 1 (fresh cross_settings) (descends 17) 0 ≡ 2
