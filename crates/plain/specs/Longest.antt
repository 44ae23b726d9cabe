-- The bound of 42 routes is met: 128 nodes have room for 42 splits, and all their routes may lie on one walk.
use Rattle.std.specs.Prelude.{List, ◌++◌, ◌≡◌, refl, ℕ, zero, suc}
use Rattle.rules.specs.State.{fresh}
use Rattle.rules.specs.Computes.{computes}
use Rattle.runs.specs.Calls.{Move, after_move, times}
use Rattle.runs.specs.Passes.{one, takes_route, passed_by, passes, passed}
use Rattle.runs.specs.Instance.{plays, cross_settings, contended}

-- n routes with the keys 1 to n, each the right child of the one before: each key is inserted at the last base and splits it
unfoldable pub chain : ℕ → List Move
chain zero = plays 0 0 0 4
chain (suc n) = chain n ++ contended 0 (suc n) n

-- thread 0 walks down 42 routes to look up 63
pub walk_of_42 : passed 0 (fresh cross_settings) (chain 42 ++ plays 0 2 63 43) 0 ≡ 42
unfolding computes one after_move takes_route passed_by passes passed times plays contended chain
walk_of_42 = refl
