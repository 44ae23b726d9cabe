-- The routes that a thread's walk passes: "A walk runs from a step at phase 1, 9, 15 or 21 until its thread leaves phases 1
-- and 2, 9 and 10, 15 and 16, or 21 and 22; the routes that its walk register takes are those it passes through."
use Rattle.std.specs.Prelude.{Bool, cond, not, ◌&&◌, ◌||◌, List, [], ◌∷◌, ℕ, ◌+◌, eqb}
use Rattle.rules.specs.State.{place_at, thread_at}
use Rattle.rules.specs.Needs.{route}
use Rattle.rules.specs.Step.{after}
use Rattle.rules.specs.declared.state.State.{State}
use Rattle.runs.specs.Calls.{Move, begins, steps, after_move, accepted}

-- a step at this phase starts a walk
abbrev pub walk_starts : ℕ → Bool
walk_starts p = eqb p 1 || eqb p 9 || eqb p 15 || eqb p 21

-- a step at this phase goes on with one
abbrev pub walk_goes_on : ℕ → Bool
walk_goes_on p = eqb p 2 || eqb p 10 || eqb p 16 || eqb p 22

-- 1 for true
unfoldable pub one : Bool → ℕ
one b = cond b 1 0

-- thread t's walk register after its step is a route, and was given by the step: from 22 to 23 nothing changes
unfoldable pub takes_route : State → ℕ → Bool
takes_route s t =
    let th = thread_at (after s t) t in
    route th.walk (place_at (after s t) th.walk) && not (eqb (thread_at s t).phase 22 && eqb th.phase 23)

-- the routes passed by thread t's walk after its step, where n were passed before
unfoldable pub passed_by : State → ℕ → ℕ → ℕ
passed_by s t n =
    let p = (thread_at s t).phase in
    cond (walk_starts p) (one (takes_route s t)) (cond (walk_goes_on p) (n + one (takes_route s t)) n)

-- after a move: only an accepted step of thread t counts
unfoldable pub passes : ℕ → State → Move → ℕ → ℕ
passes t s (begins u o k) n = n
passes t s (steps u) n = cond (eqb u t && accepted s u) (passed_by s t n) n

-- after some moves
unfoldable pub passed : ℕ → State → List Move → ℕ → ℕ
passed t s [] n = n
passed t s (c ∷ cs) n = passed t (after_move s c) cs (passes t s c n)
