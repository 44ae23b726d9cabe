-- Trials of the definitions, from states that are made up: what the must-fail edits of this crate are held to. They are not the examples of
-- document 01, which are played as schedules.
use Rattle.std.specs.Prelude.{true, false, List, [], ◌∷◌, ◌++◌, ℕ, set, replicate}
use Rattle.keys.specs.Keys.{with, list_of}
use Rattle.rules.specs.State.{nobody, fresh_thread, unmade, place_at}
use Rattle.rules.specs.Registers.{at_phase, set_base, set_operation, set_walk}
use Rattle.rules.specs.Places.{keys_of, route_key, child_on}
use Rattle.rules.specs.Step.{begin_of, step_of, run_of}
use Rattle.rules.specs.Answers.{step_values, run_values}
use Rattle.rules.specs.declared.state.Body.TheVariants.{Base}
use Rattle.rules.specs.declared.state.State.{State}

-- a state, what is asked of it, and the numbers that are wanted
pub record Trial : Type 0 where
  pub start : State
  pub asks : State → List ℕ
  pub wanted : List ℕ

-- thread 0 is in phase p of operation o on key k, at base 0, the only node, whose lock has this holder and these statistics, held 2,000,000 up
unfoldable pub standing : ℕ → ℕ → ℕ → ℕ → ℕ → ℕ → State
standing p o k holder statistics ks =
    record {
      root = 0;
      made = 1;
      begun = 1;
      committed = 0;
      settings = record { succ = 1; fail = 250; low = 1000; max = 1000 };
      places = set (replicate 128 unmade) 0 (record { lock = record { holder = holder; statistics = statistics }; valid = true; body = Base ks });
      threads = set (replicate 8 fresh_thread) 0 (at_phase p (set_base 0 (set_walk 0 (set_operation o k fresh_thread))));
    }

-- thread 0's next step: what it answers, and the statistics of base 0 then
abbrev pub stepped : State → List ℕ
stepped s = step_values (step_of s 0).reply ++ ((place_at (step_of s 0).state 0).lock.statistics ∷ [])

-- the keys of base n
abbrev pub holds : ℕ → State → List ℕ
holds n s = list_of (keys_of (place_at s n))

-- thread 0's operation to its end: the steps taken, the answer, the commit number; then the keys of base 0
abbrev pub ran : State → List ℕ
ran s = run_values (run_of s 0 1000).reply ++ holds 0 (run_of s 0 1000).state

-- the key, the left and the right child of route n
abbrev pub route_at : ℕ → State → List ℕ
route_at n s = route_key (place_at s n) ∷ child_on false (place_at s n) ∷ child_on true (place_at s n) ∷ []

-- after its operation thread 0 looks up k in 5 steps: the steps taken, the answer, the commit number
abbrev pub looks_up : ℕ → State → List ℕ
looks_up k s = run_values (run_of (begin_of (run_of s 0 1000).state 0 2 k).state 0 5).reply

-- the keys 5 and 6
abbrev pub two_keys : ℕ
two_keys = with (with 0 5) 6

-- thread 0 has made the nodes of a split of 5, 6, 9
unfoldable pub halved : State
halved = (step_of (standing 6 2 5 0 2001001 (with two_keys 9)) 0).state

-- one for each rule that an edit changes
unfoldable pub trials : List Trial
trials =
    -- taking at phase 3: to 5, succ less
    record { start = standing 3 2 5 nobody 2000000 two_keys; asks = stepped; wanted = 5 ∷ 1999999 ∷ [] }
    ∷
    -- taking at phase 4: to 5, fail more
    record { start = standing 4 2 5 nobody 2000000 two_keys; asks = stepped; wanted = 5 ∷ 2000250 ∷ [] }
    ∷
    -- statistics exactly max: to 25, and they stay
    record { start = standing 5 2 5 0 2001000 two_keys; asks = stepped; wanted = 25 ∷ 2001000 ∷ [] }
    ∷
    -- above max with 2 keys: to 6
    record { start = standing 5 2 5 0 2001001 two_keys; asks = stepped; wanted = 6 ∷ 2001001 ∷ [] }
    ∷
    -- above max with 1 key: to 25, statistics 0
    record { start = standing 5 2 5 0 2001001 (with 0 5); asks = stepped; wanted = 25 ∷ 2000000 ∷ [] }
    ∷
    -- delete of a key that is there: 2 steps, answer 1, commit 1; it is taken out
    record { start = standing 5 1 5 0 2000000 two_keys; asks = ran; wanted = 2 ∷ 1 ∷ 1 ∷ 6 ∷ [] }
    ∷
    -- delete of a key that is not there: answer 0; the others stay
    record { start = standing 5 1 7 0 2000000 two_keys; asks = ran; wanted = 2 ∷ 0 ∷ 1 ∷ 5 ∷ 6 ∷ [] }
    ∷
    -- insert of a key that is there: answer 0; the keys stay
    record { start = standing 5 0 5 0 2000000 two_keys; asks = ran; wanted = 2 ∷ 0 ∷ 1 ∷ 5 ∷ 6 ∷ [] }
    ∷
    -- a split: the route has the key 6, the left and the right base
    record { start = halved; asks = route_at 3; wanted = 6 ∷ 1 ∷ 2 ∷ [] }
    ∷
    -- the left base has the smaller keys
    record { start = halved; asks = holds 1; wanted = 5 ∷ [] }
    ∷
    -- the right base has the rest
    record { start = halved; asks = holds 2; wanted = 6 ∷ 9 ∷ [] }
    ∷
    -- after a split the route's key is found on its right: 5 steps, answer 1, commit 2
    record { start = standing 5 2 5 0 2001001 (with two_keys 9); asks = looks_up 6; wanted = 5 ∷ 1 ∷ 2 ∷ [] }
    ∷ []

-- what the definitions give
abbrev pub given : Trial → List ℕ
given t = t.asks t.start

-- what is wanted
abbrev pub wanted : Trial → List ℕ
wanted t = t.wanted
