-- Example D as a run: demand 3 speaks of something. Seven operations are committed. Thread 0 has spliced and not linked: key 2 of the plain set
-- is in its base register alone, so the key list lacks it. And two joins that cross.
use Rattle.std.specs.Prelude.{List, [], ◌∷◌, ◌++◌, map, ◌≡◌, ℕ, ◌+◌, Ok}
use Rattle.keys.specs.Keys.{list_of}
use Rattle.rules.specs.declared.state.Settings.{Settings}
use Rattle.rules.specs.declared.state.State.{State}
use Rattle.rules.specs.State.{fresh, thread_at}
use Rattle.runs.specs.Calls.{Move, begins, steps, after_moves, times}
use Rattle.runs.specs.Passes.{passed}
use Rattle.runs.specs.PlainSet.{empty, keys_in}
use Rattle.runs.specs.Log.{Entry, play_log}
use Rattle.runs.specs.Events.{done, nothing_due, due_after, events_of}
use Rattle.runs.specs.Holders.{holders}
use Rattle.rules.specs.List.{reached, key_list_of}

-- `R 1 3 -1 2`
abbrev pub example_settings : Settings
example_settings = record { succ = 1; fail = 3; low = 1; max = 2 }

-- thread t begins operation o on key k and takes n steps
unfoldable pub plays : ℕ → ℕ → ℕ → ℕ → List Move
plays t o k n = begins t o k ∷ times n (steps t)

-- the begins and steps of example D, but that the last lookup takes n steps
unfoldable pub joins : ℕ → List Move
joins n =
    plays 0 0 5 4
    ++ plays 0 0 9 4
    ++ plays 0 0 2 4
    ++ plays 0 2 5 2
    ++ plays 1 0 7 3
    ++ times 2 (steps 0)
    ++ times 6 (steps 1)
    ++ plays 0 2 2 5
    ++ plays 0 2 2 n

-- those of example D
abbrev pub example_d : List Move
example_d = joins 12

-- the commit number of an entry
abbrev pub number : Entry → ℕ
number e = e.number

-- what the definitions say of the run
pub record Seen (s : State) (log : List Entry) : Type 0 where
  pub phase : (thread_at s 0).phase ≡ 21
  pub set : keys_in (play_log empty log) ≡ 2 ∷ 5 ∷ 7 ∷ 9 ∷ []
  pub list : list_of (reached s).keys ≡ 7 ∷ 9 ∷ []
  pub count : holders s 2 ≡ 1
  pub numbers : map number log ≡ 1 ∷ 2 ∷ 3 ∷ 4 ∷ 5 ∷ 6 ∷ 7 ∷ []
  -- the lookup of 2 that thread 0 has committed and not ended
  pub stands : due_after nothing_due (events_of (fresh example_settings) example_d) 0 ≡ done (record { thread = 0; operation = 2; key = 2; answer = 1; number = 7 })
  pub routes : passed 0 (fresh example_settings) example_d 0 ≡ 1
  -- "Phase 23 using the parent that N had at phase 9: the splice may have changed it": four steps later 2, 5, 7 and 9 are listed, as in example C
  pub linked : key_list_of (after_moves s (times 4 (steps 0))) ≡ Ok 676

-- `R 1 2 -1 0`
abbrev pub cross_settings : Settings
cross_settings = record { succ = 1; fail = 2; low = 1; max = 0 }

-- a lookup of k and operation o on it, d routes below the root, at one base: the second has to wait and splits it
unfoldable pub contended : ℕ → ℕ → ℕ → List Move
contended o k d = plays 0 2 k (2 + d) ++ plays 1 o k (2 + d) ++ times 2 (steps 0) ++ times 6 (steps 1)

-- the keys 1 to 6, parted by three splits: the root has the key 4, its left child 2, and the right child of that 3
unfoldable pub grown : List Move
grown =
    plays 0 0 1 4
    ++ plays 0 0 2 4
    ++ plays 0 0 3 4
    ++ plays 0 0 4 4
    ++ plays 0 0 5 4
    ++ plays 0 0 6 4
    ++ contended 2 1 0
    ++ contended 2 1 1
    ++ contended 2 2 2

-- two joins that cross: thread 0 stands in phase 17, and thread 1 splices out the route that is its G; then thread 0 takes two steps
unfoldable pub crossing : List Move
crossing =
    grown
    ++ plays 0 2 1 6
    ++ plays 0 2 1 13
    ++ plays 1 2 4 5
    ++ plays 1 2 4 20
    ++ times 2 (steps 0)

-- "Skipping phase 18: G may itself have been spliced out": key 1 is held once, at the end 1 to 6 are listed, and thread 0 looks for G again
pub record Crossed (s : State) : Type 0 where
  pub count : holders s 1 ≡ 1
  pub list : key_list_of (after_moves s (times 8 (steps 0))) ≡ Ok 126
  pub phase : (thread_at s 0).phase ≡ 15
