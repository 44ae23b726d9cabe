-- Where an operation stands by the registers of its thread, played: begun in phase 5, committed in phase 6, none in phase 0.
use Rattle.std.specs.Prelude.{List, ◌++◌, ◌≡◌, ℕ}
use Rattle.rules.specs.State.{fresh, thread_at}
use Rattle.runs.specs.Calls.{Move, steps, after_moves, times}
use Rattle.runs.specs.Events.{Due, nothing, due, done, due_of}
use Rattle.runs.specs.Instance.{plays, cross_settings}

-- thread 1 has waited for a base with the key 5 to insert 7, and takes n steps
unfoldable pub waited : ℕ → List Move
waited n = plays 0 0 5 4 ++ plays 0 2 7 2 ++ plays 1 0 7 2 ++ times 2 (steps 0) ++ times n (steps 1)

-- after n steps it is in phase p, and its operation stands so
pub record Stands (n p : ℕ) (d : Due) : Type 0 where
  pub phase : (thread_at (after_moves (fresh cross_settings) (waited n)) 1).phase ≡ p
  pub standing : due_of 1 (thread_at (after_moves (fresh cross_settings) (waited n)) 1) ≡ d

-- before and after the commit, and after the end
pub record Stood : Type 0 where
  pub begun_yet : Stands 1 5 (due 0 7)
  pub committed_yet : Stands 2 6 (done (record { thread = 1; operation = 0; key = 7; answer = 1; number = 3 }))
  pub ended : Stands 6 0 nothing
