-- While no thread is between splice and link, the key list is the plain set.
use Rattle.std.specs.Prelude.{true, List, [], ◌∷◌, ◌≡◌, ℕ}
use Rattle.std.proofs.Common.{ap, ◌∙◌}
use Rattle.keys.specs.Keys.{has}
use Rattle.rules.specs.State.{fresh}
use Rattle.rules.specs.Range.{settings_in_range, in_range}
use Rattle.rules.specs.List.{reached, key_list_of}
use Rattle.rules.specs.declared.state.Settings.{Settings}
use Rattle.rules.specs.declared.state.State.{State}
use Rattle.states.specs.Kept.{fresh_in_range, begin_in_range, step_in_range}
use Rattle.runs.specs.Calls.{Move, begins, steps, after_move, after_moves}
use Rattle.runs.specs.PlainSet.{PlainSet, empty}
use Rattle.runs.proofs.Tied.{list_tied}
use Rattle.runs.specs.Log.{log_of, play_log}
use Rattle.runs.specs.Holders.{Quiet}
use Rattle.runs.specs.Demand.{ListsThe}
use Rattle.order.specs.KeyList.{reached_once}
use Rattle.plain.specs.Plain.{Plain}
use Rattle.plain.specs.Listed.{quiet-keys}
use Rattle.plain.specs.Runs.{plain_after, run_plain}
use Rattle.plain.proofs.Log.{run_log}

-- moves keep a state in range
pub moves_in_range : (s : State) (cs : List Move) → in_range s ≡ true → in_range (after_moves s cs) ≡ true
unfolding after_moves after_move
moves_in_range s [] x = x
moves_in_range s (begins t o k ∷ cs) x = moves_in_range (after_move s (begins t o k)) cs (begin_in_range s t o k x)
moves_in_range s (steps t ∷ cs) x = moves_in_range (after_move s (steps t)) cs (step_in_range s t x)

-- after any calls from a fresh state with settings in range
pub run_quiet : (c : Settings) (cs : List Move) → settings_in_range c ≡ true → Quiet (after_moves (fresh c) cs)
    → ListsThe (play_log empty (log_of (fresh c) cs)) (after_moves (fresh c) cs)
unfolding key_list_of
run_quiet c cs r q =
    record {
      keys = (reached s).keys;
      accepted = rw (moves_in_range (fresh c) cs (fresh_in_range c r), reached_once x.inv);
      exactly = agrees;
      rising = list_tied (reached s).keys p agrees;
    }
  where
    s : State
    s = after_moves (fresh c) cs

    x : Plain (after_moves (fresh c) cs) (plain_after (fresh c) cs 0)
    x = run_plain c cs

    p : PlainSet
    p = play_log empty (log_of (fresh c) cs)

    agrees : (j : ℕ) → has (reached s).keys j ≡ p j
    agrees j = quiet-keys x j q ∙ ap (λ (m : PlainSet). m j) (run_log c cs)
