-- Demand 3 holds after any calls from a fresh state.
use Rattle.std.specs.Prelude.{List}
use Rattle.std.proofs.Common.{sym, ap, ◌∙◌}
use Rattle.rules.specs.State.{fresh}
use Rattle.rules.specs.declared.state.Settings.{Settings}
use Rattle.runs.specs.Demand.{Demand3}
use Rattle.runs.specs.Calls.{Move, after_moves, Call, after_calls, moves_of}
use Rattle.runs.specs.Passes.{one}
use Rattle.runs.specs.PlainSet.{PlainSet}
use Rattle.runs.specs.Log.{log_of}
use Rattle.runs.specs.Events.{events_of}
use Rattle.order.specs.Invariant.{fresh_kept}
use Rattle.order.proofs.Search.{left_smaller, right_not_smaller, left_route_smaller, right_route-not_smaller}
use Rattle.order.proofs.Reached.{met_reached, reached-is_met}
use Rattle.order.specs.Refusal.{step_not_8, run_not_8, list_not_8}
use Rattle.order.proofs.Bounded.{at_most_42}
use Rattle.plain.specs.Plain.{Plain}
use Rattle.plain.specs.Counted.{plain_holders}
use Rattle.plain.specs.Runs.{plain_after, run_plain}
use Rattle.plain.proofs.Log.{run_right, run_log, run_counts}
use Rattle.plain.proofs.Events.{run_fits, run_stands, events_log}
use Rattle.plain.proofs.Quiet.{run_quiet}
use Rattle.plain.proofs.CountedSteps.{calls_are_moves}

-- every run has it, whatever its begins, steps and counted steps
pub demand3 : (c : Settings) (calls : List Call)
    → Demand3 c calls (after_calls (fresh c) calls) (events_of (fresh c) (moves_of (fresh c) calls)) (log_of (fresh c) (moves_of (fresh c) calls))
demand3 c calls =
    rw (calls_are_moves (fresh_kept c) calls)
    (record {
      commits = sym (events_log (fresh c) cs);
      all = run_counts c cs;
      operations = run_fits c cs;
      standing = run_stands c cs;
      answers = run_right c cs;
      keys = λ j. plain_holders x j ∙ ap (λ (q : PlainSet). one (q j)) (run_log c cs);
      met = met_reached x.inv;
      meets = reached-is_met x.inv;
      listed = run_quiet c cs;
      left = λ y b j r t q f h. left_smaller x.inv r t q f j h;
      right = λ y b j r t q f h. right_not_smaller x.inv r t q f j h;
      left_routes = λ y z r t q f. left_route_smaller x.inv r t q f;
      right_routes = λ y z r t q f. right_route-not_smaller x.inv r t q f;
      routes = λ t. at_most_42 c t cs;
      steps = λ t. step_not_8 x.inv t;
      counts = λ t n. run_not_8 x.inv t n;
      list = list_not_8 x.inv;
    })
  where
    cs : List Move
    cs = moves_of (fresh c) calls

    x : Plain (after_moves (fresh c) cs) (plain_after (fresh c) cs 0)
    x = run_plain c cs
