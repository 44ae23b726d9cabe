-- `sheet::calls::steps_reply` meets its contract.
use Rattle.std.proofs.Common.{rules, ◌≡◌, Err}
use Rattle.sheet.proofs.Replies.{run_plays}
use Rattle.sheet.proofs.calls.steps_reply.Goals as goal

pub returns-in_err-taken : goal.returns-in_err-taken
returns-in_err-taken c =
    let e : c.from_residual.result ≡ Err c.in_err-taken.field-0.0 = search rules in
    rw (← c.run_in.ensures, c.in_err-taken.was, e) (run_plays c.args.t (record { reply = _; state = _ }))

pub returns-in-Stops : goal.returns-in-Stops
returns-in-Stops c = rw (← c.run_in.ensures, c.in_ok-taken.was, c.in-Stops.is) (run_plays c.args.t (record { reply = _; state = _ }))

pub returns-in-Ends : goal.returns-in-Ends
returns-in-Ends c = rw (← c.run_in.ensures, c.in_ok-taken.was, c.in-Ends.is) (run_plays c.args.t (record { reply = _; state = _ }))
