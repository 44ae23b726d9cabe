-- `sheet::calls::begin_reply` meets its contract.
use Rattle.std.proofs.Common.{rules, ◌≡◌, Err}
use Rattle.sheet.proofs.Replies.{begin_plays}
use Rattle.sheet.proofs.calls.begin_reply.Goals as goal

pub returns-in_err-begin_in : goal.returns-in_err-begin_in
returns-in_err-begin_in c =
    let e : c.from_residual.result ≡ Err c.in_err-begin_in.field-0.0 = search rules in
    rw (← c.begin_in.ensures, c.in_err-begin_in.was, e) (begin_plays c.args.t (record { reply = _; state = _ }))

pub returns : goal.returns
returns c = rw (← c.begin_in.ensures, c.in_ok-begin_in.was) (begin_plays c.args.t (record { reply = _; state = _ }))
