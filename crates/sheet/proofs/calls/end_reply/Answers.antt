-- `sheet::calls::end_reply` meets its contract.
use Rattle.std.proofs.Common.{rules, ◌≡◌, Err}
use Rattle.sheet.proofs.Replies.{end_plays}
use Rattle.sheet.proofs.calls.end_reply.Goals as goal

pub returns-in_err-keys : goal.returns-in_err-keys
returns-in_err-keys c =
    let e : c.from_residual.result ≡ Err c.in_err-keys.field-0.0 = search rules in
    rw (← c.key_list.ensures.answer, c.in_err-keys.was, e) (end_plays c.args.s.now _)

pub returns : goal.returns
returns c = rw (← c.key_list.ensures.answer, c.in_ok-keys.was) (end_plays c.args.s.now _)
