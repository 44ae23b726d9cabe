-- `sheet::calls::reply_with` meets its contract.
use Rattle.sheet.specs.Sheet.{refusal}
use Rattle.sheet.proofs.Called.{called_wrote, called_line}
use native.Mathlib.Omega.{arith}
use Rattle.sheet.proofs.calls.reply_with.Goals as goal

pub returns-in-Ok : goal.returns-in-Ok
returns-in-Ok c = λ s. rw c.in-Ok.is (called_wrote _ s _ c.put.ensures)

pub returns-in-Err : goal.returns-in-Err
unfolding refusal
returns-in-Err c = λ s. rw (c.in-Err.is, ← c.number.ensures) (called_line _ s _ _ c.put_line.ensures (omega (arith, c.requires)))
