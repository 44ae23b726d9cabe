-- `sheet::calls::line_in` meets its contract.
use borrow.Author.Tests.{lt-ltb, le-ltb}
use Rattle.sheet.specs.Sheet.{line_in}
use Rattle.sheet.proofs.Called.{called_silent}
use Rattle.sheet.proofs.calls.line_in.Goals as goal

pub returns-then-room-lt-LEAST_ROOM : goal.returns-then-room-lt-LEAST_ROOM
unfolding line_in
returns-then-room-lt-LEAST_ROOM c = rw (lt-ltb _ _ c.if-room-lt-LEAST_ROOM.true) (called_silent _ _ c.silent.ensures)

pub returns : goal.returns
unfolding line_in
returns c = rw (le-ltb _ _ c.if-room-lt-LEAST_ROOM.false, ← c.line_reply-reply.ensures) (c.reply_with.ensures _)
