-- `sheet::calls::refusal_line` meets its contract.
use borrow.Author.Tests.{lt-ltb, le-ltb}
use Rattle.sheet.specs.Sheet.{refused_of}
use Rattle.sheet.proofs.Called.{called_silent}
use Rattle.sheet.proofs.calls.refusal_line.Goals as goal

pub returns-then-room-lt-LEAST_ROOM : goal.returns-then-room-lt-LEAST_ROOM
unfolding refused_of
returns-then-room-lt-LEAST_ROOM c = λ s. rw (lt-ltb _ _ c.if-room-lt-LEAST_ROOM.true) (called_silent _ s c.silent.ensures)

pub returns : goal.returns
unfolding refused_of
returns c = λ s. rw (le-ltb _ _ c.if-room-lt-LEAST_ROOM.false) (c.reply_with.ensures s)
