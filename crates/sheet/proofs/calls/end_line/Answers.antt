-- `sheet::calls::end_line` meets its contract.
use borrow.Author.Tests.{lt-ltb, le-ltb}
use Rattle.sheet.specs.Sheet.{end_of}
use Rattle.sheet.proofs.Called.{called_silent}
use Rattle.sheet.proofs.calls.end_line.Goals as goal

pub returns-then-room-lt-LEAST_ROOM : goal.returns-then-room-lt-LEAST_ROOM
unfolding end_of
returns-then-room-lt-LEAST_ROOM c = rw (lt-ltb _ _ c.if-room-lt-LEAST_ROOM.true) (called_silent _ _ c.silent.ensures)

pub returns-then-not-in_range : goal.returns-then-not-in_range
unfolding end_of
returns-then-not-in_range c = rw (le-ltb _ _ c.if-room-lt-LEAST_ROOM.false, ← c.in_range.ensures, c.if-not-in_range.true) (called_silent _ _ c.silent-then-not-in_range.ensures)

pub returns : goal.returns
unfolding end_of
returns c = rw (le-ltb _ _ c.if-room-lt-LEAST_ROOM.false, ← c.in_range.ensures, c.if-not-in_range.false, ← c.end_reply.ensures) (c.reply_with.ensures _)
