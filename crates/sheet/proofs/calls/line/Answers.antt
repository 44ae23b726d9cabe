-- `sheet::calls::line` meets its contract.
use mathlib.Core.Path.{sym, ◌∙◌}
use borrow.Author.Tests.{lt-ltb, le-ltb}
use Rattle.sheet.specs.Sheet.{line_of}
use Rattle.sheet.proofs.Called.{called_silent}
use Rattle.sheet.proofs.Inner.{line-is_inner}
use Rattle.sheet.proofs.calls.line.Goals as goal

pub returns-then-room-lt-LEAST_ROOM : goal.returns-then-room-lt-LEAST_ROOM
unfolding line_of
returns-then-room-lt-LEAST_ROOM c = rw (lt-ltb _ _ c.if-room-lt-LEAST_ROOM.true) (called_silent _ _ c.silent.ensures)

pub returns-then-not-in_range : goal.returns-then-not-in_range
unfolding line_of
returns-then-not-in_range c = rw (le-ltb _ _ c.if-room-lt-LEAST_ROOM.false, ← c.in_range.ensures, c.if-not-in_range.true) (called_silent _ _ c.silent-then-not-in_range.ensures)

pub returns : goal.returns
returns c = rw (← line-is_inner _ (sym c.in_range.ensures ∙ c.if-not-in_range.false)) c.line_in.ensures
