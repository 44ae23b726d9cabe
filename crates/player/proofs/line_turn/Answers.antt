-- `player::line_turn` meets its contract.
use borrow.Author.Tests.{le-leb, lt-leb}
use Rattle.player.specs.Turns.{line_turn, turned_called}
use Rattle.player.proofs.line_turn.Goals as goal

pub returns-then-file-p : goal.returns-then-file-p
unfolding line_turn
returns-then-file-p c = rw (le-leb _ _ c.if-file-p.true) (turned_called c.end_line.ensures _ 2)

pub returns : goal.returns
unfolding line_turn
returns c =
    let q = rw c.line_at-line.ensures.line at c.line.ensures in
    rw (lt-leb _ _ c.if-file-p.false, c.line_at-line.ensures.size) (turned_called q _ 1)
