-- `writing::put_line` meets its contract.
use Rattle.std.proofs.Common.{rules, sym}
use borrow.Author.Tests.{le-ltb}
use Rattle.text.specs.Text.{fitted, sheet_line}
use Rattle.writing.proofs.Puts.{puts_both, puts_end}
use Rattle.writing.proofs.put_line.Goals as goal

pub returns : goal.returns
unfolding fitted sheet_line
returns c =
    let w = puts_both c.put_byte.ensures (puts_both c.put_tabbed.ensures c.put_byte-2.ensures) in
    rw (le-ltb _ _ c.if-room-numbers.false) (puts_end w (search (rules, sym w.place)))
