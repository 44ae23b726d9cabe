-- `writing::put_keys_line` meets its contract.
use Rattle.std.proofs.Common.{rules, sym}
use borrow.Author.Tests.{le-ltb}
use Rattle.text.specs.Text.{keys_line, fitted}
use Rattle.writing.proofs.Puts.{puts_both, puts_end}
use Rattle.writing.proofs.put_keys_line.Goals as goal

pub returns : goal.returns
unfolding fitted keys_line
returns c =
    let w = puts_both c.put_byte.ensures (puts_both c.put_tabbed.ensures (puts_both c.put_keys.ensures c.put_byte-2.ensures)) in
    rw (le-ltb _ _ c.if-room-lt210.false) (puts_end w (search (rules, sym w.place)))
