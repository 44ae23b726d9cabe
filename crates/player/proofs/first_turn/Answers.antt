-- `player::first_turn` meets its contract.
use mathlib.Core.Bool.{true, false}
use mathlib.Core.Path.{◌≡◌, sym, ap, ◌∙◌}
use native.Mathlib.Omega.{arith}
use lib.ListN.{length}
use Prim.Native.Nat.{◌≤◌, ◌<◌}
use borrow.Author.Tests.{lt-ltb, le-ltb}
use Rattle.std.specs.Prelude.{is_none}
use Rattle.std.proofs.Common.{rules}
use Rattle.sheet.specs.Sheet.{refused_of}
use Rattle.sheet.specs.declared.calls.Answer.{Answer}
use Rattle.player.specs.Turns.{first_turn, turned_called}
use Rattle.player.proofs.first_turn.Goals as goal

pub returns-then-file-gt60000 : goal.returns-then-file-gt60000
unfolding first_turn refused_of
returns-then-file-gt60000 c =
    let a = c.args in
    let over : 60000 < length a.file.now = omega arith in
    let q = rw (le-ltb (length a.room.now) 256 c.requires) at (c.refusal_line.ensures a.p.now.state) in
    rw (lt-ltb _ _ over) (turned_called q a.p.now.at 2)

pub returns-then-is_none : goal.returns-then-is_none
unfolding first_turn
returns-then-is_none c =
    let within : length c.args.file.now ≤ 60000 = omega arith in
    let q = rw c.line_at-line.ensures.line at c.settings_line.ensures in
    let none : is_none c.settings_line.result.1.refused ≡ true = search rules in
    rw (le-ltb _ _ within, ap (λ (x : Answer). is_none x.refused) (sym q.reply) ∙ none, c.line_at-line.ensures.size) (turned_called q _ 1)

pub returns-else-is_none : goal.returns-else-is_none
unfolding first_turn
returns-else-is_none c =
    let within : length c.args.file.now ≤ 60000 = omega arith in
    let q = rw c.line_at-line.ensures.line at c.settings_line.ensures in
    let some : is_none c.settings_line.result.1.refused ≡ false = search rules in
    rw (le-ltb _ _ within, ap (λ (x : Answer). is_none x.refused) (sym q.reply) ∙ some) (turned_called q _ 2)
