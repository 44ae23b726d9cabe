-- `player::several` meets its contract.
use mathlib.Core.Path.{sym, ◌∙◌}
use lib.ListN.{length}
use Rattle.player.specs.Turns.{turn_of}
use Rattle.player.specs.Ahead.{turn_within, alone_stage, alone_range, several_behind}
use Rattle.player.proofs.several.Goals as goal

pub returns-then-p-ne1 : goal.returns-then-p-ne1
returns-then-p-ne1 c = alone_stage c.args.file.now c.args.p.now c.next-first.ensures c.if-p-ne1.true

pub returns-then-not-in_range : goal.returns-then-not-in_range
returns-then-not-in_range c = alone_range c.args.file.now c.args.p.now c.next-first.ensures (sym c.in_range.ensures ∙ c.if-not-in_range.true)

pub lines-all-requires : goal.lines-all-requires
lines-all-requires c =
    record {
      stage = c.if-p-ne1.false;
      range = sym c.in_range.ensures ∙ c.if-not-in_range.false;
      fits = turn_within c.args.file.now c.args.p.now c.next-first.ensures;
    }

pub returns : goal.returns
returns c =
    let d = c.args in
    let n = c.next-first.ensures in
    let a = c.lines-all.ensures.going (turn_of (length d.room.now) d.file.now d.p.now) d.room.now n in
    several_behind d.file.now d.p.now n a
    (c.ending.ensures d.file.now a.last d.room.now a.turns c.lines-all.ensures.done a.turned)
