-- `player::lines` meets its contract. The invariant: whoever plays on behind what was written has played all behind the first turn.
use mathlib.Core.Path.{◌≡◌, refl}
use native.Mathlib.Omega.{arith}
use Prim.Native.Nat.{◌+◌, ◌≤◌}
use lib.ListN.{length}
use borrow.Author.Rules.{rules}
use Rattle.sheet.proofs.Inner.{line-is_inner}
use Rattle.player.specs.Ahead.{ahead_none, ahead_stage, ahead_line, line_inner, line_within}
use Rattle.player.proofs.lines.Goals as goal

pub loop-p-init : goal.loop-p-init
loop-p-init c = (refl, c.requires, λ o l t. ahead_none _ t)

pub behind-all-requires : goal.behind-all-requires
behind-all-requires c =
    let l = c.loop-p in
    let among = l.invariant.1 in
    let d = rw (line-is_inner l.p.state among.range) at c.line_in-next.ensures in
    omega (arith, line_within l.all.length l.room l.p.state _ d among.fits, l.invariant.0)

pub loop-p-preserved : goal.loop-p-preserved
loop-p-preserved c =
    let l = c.loop-p in
    let among = l.invariant.1 in
    let e = c.line_at-line.ensures in
    let size = c.behind-all.ensures.size in
    let d = rw (line-is_inner l.p.state among.range) at c.line_in-next.ensures in
    let q = rw e.line at d in
    let wide : l.all.length + 256 ≤ length l.room = omega (arith, c.if-room-all-ge-LEAST_ROOM.true) in
    let same : length (_) ≡ length c.args.room.now = search rules in (
      same,
      record {
        stage = among.stage;
        range = line_inner _ _ _ among.range d;
        fits = omega (arith, same, size, line_within l.all.length l.room l.p.state _ d among.fits, l.invariant.0);
      },
      λ o m t.
          rw (c.behind-all.ensures.refused, size, e.size, among.stage)
          (ahead_line (ahead_stage (l.invariant.2 o m t) among.stage) among.range wide c.loop-p-test.true q),
    )
