-- `player::ending` meets its contract.
use Prim.Native.Nat.{suc}
use native.Mathlib.Omega.{arith}
use Rattle.player.specs.Ahead.{ahead_full, ahead_end, end_within, turned_stage}
use Rattle.player.proofs.ending.Goals as goal

pub returns-then-room-all-lt-LEAST_ROOM : goal.returns-then-room-all-lt-LEAST_ROOM
returns-then-room-all-lt-LEAST_ROOM c = λ file o l n h t. ahead_full file (suc n) t (omega arith)

pub behind-requires : goal.behind-requires
behind-requires c =
    let a = c.args in
    omega (arith, end_within a.all.length a.room.now a.p.now.state c.end_line-end.ensures c.requires.fits)

pub returns : goal.returns
returns c = λ file o l n h t.
    rw (c.behind.ensures.refused, c.behind.ensures.size)
    (ahead_end file n (turned_stage t c.requires.stage) c.requires.range (omega (arith, c.requires.fits)) (h (omega (arith, c.requires.fits))) c.end_line-end.ensures)
