-- `player::next` meets its contract.
use mathlib.Core.Path.{refl}
use borrow.Author.Tests.{lt-ltb, le-ltb, eq-eqb, ne_eqb}
use Rattle.player.specs.Turns.{turn_of}
use Rattle.player.proofs.next.Goals as goal

pub returns-then-room-lt-LEAST_ROOM : goal.returns-then-room-lt-LEAST_ROOM
unfolding turn_of
returns-then-room-lt-LEAST_ROOM c = rw (lt-ltb _ _ c.if-room-lt-LEAST_ROOM.true) (record { reply = refl; bytes = refl })

pub returns-then-p-eq0 : goal.returns-then-p-eq0
unfolding turn_of
returns-then-p-eq0 c = rw (le-ltb _ _ c.if-room-lt-LEAST_ROOM.false, eq-eqb _ _ c.if-p-eq0.true) c.first_turn.ensures

pub returns-then-p-eq1 : goal.returns-then-p-eq1
unfolding turn_of
returns-then-p-eq1 c = rw (le-ltb _ _ c.if-room-lt-LEAST_ROOM.false, ne_eqb _ _ c.if-p-eq0.false, eq-eqb _ _ c.if-p-eq1.true) c.line_turn.ensures

pub returns : goal.returns
unfolding turn_of
returns c = rw (le-ltb _ _ c.if-room-lt-LEAST_ROOM.false, ne_eqb _ _ c.if-p-eq0.false, ne_eqb _ _ c.if-p-eq1.false) (record { reply = refl; bytes = refl })
