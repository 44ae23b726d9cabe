-- `player::lines` meets its contract. The invariant: whoever plays on behind what was written has played all behind the first turn.
use mathlib.Core.List.{List}
use mathlib.Core.Path.{◌≡◌}
use Prim.Native.Nat.{ℕ, ◌-◌}
use lib.ListN.{length}
use Rattle.player.specs.Turns.{Out, Turned, turned_to}
use Rattle.player.specs.Ahead.{Ahead, Among}
use Rattle.player.proofs.lines.Given as goal

abbrev pub invariant-loop-p : goal.invariant-loop-p
invariant-loop-p l =
    (length l.room ≡ length l.initial.room) × Among (turned_to l.all l.p) l.room
    × ((o : Out) (m : List ℕ) → Turned o m (turned_to l.fn.first l.initial.p) l.initial.room → Ahead l.file o m (turned_to l.all l.p) l.room)

abbrev pub decreases-loop-p : goal.decreases-loop-p
decreases-loop-p l = length l.file - l.p.at
