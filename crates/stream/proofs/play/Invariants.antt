-- Each call plays on, and comes nearer to the end of the play; what the calls left is what the writer took.
use Rattle.std.proofs.Common.{◌≡◌, ◌≤◌, List, length}
use Rattle.std.specs.Io.KnownBytes.{Appends}
use Rattle.player.specs.Turns.{opened}
use Rattle.player.specs.Several.{several_of}
use Rattle.player.specs.Sheets.{Call, Calls, taken, reached, Playing, turns_left}
use Rattle.stream.proofs.play.Given as goal

abbrev pub invariant-loop-p : goal.invariant-loop-p
invariant-loop-p g l =
    (256 ≤ length l.room)
    × Playing l.file l.p
    × (cs : List Call)
    × Calls several_of l.file opened cs
    × (reached opened cs ≡ l.p)
    × Appends (g.W.Write.contents l.fn.to) (g.W.Write.contents l.to) (taken cs)

abbrev pub decreases-loop-p : goal.decreases-loop-p
decreases-loop-p g l = turns_left l.file l.p
