-- A call of several turns: as many as surely fit into the room.
use Rattle.std.specs.Prelude.{Bool, cond, not, ◌&&◌, List, ◌++◌, ℕ, zero, suc, ◌+◌, ◌-◌, eqb, length, Option, Some, None}
use Rattle.rules.specs.Range.{in_range}
use Rattle.sheet.specs.Sheet.{narrow}
use Rattle.player.specs.Turns.{Out, turn_of}
use Rattle.player.specs.declared.Player.{Player}
use Rattle.rules.specs.declared.answer.Refusal.{Refusal}

-- the last refusal, if there is one
abbrev pub last : Option Refusal → Option Refusal → Option Refusal
last before None = before
last before (Some r) = Some r

-- a turn behind others: its line behind theirs, and the refusal of the last refused line
abbrev pub behind : Out → Out → Out
behind o q =
    record { refused = last o.refused q.refused; sheet = o.sheet ++ q.sheet; player = q.player }

-- another turn follows: the play is among the lines, its state is in range, and 256 bytes of the room are left
abbrev pub goes_on : ℕ → Out → Bool
goes_on room o = not (narrow (room - length o.sheet)) && eqb o.player.stage 1 && in_range o.player.state

-- at most n turns more, each in what the last left of the room
unfoldable pub turns_of : ℕ → ℕ → List ℕ → Out → Out
turns_of zero room file o = o
turns_of (suc n) room file o =
    cond (goes_on room o) (turns_of n room file (behind o (turn_of (room - length o.sheet) file o.player))) o

-- one turn, and as many more as surely fit: no file has more than one for each byte, and the end line
unfoldable pub several_of : ℕ → List ℕ → Player → Out
several_of room file p = turns_of (length file + 1) room file (turn_of room file p)
