-- `ready::stuck` meets its contract past the phases of the table.
use Rattle.std.proofs.Common.{sym, arith}
use Rattle.ready.proofs.Idle.{ready_past}
use Rattle.ready.proofs.stuck.Goals as goal

pub returns-in_default-2 : goal.returns-in_default-2
returns-in_default-2 c = sym (ready_past _ (omega arith))
