-- A thread that is idle, or in no phase of the table, plans nothing.
use mathlib.Core.Path.{◌≡◌, ap}
use Prim.Native.Nat.{◌≤◌}
use lib.ListN.{get_or-eq_default}
use Rattle.rules.specs.Rows.{only, row0, rows, plan_of}
use Rattle.rules.specs.declared.row.View.{View}
use Rattle.rules.specs.declared.row.Plan.{Plan}

pub plan_idle : (v : View) → v.thread.phase ≡ 0 → plan_of v ≡ only v v.thread
unfolding plan_of rows row0
plan_idle v e = rw e

pub plan_past : (v : View) → 26 ≤ v.thread.phase → plan_of v ≡ only v v.thread
unfolding plan_of rows row0
plan_past v h = ap (λ (f : View → Plan). f v) (get_or-eq_default rows row0 h)
