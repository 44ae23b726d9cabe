-- A thread that is idle, or in no phase of the table, is not stuck.
use mathlib.Core.Path.{◌≡◌, ap}
use mathlib.Core.Bool.{Bool, false, not}
use Prim.Native.Nat.{◌≤◌}
use lib.ListN.{get_or-eq_default}
use Rattle.rules.specs.Needs.{needs, idle, stuck}
use Rattle.rules.specs.declared.row.View.{View}

pub ready_idle : (v : View) → v.thread.phase ≡ 0 → stuck v ≡ false
unfolding stuck needs
ready_idle v e = rw e

pub ready_past : (v : View) → 26 ≤ v.thread.phase → stuck v ≡ false
unfolding stuck needs
ready_past v h = ap (λ (f : View → Bool). not (f v)) (get_or-eq_default needs idle h)
