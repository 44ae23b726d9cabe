-- 128 places allow at most 42 routes.
use Rattle.std.proofs.Common.{arith}
use Prim.Native.Nat.{◌≤◌}
use Rattle.rules.specs.declared.state.State.{State}
use Rattle.graph.specs.Count.{routes}
use Rattle.graph.specs.Graph.{summit}
use Rattle.order.specs.World.{cells_of}
use Rattle.order.specs.Invariant.{Invariant}

-- there are at most 42 routes
pub room : {s : State} → Invariant s → routes (cells_of s) summit ≤ 42
room i = omega (arith, i.nodes.safe.sound.many, i.nodes.safe.sound.room)
