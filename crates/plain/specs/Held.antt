-- The keys that a state holds: those of the bases of the tree, and of the base registers of threads in phases 20 to 23.
use Rattle.std.specs.Prelude.{true, false, ◌≡◌, ℕ, ◌≤◌, leb, get_or}
use Rattle.std.proofs.Common.{arith, leb-true}
use Rattle.keys.specs.Keys.{has}
use Rattle.rules.specs.State.{zero_place, thread_at}
use Rattle.rules.specs.Places.{keys_of}
use Rattle.rules.specs.declared.state.State.{State}
use Rattle.states.specs.Tests.{both}
use Rattle.graph.specs.Cases.{Same, same, apart, compared}
use Rattle.graph.specs.Tree.{count}
use Rattle.runs.specs.Holders.{late}
use Rattle.order.specs.World.{World, cells_of, world_of}
use Rattle.order.specs.Stages.{Linking, Stage}
use Rattle.order.specs.AtPhase.{at_phase_lem}
use Rattle.order.specs.Ordered.{Ordered}

-- the keys of node x
abbrev pub keys_at : State → ℕ → ℕ
keys_at s x = keys_of (get_or s.places x zero_place)

-- j is a key of a base of the tree, or of the base register of a late thread
pub data Held {s : State} (r : Ordered s) (j : ℕ) : Type 0 where
  in_base : (b : ℕ) → 1 ≤ count b r.tree → (cells_of s b).route ≡ false → has (keys_at s b) j ≡ true → Held r j
  in_retired : (v : ℕ) → v ≤ 7 → late (thread_at s v).phase ≡ true → has (keys_at s (thread_at s v).base) j ≡ true → Held r j

module _ {s : State} (r : Ordered s) where
  abbrev w : World
  w = world_of s r.tree r.own

  -- the condition of a late thread
  pub linking_of : (v : ℕ) → v ≤ 7 → late (thread_at s v).phase ≡ true
      → Linking (world_of s r.tree r.own) v (thread_at s v).side (thread_at s v).prev (thread_at s v).base (thread_at s v).neighbour (thread_at s v).made
  linking_of v l e = go (compared p 20) (compared p 21) (compared p 22)
    where
      p : ℕ
      p = (thread_at s v).phase

      stage : Stage w v (thread_at s v)
      stage = r.safe.each v l

      bounds : (leb 20 p ≡ true) × (leb p 23 ≡ true)
      bounds = both (leb 20 p) (leb p 23) e

      go : Same p 20 → Same p 21 → Same p 22
          → Linking w v (thread_at s v).side (thread_at s v).prev (thread_at s v).base (thread_at s v).neighbour (thread_at s v).made
      go (same q) y z = (at_phase_lem 20 q stage).0
      go (apart a) (same q) z = (at_phase_lem 21 q stage).0
      go (apart a) (apart b) (same q) = (at_phase_lem 22 q stage).0
      go (apart a) (apart b) (apart c) =
          (at_phase_lem 23 (omega (arith, a, b, c, leb-true 20 p bounds.0, leb-true p 23 bounds.1)) stage).0
