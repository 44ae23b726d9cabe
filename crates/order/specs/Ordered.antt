-- The invariant of a state's nodes and threads, and of the state after a step.
use Rattle.std.specs.Prelude.{Bool, true, not, ◌||◌, ◌≡◌, ℕ, eqb, get_or}
use Rattle.rules.specs.State.{zero_place, thread_at}
use Rattle.rules.specs.Places.{keys_of}
use Rattle.rules.specs.declared.state.State.{State}
use Rattle.graph.specs.Tree.{Tree}
use Rattle.graph.specs.Graph.{hung}
use Rattle.order.specs.World.{cells_of, world_of}
use Rattle.order.specs.Steady.{Safe}

-- the invariant of a state: of its nodes and threads, with a tree and owners
pub record Ordered (s : State) : Type 0 where
  pub tree : Tree
  pub own : ℕ → ℕ
  pub safe : Safe (world_of s tree own) (thread_at s) s.made

-- the tree stays, with the cells of all hung nodes, and with their keys but for those of thread me's base at phase 5
pub record Unmoved {s : State} (r : Ordered s) (me : ℕ) (s' : State) (t : Tree) : Type 0 where
  pub tree : t ≡ r.tree
  pub cells : (x : ℕ) → r.own x ≡ hung → cells_of s' x ≡ cells_of s x
  pub keys : (x : ℕ) → r.own x ≡ hung → ((thread_at s me).phase ≡ 5 → x ≡ (thread_at s me).base → ⊥)
      → keys_of (get_or s'.places x zero_place) ≡ keys_of (get_or s.places x zero_place)

-- a phase at which a step does not change the tree
abbrev pub quiet_phase : ℕ → Bool
quiet_phase p = not (eqb p 7 || eqb p 19 || eqb p 23)

-- the same of the state after a step of thread me: routes are still routes, and at most phases nothing moves
pub record Stepped {s : State} (r : Ordered s) (me : ℕ) (s' : State) : Type 0 where
  pub tree : Tree
  pub own : ℕ → ℕ
  pub safe : Safe (world_of s' tree own) (thread_at s') s'.made
  pub kinds : (x : ℕ) → (cells_of s x).route ≡ true → (cells_of s' x).route ≡ true
  pub unmoved : quiet_phase (thread_at s me).phase ≡ true → Unmoved r me s' tree
