-- What the three rows that change the tree do to it.
use Rattle.std.specs.Prelude.{◌≡◌, ℕ, ◌+◌, get_or}
use Rattle.rules.specs.State.{zero_place, thread_at}
use Rattle.rules.specs.Places.{keys_of}
use Rattle.rules.specs.declared.state.State.{State}
use Rattle.graph.specs.Cases.{is}
use Rattle.graph.specs.Tree.{Tree, tip, fork, count}
use Rattle.order.specs.World.{cells_of}
use Rattle.order.specs.Ordered.{Ordered, Stepped}

-- kinds and keys of all nodes stay
pub record Bare (s s' : State) : Type 0 where
  pub kinds : (x : ℕ) → (cells_of s' x).route ≡ (cells_of s x).route
  pub keys : (x : ℕ) → keys_of (get_or s'.places x zero_place) ≡ keys_of (get_or s.places x zero_place)

-- the tree z takes x's place in the tree, which is then t
pub record Replaces {s : State} (r : Ordered s) (s' : State) (t : Tree) (x : ℕ) (z : Tree) : Type 0 where
  pub bare : Bare s s'
  pub counted : (y : ℕ) → count y t + is y x ≡ count y r.tree + count y z

-- p and b leave the tree, which is then t
pub record Drops {s : State} (r : Ordered s) (s' : State) (t : Tree) (p b : ℕ) : Type 0 where
  pub bare : Bare s s'
  pub counted : (y : ℕ) → count y t + is y p + is y b ≡ count y r.tree

-- a step, with what it does to the tree
pub record Moved {s : State} (r : Ordered s) (me : ℕ) (s' : State) : Type 0 where
  pub stepped : Stepped r me s'
  -- the split takes B's place
  pub split : (thread_at s me).phase ≡ 7
      → Replaces r s' stepped.tree (thread_at s me).base
      (fork (thread_at s me).made (tip (cells_of s (thread_at s me).made).left) (tip (cells_of s (thread_at s me).made).right))
  -- P and B leave the tree
  pub splice : (thread_at s me).phase ≡ 19 → Drops r s' stepped.tree (thread_at s me).prev (thread_at s me).base
  -- the made base takes N's place
  pub link : (thread_at s me).phase ≡ 23 → Replaces r s' stepped.tree (thread_at s me).neighbour (tip (thread_at s me).made)
