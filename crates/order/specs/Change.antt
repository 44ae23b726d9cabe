-- What a step of thread me may do to what other threads rely on.
use Rattle.std.specs.Prelude.{Bool, true, false, ◌≡◌, ℕ, ◌≤◌}
use Rattle.graph.specs.Walk.{kid}
use Rattle.graph.specs.Graph.{hung, Route, Good, Moves}
use Rattle.order.specs.World.{World, graph, cell, valid, hold, keys, in_tree}

-- v is a thread other than me
pub record Other (v me : ℕ) : Type 0 where
  pub differ : v ≡ me → ⊥
  pub thread : v ≤ 7

-- v holds the hung node x
pub record Holds (w : World) (v x : ℕ) : Type 0 where
  pub hung : w.own x ≡ hung
  pub holds : hold w x ≡ v

-- what is v's stays v's, with its keys
pub record Kept (w w' : World) (v x : ℕ) : Type 0 where
  pub holds : hold w' x ≡ v
  pub keys : keys w' x ≡ keys w x

pub record Unhung (w w' : World) (v x : ℕ) : Type 0 where
  pub own : w'.own x ≡ v
  pub cell : cell w' x ≡ cell w x
  pub keys : keys w' x ≡ keys w x

-- a route of the tree and its child on side s
pub record Keeps (w : World) (x : ℕ) (s : Bool) (z : ℕ) : Type 0 where
  pub above : in_tree w x
  pub child : kid s (cell w x) ≡ z

pub record Was (w : World) (x : ℕ) (s : Bool) (z : ℕ) : Type 0 where
  pub route : Route (graph w) x
  pub child : kid s (cell w x) ≡ z

-- K says of which nodes the locks are kept, F whether the valid flags are
pub record Change (w w' : World) (me : ℕ) (K : ℕ → Type 0) (F : Type 0) : Type 0 where
  pub moves : Moves (graph w) (graph w')
  pub good : Good (graph w')
  -- what v has made and not hung
  pub unhung : (v x : ℕ) → Other v me → w.own x ≡ v → Unhung w w' v x
  -- what v holds
  pub held : (v x : ℕ) → Other v me → K x → Holds w v x → Kept w w' v x
  pub flag : (v x : ℕ) → Other v me → F → Holds w v x → valid w' x ≡ valid w x
  pub invalid : (x : ℕ) → w.own x ≡ hung → valid w x ≡ false → valid w' x ≡ false
  -- what v holds stays in the tree, and so does a route above a base that v holds
  pub stays : (v x : ℕ) → Other v me → Holds w v x → in_tree w x → in_tree w' x
  pub parent : (v x : ℕ) (s : Bool) (z : ℕ) → Other v me → Holds w v z → (cell w z).route ≡ false → Route (graph w) x → in_tree w x
      → kid s (cell w x) ≡ z → in_tree w' x
  -- a slot with a node that v holds stays, and none comes to hold a base of v
  pub child : (v x : ℕ) (s : Bool) (z : ℕ) → Other v me → Holds w v z → Route (graph w) x → kid s (cell w x) ≡ z → kid s (cell w' x) ≡ z
  pub back : (v x : ℕ) (s : Bool) (z : ℕ) → Other v me → Holds w v z → (cell w z).route ≡ false → Route (graph w') x
      → kid s (cell w' x) ≡ z → Was w x s z
  -- a base that stays valid and in the tree stays under its route
  pub live : (x : ℕ) (s : Bool) (z : ℕ) → Route (graph w) x → in_tree w x → kid s (cell w x) ≡ z → (cell w z).route ≡ false
      → valid w' z ≡ true → in_tree w' z → Keeps w' x s z
