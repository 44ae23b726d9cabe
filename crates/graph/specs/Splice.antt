-- A route leaves the tree with the base that is one of its children; its other child takes its place: the splice of a join.
use Rattle.std.specs.Prelude.{Bool, true, false, not, ◌≡◌, ℕ, ◌+◌, ◌<◌}
use Rattle.graph.specs.Cases.{is}
use Rattle.graph.specs.Walk.{Cell, kid, Direction, Walk}
use Rattle.graph.specs.Tree.{Tree, count}
use Rattle.graph.specs.Slot.{Slot}
use Rattle.graph.specs.Graph.{summit, Graph, In, Good, Moves}

-- the child f of route p on side v is to take p's place under i on side w; p's other child is the base b; the cells are then `cell`
pub record Splices (m : Graph) (cell : ℕ → Cell) (i : ℕ) (w : Bool) (p : ℕ) (v : Bool) (b f : ℕ) : Type 0 where
  pub slot : Slot m.cell cell i w p f
  pub under : In m i
  pub route : (m.cell p).route ≡ true
  pub node : p < summit
  pub far : kid v (m.cell p) ≡ f
  pub near : kid (not v) (m.cell p) ≡ b
  pub base : (m.cell b).route ≡ false

-- what comes of it
pub record Spliced (m : Graph) (cell : ℕ → Cell) (p b f : ℕ) : Type 0 where
  pub tree : Tree
  pub counted : (y : ℕ) → count y tree + is y p + is y b ≡ count y m.tree
  pub good : Good (record { cell = cell; tree = tree; own = m.own })
  pub moves : Moves m (record { cell = cell; tree = tree; own = m.own })
  -- what led to p leads to f
  pub leads : {d : Direction} → Walk m.cell d summit p → Walk cell d summit f
