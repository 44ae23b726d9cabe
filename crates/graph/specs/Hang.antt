-- A tree of nodes that were not hung takes a base's place: the split (a route with two bases) and the link of a join (one base).
use Rattle.std.specs.Prelude.{Bool, ◌≡◌, ℕ, ◌≤◌, ◌<◌}
use Rattle.std.proofs.Math.Bool.{true, false}
use Rattle.graph.specs.Walk.{Cell, kid, by, Walk}
use Rattle.graph.specs.Tree.{Tree, label, count, Shape, Once}
use Rattle.graph.specs.Slot.{Slot}
use Rattle.graph.specs.Graph.{summit, hung, unmade, Graph, In}

-- the tree z, of made nodes that are not hung, is to take the place of the base p under i on side w; the cells are then `cell`
pub record Hangs (m : Graph) (cell : ℕ → Cell) (i : ℕ) (w : Bool) (p n : ℕ) (z : Tree) : Type 0 where
  pub slot : Slot m.cell cell i w p n
  pub under : In m i
  pub base : (m.cell p).route ≡ false
  pub head : label z ≡ n
  pub shape : Shape m.cell z
  pub once : Once z
  pub loose : (x : ℕ) → 1 ≤ count x z → (m.own x ≡ hung → ⊥) × (m.own x ≡ unmade → ⊥)
  pub small : (x : ℕ) → 1 ≤ count x z → x < summit
  pub keys : (x : ℕ) → 1 ≤ count x z → (m.cell x).route ≡ true → (m.cell x).key < 64
  pub rises : (x : ℕ) → 1 ≤ count x z → (m.cell x).route ≡ true → (v : Bool) → (m.cell (kid v (m.cell x))).route ≡ true → x < kid v (m.cell x)
  pub above : i < summit → (m.cell n).route ≡ true → i < n
  -- the keys of its routes lead to p, and in z to their route
  pub search : (x : ℕ) → 1 ≤ count x z → (m.cell x).route ≡ true
      → Walk m.cell (by (m.cell x).key) summit p × Walk m.cell (by (m.cell x).key) n x
