-- A state as a graph: its places through a function, the root as the left child of the summit, and beside it what no code holds: the tree,
-- and whose each node is.
use Rattle.std.specs.Prelude.{Bool, true, false, cond, ◌≡◌, refl, ℕ, ◌+◌, ◌*◌, ◌≤◌, ◌<◌, eqb, get_or}
use Rattle.std.proofs.Common.{ne_eqb}
use Rattle.rules.specs.State.{none, zero_place}
use Rattle.rules.specs.Places.{keys_of}
use Rattle.rules.specs.declared.state.Body.{Body}
use Rattle.rules.specs.declared.state.Body.TheVariants.{Base, Route}
use Rattle.rules.specs.declared.state.Place.{Place}
use Rattle.rules.specs.declared.state.Thread.{Thread}
use Rattle.rules.specs.declared.state.State.{State}
use Rattle.graph.specs.Walk.{Cell, kid}
use Rattle.graph.specs.Count.{routes}
use Rattle.graph.specs.Tree.{Tree}
use Rattle.graph.specs.Graph.{summit, hung, unmade, Graph, In, Out, Good, Belongs}

-- the cell of a body
abbrev pub cell_of_body : Body → Cell
cell_of_body (Base ks) = record { route = false; key = 0; left = none; right = none }
cell_of_body (Route k l r) = record { route = true; key = k; left = l; right = r }

-- the cell of the summit: every key goes left there, to the root; on its right stands a base that is no node
abbrev pub crown : ℕ → Cell
crown root = record { route = true; key = 64; left = root; right = 129 }

-- the cells of places under a root
pub cell_at : ℕ → (ℕ → Place) → ℕ → Cell
cell_at root place x = cond (eqb x summit) (crown root) (cell_of_body (place x).body)

pub cell-summit : (root : ℕ) (place : ℕ → Place) → cell_at root place summit ≡ crown root
unfolding cell_at
cell-summit root place = refl

pub cell_node : (root : ℕ) (place : ℕ → Place) (x : ℕ) → (x ≡ summit → ⊥) → cell_at root place x ≡ cell_of_body (place x).body
unfolding cell_at
cell_node root place x h = rw (ne_eqb x summit h)

-- the same root and the same body make the same cell
pub cell_same : {root root' : ℕ} (place place' : ℕ → Place) (x : ℕ) → root' ≡ root → (place' x).body ≡ (place x).body
    → cell_at root' place' x ≡ cell_at root place x
unfolding cell_at
cell_same place place' x e b = rw (e, b)

pub record World : Type 0 where
  pub root : ℕ
  pub place : ℕ → Place
  pub tree : Tree
  pub own : ℕ → ℕ

abbrev pub graph : World → Graph
graph w = record { cell = cell_at w.root w.place; tree = w.tree; own = w.own }

abbrev pub cell : World → ℕ → Cell
cell w = cell_at w.root w.place

abbrev pub valid : World → ℕ → Bool
valid w x = (w.place x).valid

abbrev pub hold : World → ℕ → ℕ
hold w x = (w.place x).lock.holder

abbrev pub keys : World → ℕ → ℕ
keys w x = keys_of (w.place x)

abbrev pub in_tree : World → ℕ → Type 0
in_tree w x = In (graph w) x

abbrev pub out_of_tree : World → ℕ → Type 0
out_of_tree w x = Out (graph w) x

-- the cells of a state
abbrev pub cells_of : State → ℕ → Cell
cells_of s = cell_at s.root (λ x. get_or s.places x zero_place)

-- the world of a state
abbrev pub world_of : State → Tree → (ℕ → ℕ) → World
world_of s t own =
    record {
      root = s.root;
      place = λ x. get_or s.places x zero_place;
      tree = t;
      own = own;
    }

-- a valid node that has left the tree is the base of a thread at phase 8, which holds it
pub record Late (w : World) (thread : ℕ → Thread) (x : ℕ) : Type 0 where
  pub holder : hold w x ≤ 7
  pub phase : (thread (hold w x)).phase ≡ 8
  pub base : (thread (hold w x)).base ≡ x

-- what holds of the nodes, with the threads and the count of nodes made
pub record Sound (w : World) (thread : ℕ → Thread) (made : ℕ) : Type 0 where
  pub good : Good (graph w)
  pub belongs : Belongs (graph w) (keys w)
  pub late : (x : ℕ) → w.own x ≡ hung → out_of_tree w x → valid w x ≡ true → Late w thread x
  -- a base child of a route that has left the tree has left it too, or is invalid
  pub stale : (x : ℕ) → w.own x ≡ hung → (cell w x).route ≡ true → out_of_tree w x → (s : Bool) → (cell w (kid s (cell w x))).route ≡ false
      → in_tree w (kid s (cell w x)) → valid w (kid s (cell w x)) ≡ false
  pub entry : w.root < summit
  pub room : made ≤ 128
  pub fresh : (x : ℕ) → made ≤ x → x < summit → w.own x ≡ unmade
  -- a route is one of three nodes that were made together, after the first
  pub many : 1 + 3 * routes (cell w) summit ≤ made
