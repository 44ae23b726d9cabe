-- A tree with another tree in the place of the one under a slot.
use Rattle.std.specs.Prelude.{Bool, true, false, ◌≡◌, ℕ}
use Rattle.graph.specs.Walk.{Cell, kid}
use Rattle.graph.specs.Tree.{Tree, fork, label, Shape}

-- t' is t with the tree b in the place of the tree a, which stands under i on side w
pub data Graft (i : ℕ) (w : Bool) (a b : Tree) : Tree → Tree → Type 0 where
  at_l : (o : Tree) → w ≡ false → Graft i w a b (fork i a o) (fork i b o)
  at_r : (o : Tree) → w ≡ true → Graft i w a b (fork i o a) (fork i o b)
  left : (n : ℕ) {l l' : Tree} (r : Tree) → Graft i w a b l l' → Graft i w a b (fork n l r) (fork n l' r)
  right : (n : ℕ) (l : Tree) {r r' : Tree} → Graft i w a b r r' → Graft i w a b (fork n l r) (fork n l r')

-- the tree under a slot, and what any other tree in its place makes
pub record Cut (g : ℕ → Cell) (i : ℕ) (w : Bool) (t : Tree) : Type 0 where
  pub part : Tree
  pub shape : Shape g part
  pub head : label part ≡ kid w (g i)
  pub filled : Tree → Tree
  pub graft : (b : Tree) → Graft i w part b t (filled b)
