-- Tracks: the walk that stands at x will fall in with the walk that starts now at a, or run into a base that has left the tree.
use Rattle.std.specs.Prelude.{true, false, ◌≡◌, refl, ℕ}
use Rattle.std.proofs.Common.{ap, ◌∙◌}
use Rattle.graph.specs.Cases.{Test, holds, fails, test, Amount, none, some, amount}
use Rattle.graph.specs.Walk.{Cell, kid, Direction, next, Walk, walk_on}
use Rattle.graph.specs.Tree.{count, kid_in, walk_in}
use Rattle.graph.specs.Graph.{hung, Graph, In, Out, Good, Moves, hung_made}

pub data Track (m : Graph) (d : Direction) (a : ℕ) : ℕ → Type 0 where
  -- the walk from a meets x
  on : {x : ℕ} → Walk m.cell d a x → Track m d a x
  -- x is a base that has left the tree
  dead : {x : ℕ} → m.own x ≡ hung → Out m x → (m.cell x).route ≡ false → Track m d a x
  -- x is a route that has left the tree, and its child is on the track
  past : (x : ℕ) {z : ℕ} → Track m d a z → m.own x ≡ hung → Out m x → (m.cell x).route ≡ true → next m.cell d x ≡ z → Track m d a x

-- tracks stay
pub tracks : {m m' : Graph} {d : Direction} {a x : ℕ} → Good m → Moves m m' → In m a → Track m d a x → Track m' d a x
tracks {m} {m'} {d} {a} good v i (dead {x} h o b) = dead (v.hangs x h) (v.gone x h o) (v.kind x (hung_made h) ∙ b)
tracks {m} {m'} {d} {a} good v i (past x t h o r n) =
    past x (tracks good v i t) (v.hangs x h) (v.gone x h o) (v.kind x (hung_made h) ∙ r)
    (ap (λ (c : Cell). kid (d x c.key) c) (v.frozen x h (v.gone x h o)) ∙ n)
tracks {m} {m'} {d} {a} good v i (on {x} w) = go (amount (count x m'.tree)) (test (m.cell x).route)
  where
    x_in : In m x
    x_in = walk_in good.shape i w

    h : m.own x ≡ hung
    h = good.grown x x_in

    k : (m'.cell x).route ≡ (m.cell x).route
    k = v.kind x (hung_made h)

    go : Amount (count x m'.tree) → Test (m.cell x).route → Track m' d a x
    go (some j) t = on (v.walks w j)
    go (none o) (fails b) = dead (v.hangs x h) o (k ∙ b)
    go (none o) (holds r) = past x (child (amount (count z m'.tree))) (v.hangs x h) o (k ∙ r) (ap (λ (c : Cell). kid (d x c.key) c) (v.frozen x h o))
      where
        z : ℕ
        z = next m.cell d x

        z_in : In m z
        z_in = kid_in good.shape x x_in r (d x (m.cell x).key)

        z_hung : m.own z ≡ hung
        z_hung = good.grown z z_in

        child : Amount (count z m'.tree) → Track m' d a z
        child (some j) = on (v.walks (walk_on w r refl) j)
        child (none e) =
            dead (v.hangs z z_hung) e (v.kind z (hung_made z_hung) ∙ v.leaves x x_in o r (d x (m.cell x).key) e)
