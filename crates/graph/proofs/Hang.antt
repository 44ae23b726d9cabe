-- A tree of nodes that were not hung takes a base's place: the split (a route with two bases) and the link of a join (one base).
use Rattle.std.specs.Prelude.{Bool, cond, ◌≡◌, refl, ℕ, ◌+◌, ◌≤◌, ◌<◌, leb}
use Rattle.std.proofs.Math.Bool.{true, false}
use Rattle.std.proofs.Common.{true≢false, ◌∙◌, le-leb}
use Rattle.std.proofs.Math.Path.{sym, ap}
use native.Mathlib.Omega.{arith}
use Rattle.std.proofs.lemmas.Bool.{lt-leb}
use Rattle.keys.specs.Keys.{has}
use Rattle.graph.specs.Cases.{Amount, none, some, amount, is, is_same, is_apart, is_some}
use Rattle.graph.specs.Walk.{Cell, kid, Direction, by, Walk, walk_from, walk_join}
use Rattle.graph.specs.Tree.{Tree, label, count, shape_same, kid_in, label_in, tip_count, walk_in}
use Rattle.graph.specs.Slot.{leaf, slot_route, slot_key, Child, kept, slot, child, walk_slot}
use Rattle.graph.proofs.Graft.{graft_count, graft_label, graft_shape, graft_walk, cut}
use Rattle.graph.specs.Graft.{Cut}
use Rattle.graph.specs.Graph.{summit, hung, unmade, Graph, In, Out, Route, Good, Belongs, Moves, hung_made}
use Rattle.graph.specs.Hang.{Hangs}

-- whose each node is once the nodes of z are hung
pub hung_in : Tree → (ℕ → ℕ) → ℕ → ℕ
hung_in z own x = cond (leb 1 (count x z)) hung (own x)

pub hung_in_lem : (z : Tree) (own : ℕ → ℕ) (x : ℕ) → 1 ≤ count x z → hung_in z own x ≡ hung
unfolding hung_in
hung_in_lem z own x i = rw (le-leb 1 (count x z) i)

pub hung-out : (z : Tree) (own : ℕ → ℕ) (x : ℕ) → count x z ≡ 0 → hung_in z own x ≡ own x
unfolding hung_in
hung-out z own x o = rw (lt-leb 1 (count x z) (omega arith))

-- what comes of it
pub record Hung (m : Graph) (cell : ℕ → Cell) (p n : ℕ) (z : Tree) : Type 0 where
  pub tree : Tree
  pub counted : (y : ℕ) → count y tree + is y p ≡ count y m.tree + count y z
  pub good : Good (record { cell = cell; tree = tree; own = hung_in z m.own })
  pub moves : Moves m (record { cell = cell; tree = tree; own = hung_in z m.own })
  -- what led to p leads to the head of z
  pub leads : {d : Direction} → Walk m.cell d summit p → Walk cell d summit n
  -- walks in z are as before
  pub inner : {d : Direction} {x y : ℕ} → 1 ≤ count x z → Walk m.cell d x y → Walk cell d x y

module _ {m : Graph} (good : Good m) {cell : ℕ → Cell} {i : ℕ} {w : Bool} {p n : ℕ} {z : Tree} (h : Hangs m cell i w p n z) where
  c : Cut m.cell i w m.tree
  c = cut good.shape i h.under h.slot.route w

  t : Tree
  t = c.filled z

  part_label : label c.part ≡ p
  part_label = c.head ∙ h.slot.was

  counted : (y : ℕ) → count y t + is y p ≡ count y m.tree + count y z
  unfolding t
  counted y =
      omega (
        arith,
        graft_count (c.graft z) y,
        tip_count c.shape (ap (λ (x : ℕ). (m.cell x).route) part_label ∙ h.base) y,
        ap (λ (x : ℕ). is y x) part_label,
      )

  -- no node of z is in the tree yet
  fresh : (x : ℕ) → 1 ≤ count x z → Out m x
  fresh x j = go (amount (count x m.tree))
    where
      go : Amount (count x m.tree) → Out m x
      go (none e) = e
      go (some k) = absurd ((h.loose x j).0 (good.grown x k))

  inside : (x : ℕ) → 1 ≤ count x z → cell x ≡ m.cell x
  inside x j = h.slot.others x (λ e. (h.loose x j).0 (rw e (good.grown i h.under)))

  old_in : In m p
  old_in = rw h.slot.was at (kid_in good.shape i h.under h.slot.route w)

  -- p leaves the tree
  left : count p t ≡ 0
  left = go (amount (count p z))
    where
      go : Amount (count p z) → count p t ≡ 0
      go (some j) = absurd (omega (arith, fresh p j, old_in))
      go (none e) = omega (arith, counted p, good.once p, is_same {x = p} refl)

  apart_p : {y : ℕ} → 1 ≤ count y t → p ≡ y → ⊥
  apart_p j e = omega (arith, left, rw (sym e) at j)

  stays : (x : ℕ) → m.own x ≡ hung → hung_in z m.own x ≡ hung
  stays x e = go (amount (count x z))
    where
      go : Amount (count x z) → hung_in z m.own x ≡ hung
      go (some j) = hung_in_lem z m.own x j
      go (none o) = hung-out z m.own x o ∙ e

  new_hung : hung_in z m.own n ≡ hung
  new_hung = rw h.head at (hung_in_lem z m.own (label z) (label_in z))

  new_in : 1 ≤ count n z
  new_in = rw h.head at (label_in z)

  inner : {d : Direction} {x y : ℕ} → 1 ≤ count x z → Walk m.cell d x y → Walk cell d x y
  inner {y = y} j u =
      walk_slot h.slot (leaf h.base) (λ e. omega (arith, fresh y (walk_in h.shape j u), rw e at old_in)) u

  leads : {d : Direction} → Walk m.cell d summit p → Walk cell d summit n
  unfolding t
  leads u =
      walk_from (sym (graft_label (c.graft z) ∙ good.head))
      (graft_walk h.slot (c.graft z) part_label good.once good.shape (walk_from good.head u))

  m' : Graph
  m' = record { cell = cell; tree = t; own = hung_in z m.own }

  -- a hung route is of z, or was one before
  data Kind (x : ℕ) : Type 0 where
    from_z : 1 ≤ count x z → (m.cell x).route ≡ true → Kind x
    from_old : count x z ≡ 0 → Route m x → Kind x

  kind_of : (x : ℕ) → Route m' x → Kind x
  unfolding m'
  kind_of x r = go (amount (count x z))
    where
      e : (m.cell x).route ≡ true
      e = sym (slot_route h.slot x) ∙ r.route

      go : Amount (count x z) → Kind x
      go (some j) = from_z j e
      go (none o) = from_old o (record { hung = sym (hung-out z m.own x o) ∙ r.hung; route = e })

  same_kid : (x : ℕ) → 1 ≤ count x z → (v : Bool) → kid v (cell x) ≡ kid v (m.cell x)
  same_kid x j v = ap (λ (k : Cell). kid v k) (inside x j)

  kids : (x : ℕ) → Route m' x → (v : Bool) → hung_in z m.own (kid v (cell x)) ≡ hung
  kids x r v = go (kind_of x r)
    where
      old : Route m x → Child h.slot x v → hung_in z m.own (kid v (cell x)) ≡ hung
      old q (kept e) = rw e (stays (kid v (m.cell x)) (good.kids x q v))
      old q (slot _ _ e) = rw e new_hung

      go : Kind x → hung_in z m.own (kid v (cell x)) ≡ hung
      go (from_z j e) = rw (same_kid x j v) (hung_in_lem z m.own (kid v (m.cell x)) (kid_in h.shape x j e v))
      go (from_old o q) = old q (child h.slot x v)

  small : (x : ℕ) → Route m' x → x < summit → (v : Bool) → kid v (cell x) < summit
  small x r l v = go (kind_of x r)
    where
      old : Route m x → Child h.slot x v → kid v (cell x) < summit
      old q (kept e) = rw e (good.small x q l v)
      old q (slot _ _ e) = rw e (h.small n new_in)

      go : Kind x → kid v (cell x) < summit
      go (from_z j e) = rw (same_kid x j v) (h.small (kid v (m.cell x)) (kid_in h.shape x j e v))
      go (from_old o q) = old q (child h.slot x v)

  keys : (x : ℕ) → Route m' x → x < summit → (cell x).key < 64
  keys x r l = go (kind_of x r)
    where
      go : Kind x → (cell x).key < 64
      go (from_z j e) = rw (slot_key h.slot x) (h.keys x j e)
      go (from_old o q) = rw (slot_key h.slot x) (good.keys x q l)

  rises : (x : ℕ) → Route m' x → x < summit → (v : Bool) → (cell (kid v (cell x))).route ≡ true → x < kid v (cell x)
  rises x r l v b = go (kind_of x r)
    where
      before : (y : ℕ) → kid v (cell x) ≡ y → (m.cell y).route ≡ true
      before y e = rw e at (sym (slot_route h.slot (kid v (cell x))) ∙ b)

      old : Route m x → Child h.slot x v → x < kid v (cell x)
      old q (kept e) = rw e (good.rises x q l v (before (kid v (m.cell x)) e))
      old q (slot a _ e) = rw (e, a) (h.above (rw a at l) (before n e))

      go : Kind x → x < kid v (cell x)
      go (from_z j e) = rw (same_kid x j v) (h.rises x j e v (before (kid v (m.cell x)) (same_kid x j v)))
      go (from_old o q) = old q (child h.slot x v)

  search : (x : ℕ) → 1 ≤ count x t → (cell x).route ≡ true → Walk cell (by (cell x).key) summit x
  search x i' b = go (amount (count x z))
    where
      e : (m.cell x).route ≡ true
      e = sym (slot_route h.slot x) ∙ b

      go : Amount (count x z) → Walk cell (by (cell x).key) summit x
      go (some j) = let k = h.search x j e in rw (slot_key h.slot x) (walk_join (leads k.0) (inner new_in k.1))
      go (none o) =
          rw (slot_key h.slot x) (walk_slot h.slot (leaf h.base) (apart_p i') (good.search x (omega (arith, counted x)) e))

  bare : (x : ℕ) → hung_in z m.own x ≡ unmade → (cell x).route ≡ false
  bare x u = go (amount (count x z))
    where
      go : Amount (count x z) → (cell x).route ≡ false
      go (some j) = absurd (hung_made (hung_in_lem z m.own x j) u)
      go (none o) = slot_route h.slot x ∙ good.bare x (sym (hung-out z m.own x o) ∙ u)

  grown : (x : ℕ) → 1 ≤ count x t → hung_in z m.own x ≡ hung
  grown x j = go (amount (count x z))
    where
      go : Amount (count x z) → hung_in z m.own x ≡ hung
      go (some k) = hung_in_lem z m.own x k
      go (none o) = stays x (good.grown x (omega (arith, counted x)))

  once : (y : ℕ) → count y t ≤ 1
  once y = go (amount (count y z))
    where
      go : Amount (count y z) → count y t ≤ 1
      go (some j) = omega (arith, counted y, fresh y j, h.once y)
      go (none o) = omega (arith, counted y, good.once y)

  gone : (x : ℕ) → m.own x ≡ hung → Out m x → count x t ≡ 0
  gone x e o = go (amount (count x z))
    where
      go : Amount (count x z) → count x t ≡ 0
      go (some j) = absurd ((h.loose x j).0 e)
      go (none k) = omega (arith, counted x)

  i_stays : 1 ≤ count i t
  i_stays =
      omega (
        arith,
        counted i,
        h.under,
        is_apart {x = i} {y = p} (λ e. true≢false (sym h.slot.route ∙ ap (λ (x : ℕ). (m.cell x).route) e ∙ h.base)),
      )

  pub hang : Hung m cell p n z
  unfolding t m'
  hang =
      record {
        tree = t;
        counted = counted;
        leads = leads;
        inner = inner;
        good =
            record {
              head = graft_label (c.graft z) ∙ good.head;
              shape =
                  graft_shape h.slot (c.graft z) (sym h.head) good.once good.shape
                  (shape_same h.shape inside);
              once = once;
              grown = grown;
              kids = kids;
              small = small;
              keys = keys;
              rises = rises;
              bare = bare;
              search = search;
            };
        moves =
            record {
              kind = λ x u. slot_route h.slot x;
              key = λ x u. slot_key h.slot x;
              hangs = stays;
              gone = gone;
              frozen = λ x e o. h.slot.others x (λ q. omega (arith, o, i_stays, ap (λ (y : ℕ). count y t) q));
              walks = λ u j. walk_slot h.slot (leaf h.base) (apart_p j) u;
              leaves = λ x j o r v q.
                  absurd (true≢false (sym r ∙ ap (λ (y : ℕ). (m.cell y).route) (is_some (omega (arith, counted x))) ∙ h.base));
            };
      }

  -- keys lead to their bases still, where those of z lead to p, and in z to their base
  pub hang_belongs : {keys keys' : ℕ → ℕ} → Belongs m keys → ((x : ℕ) → keys' x ≡ keys x)
      → ((b : ℕ) → 1 ≤ count b z → (m.cell b).route ≡ false → (j : ℕ) → has (keys b) j ≡ true
      → Walk m.cell (by j) summit p × Walk m.cell (by j) n b)
      → Belongs (record { cell = cell; tree = hang.tree; own = hung_in z m.own }) keys'
  unfolding hang
  hang_belongs {keys} {keys'} b k f =
      record {
        leads = λ x i' r j q.
            go x i' (sym (slot_route h.slot x) ∙ r) j (ap (λ (y : ℕ). has y j) (sym (k x)) ∙ q) (amount (count x z));
      }
    where
      go : (x : ℕ) → 1 ≤ count x t → (m.cell x).route ≡ false → (j : ℕ) → has (keys x) j ≡ true → Amount (count x z)
          → Walk cell (by j) summit x
      go x i' r j q (some y) = let v = f x y r j q in walk_join (leads v.0) (inner new_in v.1)
      go x i' r j q (none o) =
          walk_slot h.slot (leaf h.base) (apart_p i') (b.leads x (omega (arith, counted x)) r j q)
