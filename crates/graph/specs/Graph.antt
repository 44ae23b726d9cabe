-- A graph with its tree: what is good of one, and what every change of it keeps.
use Rattle.std.specs.Prelude.{Bool, true, false, ◌≡◌, ℕ, ◌≤◌, ◌<◌}
use Rattle.std.proofs.Common.{true≢false, sym, ap, ◌∙◌, arith}
use Rattle.keys.specs.Keys.{has}
use Rattle.graph.specs.Walk.{Cell, kid, Direction, by, Walk, walk_same}
use Rattle.graph.specs.Tree.{Tree, label, count, Shape, shape_same, Once}

-- the route that stands for the root pointer: its left child is the root
abbrev pub summit : ℕ
summit = 128

-- whose a node is: a thread's that has made it and not hung it yet, hung, or not made
abbrev pub hung : ℕ
hung = 8

abbrev pub unmade : ℕ
unmade = 9

-- the cells, the tree that one meets from the summit, and whose each node is
pub record Graph : Type 0 where
  pub cell : ℕ → Cell
  pub tree : Tree
  pub own : ℕ → ℕ

-- x is in the tree
abbrev pub In : Graph → ℕ → Type 0
In m x = 1 ≤ count x m.tree

-- x is not in the tree
abbrev pub Out : Graph → ℕ → Type 0
Out m x = count x m.tree ≡ 0

-- a hung route
pub record Route (m : Graph) (x : ℕ) : Type 0 where
  pub hung : m.own x ≡ hung
  pub route : (m.cell x).route ≡ true

-- what holds of the tree and of all hung routes
pub record Good (m : Graph) : Type 0 where
  pub head : label m.tree ≡ summit
  pub shape : Shape m.cell m.tree
  -- no node is met twice
  pub once : Once m.tree
  pub grown : (x : ℕ) → In m x → m.own x ≡ hung
  -- children of hung routes are hung, and nodes
  pub kids : (x : ℕ) → Route m x → (w : Bool) → m.own (kid w (m.cell x)) ≡ hung
  pub small : (x : ℕ) → Route m x → x < summit → (w : Bool) → kid w (m.cell x) < summit
  pub keys : (x : ℕ) → Route m x → x < summit → (m.cell x).key < 64
  -- a child that is a route has a greater number than its parent
  pub rises : (x : ℕ) → Route m x → x < summit → (w : Bool) → (m.cell (kid w (m.cell x))).route ≡ true → x < kid w (m.cell x)
  pub bare : (x : ℕ) → m.own x ≡ unmade → (m.cell x).route ≡ false
  -- a route of the tree is found by its key
  pub search : (x : ℕ) → In m x → (m.cell x).route ≡ true → Walk m.cell (by (m.cell x).key) summit x

-- a key of a base of the tree leads to it
pub record Belongs (m : Graph) (keys : ℕ → ℕ) : Type 0 where
  pub leads : (b : ℕ) → In m b → (m.cell b).route ≡ false → (j : ℕ) → has (keys b) j ≡ true → Walk m.cell (by j) summit b

-- what every change keeps
pub record Moves (m m' : Graph) : Type 0 where
  pub kind : (x : ℕ) → (m.own x ≡ unmade → ⊥) → (m'.cell x).route ≡ (m.cell x).route
  pub key : (x : ℕ) → (m.own x ≡ unmade → ⊥) → (m'.cell x).key ≡ (m.cell x).key
  pub hangs : (x : ℕ) → m.own x ≡ hung → m'.own x ≡ hung
  -- what has left the tree never comes back, and its children are frozen when it leaves
  pub gone : (x : ℕ) → m.own x ≡ hung → Out m x → Out m' x
  pub frozen : (x : ℕ) → m.own x ≡ hung → Out m' x → m'.cell x ≡ m.cell x
  -- walks to what stays in the tree stay
  pub walks : {d : Direction} {x y : ℕ} → Walk m.cell d x y → In m' y → Walk m'.cell d x y
  -- a child of a route that leaves the tree stays in it, or is a base
  pub leaves : (x : ℕ) → In m x → Out m' x → (m.cell x).route ≡ true → (w : Bool) → Out m' (kid w (m.cell x))
      → (m.cell (kid w (m.cell x))).route ≡ false

-- a hung node is made
pub hung_made : {n : ℕ} → n ≡ hung → n ≡ unmade → ⊥
hung_made e u = omega arith

-- nodes are made but not hung, or nothing changes: the tree stays
pub record Makes (m : Graph) (cell : ℕ → Cell) (own : ℕ → ℕ) : Type 0 where
  pub cells : (x : ℕ) → (m.own x ≡ unmade → ⊥) → cell x ≡ m.cell x
  pub owns : (x : ℕ) → (m.own x ≡ unmade → ⊥) → own x ≡ m.own x
  pub loose : (x : ℕ) → own x ≡ hung → m.own x ≡ hung
  pub bare : (x : ℕ) → own x ≡ unmade → (cell x).route ≡ false

-- the graph with those cells and owners, and the same tree
abbrev pub remade : Graph → (ℕ → Cell) → (ℕ → ℕ) → Graph
remade m cell own = record { cell = cell; tree = m.tree; own = own }

module _ {m : Graph} (good : Good m) {cell : ℕ → Cell} {own : ℕ → ℕ} (h : Makes m cell own) where
  old_cell : (x : ℕ) → m.own x ≡ hung → cell x ≡ m.cell x
  old_cell x e = h.cells x (hung_made e)

  old_route : (x : ℕ) → Route (remade m cell own) x → Route m x
  old_route x r = record { hung = h.loose x r.hung; route = ap (λ (c : Cell). c.route) (sym (old_cell x (h.loose x r.hung))) ∙ r.route }

  old_kid : (x : ℕ) → Route (remade m cell own) x → (w : Bool) → kid w (cell x) ≡ kid w (m.cell x)
  old_kid x r w = ap (λ (c : Cell). kid w c) (old_cell x (old_route x r).hung)

  -- routes are made, so walks stay
  walks_on : {d : Direction} {x y : ℕ} → Walk m.cell d x y → Walk cell d x y
  walks_on w = walk_same (λ r e. h.cells r (λ u. true≢false (sym e ∙ good.bare r u))) w

  pub makes_good : Good (remade m cell own)
  makes_good =
      record {
        head = good.head;
        shape = shape_same good.shape (λ x i. old_cell x (good.grown x i));
        once = good.once;
        grown = λ x i. h.owns x (hung_made (good.grown x i)) ∙ good.grown x i;
        kids = λ x r w.
            let e = good.kids x (old_route x r) w in
            ap own (old_kid x r w) ∙ h.owns (kid w (m.cell x)) (hung_made e) ∙ e;
        small = λ x r l w. rw (old_kid x r w) (good.small x (old_route x r) l w);
        keys = λ x r l. rw (old_cell x (old_route x r).hung) (good.keys x (old_route x r) l);
        rises = λ x r l w b.
            rw (old_kid x r w)
            (good.rises x (old_route x r) l w
            (ap (λ (c : Cell). c.route) (sym (old_cell (kid w (m.cell x)) (good.kids x (old_route x r) w)))
            ∙ ap (λ (n : ℕ). (cell n).route) (sym (old_kid x r w))
            ∙ b));
        bare = h.bare;
        search = λ x i b.
            let e = old_cell x (good.grown x i) in
            rw e (walks_on (good.search x i (ap (λ (c : Cell). c.route) (sym e) ∙ b)));
      }

  pub makes_moves : Moves m (remade m cell own)
  makes_moves =
      record {
        kind = λ x u. ap (λ (c : Cell). c.route) (h.cells x u);
        key = λ x u. ap (λ (c : Cell). c.key) (h.cells x u);
        hangs = λ x e. h.owns x (hung_made e) ∙ e;
        gone = λ x e o. o;
        frozen = λ x e o. old_cell x e;
        walks = λ w i. walks_on w;
        leaves = λ x i o r w q. absurd (omega arith);
      }

  -- keys of bases of the tree still lead to them, where those bases have no other keys than before
  pub makes_belongs : {keys keys' : ℕ → ℕ} → Belongs m keys → ((x : ℕ) → m.own x ≡ hung → keys' x ≡ keys x) → Belongs (remade m cell own) keys'
  makes_belongs b k =
      record {
        leads = λ x i r j q.
            let e = good.grown x i in
            walks_on (b.leads x i (ap (λ (c : Cell). c.route) (sym (old_cell x e)) ∙ r) j (ap (λ (n : ℕ). has n j) (sym (k x e)) ∙ q));
      }
