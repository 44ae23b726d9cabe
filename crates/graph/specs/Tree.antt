-- Trees over a graph, and counting: a node stands in a tree as often as it is counted.
use Rattle.std.specs.Prelude.{Bool, true, false, not, ◌≡◌, refl, ℕ, ◌+◌, ◌≤◌}
use Rattle.std.proofs.Common.{true≢false, sym, subst, ap, ◌∙◌, arith}
use Rattle.graph.specs.Cases.{Test, holds, fails, test, Same, same, apart, compared, Amount, none, some, amount, is, is_same, is_apart, is_some}
use Rattle.graph.specs.Walk.{Cell, kid, Direction, next, Walk, here, step, walk_from, first, Below, itself, down, below-from}

pub data Tree : Type 0 where
  tip : ℕ → Tree
  fork : ℕ → Tree → Tree → Tree

-- the node at the head of a tree
abbrev pub label : Tree → ℕ
label (tip n) = n
label (fork n l r) = n

-- how often y stands in a tree
abbrev pub count : ℕ → Tree → ℕ
count y (tip n) = is y n
count y (fork n l r) = is y n + count y l + count y r

-- a route with the two trees that its children head
pub record Forks (g : ℕ → Cell) (n : ℕ) (l r : Tree) : Type 0 where
  pub route : (g n).route ≡ true
  pub left : (g n).left ≡ label l
  pub right : (g n).right ≡ label r

pub side_left : {g : ℕ → Cell} {n : ℕ} {l r : Tree} → Forks g n l r → {w : Bool} → w ≡ false → kid w (g n) ≡ label l
side_left f e = rw e f.left

pub side_right : {g : ℕ → Cell} {n : ℕ} {l r : Tree} → Forks g n l r → {w : Bool} → w ≡ true → kid w (g n) ≡ label r
side_right f e = rw e f.right

-- the tree is what one meets from its head, going both ways
pub data Shape (g : ℕ → Cell) : Tree → Type 0 where
  leaf : {n : ℕ} → (g n).route ≡ false → Shape g (tip n)
  branch : {n : ℕ} {l r : Tree} → Forks g n l r → Shape g l → Shape g r → Shape g (fork n l r)

pub label_in : (t : Tree) → 1 ≤ count (label t) t
label_in (tip n) = omega (arith, is_same {x = n} refl)
label_in (fork n l r) = omega (arith, is_same {x = n} refl)

-- where a node of a fork stands
pub data Stands (x n : ℕ) (l r : Tree) : Type 0 where
  top : x ≡ n → Stands x n l r
  in_l : 1 ≤ count x l → Stands x n l r
  in_r : 1 ≤ count x r → Stands x n l r

pub stands : {x n : ℕ} {l r : Tree} → 1 ≤ count x (fork n l r) → Stands x n l r
stands {x} {n} {l} {r} i = go (compared x n) (amount (count x l))
  where
    go : Same x n → Amount (count x l) → Stands x n l r
    go (same e) a = top e
    go (apart h) (some a) = in_l a
    go (apart h) (none a) = in_r (omega (arith, is_apart h))

-- the children of a route of the tree are in the tree
pub kid_in : {g : ℕ → Cell} {t : Tree} → Shape g t → (x : ℕ) → 1 ≤ count x t → (g x).route ≡ true → (w : Bool) → 1 ≤ count (kid w (g x)) t
kid_in {g} (leaf s) x i k w = absurd (true≢false (sym k ∙ ap (λ (m : ℕ). (g m).route) (is_some i) ∙ s))
kid_in {g} (branch {n} {l} {r} f a b) x i k w = go (λ j. kid_in a x j k w) (λ j. kid_in b x j k w) (stands i)
  where
    here_in : (v : Bool) → 1 ≤ count (kid v (g n)) (fork n l r)
    here_in true = subst (λ (z : ℕ). 1 ≤ count z (fork n l r)) (sym f.right) (omega (arith, label_in r))
    here_in false = subst (λ (z : ℕ). 1 ≤ count z (fork n l r)) (sym f.left) (omega (arith, label_in l))

    go : (1 ≤ count x l → 1 ≤ count (kid w (g x)) l) → (1 ≤ count x r → 1 ≤ count (kid w (g x)) r) → Stands x n l r
        → 1 ≤ count (kid w (g x)) (fork n l r)
    go p q (top e) = subst (λ (y : ℕ). 1 ≤ count (kid w (g y)) (fork n l r)) (sym e) (here_in w)
    go p q (in_l j) = omega (arith, p j)
    go p q (in_r j) = omega (arith, q j)

-- what a walk from a node of the tree meets is in the tree
pub walk_in : {g : ℕ → Cell} {d : Direction} {t : Tree} → Shape g t → {x y : ℕ} → 1 ≤ count x t → Walk g d x y → 1 ≤ count y t
walk_in s i (here e) = rw e at i
walk_in {g} {d} s i (step x w r n) = walk_in s (rw n at (kid_in s x i r (d x (g x).key))) w

-- what is below a node of the tree is in the tree
pub below_in : {g : ℕ → Cell} {t : Tree} → Shape g t → {x y : ℕ} → 1 ≤ count x t → Below g x y → 1 ≤ count y t
below_in s i (itself e) = rw e at i
below_in s i (down x w b r) = below_in s (kid_in s x i r w) b

-- what a walk from the head of a tree meets is in the tree
pub head_in : {g : ℕ → Cell} {d : Direction} {t : Tree} → Shape g t → {y : ℕ} → Walk g d (label t) y → 1 ≤ count y t
head_in {t = t} s w = walk_in s (label_in t) w

-- the tree of cells that are as before
pub shape_same : {g g' : ℕ → Cell} {t : Tree} → Shape g t → ((x : ℕ) → 1 ≤ count x t → g' x ≡ g x) → Shape g' t
shape_same (leaf {n} s) h = leaf (ap (λ (c : Cell). c.route) (h n (omega (arith, is_same {x = n} refl))) ∙ s)
shape_same (branch {n} {l} {r} f a b) h =
    let e = h n (omega (arith, is_same {x = n} refl)) in
    branch {n = n} {l = l} {r = r} (record { route = cc (f.route, e); left = cc (f.left, e); right = cc (f.right, e) })
    (shape_same a (λ x i. h x (omega arith))) (shape_same b (λ x i. h x (omega arith)))

-- a tree headed by a base has that node alone
pub tip_count : {g : ℕ → Cell} {t : Tree} → Shape g t → (g (label t)).route ≡ false → (y : ℕ) → count y t ≡ is y (label t)
tip_count (leaf s) b y = refl
tip_count (branch f u v) b y = absurd (true≢false (sym f.route ∙ b))

-- no node stands in the tree twice
abbrev pub Once : Tree → Type 0
Once t = (y : ℕ) → count y t ≤ 1

-- a walk from the head to a node below x goes through x
pub record Through (g : ℕ → Cell) (d : Direction) (a x y : ℕ) : Type 0 where
  pub before : Walk g d a x
  pub after : Walk g d x y

pub through : {g : ℕ → Cell} {d : Direction} {t : Tree} {x y : ℕ} → Shape g t → Once t → 1 ≤ count x t → Walk g d (label t) y → Below g x y
    → Through g d (label t) x y
through (leaf s) o i w v = let p = is_some i in record { before = here (sym p); after = walk_from p w }
through {g} {d} {x = x} {y} (branch {n} {l} {r} f a b) o i w v =
    split (compared x n) (stands i) w (λ j u. through a (λ z. omega (arith, o z)) j u v) (λ j u. through b (λ z. omega (arith, o z)) j u v)
  where
    turn : (q : Test (d n (g n).key)) → Walk g d (next g d n) y
        → (1 ≤ count x l → Walk g d (label l) y → Through g d (label l) x y)
        → (1 ≤ count x r → Walk g d (label r) y → Through g d (label r) x y) → Stands x n l r → (x ≡ n → ⊥) → Through g d n x y
    turn q u p p' (top m) h = absurd (h m)
    turn (fails q) u p p' (in_l j) h =
        let m = side_left f q in
        let k = p j (walk_from (sym m) u) in record { before = step n k.before f.route m; after = k.after }
    turn (holds q) u p p' (in_l j) h =
        absurd (omega (arith, o y, below_in a j v, head_in b (walk_from (sym (side_right f q)) u)))
    turn (holds q) u p p' (in_r j) h =
        let m = side_right f q in
        let k = p' j (walk_from (sym m) u) in record { before = step n k.before f.route m; after = k.after }
    turn (fails q) u p p' (in_r j) h =
        absurd (omega (arith, o y, below_in b j v, head_in a (walk_from (sym (side_left f q)) u)))

    inside : Stands x n l r → (x ≡ n → ⊥) → 1 ≤ count y l + count y r
    inside (top m) h = absurd (h m)
    inside (in_l j) h = omega (arith, below_in a j v)
    inside (in_r j) h = omega (arith, below_in b j v)

    split : Same x n → Stands x n l r → Walk g d n y → (1 ≤ count x l → Walk g d (label l) y → Through g d (label l) x y)
        → (1 ≤ count x r → Walk g d (label r) y → Through g d (label r) x y) → Through g d n x y
    split (same m) q u p p' = record { before = here (sym m); after = walk_from m u }
    split (apart h) q u p p' =
        turn (test (d n (g n).key)) (first u (λ m. omega (arith, o y, is_same (sym m), inside q h))).rest p p' q h

pub top_in : {g : ℕ → Cell} {t : Tree} → Shape g t → {y : ℕ} → Below g (label t) y → 1 ≤ count y t
top_in {t = t} s b = below_in s (label_in t) b

-- what stands below the two children of a route of the tree is different
pub sides_apart : {g : ℕ → Cell} {t : Tree} → Shape g t → Once t → (x : ℕ) → 1 ≤ count x t → (g x).route ≡ true → (w : Bool)
    → {y : ℕ} → Below g (kid w (g x)) y → Below g (kid (not w) (g x)) y → ⊥
sides_apart {g} (leaf s) o x i k w u v = true≢false (sym k ∙ ap (λ (m : ℕ). (g m).route) (is_some i) ∙ s)
sides_apart {g} (branch {n} {l} {r} f a b) o x i k w {y} u v =
    go (stands i) (λ j. sides_apart a (λ z. omega (arith, o z)) x j k w u v) (λ j. sides_apart b (λ z. omega (arith, o z)) x j k w u v)
  where
    kids : (w' : Bool) → x ≡ n → Below g (kid w' (g x)) y → Below g (kid (not w') (g x)) y → ⊥
    kids true m p q =
        omega (
          arith,
          o y,
          top_in b (below-from (sym f.right ∙ ap (λ (z : ℕ). (g z).right) (sym m)) p),
          top_in a (below-from (sym f.left ∙ ap (λ (z : ℕ). (g z).left) (sym m)) q),
        )
    kids false m p q =
        omega (
          arith,
          o y,
          top_in a (below-from (sym f.left ∙ ap (λ (z : ℕ). (g z).left) (sym m)) p),
          top_in b (below-from (sym f.right ∙ ap (λ (z : ℕ). (g z).right) (sym m)) q),
        )

    go : Stands x n l r → (1 ≤ count x l → ⊥) → (1 ≤ count x r → ⊥) → ⊥
    go (top m) p q = kids w m u v
    go (in_l j) p q = p j
    go (in_r j) p q = q j
