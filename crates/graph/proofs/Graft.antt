-- A tree with another tree in the place of the one under a slot.
use Rattle.std.specs.Prelude.{Bool, true, false, not, ◌≡◌, refl, ℕ, ◌+◌, ◌≤◌}
use Rattle.std.proofs.Common.{true≢false, sym, ap, ◌∙◌, arith}
use Rattle.graph.specs.Cases.{Test, holds, fails, test, is, is_same, is_some}
use Rattle.graph.specs.Walk.{Cell, kid, Direction, next, Walk, here, step, walk_from, first}
use Rattle.graph.specs.Tree.{Tree, fork, label, count, Shape, leaf, branch, label_in, Stands, top, in_l, in_r, stands, head_in, shape_same, Once, side_left, side_right}
use Rattle.graph.specs.Slot.{Slot, turned}
use Rattle.graph.specs.Graft.{Graft, at_l, at_r, left, right, Cut}

module _ {i : ℕ} {w : Bool} {a b : Tree} where
  -- what is counted
  pub graft_count : {t t' : Tree} → Graft i w a b t t' → (y : ℕ) → count y t' + count y a ≡ count y t + count y b
  graft_count (at_l o e) y = omega arith
  graft_count (at_r o e) y = omega arith
  graft_count (left n r k) y = omega (arith, graft_count k y)
  graft_count (right n l k) y = omega (arith, graft_count k y)

  pub graft_part : {t t' : Tree} → Graft i w a b t t' → (y : ℕ) → is y i + count y a ≤ count y t
  graft_part (at_l o e) y = omega arith
  graft_part (at_r o e) y = omega arith
  graft_part (left n r k) y = omega (arith, graft_part k y)
  graft_part (right n l k) y = omega (arith, graft_part k y)

  pub graft_label : {t t' : Tree} → Graft i w a b t t' → label t' ≡ label t
  graft_label (at_l o e) = refl
  graft_label (at_r o e) = refl
  graft_label (left n r k) = refl
  graft_label (right n l k) = refl

module _ {i : ℕ} {w : Bool} {g g' : ℕ → Cell} {p z : ℕ} (s : Slot g g' i w p z) where
  new_left : w ≡ false → (g' i).left ≡ z
  new_left e = rw (ap (λ (v : Bool). kid v (g' i)) e) at s.becomes

  new_right : w ≡ true → (g' i).right ≡ z
  new_right e = rw (ap (λ (v : Bool). kid v (g' i)) e) at s.becomes

  old : (v : Bool) → w ≡ not v → kid v (g' i) ≡ kid v (g i)
  old true e = rw e at s.beside
  old false e = rw e at s.beside

  -- the new tree has the shape of the new cells
  pub graft_shape : {a b t t' : Tree} → Graft i w a b t t' → z ≡ label b → Once t → Shape g t → Shape g' b → Shape g' t'
  graft_shape (at_l o e) v c (branch f u q) h =
      branch {n = i} (record { route = s.route'; left = new_left e ∙ v; right = old true e ∙ f.right }) h
      (shape_same q (λ x j. s.others x (λ m. omega (arith, c x, is_same m))))
  graft_shape (at_r o e) v c (branch f u q) h =
      branch {n = i} (record { route = s.route'; left = old false e ∙ f.left; right = new_right e ∙ v })
      (shape_same u (λ x j. s.others x (λ m. omega (arith, c x, is_same m)))) h
  graft_shape (left n {l} {l'} r k) v c (branch f u q) h =
      let m = s.others n (λ x. omega (arith, c i, graft_part k i, is_same (sym x), is_same {x = i} refl)) in
      branch {n = n} {l = l'} {r = r}
      (record { route = cc (f.route, m); left = cc (f.left, m, graft_label k); right = cc (f.right, m) })
      (graft_shape k v (λ y. omega (arith, c y)) u h)
      (shape_same q (λ x j. s.others x (λ y. omega (arith, c i, graft_part k i, is_same {x = i} refl, rw y at j))))
  graft_shape (right n l {r} {r'} k) v c (branch f u q) h =
      let m = s.others n (λ x. omega (arith, c i, graft_part k i, is_same (sym x), is_same {x = i} refl)) in
      branch {n = n} {l = l} {r = r'}
      (record { route = cc (f.route, m); left = cc (f.left, m); right = cc (f.right, m, graft_label k) })
      (shape_same u (λ x j. s.others x (λ y. omega (arith, c i, graft_part k i, is_same {x = i} refl, rw y at j))))
      (graft_shape k v (λ y. omega (arith, c y)) q h)

  -- a walk to what stood under the slot leads now to what stands there
  pub graft_walk : {d : Direction} {a b t t' : Tree} → Graft i w a b t t' → label a ≡ p → Once t → Shape g t → Walk g d (label t) p
      → Walk g' d (label t') z
  graft_walk {d} {a} (at_l o e) v c (branch f h q) u =
      go (test (d i (g i).key)) (first u (λ m. omega (arith, c p, is_same (sym m), inner))).rest
    where
      inner : 1 ≤ count p a
      inner = rw v at (label_in a)

      go : Test (d i (g i).key) → Walk g d (next g d i) p → Walk g' d i z
      go (fails t) r = step i (here refl) s.route' (turned s d i ∙ ap (λ (b : Bool). kid b (g' i)) t ∙ new_left e)
      go (holds t) r = absurd (omega (arith, c p, inner, head_in q (walk_from (sym (side_right f t)) r)))
  graft_walk {d} {a} (at_r o e) v c (branch f h q) u =
      go (test (d i (g i).key)) (first u (λ m. omega (arith, c p, is_same (sym m), inner))).rest
    where
      inner : 1 ≤ count p a
      inner = rw v at (label_in a)

      go : Test (d i (g i).key) → Walk g d (next g d i) p → Walk g' d i z
      go (holds t) r = step i (here refl) s.route' (turned s d i ∙ ap (λ (b : Bool). kid b (g' i)) t ∙ new_right e)
      go (fails t) r = absurd (omega (arith, c p, inner, head_in h (walk_from (sym (side_left f t)) r)))
  graft_walk {d} {a} (left n {l} {l'} r k) v c (branch f h q) u =
      go (test (d n (g n).key)) (first u (λ m. omega (arith, c p, is_same (sym m), inner))).rest
      (λ o. graft_walk k v (λ y. omega (arith, c y)) h o)
    where
      inner : 1 ≤ count p l
      inner = omega (arith, rw v at (label_in a), graft_part k p)

      same_cell : g' n ≡ g n
      same_cell = s.others n (λ x. omega (arith, c i, graft_part k i, is_same (sym x), is_same {x = i} refl))

      go : Test (d n (g n).key) → Walk g d (next g d n) p → (Walk g d (label l) p → Walk g' d (label l') z) → Walk g' d n z
      go (fails t) o m =
          step n (m (walk_from (sym (side_left f t)) o)) (ap (λ (x : Cell). x.route) same_cell ∙ f.route)
          (ap (λ (x : Cell). kid (d n x.key) x) same_cell ∙ side_left f t ∙ sym (graft_label k))
      go (holds t) o m = absurd (omega (arith, c p, inner, head_in q (walk_from (sym (side_right f t)) o)))
  graft_walk {d} {a} (right n l {r} {r'} k) v c (branch f h q) u =
      go (test (d n (g n).key)) (first u (λ m. omega (arith, c p, is_same (sym m), inner))).rest
      (λ o. graft_walk k v (λ y. omega (arith, c y)) q o)
    where
      inner : 1 ≤ count p r
      inner = omega (arith, rw v at (label_in a), graft_part k p)

      same_cell : g' n ≡ g n
      same_cell = s.others n (λ x. omega (arith, c i, graft_part k i, is_same (sym x), is_same {x = i} refl))

      go : Test (d n (g n).key) → Walk g d (next g d n) p → (Walk g d (label r) p → Walk g' d (label r') z) → Walk g' d n z
      go (holds t) o m =
          step n (m (walk_from (sym (side_right f t)) o)) (ap (λ (x : Cell). x.route) same_cell ∙ f.route)
          (ap (λ (x : Cell). kid (d n x.key) x) same_cell ∙ side_right f t ∙ sym (graft_label k))
      go (fails t) o m = absurd (omega (arith, c p, inner, head_in h (walk_from (sym (side_left f t)) o)))

pub cut : {g : ℕ → Cell} {t : Tree} → Shape g t → (i : ℕ) → 1 ≤ count i t → (g i).route ≡ true → (w : Bool) → Cut g i w t
cut {g} (leaf s) i j k w = absurd (true≢false (sym k ∙ ap (λ (m : ℕ). (g m).route) (is_some j) ∙ s))
cut {g} (branch {n} {l} {r} f p q) i j k w = go (stands j) (λ m. cut p i m k w) (λ m. cut q i m k w)
  where
    head : (v : Bool) → i ≡ n → Cut g i v (fork n l r)
    head true e = record { part = r; shape = q; head = sym f.right ∙ ap (λ (m : ℕ). (g m).right) (sym e); filled = λ b. fork n l b; graft = λ b. rw e (at_r l refl) }
    head false e = record { part = l; shape = p; head = sym f.left ∙ ap (λ (m : ℕ). (g m).left) (sym e); filled = λ b. fork n b r; graft = λ b. rw e (at_l r refl) }

    go : Stands i n l r → (1 ≤ count i l → Cut g i w l) → (1 ≤ count i r → Cut g i w r) → Cut g i w (fork n l r)
    go (top e) x y = head w e
    go (in_l m) x y = let c = x m in record { part = c.part; shape = c.shape; head = c.head; filled = λ b. fork n (c.filled b) r; graft = λ b. left n r (c.graft b) }
    go (in_r m) x y = let c = y m in record { part = c.part; shape = c.shape; head = c.head; filled = λ b. fork n l (c.filled b); graft = λ b. right n l (c.graft b) }
