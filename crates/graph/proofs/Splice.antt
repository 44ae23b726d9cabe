-- A route leaves the tree with the base that is one of its children; its other child takes its place: the splice of a join.
use Rattle.std.specs.Prelude.{Bool, true, false, not, ◌≡◌, ℕ, ◌+◌, ◌≤◌, ◌<◌, ltb}
use Rattle.std.proofs.Common.{true≢false, ◌∙◌, arith, ltb-true, ltb-false, lt-ltb, le-ltb, eq-eqb, ne_eqb}
use Rattle.std.proofs.Math.Path.{refl, sym, ap}
use Rattle.std.proofs.lemmas.Bool.{not-true, not-false}
use Rattle.keys.specs.Keys.{has}
use Rattle.graph.specs.Cases.{Way, onto, off, way, Same, same, apart, compared, is, is_same, is_apart, is_some}
use Rattle.graph.specs.Walk.{Cell, kid, Direction, by, along, next, Walk, step, walk_from, walk_join, walk_turn, walk_stops, first, itself, down, walk_below}
use Rattle.graph.specs.Tree.{Tree, label, count, Shape, leaf, branch, shape_same, kid_in, label_in, tip_count, walk_in, Through, through, sides_apart}
use Rattle.graph.specs.Slot.{Skips, passes, ends, slot_route, slot_key, Child, kept, slot, child, walk_slot}
use Rattle.graph.proofs.Graft.{graft_count, graft_part, graft_label, graft_shape, graft_walk, cut}
use Rattle.graph.specs.Graft.{Cut}
use Rattle.graph.specs.Graph.{summit, hung, Graph, In, Route, Good, Belongs}
use Rattle.graph.specs.Splice.{Splices, Spliced}

-- the tree under a route of which one child is a base
record Parts (g : ℕ → Cell) (t : Tree) (f b : ℕ) : Type 0 where
  rest : Tree
  shape : Shape g rest
  head : label rest ≡ f
  counted : (y : ℕ) → count y t ≡ is y (label t) + count y rest + is y b

parts : {g : ℕ → Cell} {t : Tree} → Shape g t → (g (label t)).route ≡ true → (v : Bool) {f b : ℕ} → kid v (g (label t)) ≡ f
    → kid (not v) (g (label t)) ≡ b → (g b).route ≡ false → Parts g t f b
parts (leaf s) r v e n c = absurd (true≢false (sym r ∙ s))
parts {g} (branch {n} {l} {r} f x y) r' true e q c =
    record {
      rest = r;
      shape = y;
      head = sym f.right ∙ e;
      counted = λ k. omega (arith, tip_count x (rw (sym f.left ∙ q) c) k, ap (λ (z : ℕ). is k z) (sym f.left ∙ q));
    }
parts {g} (branch {n} {l} {r} f x y) r' false e q c =
    record {
      rest = l;
      shape = x;
      head = sym f.left ∙ e;
      counted = λ k. omega (arith, tip_count y (rw (sym f.right ∙ q) c) k, ap (λ (z : ℕ). is k z) (sym f.right ∙ q));
    }

-- a key that turns the other way than b at c turns that way at b too
between : (v : Bool) (a b c : ℕ) → not (ltb b c) ≡ v → not (ltb a c) ≡ not v → not (ltb a b) ≡ not v
between true a b c p q = rw (lt-ltb a b (omega (arith, ltb-true a c (not-false (ltb a c) q), ltb-false b c (not-true (ltb b c) p))))
between false a b c p q = rw (le-ltb a b (omega (arith, ltb-false a c (not-true (ltb a c) q), ltb-true b c (not-false (ltb b c) p))))

module _ {m : Graph} (good : Good m) {cell : ℕ → Cell} {i : ℕ} {w : Bool} {p : ℕ} {v : Bool} {b f : ℕ} (h : Splices m cell i w p v b f) where
  c : Cut m.cell i w m.tree
  c = cut good.shape i h.under h.slot.route w

  part_label : label c.part ≡ p
  part_label = c.head ∙ h.slot.was

  q : Parts m.cell c.part f b
  q =
      parts c.shape (ap (λ (x : ℕ). (m.cell x).route) part_label ∙ h.route) v (ap (λ (x : ℕ). kid v (m.cell x)) part_label ∙ h.far)
      (ap (λ (x : ℕ). kid (not v) (m.cell x)) part_label ∙ h.near) h.base

  t : Tree
  t = c.filled q.rest

  counted : (y : ℕ) → count y t + is y p + is y b ≡ count y m.tree
  unfolding t
  counted y = omega (arith, graft_count (c.graft q.rest) y, q.counted y, ap (λ (x : ℕ). is y x) part_label)

  -- i stands above the part
  above : (y : ℕ) → is y i + (is y p + count y q.rest + is y b) ≤ count y m.tree
  above y = omega (arith, graft_part (c.graft q.rest) y, q.counted y, ap (λ (x : ℕ). is y x) part_label)

  f_in : 1 ≤ count f q.rest
  f_in = rw q.head at (label_in q.rest)

  f_stays : 1 ≤ count f t
  f_stays = omega (arith, counted f, above f, good.once f, f_in)

  p_in : In m p
  p_in = rw h.slot.was at (kid_in good.shape i h.under h.slot.route w)

  p_route : Route m p
  p_route = record { hung = good.grown p p_in; route = h.route }

  -- p and b leave the tree
  p_left : count p t ≡ 0
  p_left = omega (arith, counted p, good.once p, is_same {x = p} refl)

  b_left : count b t ≡ 0
  b_left = omega (arith, counted b, good.once b, is_same {x = b} refl)

  stays_in : (x : ℕ) → 1 ≤ count x t → In m x
  stays_in x j = omega (arith, counted x)

  walks : {d : Direction} {x y : ℕ} → Walk m.cell d x y → 1 ≤ count y t → Walk cell d x y
  walks {d} {y = y} u j = walk_slot h.slot (skips (way (d p (m.cell p).key) v)) (λ e. omega (arith, p_left, ap (λ (x : ℕ). count x t) e)) u
    where
      skips : Way (d p (m.cell p).key) v → Skips m.cell d p f y
      skips (onto e) = passes (ap (λ (s : Bool). kid s (m.cell p)) e ∙ h.far)
      skips (off e) =
          let n : next m.cell d p ≡ b = ap (λ (s : Bool). kid s (m.cell p)) e ∙ h.near in
          ends (ap (λ (x : ℕ). (m.cell x).route) n ∙ h.base) (λ k. omega (arith, b_left, ap (λ (x : ℕ). count x t) (sym n ∙ k)))

  leads : {d : Direction} → Walk m.cell d summit p → Walk cell d summit f
  unfolding t
  leads u =
      walk_from (sym (graft_label (c.graft q.rest) ∙ good.head))
      (graft_walk h.slot (c.graft q.rest) part_label good.once good.shape (walk_from good.head u))

  m' : Graph
  m' = record { cell = cell; tree = t; own = m.own }

  old_route : (x : ℕ) → Route m' x → Route m x
  unfolding m'
  old_route x r = record { hung = r.hung; route = sym (slot_route h.slot x) ∙ r.route }

  f_hung : m.own f ≡ hung
  f_hung = rw h.far at (good.kids p p_route v)

  kids : (x : ℕ) → Route m' x → (s : Bool) → m.own (kid s (cell x)) ≡ hung
  kids x r s = go (child h.slot x s)
    where
      go : Child h.slot x s → m.own (kid s (cell x)) ≡ hung
      go (kept e) = rw e (good.kids x (old_route x r) s)
      go (slot _ _ e) = rw e f_hung

  small : (x : ℕ) → Route m' x → x < summit → (s : Bool) → kid s (cell x) < summit
  small x r l s = go (child h.slot x s)
    where
      go : Child h.slot x s → kid s (cell x) < summit
      go (kept e) = rw e (good.small x (old_route x r) l s)
      go (slot _ _ e) = rw (e, ← h.far) (good.small p p_route h.node v)

  rises : (x : ℕ) → Route m' x → x < summit → (s : Bool) → (cell (kid s (cell x))).route ≡ true → x < kid s (cell x)
  rises x r l s k = go (child h.slot x s)
    where
      before : (y : ℕ) → kid s (cell x) ≡ y → (m.cell y).route ≡ true
      before y e = rw e at (sym (slot_route h.slot (kid s (cell x))) ∙ k)

      go : Child h.slot x s → x < kid s (cell x)
      go (kept e) = rw e (good.rises x (old_route x r) l s (before (kid s (m.cell x)) e))
      go (slot a o e) =
          omega (
            arith,
            e,
            o,
            h.far,
            good.rises x (old_route x r) l s (ap (λ (y : ℕ). (m.cell y).route) o ∙ h.route),
            good.rises p p_route h.node v (ap (λ (y : ℕ). (m.cell y).route) h.far ∙ before f e),
          )

  leaves : (x : ℕ) → In m x → count x t ≡ 0 → (m.cell x).route ≡ true → (s : Bool) → count (kid s (m.cell x)) t ≡ 0
      → (m.cell (kid s (m.cell x))).route ≡ false
  leaves x j o r s k = go (compared x p)
    where
      side : x ≡ p → Way s v → (m.cell (kid s (m.cell x))).route ≡ false
      side e (onto a) =
          absurd (omega (arith, f_stays, ap (λ (y : ℕ). count y t) (ap (λ (y : ℕ). kid s (m.cell y)) e ∙ ap (λ (z : Bool). kid z (m.cell p)) a ∙ h.far)))
      side e (off a) =
          ap (λ (y : ℕ). (m.cell y).route) (ap (λ (y : ℕ). kid s (m.cell y)) e ∙ ap (λ (z : Bool). kid z (m.cell p)) a ∙ h.near) ∙ h.base

      go : Same x p → (m.cell (kid s (m.cell x))).route ≡ false
      go (same e) = side e (way s v)
      go (apart n) =
          absurd (true≢false (sym r ∙ ap (λ (y : ℕ). (m.cell y).route) (is_some (omega (arith, counted x, is_apart n))) ∙ h.base))

  pub splice : Spliced m cell p b f
  unfolding t m'
  splice =
      record {
        tree = t;
        counted = counted;
        leads = leads;
        good =
            record {
              head = graft_label (c.graft q.rest) ∙ good.head;
              shape =
                  graft_shape h.slot (c.graft q.rest) (sym q.head) good.once good.shape
                  (shape_same q.shape
                  (λ x j. h.slot.others x (λ e. omega (arith, above i, good.once i, is_same {x = i} refl, rw e at j))));
              once = λ y. omega (arith, counted y, good.once y);
              grown = λ x j. good.grown x (stays_in x j);
              kids = kids;
              small = small;
              keys = λ x r l. rw (slot_key h.slot x) (good.keys x (old_route x r) l);
              rises = rises;
              bare = λ x u. slot_route h.slot x ∙ good.bare x u;
              search = λ x j r. rw (slot_key h.slot x) (walks (good.search x (stays_in x j) (sym (slot_route h.slot x) ∙ r)) j);
            };
        moves =
            record {
              kind = λ x u. slot_route h.slot x;
              key = λ x u. slot_key h.slot x;
              hangs = λ x e. e;
              gone = λ x e o. omega (arith, counted x);
              frozen = λ x e o. h.slot.others x (λ k. omega (arith, o, counted i, above i, good.once i, is_same {x = i} refl, ap (λ (y : ℕ). count y t) k));
              walks = walks;
              leaves = leaves;
            };
      }

  -- keys lead to their bases still
  pub splice_belongs : {keys keys' : ℕ → ℕ} → Belongs m keys → ((x : ℕ) → keys' x ≡ keys x)
      → Belongs (record { cell = cell; tree = splice.tree; own = m.own }) keys'
  unfolding splice
  splice_belongs a k =
      record {
        leads = λ x j r y e.
            walks (a.leads x (stays_in x j) (sym (slot_route h.slot x) ∙ r) y (ap (λ (z : ℕ). has z y) (sym (k x)) ∙ e)) j;
      }

  -- the keys of b lead to the base n that stands nearest to it below p's other child
  pub taken_over : {n : ℕ} (j : ℕ) → Walk m.cell (by j) summit b → Walk m.cell (along p v) p n → (m.cell n).route ≡ false
      → 1 ≤ count n splice.tree → Walk cell (by j) summit n
  unfolding splice
  taken_over {n} j u a e k = walk_join (leads pass.before) (walks turns k)
    where
      pass : Through m.cell (by j) summit p b
      pass = rw good.head at (through good.shape good.once p_in (walk_from good.head u) (down p (not v) (itself h.near) h.route))

      away : (x : ℕ) → (m.cell x).route ≡ false → p ≡ x → ⊥
      away x r y = true≢false (sym h.route ∙ ap (λ (z : ℕ). (m.cell z).route) y ∙ r)

      -- j turns to b at p
      turn : Way (not (ltb j (m.cell p).key)) v → not (ltb j (m.cell p).key) ≡ not v
      turn (off y) = y
      turn (onto y) =
          absurd (sides_apart good.shape good.once p p_in h.route v
          (walk_below (walk_from (ap (λ (s : Bool). kid s (m.cell p)) (sym y)) (first pass.after (away b h.base)).rest)) (itself h.near))

      far_way : next m.cell (along p v) p ≡ f
      far_way = rw (eq-eqb p p refl) h.far

      start : Walk m.cell (along p v) f n
      start = walk_from (sym far_way) (first a (away n e)).rest

      below_f : (x : ℕ) → Walk m.cell (along p v) f x → 1 ≤ count x q.rest
      below_f x y = walk_in q.shape f_in y

      -- the routes on the way turn by their own keys to the side v at p
      side : (x : ℕ) → Walk m.cell (along p v) f x → (m.cell x).route ≡ true → not (ltb (m.cell x).key (m.cell p).key) ≡ v
      side x y r = go (way (not (ltb (m.cell x).key (m.cell p).key)) v)
        where
          below : Walk m.cell (along p v) p x
          below = step p y h.route far_way

          found : Through m.cell (by (m.cell x).key) summit p x
          found =
              rw good.head at
              (through good.shape good.once p_in
              (walk_from good.head (good.search x (walk_in good.shape p_in below) r)) (walk_below below))

          go : Way (not (ltb (m.cell x).key (m.cell p).key)) v → not (ltb (m.cell x).key (m.cell p).key) ≡ v
          go (onto z) = z
          go (off z) =
              let o : next m.cell (by (m.cell x).key) p ≡ b = ap (λ (s : Bool). kid s (m.cell p)) z ∙ h.near in
              let l = first found.after (λ z'. omega (arith, above p, good.once p, is_same {x = p} refl, rw (sym z') at (below_f x y))) in
              let s = walk_stops (walk_from (sym o) l.rest) h.base in
              absurd (true≢false (sym r ∙ ap (λ (z' : ℕ). (m.cell z').route) (sym s) ∙ h.base))

      turns : Walk m.cell (by j) f n
      turns =
          walk_turn (along p v) start
          (λ x y z r.
          rw (ne_eqb x p (λ o. omega (arith, above p, good.once p, is_same {x = p} refl, rw o at (below_f x y))))
          (sym (between v j (m.cell x).key (m.cell p).key (side x y r) (turn (way (not (ltb j (m.cell p).key)) v)))))
