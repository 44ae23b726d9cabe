-- One child slot changes: what becomes of walks.
use Rattle.std.specs.Prelude.{Bool, true, false, not, ◌≡◌, ℕ}
use Rattle.std.proofs.Common.{sym, ap, ◌∙◌}
use Rattle.graph.specs.Cases.{Same, same, apart, compared}
use Rattle.graph.specs.Walk.{Cell, kid, Direction, next, Walk, here, step, walk_from, first, walk_stops}

-- the child of route i on side w was p and is z; all else is the same
pub record Slot (g g' : ℕ → Cell) (i : ℕ) (w : Bool) (p z : ℕ) : Type 0 where
  pub route : (g i).route ≡ true
  pub route' : (g' i).route ≡ true
  pub key : (g' i).key ≡ (g i).key
  pub was : kid w (g i) ≡ p
  pub becomes : kid w (g' i) ≡ z
  pub beside : kid (not w) (g' i) ≡ kid (not w) (g i)
  pub others : (x : ℕ) → (x ≡ i → ⊥) → g' x ≡ g x

-- how a walk by d to y gets by a node p whose place z takes
pub data Skips (g : ℕ → Cell) (d : Direction) (p z y : ℕ) : Type 0 where
  leaf : (g p).route ≡ false → Skips g d p z y
  passes : next g d p ≡ z → Skips g d p z y
  ends : (g (next g d p)).route ≡ false → (next g d p ≡ y → ⊥) → Skips g d p z y

module _ {g g' : ℕ → Cell} {i : ℕ} {w : Bool} {p z : ℕ} (s : Slot g g' i w p z) where
  -- kinds and keys stay
  pub slot_route : (x : ℕ) → (g' x).route ≡ (g x).route
  slot_route x = go (compared x i)
    where
      go : Same x i → (g' x).route ≡ (g x).route
      go (same e) = rw e (s.route' ∙ sym s.route)
      go (apart h) = ap (λ (c : Cell). c.route) (s.others x h)

  pub slot_key : (x : ℕ) → (g' x).key ≡ (g x).key
  slot_key x = go (compared x i)
    where
      go : Same x i → (g' x).key ≡ (g x).key
      go (same e) = rw e s.key
      go (apart h) = ap (λ (c : Cell). c.key) (s.others x h)

  -- a child is as it was, or it was p in the slot and is z
  pub data Child (x : ℕ) (v : Bool) : Type 0 where
    kept : kid v (g' x) ≡ kid v (g x) → Child x v
    slot : x ≡ i → kid v (g x) ≡ p → kid v (g' x) ≡ z → Child x v

  pub child : (x : ℕ) (v : Bool) → Child x v
  child x v = go (compared x i) v w s
    where
      side : (v w : Bool) → Slot g g' i w p z → x ≡ i → Child x v
      side true true t e = slot e (rw e t.was) (rw e t.becomes)
      side true false t e = kept (rw e t.beside)
      side false true t e = kept (rw e t.beside)
      side false false t e = slot e (rw e t.was) (rw e t.becomes)

      go : Same x i → (v w : Bool) → Slot g g' i w p z → Child x v
      go (same e) v w t = side v w t e
      go (apart h) v w t = kept (ap (λ (c : Cell). kid v c) (t.others x h))

  -- the child that a direction takes: the same, or p before and z after
  pub turned : (d : Direction) (x : ℕ) → next g' d x ≡ kid (d x (g x).key) (g' x)
  turned d x = ap (λ (q : ℕ). kid (d x q) (g' x)) (slot_key x)

  -- a walk to a node other than p is kept where it gets by p
  pub walk_slot : {d : Direction} {x y : ℕ} → Skips g d p z y → (p ≡ y → ⊥) → Walk g d x y → Walk g' d x y
  walk_slot k h (here e) = here e
  walk_slot {d} {y = y} k h (step x {z = m} u r n) = go (child x (d x (g x).key)) u (walk_slot k h u)
    where
      -- from p on, the walk goes on from z
      past : Skips g d p z y → Walk g d p y → Walk g' d p y → Walk g' d z y
      past (leaf b) o t = absurd (h (walk_stops o b))
      past (ends b q) o t = absurd (q (walk_stops (first o h).rest b))
      past (passes e) o t = walk_from (sym (at (child p (d p (g p).key)))) (first t h).rest
        where
          at : Child p (d p (g p).key) → next g' d p ≡ z
          at (kept c) = turned d p ∙ c ∙ e
          at (slot _ _ c) = turned d p ∙ c

      go : Child x (d x (g x).key) → Walk g d m y → Walk g' d m y → Walk g' d x y
      go (kept c) o t = step x t (slot_route x ∙ r) (turned d x ∙ c ∙ n)
      go (slot e b c) o t = step x (past k (walk_from (sym b ∙ n) o) (walk_from (sym b ∙ n) t)) (slot_route x ∙ r) (turned d x ∙ c)
