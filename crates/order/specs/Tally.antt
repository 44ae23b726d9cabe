-- Begun is committed and the number of threads in phases 1 to 5.
use Rattle.std.specs.Prelude.{Bool, true, false, cond, not, ◌&&◌, ◌||◌, List, [], ◌∷◌, ◌≡◌, refl, ℕ, zero, suc, ◌+◌, ◌≤◌, ◌<◌, ltb, leb, eqb, get_or, set, length}
use Rattle.std.proofs.Common.{ap, arith}
use Rattle.keys.specs.Keys.{size}
use Rattle.rules.specs.State.{zero_thread, thread_at}
use Rattle.rules.specs.Places.{is_route, is_free}
use Rattle.rules.specs.Rows.{only, searches, seeks, hangs, commits, decides, no_split, split, no_join, join, above_max, below_min, keys_then, far_child, towards_prev, row0, row1, row2, row3, row4, row5, row6, row7, row8, row9, row10, row11, row12, row13, row14, row15, row16, row17, row18, row19, row20, row21, row22, row23, row24, row25, rows, plan_of}
use Rattle.rules.specs.Step.{view_before, view_of, apply, after}
use Rattle.rules.specs.declared.state.Thread.{Thread}
use Rattle.rules.specs.declared.state.State.{State}
use Rattle.rules.specs.declared.row.View.{View}
use Rattle.rules.specs.declared.row.Plan.{Plan}
use Rattle.states.specs.Phase.{Each, end, ◌then◌, by_phase}
use Rattle.order.specs.Bridge.{thread_after}

-- 1 for a phase before the commit
unfoldable pub early : ℕ → ℕ
early p = cond (leb 1 p && leb p 5) 1 0

-- the threads whose operation is begun and not committed
unfoldable pub searchers : List Thread → ℕ
searchers [] = 0
searchers (t ∷ ts) = early t.phase + searchers ts

pub searchers-set : (l : List Thread) (i : ℕ) (x : Thread) → i < length l
    → searchers (set l i x) + early (get_or l i zero_thread).phase ≡ searchers l + early x.phase
unfolding searchers
searchers-set [] i x m = absurd (omega arith)
searchers-set (t ∷ ts) zero x m = omega arith
searchers-set (t ∷ ts) (suc i) x m = omega (arith, searchers-set ts i x (omega arith))

-- what a plan leaves of the sum
record Tallies (c x : ℕ) (p : Plan) : Type 0 where
  sum : p.committed + early p.thread.phase ≡ c + x

sums : {c x : ℕ} {p : Plan} → p.committed + early p.thread.phase ≡ c + x → Tallies c x p
sums e = record { sum = e }

-- a plan of two
pick : {c x : ℕ} {p q : Plan} (b : Bool) → Tallies c x p → Tallies c x q → Tallies c x (cond b p q)
pick true y z = y
pick false y z = z

-- a plan with a thread of two
pick_thread : {c : ℕ} (v : View) (a b : Thread) (t : Bool) → early a.phase ≡ c → early b.phase ≡ c → Tallies v.committed c (only v (cond t a b))
pick_thread v a b true y z = sums (omega arith)
pick_thread v a b false y z = sums (omega arith)

-- a phase of two
pick_phase : (c x a b : ℕ) (t : Bool) → early a ≡ x → early b ≡ x → c + early (cond t a b) ≡ c + x
pick_phase c x a b true y z = omega arith
pick_phase c x a b false y z = omega arith

-- each row, at its phase
Row : ℕ → (View → Plan) → Type 0
Row n f = (v : View) → v.thread.phase ≡ n → Tallies v.committed (early n) (f v)

-- the commit
row5_tally : (v : View) → v.thread.phase ≡ 5 → Tallies v.committed (early 5) (row5 v)
unfolding early row5 commits decides
row5_tally v e =
    pick v.base.valid (pick (above_max v) (pick (ltb (size (keys_then v)) 2) (sums (omega arith)) (sums (omega arith))) (pick (below_min v) (pick (eqb v.thread.prev 128) (sums (omega arith)) (sums (omega arith))) (sums (omega arith)))) (sums refl)

each : Each Row 0 rows
unfolding Row rows early row0 row1 row2 row3 row4 row5 row6 row7 row8 row9 row10 row11 row12 row13 row14 row15 row16 row17 row18 row19 row20 row21 row22 row23 row24 row25 searches seeks hangs commits decides no_split split no_join join
each =
    (λ v e. sums (ap (λ (p : ℕ). v.committed + early p) e))
    then (λ v e. pick_thread v _ _ (is_route v.reached) refl refl)
    then (λ v e. pick_thread v _ _ (is_route v.reached) refl refl)
    then (λ v e. pick (is_free v.base) (sums refl) (sums refl))
    then (λ v e. pick (is_free v.base) (sums refl) (sums refl))
    then row5_tally
    then (λ v e. pick (ltb 125 v.made) (sums refl) (sums refl))
    then (λ v e. sums refl)
    then (λ v e. sums refl)
    then (λ v e. pick_thread v _ _ (is_route v.reached) refl refl)
    then (λ v e. pick_thread v _ _ (is_route v.reached) refl refl)
    then (λ v e. pick (is_free v.walk) (sums refl) (sums refl))
    then (λ v e. pick (not v.neighbour.valid || ltb 127 v.made) (sums refl) (sums refl))
    then (λ v e. pick (is_free v.prev) (sums refl) (sums refl))
    then (λ v e. sums refl)
    then (λ v e. sums (pick_phase v.committed 0 19 16 (eqb v.root v.thread.prev) refl refl))
    then (λ v e. sums (pick_phase v.committed 0 17 16 (eqb (towards_prev v) v.thread.prev) refl refl))
    then (λ v e. pick (is_free v.grandparent) (sums refl) (sums refl))
    then (λ v e. pick v.grandparent.valid (sums refl) (sums refl))
    then (λ v e. sums refl)
    then (λ v e. sums refl)
    then (λ v e. pick_thread v _ _ (eqb (far_child v) v.thread.neighbour) refl refl)
    then (λ v e. pick_thread v _ _ (is_route v.reached) refl refl)
    then (λ v e. sums refl)
    then (λ v e. sums refl)
    then (λ v e. sums refl)
    then end

tally : (v : View) → Tallies v.committed (early v.thread.phase) (plan_of v)
unfolding Row row0 plan_of
tally v = by_phase each (λ p l v e. sums (ap (λ (q : ℕ). v.committed + early q) e)) v.thread.phase v refl

-- a step keeps the sum of the committed operations and the threads before their commit
pub after_tally : (s : State) (me : ℕ) → length s.threads ≡ 8 → me ≤ 7
    → (after s me).committed + searchers (after s me).threads ≡ s.committed + searchers s.threads
unfolding after apply plan_of view_of view_before thread_at
after_tally s me len l =
    omega (arith, (tally (view_of s me)).sum, searchers-set s.threads me (plan_of (view_of s me)).thread (omega arith))

-- so does it for the thread that takes it
pub thread_tally : (s : State) (me : ℕ) → length s.threads ≡ 8 → me ≤ 7
    → (after s me).committed + early (thread_at (after s me) me).phase ≡ s.committed + early (thread_at s me).phase
unfolding after apply plan_of view_of view_before
thread_tally s me len l =
    omega (arith, (tally (view_of s me)).sum, ap (λ (t : Thread). early t.phase) (thread_after s me len l))
