-- What a step does to the committed count and to the answer and commit number of its thread.
use Rattle.std.specs.Prelude.{Bool, true, false, not, ◌||◌, ◌≡◌, refl, ℕ, ◌+◌, ◌≤◌, ltb, eqb, length}
use Rattle.std.proofs.Common.{true≢false, sym, ◌∙◌}
use borrow.Author.Tests.{ne_eqb}
use Rattle.keys.specs.Keys.{has, size}
use Rattle.rules.specs.State.{none, place_at, thread_at}
use Rattle.rules.specs.Places.{is_route, is_free, keys_of, answer_of}
use Rattle.rules.specs.Rows.{searches, seeks, hangs, commits, decides, no_split, split, no_join, join, above_max, below_min, keys_then, far_child, row0, row1, row2, row3, row4, row5, row6, row7, row8, row9, row10, row11, row12, row13, row14, row15, row16, row17, row18, row19, row20, row21, row22, row23, row24, row25, rows, plan_of}
use Rattle.rules.specs.Step.{view_before, view_of, apply, after}
use Rattle.rules.specs.declared.state.Place.{Place}
use Rattle.rules.specs.declared.state.Thread.{Thread}
use Rattle.rules.specs.declared.state.State.{State}
use Rattle.rules.specs.declared.row.View.{View}
use Rattle.rules.specs.declared.row.Plan.{Plan}
use Rattle.states.specs.Tests.{pick, pick-by}
use Rattle.states.specs.Phase.{row_at, Each, end, ◌then◌, by_phase}
use Rattle.graph.specs.Cases
use Rattle.graph.specs.Cases.{compared}
use Rattle.order.specs.Bridge.{thread_after}

-- the count, the operation, its key, the answer and the commit number are as they were
pub record Same (c : ℕ) (t : Thread) (c' : ℕ) (t' : Thread) : Type 0 where
  pub committed : c' ≡ c
  pub operation : t'.operation ≡ t.operation
  pub key : t'.key ≡ t.key
  pub answer : t'.answer ≡ t.answer
  pub commit : t'.commit ≡ t.commit

-- they are those of a commit
pub record Done (c : ℕ) (t : Thread) (present : Bool) (c' : ℕ) (t' : Thread) : Type 0 where
  pub committed : c' ≡ c + 1
  pub operation : t'.operation ≡ t.operation
  pub key : t'.key ≡ t.key
  pub answer : t'.answer ≡ answer_of t.operation present
  pub commit : t'.commit ≡ c + 1

record Of (v : View) (p : Plan) : Type 0 where
  same : Same v.committed v.thread p.committed p.thread

ok : {v : View} {p : Plan} → Same v.committed v.thread p.committed p.thread → Of v p
ok s = record { same = s }

kept : {c : ℕ} {t t' : Thread} → t'.operation ≡ t.operation → t'.key ≡ t.key → t'.answer ≡ t.answer → t'.commit ≡ t.commit → Same c t c t'
kept a b c d = record { committed = refl; operation = a; key = b; answer = c; commit = d }

abbrev quiet : ℕ → Bool
quiet n = not (eqb n 5 || eqb n 25)

Row : ℕ → (View → Plan) → Type 0
Row n f = quiet n ≡ true → (v : View) → Of v (f v)

each : Each Row 0 rows
unfolding Row rows row0 row1 row2 row3 row4 row6 row7 row8 row9 row10 row11 row12 row13 row14 row15 row16 row17 row18 row19 row20 row21 row22 row23 row24 searches seeks hangs no_split split no_join join
each =
    (λ q v. ok (kept refl refl refl refl))
    then (λ q v. ok (pick (Same v.committed v.thread v.committed) (is_route v.reached) (kept refl refl refl refl) (kept refl refl refl refl)))
    then (λ q v. ok (pick (Same v.committed v.thread v.committed) (is_route v.reached) (kept refl refl refl refl) (kept refl refl refl refl)))
    then (λ q v. pick (Of v) (is_free v.base) (ok (kept refl refl refl refl)) (ok (kept refl refl refl refl)))
    then (λ q v. pick (Of v) (is_free v.base) (ok (kept refl refl refl refl)) (ok (kept refl refl refl refl)))
    then (λ q. absurd (true≢false (sym q)))
    then (λ q v. pick (Of v) (ltb 125 v.made) (ok (kept refl refl refl refl)) (ok (kept refl refl refl refl)))
    then (λ q v. ok (kept refl refl refl refl))
    then (λ q v. ok (kept refl refl refl refl))
    then (λ q v. ok (pick (Same v.committed v.thread v.committed) (is_route v.reached) (kept refl refl refl refl) (kept refl refl refl refl)))
    then (λ q v. ok (pick (Same v.committed v.thread v.committed) (is_route v.reached) (kept refl refl refl refl) (kept refl refl refl refl)))
    then (λ q v. pick (Of v) (is_free v.walk) (ok (kept refl refl refl refl)) (ok (kept refl refl refl refl)))
    then (λ q v. pick (Of v) (not v.neighbour.valid || ltb 127 v.made) (ok (kept refl refl refl refl)) (ok (kept refl refl refl refl)))
    then (λ q v. pick (Of v) (is_free v.prev) (ok (kept refl refl refl refl)) (ok (kept refl refl refl refl)))
    then (λ q v. ok (kept refl refl refl refl))
    then (λ q v. ok (kept refl refl refl refl))
    then (λ q v. ok (kept refl refl refl refl))
    then (λ q v. pick (Of v) (is_free v.grandparent) (ok (kept refl refl refl refl)) (ok (kept refl refl refl refl)))
    then (λ q v. pick (Of v) v.grandparent.valid (ok (kept refl refl refl refl)) (ok (kept refl refl refl refl)))
    then (λ q v. ok (kept refl refl refl refl))
    then (λ q v. ok (kept refl refl refl refl))
    then (λ q v. ok (pick (Same v.committed v.thread v.committed) (eqb (far_child v) v.thread.neighbour) (kept refl refl refl refl) (kept refl refl refl refl)))
    then (λ q v. ok (pick (Same v.committed v.thread v.committed) (is_route v.reached) (kept refl refl refl refl) (kept refl refl refl refl)))
    then (λ q v. ok (kept refl refl refl refl))
    then (λ q v. ok (kept refl refl refl refl))
    then (λ q. absurd (true≢false (sym q)))
    then end

keeps : (v : View) → quiet v.thread.phase ≡ true → Of v (plan_of v)
unfolding Row row0 plan_of
keeps v q = by_phase each (λ p g a v. ok (kept refl refl refl refl)) v.thread.phase q v

-- the commit: the answer is by whether B has the key
record Does (v : View) (p : Plan) : Type 0 where
  done : Done v.committed v.thread (has (keys_of v.base) v.thread.key) p.committed p.thread

row5_does : (v : View) → v.base.valid ≡ true → Does v (row5 v)
unfolding row5 commits decides
row5_does v e =
    pick-by (Does v) v.base.valid
    (λ a.
    pick (Does v) (above_max v) (pick (Does v) (ltb (size (keys_then v)) 2) did did)
    (pick (Does v) (below_min v) (pick (Does v) (eqb v.thread.prev none) did did) did)) (λ a. absurd (true≢false (sym e ∙ a)))
  where
    did : {n : ℕ} {b : Place} → Does v (commits v n b)
    did = record { done = record { committed = refl; operation = refl; key = refl; answer = refl; commit = refl } }

row5-keeps : (v : View) → v.base.valid ≡ false → Of v (row5 v)
unfolding row5
row5-keeps v e = pick-by (Of v) v.base.valid (λ a. absurd (true≢false (sym a ∙ e))) (λ a. ok (kept refl refl refl refl))

row25-keeps : (v : View) → (row25 v).committed ≡ v.committed
unfolding row25
row25-keeps v = refl

module _ (s : State) (len : length s.threads ≡ 8) {me : ℕ} (l : me ≤ 7) where
  -- at a commit
  pub commit_done : (thread_at s me).phase ≡ 5 → (place_at s (thread_at s me).base).valid ≡ true
      → Done s.committed (thread_at s me) (has (keys_of (place_at s (thread_at s me).base)) (thread_at s me).key) (after s me).committed
      (thread_at (after s me) me)
  unfolding after apply rows view_of view_before
  commit_done e f = rw (thread_after s me len l, row_at (view_of s me) 5 e) (row5_does (view_of s me) f).done

  -- at any other step but the last
  pub step_same : ((thread_at s me).phase ≡ 5 → (place_at s (thread_at s me).base).valid ≡ false) → ((thread_at s me).phase ≡ 25 → ⊥)
      → Same s.committed (thread_at s me) (after s me).committed (thread_at (after s me) me)
  unfolding after apply rows view_of view_before
  step_same f n = go (compared (thread_at s me).phase 5)
    where
      go : Cases.Same (thread_at s me).phase 5 → Same s.committed (thread_at s me) (after s me).committed (thread_at (after s me) me)
      go (Cases.same e) = rw (thread_after s me len l, row_at (view_of s me) 5 e) (row5-keeps (view_of s me) (f e)).same
      go (Cases.apart m) = rw (thread_after s me len l) (keeps (view_of s me) (rw (ne_eqb (thread_at s me).phase 5 m, ne_eqb (thread_at s me).phase 25 n))).same

  -- and at the last the count stays
  pub end_same : (thread_at s me).phase ≡ 25 → (after s me).committed ≡ s.committed
  unfolding after apply rows view_of view_before
  end_same e = rw (row_at (view_of s me) 25 e) (row25-keeps (view_of s me))
