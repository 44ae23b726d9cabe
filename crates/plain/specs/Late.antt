-- Threads become late at the splice and are so until the link; their base register stays.
use Rattle.std.specs.Prelude.{true, false, not, ◌||◌, ◌≡◌, refl, ℕ, ◌≤◌, ltb, eqb, length}
use Rattle.std.proofs.Common.{true≢false, sym, ◌∙◌}
use Rattle.std.proofs.Math.Path.{ap}
use Rattle.keys.specs.Keys.{size}
use Rattle.rules.specs.State.{none, thread_at}
use Rattle.rules.specs.Places.{is_route, is_free}
use Rattle.rules.specs.Rows.{searches, seeks, hangs, commits, decides, no_split, split, no_join, join, above_max, below_min, keys_then, far_child, towards_prev, row0, row1, row2, row3, row4, row5, row6, row7, row8, row9, row10, row11, row12, row13, row14, row15, row16, row17, row18, row19, row20, row21, row22, row23, row24, row25, rows, plan_of}
use Rattle.rules.specs.Step.{view_before, view_of, after}
use Rattle.rules.specs.declared.state.Thread.{Thread}
use Rattle.rules.specs.declared.state.State.{State}
use Rattle.rules.specs.declared.row.View.{View}
use Rattle.rules.specs.declared.row.Plan.{Plan}
use Rattle.states.specs.Tests.{pick}
use Rattle.states.specs.Phase.{Each, end, ◌then◌, by_phase}
use Rattle.runs.specs.Holders.{late}
use Rattle.order.specs.Bridge.{thread_after, thread_row}
use Rattle.order.specs.Ordered.{quiet_phase}

-- the thread is late after the row as before, with the same base
record Stays (n : ℕ) (t t' : Thread) : Type 0 where
  same : late t'.phase ≡ late n
  base : late n ≡ true → t'.base ≡ t.base

abbrev Of : ℕ → View → Plan → Type 0
Of n v p = Stays n v.thread p.thread

Row : ℕ → (View → Plan) → Type 0
Row n f = quiet_phase n ≡ true → (v : View) → v.thread.phase ≡ n → Of n v (f v)

-- a row between phases that are not late, and between phases that are
not_late : {n : ℕ} {t t' : Thread} → late t'.phase ≡ late n → late n ≡ false → Stays n t t'
not_late e f = record { same = e; base = λ z. absurd (true≢false (sym z ∙ f)) }

still_late : {n : ℕ} {t t' : Thread} → late t'.phase ≡ late n → t'.base ≡ t.base → Stays n t t'
still_late e f = record { same = e; base = λ z. f }

row5_stays : (v : View) → Of 5 v (row5 v)
unfolding row5 commits decides
row5_stays v =
    pick (Of 5 v) v.base.valid
    (pick (Of 5 v) (above_max v) (pick (Of 5 v) (ltb (size (keys_then v)) 2) (not_late refl refl) (not_late refl refl))
    (pick (Of 5 v) (below_min v) (pick (Of 5 v) (eqb v.thread.prev none) (not_late refl refl) (not_late refl refl)) (not_late refl refl)))
    (not_late refl refl)

each : Each Row 0 rows
unfolding Row rows row0 row1 row2 row3 row4 row6 row7 row8 row9 row10 row11 row12 row13 row14 row15 row16 row17 row18 row19 row20 row21 row22 row23 row24 row25 searches seeks hangs no_split split no_join join
each =
    (λ q v e. not_late (ap late e) refl)
    then (λ q v e. pick (Stays 1 v.thread) (is_route v.reached) (not_late refl refl) (not_late refl refl))
    then (λ q v e. pick (Stays 2 v.thread) (is_route v.reached) (not_late refl refl) (not_late refl refl))
    then (λ q v e. pick (Of 3 v) (is_free v.base) (not_late refl refl) (not_late refl refl))
    then (λ q v e. pick (Of 4 v) (is_free v.base) (not_late refl refl) (not_late refl refl))
    then (λ q v e. row5_stays v)
    then (λ q v e. pick (Of 6 v) (ltb 125 v.made) (not_late refl refl) (not_late refl refl))
    then (λ q. absurd (true≢false (sym q)))
    then (λ q v e. not_late refl refl)
    then (λ q v e. pick (Stays 9 v.thread) (is_route v.reached) (not_late refl refl) (not_late refl refl))
    then (λ q v e. pick (Stays 10 v.thread) (is_route v.reached) (not_late refl refl) (not_late refl refl))
    then (λ q v e. pick (Of 11 v) (is_free v.walk) (not_late refl refl) (not_late refl refl))
    then (λ q v e. pick (Of 12 v) (not v.neighbour.valid || ltb 127 v.made) (not_late refl refl) (not_late refl refl))
    then (λ q v e. pick (Of 13 v) (is_free v.prev) (not_late refl refl) (not_late refl refl))
    then (λ q v e. not_late refl refl)
    then (λ q v e. not_late (pick (λ (p : ℕ). late p ≡ false) (eqb v.root v.thread.prev) refl refl) refl)
    then (λ q v e. not_late (pick (λ (p : ℕ). late p ≡ false) (eqb (towards_prev v) v.thread.prev) refl refl) refl)
    then (λ q v e. pick (Of 17 v) (is_free v.grandparent) (not_late refl refl) (not_late refl refl))
    then (λ q v e. pick (Of 18 v) v.grandparent.valid (not_late refl refl) (not_late refl refl))
    then (λ q. absurd (true≢false (sym q)))
    then (λ q v e. still_late refl refl)
    then (λ q v e. pick (Stays 21 v.thread) (eqb (far_child v) v.thread.neighbour) (still_late refl refl) (still_late refl refl))
    then (λ q v e. pick (Stays 22 v.thread) (is_route v.reached) (still_late refl refl) (still_late refl refl))
    then (λ q. absurd (true≢false (sym q)))
    then (λ q v e. not_late refl refl)
    then (λ q v e. not_late refl refl)
    then end

stays : (v : View) → quiet_phase v.thread.phase ≡ true → Of v.thread.phase v (plan_of v)
unfolding Row row0 plan_of
stays v q = by_phase each (λ p g a v e. still_late (ap late e) refl) v.thread.phase q v refl

module _ (s : State) (len : length s.threads ≡ 8) {me : ℕ} (l : me ≤ 7) where
  -- where the tree stays, a thread is late after its step as before
  pub late_same : quiet_phase (thread_at s me).phase ≡ true → late (thread_at (after s me) me).phase ≡ late (thread_at s me).phase
  unfolding view_of view_before
  late_same q = ap (λ (t : Thread). late t.phase) (thread_after s me len l) ∙ (stays (view_of s me) q).same

  -- with the same base
  pub late-base : quiet_phase (thread_at s me).phase ≡ true → late (thread_at s me).phase ≡ true
      → (thread_at (after s me) me).base ≡ (thread_at s me).base
  unfolding view_of view_before
  late-base q e = ap (λ (t : Thread). t.base) (thread_after s me len l) ∙ (stays (view_of s me) q).base e

  -- after the splice it is late, with its base
  pub late_splice : (thread_at s me).phase ≡ 19
      → (late (thread_at (after s me) me).phase ≡ true) × ((thread_at (after s me) me).base ≡ (thread_at s me).base)
  unfolding rows row19 hangs view_of view_before
  late_splice e = (ap (λ (t : Thread). late t.phase) (thread_row s me len l 19 e), ap (λ (t : Thread). t.base) (thread_row s me len l 19 e))

  -- after the split and after the link it is not
  pub late-split : (thread_at s me).phase ≡ 7 → late (thread_at (after s me) me).phase ≡ false
  unfolding rows row7 hangs view_of view_before
  late-split e = ap (λ (t : Thread). late t.phase) (thread_row s me len l 7 e)

  pub late_link : (thread_at s me).phase ≡ 23 → late (thread_at (after s me) me).phase ≡ false
  unfolding rows row23 hangs view_of view_before
  late_link e = ap (λ (t : Thread). late t.phase) (thread_row s me len l 23 e)
