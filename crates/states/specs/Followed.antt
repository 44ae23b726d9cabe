-- "every accepted step agrees with it": the phase that each row goes to is one that the follower table allows.
use Rattle.std.specs.Prelude.{true, not, ◌||◌, ◌≡◌, refl, ℕ, ◌≤◌, eqb, ltb, Result, Ok}
use Rattle.std.proofs.Common.{subst, not-suc-le-zero, arith, eqb-true}
use Rattle.std.proofs.lemmas.Bool.{eqb-false, not-false}
use Rattle.keys.specs.Keys.{size}
use Rattle.states.specs.Tests.{pick, pick-by}
use Rattle.states.specs.Phase.{Each, end, ◌then◌, by_phase}
use Rattle.states.specs.Calls.{step_by}
use Rattle.states.specs.Facts.{facts}
use Rattle.rules.specs.State.{none, thread_at}
use Rattle.rules.specs.Places.{is_route, is_free, with_keys}
use Rattle.rules.specs.Rows.{hangs, searches, seeks, far_child, above_max, below_min, keys_then, commits, decides, no_split, split, no_join, join, towards_prev, row0, row1, row2, row3, row4, row5, row6, row7, row8, row9, row10, row11, row12, row13, row14, row15, row16, row17, row18, row19, row20, row21, row22, row23, row24, row25, rows, plan_of}
use Rattle.rules.specs.Step.{view_before, view_of, ends, reply_of, step_of, Replied}
use Rattle.rules.specs.Follow.{follows}
use Rattle.rules.specs.declared.state.Thread.{Thread}
use Rattle.rules.specs.declared.state.State.{State}
use Rattle.rules.specs.declared.row.View.{View}
use Rattle.rules.specs.declared.row.Plan.{Plan}
use Rattle.rules.specs.declared.answer.Refusal.{Refusal}
use Rattle.rules.specs.declared.answer.StepReply.{StepReply}
use Rattle.rules.specs.declared.answer.StepReply as StepReply

-- a phase that may follow p
abbrev Phase : ℕ → ℕ → Type 0
Phase p q = follows p q ≡ true

-- a thread at such a phase
abbrev Goes : ℕ → Thread → Type 0
Goes p t = follows p t.phase ≡ true

-- a plan that leaves the thread at such a phase
abbrev Plans : ℕ → Plan → Type 0
Plans p q = follows p q.thread.phase ≡ true

-- the row at phase p goes to a phase that may follow p
abbrev Follows : ℕ → (View → Plan) → Type 0
Follows p row = 1 ≤ p → p ≤ 25 → (v : View) → Plans p (row v)

-- phase 5, where B is valid
decided : (v : View) → Plans 5 (decides v (with_keys (keys_then v) v.base))
unfolding decides commits
decided v =
    pick (Plans 5) (above_max v) (pick (Plans 5) (ltb (size (keys_then v)) 2) refl refl)
    (pick (Plans 5) (below_min v) (pick (Plans 5) (eqb v.thread.prev none) refl refl) refl)

-- all rows, in their order
follow : Each Follows 0 rows
unfolding rows row0 row1 row2 row3 row4 row5 row6 row7 row8 row9 row10 row11 row12 row13 row14 row15 row16 row17 row18 row19 row20 row21 row22 row23 row24 row25 hangs searches seeks no_split split no_join join
follow =
    (λ l h v. absurd (not-suc-le-zero l))
    then (λ l h v. pick (Goes 1) (is_route v.reached) refl refl)
    then (λ l h v. pick (Goes 2) (is_route v.reached) refl refl)
    then (λ l h v. pick (Plans 3) (is_free v.base) refl refl)
    then (λ l h v. pick (Plans 4) (is_free v.base) refl refl)
    then (λ l h v. pick (Plans 5) v.base.valid (decided v) refl)
    then (λ l h v. pick (Plans 6) (ltb 125 v.made) refl refl)
    then (λ l h v. refl)
    then (λ l h v. refl)
    then (λ l h v. pick (Goes 9) (is_route v.reached) refl refl)
    then (λ l h v. pick (Goes 10) (is_route v.reached) refl refl)
    then (λ l h v. pick (Plans 11) (is_free v.walk) refl refl)
    then (λ l h v. pick (Plans 12) (not v.neighbour.valid || ltb 127 v.made) refl refl)
    then (λ l h v. pick (Plans 13) (is_free v.prev) refl refl)
    then (λ l h v. refl)
    then (λ l h v. pick (Phase 15) (eqb v.root v.thread.prev) refl refl)
    then (λ l h v. pick (Phase 16) (eqb (towards_prev v) v.thread.prev) refl refl)
    then (λ l h v. pick (Plans 17) (is_free v.grandparent) refl refl)
    then (λ l h v. pick (Plans 18) v.grandparent.valid refl refl)
    then (λ l h v. refl)
    then (λ l h v. refl)
    then (λ l h v. pick (Goes 21) (eqb (far_child v) v.thread.neighbour) refl refl)
    then (λ l h v. pick (Goes 22) (is_route v.reached) refl refl)
    then (λ l h v. refl)
    then (λ l h v. refl)
    then (λ l h v. refl)
    then end

-- every step, stuck or not, from any phase but 0
pub followed : (v : View) → 1 ≤ v.thread.phase → v.thread.phase ≤ 25 → follows v.thread.phase (plan_of v).thread.phase ≡ true
unfolding plan_of
followed v l h = by_phase follow (λ p g i j. absurd (omega arith)) v.thread.phase l h v

-- every accepted step: one that goes on goes to a follower of its phase
pub step_goes : (s : State) (t q : ℕ) → (step_of s t).reply ≡ Ok (StepReply.TheVariants.Goes q) → follows (thread_at s t).phase q ≡ true
unfolding reply_of view_of view_before
step_goes s t q =
    let p = (thread_at s t).phase in
    let Q : Result StepReply Refusal → Type 0 = λ r. r ≡ Ok (StepReply.TheVariants.Goes q) → follows p q ≡ true in
    let S : Replied StepReply → Type 0 = λ b. Q b.reply in
    step_by S s t (λ m e. cc) λ n.
    pick-by (λ (r : StepReply). Q (Ok r)) (ends (thread_at s t)) (λ a e. cc) λ d e.
    let h : (plan_of (view_of s t)).thread.phase ≡ q = cc in
    let m = ((facts s (not-false _ n.0)).threads t).numbers.phase in
    subst (λ (x : ℕ). follows p x ≡ true) h (followed (view_of s t) (omega (arith, eqb-false p 0 n.1.1.0)) m)

-- and one that ends was at 25, which 0 follows
pub step_ends : (s : State) (t a c : ℕ) → (step_of s t).reply ≡ Ok (StepReply.TheVariants.Ends a c) → (thread_at s t).phase ≡ 25
unfolding reply_of
step_ends s t a c =
    let p = (thread_at s t).phase in
    let Q : Result StepReply Refusal → Type 0 = λ r. r ≡ Ok (StepReply.TheVariants.Ends a c) → p ≡ 25 in
    let S : Replied StepReply → Type 0 = λ b. Q b.reply in
    step_by S s t (λ m e. cc) (λ n. pick-by (λ (r : StepReply). Q (Ok r)) (ends (thread_at s t)) (λ h e. eqb-true p 25 h) (λ h e. cc))
