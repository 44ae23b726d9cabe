-- What the rows do to a walk: its routes have rising numbers, and no other row goes on with a walk.
use Rattle.std.proofs.Math.Bool.{Bool, not}
use Rattle.std.specs.Prelude.{true, false, cond, ◌&&◌, ◌||◌, ◌≡◌, ℕ, ◌%◌, ◌≤◌, ◌<◌, ltb, get_or}
use Rattle.std.proofs.Common.{true≢false, ◌∙◌, ltb-true, lt-ltb, eqb-true}
use mathlib.Core.List.{List}
use Rattle.std.proofs.Math.Path.{refl, sym, ap}
use Rattle.std.proofs.Math.Dec.{eqb}
use Rattle.keys.specs.Keys.{size}
use Rattle.rules.specs.State.{none, zero_place, place_at, thread_at}
use Rattle.rules.specs.Registers.{at_phase, set_walk}
use Rattle.rules.specs.Places.{is_route, is_free, route_key, child_on, child_by}
use Rattle.rules.specs.Rows.{searches, seeks, hangs, commits, decides, no_split, split, no_join, join, above_max, below_min, keys_then, row0, row1, row2, row3, row4, row5, row6, row7, row8, row9, row10, row11, row12, row13, row14, row15, row16, row17, row18, row19, row20, row21, row22, row23, row24, row25, rows, plan_of}
use Rattle.rules.specs.Needs.{route}
use Rattle.rules.specs.Step.{view_before, view_of, put, apply, after}
use Rattle.rules.specs.declared.state.Place.{Place}
use Rattle.rules.specs.declared.state.Thread.{Thread}
use Rattle.rules.specs.declared.state.State.{State}
use Rattle.rules.specs.declared.row.View.{View}
use Rattle.rules.specs.declared.row.Plan.{Plan}
use Rattle.states.specs.Tests.{both, pick}
use Rattle.states.specs.Phase.{row_at, Each, end, ◌then◌, by_phase}
use Rattle.graph.specs.Walk.{kid}
use Rattle.graph.specs.Graph.{summit}
use Rattle.runs.specs.Passes.{walk_starts, walk_goes_on, takes_route}
use Rattle.order.specs.World.{World, cell, world_of, Sound}
use Rattle.order.specs.Stages.{Stage, RouteAt, Descending}
use Rattle.order.specs.Bridge.{thread_after, thread_row, reads_route, reads_kid, reads_next}
use Rattle.order.specs.Walks.{route_of}
use Rattle.order.specs.AtPhase.{at_phase_lem}
use Rattle.order.specs.Invariant.{Invariant}

-- a phase at which a walk goes on
data Walking (p : ℕ) : Type 0 where
  two : p ≡ 2 → Walking p
  ten : p ≡ 10 → Walking p
  sixteen : p ≡ 16 → Walking p
  twenty_two : p ≡ 22 → Walking p

walking : (p : ℕ) → walk_goes_on p ≡ true → Walking p
walking p = go (eqb p 2) (eqb p 10) (eqb p 16) (eqb p 22) (eqb-true p 2) (eqb-true p 10) (eqb-true p 16) (eqb-true p 22)
  where
    go : (a b c d : Bool) → (a ≡ true → p ≡ 2) → (b ≡ true → p ≡ 10) → (c ≡ true → p ≡ 16) → (d ≡ true → p ≡ 22) → (a || b || c || d) ≡ true → Walking p
    go true b c d x y z v e = two (x refl)
    go false true c d x y z v e = ten (y refl)
    go false false true d x y z v e = sixteen (z refl)
    go false false false true x y z v e = twenty_two (v refl)
    go false false false false x y z v e = absurd (true≢false (sym e))

-- ---- the rows at which no walk is under way do not go on with one

record Leaves (p : Plan) : Type 0 where
  ends : walk_goes_on p.thread.phase ≡ false

Row : ℕ → (View → Plan) → Type 0
Row n f = walk_starts n ≡ false → walk_goes_on n ≡ false → (v : View) → v.thread.phase ≡ n → Leaves (f v)

each : Each Row 0 rows
unfolding Row rows row0 row1 row2 row3 row4 row5 row6 row7 row8 row9 row10 row11 row12 row13 row14 row15 row16 row17 row18 row19 row20 row21 row22 row23 row24 row25 searches seeks hangs commits decides no_split split no_join join
each =
    (λ a b v e. record { ends = ap walk_goes_on e })
    then (λ a. absurd (true≢false a))
    then (λ a b. absurd (true≢false b))
    then (λ a b v e. pick Leaves (is_free v.base) (record { ends = refl }) (record { ends = refl }))
    then (λ a b v e. pick Leaves (is_free v.base) (record { ends = refl }) (record { ends = refl }))
    then (λ a b v e. pick Leaves v.base.valid (pick Leaves (above_max v) (pick Leaves (ltb (size (keys_then v)) 2) (record { ends = refl }) (record { ends = refl })) (pick Leaves (below_min v) (pick Leaves (eqb v.thread.prev none) (record { ends = refl }) (record { ends = refl })) (record { ends = refl }))) (record { ends = refl }))
    then (λ a b v e. pick Leaves (ltb 125 v.made) (record { ends = refl }) (record { ends = refl }))
    then (λ a b v e. (record { ends = refl }))
    then (λ a b v e. (record { ends = refl }))
    then (λ a. absurd (true≢false a))
    then (λ a b. absurd (true≢false b))
    then (λ a b v e. pick Leaves (is_free v.walk) (record { ends = refl }) (record { ends = refl }))
    then (λ a b v e. pick Leaves (not v.neighbour.valid || ltb 127 v.made) (record { ends = refl }) (record { ends = refl }))
    then (λ a b v e. pick Leaves (is_free v.prev) (record { ends = refl }) (record { ends = refl }))
    then (λ a b v e. (record { ends = refl }))
    then (λ a. absurd (true≢false a))
    then (λ a b. absurd (true≢false b))
    then (λ a b v e. pick Leaves (is_free v.grandparent) (record { ends = refl }) (record { ends = refl }))
    then (λ a b v e. pick Leaves v.grandparent.valid (record { ends = refl }) (record { ends = refl }))
    then (λ a b v e. (record { ends = refl }))
    then (λ a b v e. (record { ends = refl }))
    then (λ a. absurd (true≢false a))
    then (λ a b. absurd (true≢false b))
    then (λ a b v e. (record { ends = refl }))
    then (λ a b v e. (record { ends = refl }))
    then (λ a b v e. (record { ends = refl }))
    then end

leaves : (v : View) → walk_starts v.thread.phase ≡ false → walk_goes_on v.thread.phase ≡ false → Leaves (plan_of v)
unfolding Row row0 plan_of
leaves v a b = by_phase each (λ p l a b v e. record { ends = ap walk_goes_on e ∙ b }) v.thread.phase a b v refl

module _ {s : State} (i : Invariant s) {t : ℕ} (l : t ≤ 7) where
  abbrev v : View
  v = view_of s t

  abbrev w : World
  w = world_of s i.nodes.tree i.nodes.own

  sound : Sound (world_of s i.nodes.tree i.nodes.own) (thread_at s) s.made
  sound = i.nodes.safe.sound

  stage : Stage (world_of s i.nodes.tree i.nodes.own) t (thread_at s t)
  stage = i.nodes.safe.each t l

  -- where no walk is under way, none goes on after the step
  pub leaves_off : walk_starts (thread_at s t).phase ≡ false → walk_goes_on (thread_at s t).phase ≡ false
      → walk_goes_on (thread_at (after s t) t).phase ≡ false
  unfolding plan_of view_of view_before
  leaves_off a b =
      ap (λ (x : Thread). walk_goes_on x.phase) (thread_after s t i.threads l)
      ∙ (leaves (view_of s t) a b).ends

  -- a node that is a route after a row that stores nothing was one before
  was_route : (x : ℕ) → (after s t).places ≡ s.places → route x (place_at (after s t) x) ≡ true → (cell w x).route ≡ true
  unfolding place_at
  was_route x q e =
      let p = both (ltb x none) (is_route (place_at (after s t) x)) e in
      sym (reads_route s i.nodes.tree i.nodes.own x (ltb-true x none p.0))
      ∙ ap (λ (ps : List Place). is_route (get_or ps (x % 128) zero_place)) (sym q)
      ∙ p.1

  places_row : (n : ℕ) → (thread_at s t).phase ≡ n → (after s t).places
      ≡ put (get_or rows n row0 (view_of s t)).third (put (get_or rows n row0 (view_of s t)).second (put (get_or rows n row0 (view_of s t)).first s.places))
  unfolding after apply view_of view_before
  places_row n e = ap (λ (p : Plan). put p.third (put p.second (put p.first s.places))) (row_at (view_of s t) n e)

  -- to a child that is a route, the number rises
  rise : {x y : ℕ} → RouteAt w x → x < summit → (b : Bool) → kid b (cell w x) ≡ y → (cell w y).route ≡ true → x < y
  rise {x} a m b e r = rw e at (sound.good.rises x (route_of sound a) m b (rw e r))

  pub given-route : takes_route s t ≡ true → route (thread_at (after s t) t).walk (place_at (after s t) (thread_at (after s t) t).walk) ≡ true
  unfolding takes_route
  given-route e =
      (both (route (thread_at (after s t) t).walk (place_at (after s t) (thread_at (after s t) t).walk))
      (not (eqb (thread_at s t).phase 22 && eqb (thread_at (after s t) t).phase 23)) e).0

  rises2 : (thread_at s t).phase ≡ 2 → takes_route s t ≡ true → (thread_at s t).walk < (thread_at (after s t) t).walk
  unfolding rows row2 searches view_of view_before put
  rises2 e g =
      let c = at_phase_lem 2 e stage in
      let k = (thread_at s t).key in
      let x = (thread_at s t).walk in
      let y = child_by k (place_at s x) in
      let is : (thread_at (after s t) t).walk ≡ y =
      ap (λ (z : Thread). z.walk) (thread_row s t i.threads l 2 e) ∙ pick (λ (z : Thread). z.walk ≡ y) (is_route (view_of s t).reached) refl refl in
      rw is
      (rise c.at c.small (not (ltb k (cell w x).key)) (sym (reads_next s i.nodes.tree i.nodes.own k x c.small))
      (was_route y (places_row 2 e) (rw is at (given-route g))))

  rises10 : (thread_at s t).phase ≡ 10 → takes_route s t ≡ true → (thread_at s t).walk < (thread_at (after s t) t).walk
  unfolding rows row10 seeks view_of view_before put
  rises10 e g =
      let c = at_phase_lem 10 e stage in
      let b = not (thread_at s t).side in
      let x = (thread_at s t).walk in
      let y = child_on b (place_at s x) in
      let is : (thread_at (after s t) t).walk ≡ y =
      ap (λ (z : Thread). z.walk) (thread_row s t i.threads l 10 e) ∙ pick (λ (z : Thread). z.walk ≡ y) (is_route (view_of s t).reached) refl refl in
      rw is
      (rise c.at c.small b (sym (reads_kid s i.nodes.tree i.nodes.own b x c.small))
      (was_route y (places_row 10 e) (rw is at (given-route g))))

  rises16 : (thread_at s t).phase ≡ 16 → takes_route s t ≡ true → (thread_at s t).walk < (thread_at (after s t) t).walk
  unfolding rows row16 view_of view_before put
  rises16 e g =
      let c = at_phase_lem 16 e stage in
      let k = route_key (place_at s (thread_at s t).prev) in
      let x = (thread_at s t).walk in
      let y = child_by k (place_at s x) in
      let is : (thread_at (after s t) t).walk ≡ y = ap (λ (z : Thread). z.walk) (thread_row s t i.threads l 16 e) in
      rw is
      (rise c.1.at c.1.small (not (ltb k (cell w x).key)) (sym (reads_next s i.nodes.tree i.nodes.own k x c.1.small))
      (was_route y (places_row 16 e) (rw is at (given-route g))))

  rises22 : (thread_at s t).phase ≡ 22 → takes_route s t ≡ true → (thread_at s t).walk < (thread_at (after s t) t).walk
  unfolding rows row22 view_of view_before put takes_route
  rises22 e g = go (is_route (view_of s t).reached) (thread_row s t i.threads l 22 e)
    where
      b : Bool
      b = not (thread_at s t).side

      x : ℕ
      x = (thread_at s t).walk

      y : ℕ
      y = child_on b (place_at s x)

      c : Descending w (thread_at s t).side (thread_at s t).prev (thread_at s t).neighbour x
      c = (at_phase_lem 22 e stage).1

      go : (d : Bool) → thread_at (after s t) t ≡ cond d (at_phase 22 (set_walk y (thread_at s t))) (at_phase 23 (thread_at s t))
          → (thread_at s t).walk < (thread_at (after s t) t).walk
      go true q =
          let is : (thread_at (after s t) t).walk ≡ y = ap (λ (z : Thread). z.walk) q in
          rw is
          (rise c.at c.small b (sym (reads_kid s i.nodes.tree i.nodes.own b x c.small))
          (was_route y (places_row 22 e) (rw is at (given-route g))))
      go false q =
          let no_step : (eqb (thread_at s t).phase 22 && eqb (thread_at (after s t) t).phase 23) ≡ true =
          ap (λ (n : ℕ). eqb n 22 && eqb (thread_at (after s t) t).phase 23) e ∙ ap (λ (z : Thread). eqb z.phase 23) q in
          absurd (true≢false (sym (both (route (thread_at (after s t) t).walk (place_at (after s t) (thread_at (after s t) t).walk))
          (not (eqb (thread_at s t).phase 22 && eqb (thread_at (after s t) t).phase 23)) g).1 ∙ ap not no_step))

  -- a walk that goes on and takes a route takes one with a greater number
  pub walk_rises : walk_goes_on (thread_at s t).phase ≡ true → takes_route s t ≡ true → (thread_at s t).walk < (thread_at (after s t) t).walk
  walk_rises a g = go (walking (thread_at s t).phase a)
    where
      go : Walking (thread_at s t).phase → (thread_at s t).walk < (thread_at (after s t) t).walk
      go (two e) = rises2 e g
      go (ten e) = rises10 e g
      go (sixteen e) = rises16 e g
      go (twenty_two e) = rises22 e g

  -- a thread whose walk goes on has a route in its walk register
  pub walk_route : walk_goes_on (thread_at s t).phase ≡ true → route (thread_at s t).walk (place_at s (thread_at s t).walk) ≡ true
  walk_route a = go (walking (thread_at s t).phase a)
    where
      at-route : (thread_at s t).walk < summit → RouteAt w (thread_at s t).walk
          → route (thread_at s t).walk (place_at s (thread_at s t).walk) ≡ true
      at-route m r =
          rw (lt-ltb (thread_at s t).walk none m) (reads_route s i.nodes.tree i.nodes.own (thread_at s t).walk m ∙ r.route)

      go : Walking (thread_at s t).phase → route (thread_at s t).walk (place_at s (thread_at s t).walk) ≡ true
      go (two e) = let c = at_phase_lem 2 e stage in at-route c.small c.at
      go (ten e) = let c = at_phase_lem 10 e stage in at-route c.small c.at
      go (sixteen e) = let c = at_phase_lem 16 e stage in at-route c.1.small c.1.at
      go (twenty_two e) = let c = at_phase_lem 22 e stage in at-route c.1.small c.1.at
