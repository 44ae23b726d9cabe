-- The rows that store no place: 1, 2, 9, 10, 15, 16, 21, 22.
use Rattle.std.specs.Prelude.{Bool, true, cond, not, ◌≡◌, refl, ltb, length}
use Rattle.std.proofs.Math.Bool.{false}
use Rattle.std.proofs.Math.Path.{sym}
use Rattle.std.proofs.Common.{ap, ◌∙◌, arith, eqb-true}
use Prim.Native.Nat.{ℕ, ◌≤◌, ◌<◌}
use Rattle.std.proofs.Math.Dec.{eqb}
use Rattle.std.proofs.lemmas.Bool.{eqb-false}
use Rattle.rules.specs.State.{none, place_at, thread_at}
use Rattle.rules.specs.Registers.{at_phase, set_prev, set_base, set_walk, set_grandparent, set_side}
use Rattle.rules.specs.Places.{is_route, route_key, child_on, child_by}
use Rattle.rules.specs.Rows.{searches, seeks, row1, row2, row9, row10, row15, row16, row21, row22}
use Rattle.rules.specs.Step.{view_before, next_of, view_of, apply}
use Rattle.rules.specs.declared.state.Thread.{Thread}
use Rattle.rules.specs.declared.state.State.{State}
use Rattle.graph.specs.Walk.{kid, by, along, next, here}
use Rattle.graph.specs.Graph.{summit}
use Rattle.graph.specs.Track.{Track, on}
use Rattle.order.specs.World.{World, graph, cell, world_of, Sound}
use Rattle.order.specs.Stages.{Stage, RouteAt, Joining, Dying, Towards, Linking, Closing, Descending}
use Rattle.order.specs.AtPhase.{at_phase_lem}
use Rattle.order.specs.Bridge.{reads_route, reads_key, reads_kid, reads_next, summit-next}
use Rattle.order.specs.Walks.{summit-at, kid_small, search_route, search_base, along-first, along_then, seek_route, seek_base, fixed, under_summit, towards_from, towards_root, parent_over, descend_far, descend_on, descend_ends}
use Rattle.order.specs.Ordered.{Ordered, Stepped}
use Rattle.order.specs.Quiet.{only_row, not8}

module _ {w : World} {thread : ℕ → Thread} {made : ℕ} (sound : Sound w thread made) {me : ℕ} (t : Thread) where
  -- after a step of the search from x to y
  searched : (x y : ℕ) → t.key < 64 → RouteAt w x → Track (graph w) (by t.key) summit x → next (cell w) (by t.key) x ≡ y → y < summit
      → (b : Bool) → b ≡ (cell w y).route
      → Stage w me (cond b (at_phase 2 (set_walk y (set_prev x t))) (at_phase 3 (set_base y (set_walk y (set_prev x t)))))
  searched x y k a u n m true e = record { holds = search_route sound t.key x y k a u n m (sym e) }
  searched x y k a u n m false e = record { holds = search_base sound t.key x y k a u n m (sym e) }

  -- after a step towards the neighbour from x to y
  sought : (x y : ℕ) → Joining w me t.side t.prev t.base → RouteAt w x → x < summit → t.prev ≤ x
      → Track (graph w) (along t.prev t.side) t.prev x → next (cell w) (along t.prev t.side) x ≡ y → (b : Bool) → b ≡ (cell w y).route
      → Stage w me (cond b (at_phase 10 (set_walk y t)) (at_phase 11 (set_walk y t)))
  sought x y j a m p u n true e = record { holds = seek_route sound x y j a m p u n (sym e) }
  sought x y j a m p u n false e = record { holds = seek_base sound x y j a m u n (sym e) }

module _ {s : State} (r : Ordered s) (size : length s.threads ≡ 8) {me : ℕ} (l : me ≤ 7) where
  abbrev w : World
  w = world_of s r.tree r.own

  sound : Sound (world_of s r.tree r.own) (thread_at s) s.made
  sound = r.safe.sound

  mine : Stage (world_of s r.tree r.own) me (thread_at s me)
  mine = r.safe.each me l

  -- row 1 keeps the order
  pub row1_kept : (thread_at s me).phase ≡ 1 → Stepped r me (apply s me (row1 (view_of s me)))
  unfolding row1 searches view_of view_before next_of
  row1_kept e =
      let k = at_phase_lem 1 e mine in
      let reached : (view_of s me).reached ≡ place_at s s.root = rw e in
      only_row r size l _ (not8 1 e (λ q. omega arith))
      (searched sound (thread_at s me) summit s.root k (summit-at sound) (on (here refl)) (summit-next s r.tree r.own (thread_at s me).key k)
      sound.entry (is_route (view_of s me).reached) (ap is_route reached ∙ reads_route s r.tree r.own s.root sound.entry))

  -- row 2 keeps the order
  pub row2_kept : (thread_at s me).phase ≡ 2 → Stepped r me (apply s me (row2 (view_of s me)))
  unfolding row2 searches view_of view_before next_of
  row2_kept e =
      let c = at_phase_lem 2 e mine in
      let k = (thread_at s me).key in
      let x = (thread_at s me).walk in
      let y = child_by k (place_at s x) in
      let n = reads_next s r.tree r.own k x c.small in
      let m : y < summit = rw n (kid_small sound c.at c.small (not (ltb k (cell w x).key))) in
      let reached : (view_of s me).reached ≡ place_at s y = rw e in
      only_row r size l _ (not8 2 e (λ q. omega arith))
      (searched sound (thread_at s me) x y c.key c.at c.track (sym n) m (is_route (view_of s me).reached)
      (ap is_route reached ∙ reads_route s r.tree r.own y m))

  -- row 9 keeps the order
  pub row9_kept : (thread_at s me).phase ≡ 9 → Stepped r me (apply s me (row9 (view_of s me)))
  unfolding row9 seeks view_of view_before next_of
  row9_kept e =
      let c = at_phase_lem 9 e mine in
      let P = (thread_at s me).prev in
      let B = (thread_at s me).base in
      let v = eqb (child_on false (place_at s P)) B in
      let y = child_on v (place_at s P) in
      let j : Joining w me v P B = rw (reads_kid s r.tree r.own false P c.small) (fixed sound c) in
      let n : kid v (cell w P) ≡ y = sym (reads_kid s r.tree r.own v P c.small) in
      let m : y < summit = rw n at (kid_small sound j.prev c.small v) in
      let reached : (view_of s me).reached ≡ place_at s y = rw e in
      only_row r size l _ (not8 9 e (λ q. omega arith))
      (sought sound (set_side v (thread_at s me)) P y j j.prev c.small (omega arith) (on (here refl)) (along-first sound P v ∙ n)
      (is_route (view_of s me).reached) (ap is_route reached ∙ reads_route s r.tree r.own y m))

  -- row 10 keeps the order
  pub row10_kept : (thread_at s me).phase ≡ 10 → Stepped r me (apply s me (row10 (view_of s me)))
  unfolding row10 seeks view_of view_before next_of
  row10_kept e =
      let c = at_phase_lem 10 e mine in
      let P = (thread_at s me).prev in
      let x = (thread_at s me).walk in
      let v = (thread_at s me).side in
      let y = child_on (not v) (place_at s x) in
      let n : kid (not v) (cell w x) ≡ y = sym (reads_kid s r.tree r.own (not v) x c.small) in
      let m : y < summit = rw n at (kid_small sound c.at c.small (not v)) in
      let reached : (view_of s me).reached ≡ place_at s y = rw e in
      only_row r size l _ (not8 10 e (λ q. omega arith))
      (sought sound (thread_at s me) x y c.joining c.at c.small (omega (arith, c.rise)) c.track
      (along_then sound P x v c.rise ∙ n) (is_route (view_of s me).reached) (ap is_route reached ∙ reads_route s r.tree r.own y m))

  -- row 15 keeps the order
  pub row15_kept : (thread_at s me).phase ≡ 15 → Stepped r me (apply s me (row15 (view_of s me)))
  unfolding row15 view_of view_before
  row15_kept e = only_row r size l _ (not8 15 e (λ q. omega arith)) (go (eqb s.root (thread_at s me).prev) refl)
    where
      d : Dying w me (thread_at s me).side (thread_at s me).prev (thread_at s me).base (thread_at s me).neighbour (thread_at s me).made
      d = at_phase_lem 15 e mine

      go : (b : Bool) → eqb s.root (thread_at s me).prev ≡ b
          → Stage w me (at_phase (cond b 19 16) (set_walk s.root (set_grandparent none (thread_at s me))))
      go true q = record { holds = (d, under_summit sound d (eqb-true s.root (thread_at s me).prev q)) }
      go false q = record { holds = (d, towards_root sound d (eqb-false s.root (thread_at s me).prev q)) }

  -- row 16 keeps the order
  pub row16_kept : (thread_at s me).phase ≡ 16 → Stepped r me (apply s me (row16 (view_of s me)))
  unfolding row16 view_of view_before
  row16_kept e = only_row r size l _ (not8 16 e (λ q. omega arith)) (go (eqb y P) refl)
    where
      c : Dying w me (thread_at s me).side (thread_at s me).prev (thread_at s me).base (thread_at s me).neighbour (thread_at s me).made
          × Towards w (thread_at s me).prev (thread_at s me).walk
      c = at_phase_lem 16 e mine

      P : ℕ
      P = (thread_at s me).prev

      x : ℕ
      x = (thread_at s me).walk

      y : ℕ
      y = child_by (route_key (place_at s P)) (place_at s x)

      n : next (cell w) (by (cell w P).key) x ≡ y
      n =
          sym (reads_next s r.tree r.own (route_key (place_at s P)) x c.1.small
          ∙ ap (λ (k : ℕ). next (cell w) (by k) x) (reads_key s r.tree r.own P c.0.pairing.joining.small))

      go : (b : Bool) → eqb y P ≡ b → Stage w me (at_phase (cond b 17 16) (set_walk y (set_grandparent x (thread_at s me))))
      go true q = record { holds = (c.0, record { small = c.1.small; at = c.1.at; child = n ∙ eqb-true y P q }) }
      go false q =
          record {
            holds = (
              c.0,
              towards_from sound c.0 c.1.at c.1.differ c.1.path n
                  (rw n at (kid_small sound c.1.at c.1.small (not (ltb (cell w P).key (cell w x).key)))) (eqb-false y P q),
            );
          }

  -- row 21 keeps the order
  pub row21_kept : (thread_at s me).phase ≡ 21 → Stepped r me (apply s me (row21 (view_of s me)))
  unfolding row21 view_of view_before
  row21_kept e = only_row r size l _ (not8 21 e (λ q. omega arith)) (go (eqb y N) refl)
    where
      P : ℕ
      P = (thread_at s me).prev

      N : ℕ
      N = (thread_at s me).neighbour

      c : Linking w me (thread_at s me).side P (thread_at s me).base N (thread_at s me).made
          × Closing w (thread_at s me).side P N (thread_at s me).grandparent
      c = at_phase_lem 21 e mine

      y : ℕ
      y = child_on (thread_at s me).side (place_at s P)

      n : y ≡ kid (thread_at s me).side (cell w P)
      n = reads_kid s r.tree r.own (thread_at s me).side P c.0.small

      go : (b : Bool) → eqb y N ≡ b
          → Stage w me (cond b (at_phase 23 (set_walk (thread_at s me).grandparent (thread_at s me))) (at_phase 22 (set_walk y (thread_at s me))))
      go true q = record { holds = (c.0, parent_over sound c.0 c.1 (sym n ∙ eqb-true y N q)) }
      go false q = record { holds = (c.0, rw n (descend_far sound c.0 c.1 (λ z. eqb-false y N q (n ∙ z)))) }

  -- row 22 keeps the order
  pub row22_kept : (thread_at s me).phase ≡ 22 → Stepped r me (apply s me (row22 (view_of s me)))
  unfolding row22 view_of view_before next_of
  row22_kept e = only_row r size l _ (not8 22 e (λ q. omega arith)) (go (is_route (view_of s me).reached) kind)
    where
      x : ℕ
      x = (thread_at s me).walk

      c : Linking w me (thread_at s me).side (thread_at s me).prev (thread_at s me).base (thread_at s me).neighbour (thread_at s me).made
          × Descending w (thread_at s me).side (thread_at s me).prev (thread_at s me).neighbour x
      c = at_phase_lem 22 e mine

      y : ℕ
      y = child_on (not (thread_at s me).side) (place_at s x)

      n : y ≡ kid (not (thread_at s me).side) (cell w x)
      n = reads_kid s r.tree r.own (not (thread_at s me).side) x c.1.small

      reached : (view_of s me).reached ≡ place_at s y
      reached = rw e

      kind : is_route (view_of s me).reached ≡ (cell w (kid (not (thread_at s me).side) (cell w x))).route
      kind =
          ap is_route reached
          ∙ reads_route s r.tree r.own y (rw n (kid_small sound c.1.at c.1.small (not (thread_at s me).side)))
          ∙ ap (λ (z : ℕ). (cell w z).route) n

      go : (b : Bool) → b ≡ (cell w (kid (not (thread_at s me).side) (cell w x))).route
          → Stage w me (cond b (at_phase 22 (set_walk y (thread_at s me))) (at_phase 23 (thread_at s me)))
      go true q = record { holds = (c.0, rw n (descend_on sound c.0 c.1 (sym q))) }
      go false q = record { holds = (c.0, descend_ends sound c.0 c.1 (sym q)) }
