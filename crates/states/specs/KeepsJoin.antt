-- The rows of a join, 9 to 24: each, where it is not stuck, has a plan in range.
use Rattle.std.specs.Prelude.{Bool, cond, not, ◌&&◌, ◌||◌, ◌≡◌, ℕ, ◌+◌, ◌≤◌, eqb, leb}
use Rattle.std.proofs.Math.Bool.{true, false}
use Rattle.std.proofs.Common.{inl, inr, arith, ltb-false}
use Rattle.std.proofs.Math.Path.{refl}
use Rattle.std.proofs.Math.Dec.{T, ltb}
use Rattle.states.specs.Tests.{pick, both}
use Rattle.states.specs.Facts.{PlaceOk, ThreadOk}
use Rattle.states.specs.Plans.{ViewOk, PlanOk, thread_more}
use Rattle.states.specs.Pieces.{phase_ok, walk_ok, neighbour_ok, grandparent_ok, made_ok, side_ok, base_body_ok, new_ok, tried_ok, release_ok, zero_ok, invalid_ok, child_ok}
use Rattle.states.specs.Lists.{Stored}
use Rattle.states.specs.Common.{named, reg, stores3_ok, stores1_ok, only_ok, goes_ok, hangs_ok, seeks_ok}
use Rattle.rules.specs.State.{none}
use Rattle.rules.specs.Places.{is_route, is_base, is_free, child_on}
use Rattle.rules.specs.Rows.{far_side, far_child, near_child, no_join, join, towards_prev, row9, row10, row11, row12, row13, row14, row15, row16, row17, row18, row19, row20, row21, row22, row23, row24}
use Rattle.rules.specs.Needs.{base, maybe_route, route_p, base_n, none_or_g}
use Rattle.rules.specs.declared.row.View.{View}

module _ (v : View) (f : ViewOk v) where
  pub row9_ok : PlanOk v (row9 v)
  unfolding row9
  row9_ok = seeks_ok v f (child_on (far_side v) v.prev) (child_ok v.made (far_side v) v.prev f.prev) (side_ok (far_side v) f.thread)

  pub row10_ok : PlanOk v (row10 v)
  unfolding row10
  row10_ok = seeks_ok v f (near_child v) (child_ok v.made (not v.thread.side) v.walk f.walk) f.thread

  pub row11_ok : PlanOk v (row11 v)
  unfolding row11
  row11_ok =
      let t = neighbour_ok v.thread.walk (reg v f 2) f.thread in
      pick (PlanOk v) (is_free v.walk) (stores1_ok v f (phase_ok 12 tt t) (tried_ok v.me f.me f.walk))
      (stores1_ok v f (phase_ok 25 tt t) (zero_ok f.base))

  -- one new node
  join_ok : v.made ≤ 127 → PlanOk v (join v)
  unfolding join
  join_ok l =
      record {
        thread = phase_ok 13 tt (made_ok v.made (inr (omega arith)) (thread_more (omega arith) f.thread));
        root = omega (arith, f.root);
        made = omega arith;
        most = omega arith;
        committed = f.committed;
        first = new_ok (base_body_ok (v.made + 1) _);
        second = tt;
        third = tt;
      }

  -- none: N released, then B
  no_join_ok : PlanOk v (no_join v)
  unfolding no_join
  no_join_ok =
      let n = release_ok f.neighbour in
      let b = pick (PlaceOk v.made) (eqb v.thread.base v.thread.neighbour) n f.base in
      stores3_ok v f (phase_ok 25 tt f.thread) n (zero_ok b) tt

  pub row12_ok : PlanOk v (row12 v)
  unfolding row12
  row12_ok = go (not v.neighbour.valid) (ltb 127 v.made) refl
    where
      go : (a b : Bool) → ltb 127 v.made ≡ b → PlanOk v (cond (a || b) (no_join v) (join v))
      go true b e = no_join_ok
      go false true e = no_join_ok
      go false false e = join_ok (ltb-false 127 v.made e)

  pub row13_ok : PlanOk v (row13 v)
  unfolding row13
  row13_ok =
      pick (PlanOk v) (is_free v.prev) (stores1_ok v f (phase_ok 14 tt f.thread) (tried_ok v.me f.me f.prev)) (goes_ok v f 13 tt)

  pub row14_ok : PlanOk v (row14 v)
  unfolding row14
  row14_ok = stores3_ok v f (phase_ok 15 tt f.thread) (invalid_ok f.prev) (invalid_ok f.neighbour) (invalid_ok f.base)

  pub row15_ok : PlanOk v (row15 v)
  unfolding row15
  row15_ok =
      only_ok v f
      (phase_ok _ (pick (λ (p : ℕ). T (leb p 25)) (eqb v.root v.thread.prev) tt tt)
      (walk_ok v.root (inr f.root) (grandparent_ok none (inl refl) f.thread)))

  pub row16_ok : PlanOk v (row16 v)
  unfolding row16
  row16_ok =
      only_ok v f
      (phase_ok _ (pick (λ (p : ℕ). T (leb p 25)) (eqb (towards_prev v) v.thread.prev) tt tt)
      (walk_ok (towards_prev v) (child_ok v.made _ v.walk f.walk) (grandparent_ok v.thread.walk (reg v f 2) f.thread)))

  pub row17_ok : PlanOk v (row17 v)
  unfolding row17
  row17_ok =
      pick (PlanOk v) (is_free v.grandparent)
      (stores1_ok v f (phase_ok 18 tt f.thread) (tried_ok v.me f.me f.grandparent)) (goes_ok v f 17 tt)

  pub row18_ok : PlanOk v (row18 v)
  unfolding row18
  row18_ok =
      pick (PlanOk v) v.grandparent.valid (goes_ok v f 19 tt) (stores1_ok v f (phase_ok 15 tt f.thread) (release_ok f.grandparent))

  pub row19_ok : (route_p v && none_or_g v) ≡ true → PlanOk v (row19 v)
  unfolding row19
  row19_ok h =
      let r = (both (ltb v.thread.prev none) (is_route v.prev) (both (route_p v) (none_or_g v) h).0).1 in
      let l = f.prev.body.child v.thread.side r in
      hangs_ok v f (far_child v) v.thread.prev v.thread.grandparent (phase_ok 20 tt f.thread) l f.grandparent

  pub row20_ok : PlanOk v (row20 v)
  unfolding row20
  row20_ok =
      stores3_ok v f (phase_ok 21 tt f.thread) (release_ok f.prev)
      (pick (Stored (PlaceOk v.made)) (eqb v.thread.grandparent none) tt (release_ok f.grandparent)) tt

  pub row21_ok : PlanOk v (row21 v)
  unfolding row21
  row21_ok =
      only_ok v f
      (pick (ThreadOk v.made) (eqb (far_child v) v.thread.neighbour) (phase_ok 23 tt (walk_ok v.thread.grandparent (reg v f 4) f.thread))
      (phase_ok 22 tt (walk_ok (far_child v) (child_ok v.made v.thread.side v.prev f.prev) f.thread)))

  pub row22_ok : PlanOk v (row22 v)
  unfolding row22
  row22_ok =
      let near = child_ok v.made (not v.thread.side) v.walk f.walk in
      only_ok v f
      (pick (ThreadOk v.made) (is_route v.reached) (phase_ok 22 tt (walk_ok (near_child v) near f.thread)) (phase_ok 23 tt f.thread))

  pub row23_ok : (base v.thread.made v.own && base_n v && maybe_route v.thread.walk v.walk) ≡ true → PlanOk v (row23 v)
  unfolding row23
  row23_ok h =
      let own = base v.thread.made v.own in
      let b = (both own (base_n v) (both (own && base_n v) (maybe_route v.thread.walk v.walk) h).0).0 in
      let l = named v.made v.thread.made (reg v f 5) (both (ltb v.thread.made none) (is_base v.own) b).0 in
      hangs_ok v f v.thread.made v.thread.neighbour v.thread.walk (phase_ok 24 tt f.thread) l f.walk

  pub row24_ok : PlanOk v (row24 v)
  unfolding row24
  row24_ok = stores1_ok v f (phase_ok 25 tt f.thread) (release_ok f.neighbour)
