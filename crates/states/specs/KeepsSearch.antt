-- The rows of search and split, 0 to 8, and 25: each, where it is not stuck, has a plan in range.
use Rattle.std.specs.Prelude.{Bool, true, false, cond, not, ◌&&◌, ◌||◌, ◌≡◌, refl, ℕ, ◌+◌, ◌≤◌, ◌<◌, T, eqb, leb, ltb}
use Rattle.std.proofs.Common.{inl, inr, arith}
use borrow.Author.Tests.{ltb-true, ltb-false, leb-true}
use Rattle.keys.specs.Keys.{has, size}
use Rattle.keys.proofs.Sizes.{split_small}
use Rattle.states.specs.Tests.{pick-by, pick, both}
use Rattle.states.specs.Facts.{PlaceOk}
use Rattle.states.specs.Plans.{ViewOk, PlanOk, thread_more}
use Rattle.states.specs.Pieces.{phase_ok, prev_ok, made_ok, answer_ok, fresh_thread_ok, answer_small, base_body_ok, new_ok, taken3_ok, taken4_ok, release_ok, zero_ok, invalid_ok, keys_ok, child_ok}
use Rattle.states.specs.Common.{named, reg, stores1_ok, only_ok, goes_ok, hangs_ok, searches_ok}
use Rattle.rules.specs.State.{none}
use Rattle.rules.specs.Registers.{at_phase}
use Rattle.rules.specs.Places.{is_route, is_base, is_free, keys_of, release, with_keys, answer_of}
use Rattle.rules.specs.Rows.{at, stores1, above_max, below_min, keys_then, commits, decides, no_split, split, row0, row1, row2, row3, row4, row5, row6, row7, row8, row25}
use Rattle.rules.specs.Needs.{route, base_b, none_or_p, commitable}
use Rattle.rules.specs.declared.state.Place.{Place}
use Rattle.rules.specs.declared.row.View.{View}
use Rattle.rules.specs.declared.row.Plan.{Plan}

module _ (v : View) (f : ViewOk v) where
  pub row0_ok : PlanOk v (row0 v)
  unfolding row0
  row0_ok = only_ok v f f.thread

  pub row1_ok : PlanOk v (row1 v)
  unfolding row1
  row1_ok = searches_ok v f v.root (inr f.root) (prev_ok none (inl refl) f.thread)

  pub row2_ok : PlanOk v (row2 v)
  unfolding row2
  row2_ok = searches_ok v f _ (child_ok _ _ v.walk f.walk) (prev_ok _ (reg v f 2) f.thread)

  pub row3_ok : PlanOk v (row3 v)
  unfolding row3
  row3_ok =
      let b = taken3_ok v.me v.settings f.me f.base in
      pick (PlanOk v) (is_free v.base) (stores1_ok v f (phase_ok 5 tt f.thread) b) (goes_ok v f 4 tt)

  pub row4_ok : PlanOk v (row4 v)
  unfolding row4
  row4_ok =
      let b = taken4_ok v.me v.settings f.me f.base in
      pick (PlanOk v) (is_free v.base) (stores1_ok v f (phase_ok 5 tt f.thread) b) (goes_ok v f 4 tt)

  -- the commit
  commits_ok : (p : ℕ) (b : Place) → T (leb p 25) → v.committed < v.begun → PlaceOk v.made b → PlanOk v (commits v p b)
  unfolding commits
  commits_ok p b t l h =
      let o = v.thread.operation in
      let present = has (keys_of v.base) v.thread.key in
      record {
        thread = phase_ok p t (answer_ok (answer_of o present) (v.committed + 1) (answer_small o present) (omega arith) f.thread);
        root = f.root;
        made = omega arith;
        most = f.most;
        committed = omega arith;
        first = h;
        second = tt;
        third = tt;
      }

  -- and the decision after it
  decides_ok : (b : Place) → v.committed < v.begun → PlaceOk v.made b → PlanOk v (decides v b)
  unfolding decides
  decides_ok b l h =
      pick (PlanOk v) (above_max v)
      (pick (PlanOk v) (ltb (size (keys_then v)) 2) (commits_ok 25 _ tt l (zero_ok h)) (commits_ok 6 b tt l h))
      (pick (PlanOk v) (below_min v) (pick (PlanOk v) (eqb v.thread.prev none) (commits_ok 25 _ tt l (zero_ok h)) (commits_ok 9 b tt l h))
      (commits_ok 25 b tt l h))

  pub row5_ok : (base_b v && (not v.base.valid || commitable v)) ≡ true → PlanOk v (row5 v)
  unfolding row5
  row5_ok h =
      let n = both (base_b v) (not v.base.valid || commitable v) h in
      go v.base.valid n.1 (both (ltb v.thread.base none) (is_base v.base) n.0).1
    where
      invalid_b : Plan
      invalid_b = stores1 v (at_phase 1 v.thread) (at v.thread.base (release v.base))

      go : (b : Bool) → (not b || commitable v) ≡ true → is_base v.base ≡ true
          → PlanOk v (cond b (decides v (with_keys (keys_then v) v.base)) invalid_b)
      go true c e =
          decides_ok _ (ltb-true _ _ (both (ltb v.committed v.begun) (above_max v || not (below_min v) || none_or_p v) c).0)
          (keys_ok (keys_then v) e f.base)
      go false c e = stores1_ok v f (phase_ok 1 tt f.thread) (release_ok f.base)

  -- three new nodes
  split_ok : v.made ≤ 125 → 1 ≤ size (keys_of v.base) → PlanOk v (split v)
  unfolding split
  split_ok l h =
      let m = v.made + 3 in
      let s = split_small (keys_of v.base) h in
      record {
        thread = phase_ok 7 tt (made_ok (v.made + 2) (inr (omega arith)) (thread_more (omega arith) f.thread));
        root = omega (arith, f.root);
        made = omega arith;
        most = omega arith;
        committed = f.committed;
        first = new_ok (base_body_ok m _);
        second = new_ok (base_body_ok m _);
        third = new_ok (record { key = omega arith; child = λ w e. pick (λ (n : ℕ). n < m) w (omega arith) (omega arith) });
      }

  pub row6_ok : (base_b v && leb 2 (size (keys_of v.base))) ≡ true → PlanOk v (row6 v)
  unfolding row6 no_split
  row6_ok h =
      let n = size (keys_of v.base) in
      let l = leb-true 2 n (both (base_b v) (leb 2 n) h).1 in
      pick-by (PlanOk v) (ltb 125 v.made) (λ e. stores1_ok v f (phase_ok 25 tt f.thread) (zero_ok f.base))
      (λ e. split_ok (ltb-false 125 v.made e) (omega arith))

  pub row7_ok : (base_b v && none_or_p v && route v.thread.made v.own) ≡ true → PlanOk v (row7 v)
  unfolding row7
  row7_ok h =
      let r = (both (base_b v && none_or_p v) (route v.thread.made v.own) h).1 in
      let l = named v.made v.thread.made (reg v f 5) (both (ltb v.thread.made none) (is_route v.own) r).0 in
      hangs_ok v f v.thread.made v.thread.base v.thread.prev (phase_ok 8 tt f.thread) l f.prev

  pub row8_ok : PlanOk v (row8 v)
  unfolding row8
  row8_ok = stores1_ok v f (phase_ok 25 tt f.thread) (invalid_ok f.base)

  pub row25_ok : PlanOk v (row25 v)
  unfolding row25
  row25_ok = stores1_ok v f (fresh_thread_ok v.made) (release_ok f.base)
