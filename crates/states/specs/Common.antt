-- What rows have in common, in range.
use Rattle.std.specs.Prelude.{true, ◌≡◌, ℕ, ◌<◌, T, eqb, leb, ltb, get_or, Option}
use Rattle.std.proofs.Common.{inl, inr, arith, ltb-true}
use Rattle.states.specs.Tests.{pick}
use Rattle.states.specs.Facts.{PlaceOk, RegisterOk, registers_of, ThreadOk}
use Rattle.states.specs.Lists.{Stored}
use Rattle.states.specs.Plans.{ViewOk, PlanOk}
use Rattle.states.specs.Pieces.{phase_ok, base_ok, walk_ok, takes_ok}
use Rattle.rules.specs.State.{none}
use Rattle.rules.specs.Places.{is_route}
use Rattle.rules.specs.Rows.{stores3, stores1, only, goes, hangs, searches, seeks}
use Rattle.rules.specs.declared.state.Place.{Place}
use Rattle.rules.specs.declared.state.Thread.{Thread}
use Rattle.rules.specs.declared.row.View.{View}
use Rattle.rules.specs.declared.row.Store.{Store}

-- a register that names a node names a made one
pub named : (m r : ℕ) → RegisterOk m r → ltb r none ≡ true → r < m
named m r (inl e) h = let l = ltb-true r none h in absurd (omega arith)
named m r (inr l) h = l

module _ (v : View) (f : ViewOk v) where
  -- register i of the thread, in the order of the state: prev, base, walk, neighbour, grandparent, made
  pub reg : (i : ℕ) → RegisterOk v.made (get_or (registers_of v.thread) i none)
  reg = f.thread.registers

  -- a plan that stores three places
  pub stores3_ok : {t : Thread} {a b c : Option Store} → ThreadOk v.made t → Stored (PlaceOk v.made) a → Stored (PlaceOk v.made) b
      → Stored (PlaceOk v.made) c → PlanOk v (stores3 v t a b c)
  stores3_ok h a b c =
      record {
        thread = h;
        root = f.root;
        made = omega arith;
        most = f.most;
        committed = f.committed;
        first = a;
        second = b;
        third = c;
      }

  -- one place
  pub stores1_ok : {t : Thread} {a : Option Store} → ThreadOk v.made t → Stored (PlaceOk v.made) a → PlanOk v (stores1 v t a)
  stores1_ok h a = stores3_ok h a tt tt

  -- none
  pub only_ok : {t : Thread} → ThreadOk v.made t → PlanOk v (only v t)
  only_ok h = stores1_ok h tt

  -- none, and the phase alone is set
  pub goes_ok : (p : ℕ) → T (leb p 25) → PlanOk v (goes v p)
  goes_ok p l = only_ok (phase_ok p l f.thread)

  -- a made node takes the place of another, or is the root
  pub hangs_ok : {t : Thread} {q : Place} (new x y : ℕ) → ThreadOk v.made t → new < v.made → PlaceOk v.made q
      → PlanOk v (hangs v t new x y q)
  unfolding hangs
  hangs_ok new x y h l q =
      record {
        thread = h;
        root = pick (λ (n : ℕ). n < v.made) (eqb y none) l f.root;
        made = omega arith;
        most = f.most;
        committed = f.committed;
        first = pick (Stored (PlaceOk v.made)) (eqb y none) tt (takes_ok x new l q);
        second = tt;
        third = tt;
      }

  -- a search goes to a made node or none
  pub searches_ok : {t : Thread} (w : ℕ) → RegisterOk v.made w → ThreadOk v.made t → PlanOk v (searches v t w)
  unfolding searches
  searches_ok w r h =
      let g = walk_ok w r h in only_ok (pick (ThreadOk v.made) (is_route v.reached) (phase_ok 2 tt g) (phase_ok 3 tt (base_ok w r g)))

  -- the walk to a neighbour too
  pub seeks_ok : {t : Thread} (w : ℕ) → RegisterOk v.made w → ThreadOk v.made t → PlanOk v (seeks v t w)
  unfolding seeks
  seeks_ok w r h = let g = walk_ok w r h in only_ok (pick (ThreadOk v.made) (is_route v.reached) (phase_ok 10 tt g) (phase_ok 11 tt g))
