-- A plan that is in range, and the state after it.
use Rattle.std.proofs.Common.{inl, inr, le_trans}
use Rattle.std.specs.Prelude.{ℕ, ◌≤◌, ◌<◌}
use Rattle.states.specs.Lists.{Stored, each_set, each-put}
use Rattle.states.specs.Facts.{PlaceOk, RegisterOk, ThreadOk, InRange}
use Rattle.rules.specs.State.{zero_thread, place_at, thread_at}
use Rattle.rules.specs.Step.{view_before, view_of, apply}
use Rattle.rules.specs.declared.state.Place.{Place}
use Rattle.rules.specs.declared.state.Thread.{Thread}
use Rattle.rules.specs.declared.state.State.{State}
use Rattle.rules.specs.declared.row.View.{View}
use Rattle.rules.specs.declared.row.Plan.{Plan}

-- what the step of a thread reads in a state that is in range
pub record ViewOk (v : View) : Type 0 where
  pub me : v.me ≤ 7
  pub most : v.made ≤ 128
  pub root : v.root < v.made
  pub begun : v.begun ≤ 1000000
  pub committed : v.committed ≤ v.begun
  pub thread : ThreadOk v.made v.thread
  pub prev : PlaceOk v.made v.prev
  pub base : PlaceOk v.made v.base
  pub walk : PlaceOk v.made v.walk
  pub neighbour : PlaceOk v.made v.neighbour
  pub grandparent : PlaceOk v.made v.grandparent

-- a plan after which all is in range
pub record PlanOk (v : View) (p : Plan) : Type 0 where
  pub thread : ThreadOk p.made p.thread
  pub root : p.root < p.made
  pub made : v.made ≤ p.made
  pub most : p.made ≤ 128
  pub committed : p.committed ≤ v.begun
  pub first : Stored (PlaceOk p.made) p.first
  pub second : Stored (PlaceOk p.made) p.second
  pub third : Stored (PlaceOk p.made) p.third

-- ---- what is in range for a count of nodes made is so for a larger one

-- a place
place_more : {m n : ℕ} {p : Place} → m ≤ n → PlaceOk m p → PlaceOk n p
place_more l f =
    let b = f.body in
    record { holder = f.holder; statistics = f.statistics; body = record { key = b.key; child = λ w e. le_trans (b.child w e) l } }

-- a register
register_more : {m n r : ℕ} → m ≤ n → RegisterOk m r → RegisterOk n r
register_more l (inl e) = inl e
register_more l (inr g) = inr (le_trans g l)

-- a thread
pub thread_more : {m n : ℕ} {t : Thread} → m ≤ n → ThreadOk m t → ThreadOk n t
thread_more l f = record { numbers = f.numbers; registers = λ i. register_more l (f.registers i) }

-- ---- from the state to the view, from the plan to the state

-- the view of a state in range is in range
pub view_ok : (s : State) (t : ℕ) → t ≤ 7 → InRange s → ViewOk (view_of s t)
unfolding view_of view_before place_at
view_ok s t l f =
    let c = f.counts in
    record {
      me = l;
      most = c.most;
      root = c.root;
      begun = c.begun;
      committed = c.committed;
      thread = f.threads t;
      prev = f.places _;
      base = f.places _;
      walk = f.places _;
      neighbour = f.places _;
      grandparent = f.places _;
    }

-- a plan in range keeps the state in range
pub apply_ok : (s : State) (t : ℕ) (p : Plan) → InRange s → PlanOk (view_of s t) p → InRange (apply s t p)
unfolding apply thread_at view_of view_before
apply_ok s t p f g =
    let c = f.counts in
    let ok = PlaceOk p.made in
    let first = each-put ok p.first s.places g.first (λ n. place_more g.made (f.places n)) in
    record {
      settings = f.settings;
      counts = record { some = le_trans c.some g.made; most = g.most; begun = c.begun; committed = g.committed; root = g.root };
      places = each-put ok p.third _ g.third (each-put ok p.second _ g.second first);
      threads = each_set (ThreadOk p.made) s.threads t p.thread zero_thread g.thread (λ n. thread_more g.made (f.threads n));
    }
