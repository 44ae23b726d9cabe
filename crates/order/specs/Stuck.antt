-- Refusal 8 never comes at a step: the registers are of the kinds that the rows need.
use Rattle.std.specs.Prelude.{Bool, ◌&&◌, ◌||◌, List, [], ◌∷◌, ◌≡◌, ℕ, zero, suc, ◌≤◌, ◌<◌, get_or, length}
use Rattle.std.proofs.Math.Bool.{true, false, not}
use Rattle.std.proofs.Math.Path.{refl, ap}
use Rattle.std.proofs.Common.{◌∙◌, arith, lt-ltb, le-leb, eq-eqb, ne_eqb}
use Rattle.keys.specs.Keys.{size}
use Rattle.rules.specs.State.{none, zero_thread, place_at, thread_at}
use Rattle.rules.specs.Places.{is_route, keys_of}
use Rattle.rules.specs.Rows.{above_max, below_min, rows}
use Rattle.rules.specs.Needs.{route, base, maybe_route, none_or_p, commitable, needs, idle, stuck}
use Rattle.rules.specs.Step.{view_before, view_of}
use Rattle.rules.specs.declared.state.Thread.{Thread}
use Rattle.rules.specs.declared.state.State.{State}
use Rattle.rules.specs.declared.row.View.{View}
use Rattle.rules.specs.declared.row.Plan.{Plan}
use Rattle.states.specs.Phase.{Each, end, ◌then◌, by_phase}
use Rattle.graph.specs.Cases.{Same, same, apart, compared}
use Rattle.graph.specs.Graph.{summit}
use Rattle.order.specs.World.{World, cell, world_of}
use Rattle.order.specs.Stages.{Stage, BaseAt, RouteAt}
use Rattle.order.specs.Bridge.{place_at_lem, reads_route}
use Rattle.order.specs.AtPhase.{phase_small}
use Rattle.order.specs.AtPhase.{at_phase_lem}
use Rattle.order.specs.Tally.{early, searchers}
use Rattle.order.specs.Invariant.{Invariant}

and : {a b : Bool} → a ≡ true → b ≡ true → (a && b) ≡ true
and {a} {b} x y = rw (x, y)

-- a thread before its commit is counted
counted : (l : List Thread) (i : ℕ) → i < length l → early (get_or l i zero_thread).phase ≤ searchers l
unfolding searchers
counted [] i m = absurd (omega arith)
counted (t ∷ ts) zero m = omega arith
counted (t ∷ ts) (suc i) m = omega (arith, counted ts i (omega arith))

module _ {s : State} (i : Invariant s) {t : ℕ} (l : t ≤ 7) where
  abbrev w : World
  w = world_of s i.nodes.tree i.nodes.own

  stage : Stage (world_of s i.nodes.tree i.nodes.own) t (thread_at s t)
  stage = i.nodes.safe.each t l

  kind : (x : ℕ) → x < summit → is_route (place_at s x) ≡ (cell w x).route
  kind x m = reads_route s i.nodes.tree i.nodes.own x m

  is-route : {x : ℕ} → x < summit → (cell w x).route ≡ true → route x (place_at s x) ≡ true
  is-route {x} m r = and (lt-ltb x none m) (kind x m ∙ r)

  is_base : {x : ℕ} → x < summit → (cell w x).route ≡ false → base x (place_at s x) ≡ true
  is_base {x} m b = and (lt-ltb x none m) (ap not (kind x m ∙ b))

  base_of : {x : ℕ} → BaseAt w x → base x (place_at s x) ≡ true
  base_of b = is_base b.small b.base

  may_be : {x : ℕ} → RouteAt w x → maybe_route x (place_at s x) ≡ true
  may_be {x} r = go (compared x none)
    where
      go : Same x none → maybe_route x (place_at s x) ≡ true
      go (same e) = rw (eq-eqb x none e)
      go (apart h) = rw (ne_eqb x none h) (is-route (omega (arith, r.small)) r.route)

  -- what phase 5 needs
  commits : (thread_at s t).phase ≡ 5 → commitable (view_of s t) ≡ true
  unfolding view_of view_before early thread_at
  commits e =
      and (lt-ltb s.committed s.begun (omega (arith, i.tally, counted s.threads t (omega (arith, i.threads)), ap early e)))
      (go (above_max (view_of s t)) (below_min (view_of s t)))
    where
      go : (a b : Bool) → (a || not b || none_or_p (view_of s t)) ≡ true
      go true b = refl
      go false false = refl
      go false true = may_be (at_phase_lem 5 e stage).arrived.prev

  either : (b : Bool) → commitable (view_of s t) ≡ true → (not b || commitable (view_of s t)) ≡ true
  either true x = x
  either false x = refl

  -- the need of phase n holds there
  Need : ℕ → (View → Plan) → Type 0
  Need n f = (thread_at s t).phase ≡ n → get_or needs n idle (view_of s t) ≡ true

  each : Each Need 0 rows
  unfolding Need rows needs view_of view_before
  each =
      (λ e. refl)
      then (λ e. refl)
      then (λ e. let c = at_phase_lem 2 e stage in is-route c.small c.at.route)
      then (λ e. base_of (at_phase_lem 3 e stage).base)
      then (λ e. base_of (at_phase_lem 4 e stage).base)
      then (λ e. and (base_of (at_phase_lem 5 e stage).arrived.base) (either (place_at s (thread_at s t).base).valid (commits e)))
      then (λ e. let c = at_phase_lem 6 e stage in and (base_of c.owning.base) (le-leb 2 (size (keys_of (place_at s (thread_at s t).base))) (rw (place_at_lem s (thread_at s t).base c.owning.base.small) c.dense)))
      then (λ e. let c = at_phase_lem 7 e stage in and (and (base_of c.owning.base) (may_be c.owning.prev)) (is-route c.mine.small c.route))
      then (λ e. base_of (at_phase_lem 8 e stage).base)
      then (λ e. let c = at_phase_lem 9 e stage in and (is-route c.small c.owning.prev.route) (base_of c.owning.base))
      then (λ e. let c = at_phase_lem 10 e stage in is-route c.small c.at.route)
      then (λ e. let c = at_phase_lem 11 e stage in and (base_of c.base) (base_of c.joining.base))
      then (λ e. let c = at_phase_lem 12 e stage in and (base_of c.reached.base) (base_of c.reached.joining.base))
      then (λ e. let c = at_phase_lem 13 e stage in is-route c.joining.small c.joining.prev.route)
      then (λ e. let c = (at_phase_lem 14 e stage).pairing in and (and (is-route c.joining.small c.joining.prev.route) (base_of c.neighbour)) (base_of c.joining.base))
      then (λ e. let c = (at_phase_lem 15 e stage).pairing in is-route c.joining.small c.joining.prev.route)
      then (λ e. let c = at_phase_lem 16 e stage in and (is-route c.1.small c.1.at.route) (is-route c.0.pairing.joining.small c.0.pairing.joining.prev.route))
      then (λ e. let c = at_phase_lem 17 e stage in is-route c.1.small c.1.at.route)
      then (λ e. let c = at_phase_lem 18 e stage in is-route c.1.small c.1.at.route)
      then (λ e. let c = at_phase_lem 19 e stage in and (is-route c.0.pairing.joining.small c.0.pairing.joining.prev.route) (may_be c.1.at))
      then (λ e. let c = at_phase_lem 20 e stage in and (is-route c.0.small c.0.prev.route) (may_be c.1.at))
      then (λ e. let c = at_phase_lem 21 e stage in and (and (is-route c.0.small c.0.prev.route) (base_of c.0.neighbour)) (may_be c.1.at))
      then (λ e. let c = at_phase_lem 22 e stage in is-route c.1.small c.1.at.route)
      then (λ e. let c = at_phase_lem 23 e stage in and (and (is_base c.0.union.mine.small c.0.union.base) (base_of c.0.neighbour)) (may_be c.1.at))
      then (λ e. base_of (at_phase_lem 24 e stage).1.base)
      then (λ e. base_of (at_phase_lem 25 e stage).base)
      then end

  -- no step is stuck
  pub never_stuck : stuck (view_of s t) ≡ false
  unfolding stuck Need view_of view_before
  never_stuck = ap not (by_phase each (λ p l e. absurd (omega (arith, phase_small stage))) (thread_at s t).phase refl)
