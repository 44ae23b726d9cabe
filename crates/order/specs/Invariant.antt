-- The invariant of the machine: true of every fresh state, kept by begin and by step.
use Rattle.std.specs.Prelude.{◌≡◌, refl, ℕ, ◌+◌, ◌≤◌, length}
use Rattle.std.proofs.Math.Path.{ap}
use Rattle.std.proofs.Common.{◌∙◌, get_or-set_same, ltb-false, eqb-true}
use native.Mathlib.Omega.{arith}
use Rattle.std.proofs.Math.ListN.{length-set}
use Rattle.std.proofs.Math.Seq.{get_or-set_other}
use Rattle.std.proofs.lemmas.Bool.{not-false}
use Rattle.rules.specs.State.{zero_thread, fresh, thread_at}
use Rattle.rules.specs.Registers.{set_operation}
use Rattle.rules.specs.Rows.{plan_of}
use Rattle.rules.specs.Step.{begun, begin_of, view_of, put, apply, after, step_of, run_of, Replied}
use Rattle.rules.specs.declared.state.Settings.{Settings}
use Rattle.rules.specs.declared.state.State.{State}
use Rattle.states.specs.Calls.{begin_by, step_state, run_state}
use Rattle.states.specs.Lists.{length-put}
use Rattle.order.specs.World.{world_of}
use Rattle.order.specs.Steady.{Safe}
use Rattle.order.specs.Ordered.{Ordered}
use Rattle.order.specs.Quiet.{relabel}
use Rattle.order.specs.Nodes.{after_nodes}
use Rattle.order.specs.Tally.{early, searchers, searchers-set, after_tally}
use Rattle.order.specs.Fresh.{fresh_nodes}

-- the whole invariant: 128 places, 8 threads, the nodes and the threads, and begun = committed + threads in phases 1 to 5
pub record Invariant (s : State) : Type 0 where
  pub places : length s.places ≡ 128
  pub threads : length s.threads ≡ 8
  pub nodes : Ordered s
  pub tally : s.committed + searchers s.threads ≡ s.begun

-- every fresh state has it
pub fresh_kept : (c : Settings) → Invariant (fresh c)
unfolding fresh searchers early
fresh_kept c = record { places = refl; threads = refl; nodes = fresh_nodes c; tally = refl }

module _ {s : State} (i : Invariant s) where
  -- a step keeps it
  pub after_kept : {t : ℕ} → t ≤ 7 → Invariant (after s t)
  unfolding after apply
  after_kept {t} l =
      let p = plan_of (view_of s t) in
      let n = after_nodes i.nodes i.threads i.places l in
      record {
        places =
            length-put p.third (put p.second (put p.first s.places)) ∙ length-put p.second (put p.first s.places)
            ∙ length-put p.first s.places
            ∙ i.places;
        threads = length-set s.threads t p.thread ∙ i.threads;
        nodes = record { tree = n.tree; own = n.own; safe = n.safe };
        tally = after_tally s t i.threads l ∙ i.tally;
      }

  -- begin changes one thread
  pub begun_safe : (t o k : ℕ) → t ≤ 7 → k ≤ 63 → (thread_at s t).phase ≡ 0
      → Safe (world_of (begun s t o k) i.nodes.tree i.nodes.own) (thread_at (begun s t o k)) (begun s t o k).made
  unfolding begun thread_at
  begun_safe t o k l m idle =
      let th = set_operation o k (thread_at s t) in
      relabel i.nodes.safe (λ v n. get_or-set_other s.threads t v th zero_thread n) (λ e. omega arith)
      (rw (get_or-set_same s.threads t th zero_thread (omega (arith, i.threads))) (record { holds = omega arith }))

  pub begun_kept : (t o k : ℕ) → t ≤ 7 → k ≤ 63 → (thread_at s t).phase ≡ 0 → Invariant (begun s t o k)
  unfolding begun thread_at early
  begun_kept t o k l m idle =
      let th = set_operation o k (thread_at s t) in
      record {
        places = i.places;
        threads = length-set s.threads t th ∙ i.threads;
        nodes = record { tree = i.nodes.tree; own = i.nodes.own; safe = begun_safe t o k l m idle };
        tally = omega (arith, i.tally, searchers-set s.threads t th (omega (arith, i.threads)), ap early idle);
      }

  -- begin keeps it, whatever the numbers, accepted or refused
  pub begin_kept : (t o k : ℕ) → Invariant (begin_of s t o k).state
  begin_kept t o k =
      begin_by (λ (b : Replied (Unit {0})). Invariant b.state) s t o k (λ n. i) λ h.
      begun_kept t o k (ltb-false 7 t h.1.1.0) (ltb-false 63 k h.1.1.1.0)
      (eqb-true (thread_at s t).phase 0 (not-false _ h.1.1.1.1.0))

  -- step keeps it, whatever the number, accepted or refused
  pub step_kept : (t : ℕ) → Invariant (step_of s t).state
  step_kept t = step_state Invariant s t i (λ r l c. after_kept l)

-- counted steps keep it, whatever the numbers, accepted or refused
pub run_kept : {s : State} → Invariant s → (t n : ℕ) → Invariant (run_of s t n).state
run_kept {s} i t n = run_state Invariant s t n i (λ r l x j c. after_kept j l)
