-- Row 23: the link is hung.
use Rattle.std.specs.Prelude.{Bool, true, false, ◌||◌, ◌≡◌, refl, ℕ, ◌≤◌, length}
use Rattle.std.proofs.Common.{true≢false, sym, ◌∙◌, arith}
use Rattle.std.proofs.Math.Path.{ap}
use Rattle.std.proofs.Math.ListN.{get_or}
use Rattle.keys.specs.Keys.{has}
use Rattle.keys.proofs.Laws.{has-union}
use Rattle.rules.specs.State.{zero_place, place_at, thread_at}
use Rattle.rules.specs.Registers.{at_phase}
use Rattle.rules.specs.Rows.{hangs, row23}
use Rattle.rules.specs.Step.{view_before, view_of, apply}
use Rattle.rules.specs.declared.state.State.{State}
use Rattle.rules.specs.declared.row.Plan.{Plan}
use Rattle.graph.specs.Cases.{is_some, is_le}
use Rattle.graph.specs.Walk.{by, Walk, here}
use Rattle.graph.specs.Tree.{tip, count, leaf}
use Rattle.graph.specs.Slot.{slot_route}
use Rattle.graph.specs.Graph.{summit, hung_made}
use Rattle.graph.specs.Hang.{Hangs}
use Rattle.graph.proofs.Hang.{hang}
use Rattle.order.specs.World.{World, graph, cell, keys, world_of, Sound}
use Rattle.order.specs.Stages.{BaseAt, Linking, Parent}
use Rattle.order.specs.Bridge.{thread_me, thread_other}
use Rattle.order.specs.Ordered.{Ordered, quiet_phase, Stepped}
use Rattle.order.specs.AtPhase.{at_phase_lem}
use Rattle.order.specs.Effects.{Replaces}
use Rattle.order.specs.Hooks.{Hooks, hooks}
use Rattle.order.specs.Hung.{hung_world, hung-base, hung_belongs, hung_safe}

-- one of two passed tests
data Either (a b : Bool) : Type 0 where
  one : a ≡ true → Either a b
  other : b ≡ true → Either a b

either : (a b : Bool) → (a || b) ≡ true → Either a b
either true b e = one refl
either false b e = other e

module _ {s : State} (r : Ordered s) (len : length s.threads ≡ 8) (room : length s.places ≡ 128) {me : ℕ} (l : me ≤ 7)
    (e : (thread_at s me).phase ≡ 23) where
  abbrev w : World
  w = world_of s r.tree r.own

  abbrev B : ℕ
  B = (thread_at s me).base

  abbrev N : ℕ
  N = (thread_at s me).neighbour

  abbrev M : ℕ
  M = (thread_at s me).made

  abbrev x : ℕ
  x = (thread_at s me).walk

  abbrev plan : Plan
  plan = hangs (view_of s me) (at_phase 24 (thread_at s me)) M N x (place_at s x)

  sound : Sound (world_of s r.tree r.own) (thread_at s) s.made
  sound = r.safe.sound

  c : Linking (world_of s r.tree r.own) me (thread_at s me).side (thread_at s me).prev (thread_at s me).base (thread_at s me).neighbour (thread_at s me).made
      × Parent (world_of s r.tree r.own) (thread_at s me).neighbour (thread_at s me).walk
  c = at_phase_lem 23 e (r.safe.each me l)

  k : Hooks w (world_of (apply s me plan) r.tree r.own) x N M
  k =
      hooks s me r.tree r.tree r.own r.own (at_phase 24 (thread_at s me)) M N x room c.0.neighbour.small c.1.at c.1.side
      c.1.child

  mine : (n : ℕ) → 1 ≤ count n (tip M) → r.own n ≡ me
  mine n i = rw (is_some i) c.0.union.mine.own

  no_route : (n : ℕ) → 1 ≤ count n (tip M) → (cell w n).route ≡ true → ⊥
  no_route n i t = true≢false (sym t ∙ ap (λ (m : ℕ). (cell w m).route) (is_some i) ∙ c.0.union.base)

  hangs_M : Hangs (graph w) (cell (world_of (apply s me plan) r.tree r.own)) x k.side N M (tip M)
  hangs_M =
      record {
        slot = k.slot;
        under = c.1.above;
        base = c.0.neighbour.base;
        head = refl;
        shape = leaf c.0.union.base;
        once = λ y. is_le y M;
        loose = λ n i. (λ q. omega (arith, mine n i), λ q. omega (arith, mine n i));
        small = λ n i. rw (is_some i) c.0.union.mine.small;
        keys = λ n i t. absurd (no_route n i t);
        rises = λ n i t v b. absurd (no_route n i t);
        above = λ a t. absurd (true≢false (sym t ∙ c.0.union.base));
        search = λ n i t. absurd (no_route n i t);
      }

  abbrev w' : World
  w' = hung_world r.safe l (apply s me plan).root (λ n. get_or (apply s me plan).places n zero_place) k hangs_M mine c.0.neighbour c.0.holds_n

  thread_is : thread_at (apply s me plan) me ≡ at_phase 24 (thread_at s me)
  unfolding hangs
  thread_is = thread_me s me plan len l

  -- the keys of B and of N lead to N
  sum : (b : ℕ) → 1 ≤ count b (tip M) → (cell w b).route ≡ false → (j : ℕ) → has (keys w b) j ≡ true
      → Walk (cell w) (by j) summit N × Walk (cell w) (by j) M b
  sum b i f j h = (
    go
        (either (has (keys w B) j) (has (keys w N) j)
        (sym (has-union (keys w B) (keys w N) j) ∙ ap (λ (n : ℕ). has n j) (sym c.0.union.sum) ∙ ap (λ (n : ℕ). has (keys w n) j) (sym (is_some i)) ∙ h)),
    here (sym (is_some i)),
  )
    where
      go : Either (has (keys w B) j) (has (keys w N) j) → Walk (cell w) (by j) summit N
      go (one q) = c.0.reach j q
      go (other q) = sound.belongs.leads N c.0.inside c.0.neighbour.base j q

  base_B : BaseAt w' B
  base_B =
      let m = (hang r.safe.sound.good hangs_M).moves in
      record {
        small = c.0.base.small;
        hung = m.hangs B c.0.base.hung;
        base = m.kind B (hung_made c.0.base.hung) ∙ c.0.base.base;
      }

  -- row 23 keeps the order
  pub row23_kept : Stepped r me (apply s me (row23 (view_of s me)))
  unfolding row23 apply hangs view_of view_before
  row23_kept =
      record {
        tree = w'.tree;
        own = w'.own;
        safe =
            hung_safe r.safe l (apply s me plan).root (λ n. get_or (apply s me plan).places n zero_place) k hangs_M mine c.0.neighbour
            c.0.holds_n (thread_other s me plan) (λ q. omega arith)
            (hung_belongs r.safe l (apply s me plan).root (λ n. get_or (apply s me plan).places n zero_place) k hangs_M mine c.0.neighbour
            c.0.holds_n sum)
            (λ q. absurd (true≢false (sym q ∙ c.0.invalid_n)))
            (rw thread_is
            (record {
              holds = (
                record { base = base_B; holds = k.holders B ∙ c.0.holds_b },
                record {
                  base =
                      hung-base r.safe l (apply s me plan).root (λ n. get_or (apply s me plan).places n zero_place) k hangs_M mine
                      c.0.neighbour c.0.holds_n;
                  holds = k.holders N ∙ c.0.holds_n;
                },
                c.0.differ,
              );
            }));
        unmoved = λ q. absurd (true≢false (sym q ∙ ap quiet_phase e));
        kinds = λ n q. slot_route k.slot n ∙ q;
      }

  -- and moves the tree so
  pub row23_effect : Replaces r (apply s me (row23 (view_of s me))) row23_kept.tree N (tip M)
  unfolding row23_kept row23 view_of view_before
  row23_effect =
      record { bare = record { kinds = slot_route k.slot; keys = k.keysets }; counted = (hang r.safe.sound.good hangs_M).counted }
