-- Row 7: the split is hung.
use Rattle.std.specs.Prelude.{Bool, true, false, not, ◌≡◌, ℕ, ◌≤◌, ◌<◌, ltb, length}
use Rattle.std.proofs.Common.{true≢false, sym, ◌∙◌, arith}
use Rattle.std.proofs.Math.Path.{refl, ap}
use Rattle.std.proofs.Math.ListN.{get_or}
use Rattle.keys.specs.Keys.{has}
use Rattle.keys.proofs.Laws.{has-below, has-from}
use Rattle.rules.specs.State.{zero_place, place_at, thread_at}
use Rattle.rules.specs.Registers.{at_phase}
use Rattle.rules.specs.Rows.{hangs, row7}
use Rattle.rules.specs.Step.{view_before, view_of, apply}
use Rattle.rules.specs.declared.state.State.{State}
use Rattle.rules.specs.declared.row.Plan.{Plan}
use Rattle.states.specs.Tests.{both}
use Rattle.graph.specs.Cases.{is_some, is_two}
use Rattle.graph.specs.Walk.{kid, by, Walk, here, step}
use Rattle.graph.specs.Tree.{Tree, tip, fork, count, leaf, branch, kid_in, Stands, top, in_l, in_r, stands}
use Rattle.graph.specs.Slot.{slot_route}
use Rattle.graph.specs.Graph.{summit}
use Rattle.graph.specs.Hang.{Hangs}
use Rattle.graph.proofs.Hang.{hang}
use Rattle.order.specs.World.{World, graph, cell, hold, keys, in_tree, world_of, Sound}
use Rattle.order.specs.Stages.{Splitting}
use Rattle.order.specs.Bridge.{thread_me, thread_other}
use Rattle.order.specs.Ordered.{Ordered, quiet_phase, Stepped}
use Rattle.order.specs.AtPhase.{at_phase_lem}
use Rattle.order.specs.Effects.{Replaces}
use Rattle.order.specs.Hooks.{Hooks, hooks}
use Rattle.order.specs.Hung.{hung_world, hung-out_of, hung-base, hung_belongs, hung_safe}

module _ {s : State} (r : Ordered s) (len : length s.threads ≡ 8) (room : length s.places ≡ 128) {me : ℕ} (l : me ≤ 7) where
  abbrev w : World
  w = world_of s r.tree r.own

  sound : Sound (world_of s r.tree r.own) (thread_at s) s.made
  sound = r.safe.sound

  -- ---- phase 7

  module _ (e : (thread_at s me).phase ≡ 7) where
    abbrev P : ℕ
    P = (thread_at s me).prev

    abbrev B : ℕ
    B = (thread_at s me).base

    abbrev M : ℕ
    M = (thread_at s me).made

    abbrev L : ℕ
    L = (cell w M).left

    abbrev R : ℕ
    R = (cell w M).right

    abbrev z : Tree
    z = fork M (tip L) (tip R)

    abbrev plan : Plan
    plan = hangs (view_of s me) (at_phase 8 (thread_at s me)) M B P (place_at s P)

    c : Splitting (world_of s r.tree r.own) me (thread_at s me).key (thread_at s me).prev (thread_at s me).base (thread_at s me).made
    c = at_phase_lem 7 e (r.safe.each me l)

    side : Bool
    side = not (ltb (thread_at s me).key (cell (world_of s r.tree r.own) (thread_at s me).prev).key)

    k : Hooks w (world_of (apply s me plan) r.tree r.own) P B M
    unfolding side
    k =
        hooks s me r.tree r.tree r.own r.own (at_phase 8 (thread_at s me)) M B P room c.owning.base.small c.owning.prev side
        c.owning.meets.child

    -- a node of z is M or one of the new bases
    mine : (x : ℕ) → 1 ≤ count x z → r.own x ≡ me
    mine x i = go (stands i)
      where
        go : Stands x M (tip L) (tip R) → r.own x ≡ me
        go (top q) = rw q c.mine.own
        go (in_l j) = rw (is_some j) c.mine_l.own
        go (in_r j) = rw (is_some j) c.mine_r.own

    small : (x : ℕ) → 1 ≤ count x z → x < summit
    small x i = go (stands i)
      where
        go : Stands x M (tip L) (tip R) → x < summit
        go (top q) = rw q c.mine.small
        go (in_l j) = rw (is_some j) c.mine_l.small
        go (in_r j) = rw (is_some j) c.mine_r.small

    route-is : (x : ℕ) → 1 ≤ count x z → (cell w x).route ≡ true → x ≡ M
    route-is x i t = go (stands i)
      where
        go : Stands x M (tip L) (tip R) → x ≡ M
        go (top q) = q
        go (in_l j) = absurd (true≢false (sym t ∙ ap (λ (n : ℕ). (cell w n).route) (is_some j) ∙ c.base_l))
        go (in_r j) = absurd (true≢false (sym t ∙ ap (λ (n : ℕ). (cell w n).route) (is_some j) ∙ c.base_r))

    differ : (x : ℕ) → (cell w x).route ≡ false → M ≡ x → ⊥
    differ x b q = true≢false (sym c.route ∙ ap (λ (n : ℕ). (cell w n).route) q ∙ b)

    B-in : in_tree w B
    B-in =
        rw c.owning.meets.child at
        (kid_in sound.good.shape P c.owning.meets.above c.owning.prev.route (not (ltb (thread_at s me).key (cell w P).key)))

    -- the keys of B lead to B
    leads : (j : ℕ) → has (keys w B) j ≡ true → Walk (cell w) (by j) summit B
    leads j h = sound.belongs.leads B B-in c.owning.base.base j h

    hangs_z : Hangs (graph w) (cell (world_of (apply s me plan) r.tree r.own)) P k.side B M z
    hangs_z =
        record {
          slot = k.slot;
          under = c.owning.meets.above;
          base = c.owning.base.base;
          head = refl;
          shape = branch {n = M} {l = tip L} {r = tip R} (record { route = c.route; left = refl; right = refl }) (leaf c.base_l) (leaf c.base_r);
          once = λ y. omega (arith, is_two y c.apart, is_two y (differ L c.base_l), is_two y (differ R c.base_r));
          loose = λ x i. (λ q. omega (arith, mine x i), λ q. omega (arith, mine x i));
          small = small;
          keys = λ x i t. rw (route-is x i t) c.small;
          rises = λ x i t v b. absurd (true≢false (sym b ∙ kids x (route-is x i t) v));
          above = λ a t. c.above a;
          search = λ x i t.
              let q = route-is x i t in (rw q (leads (cell w M).key c.key), here (sym q));
        }
      where
        kids : (x : ℕ) → x ≡ M → (v : Bool) → (cell w (kid v (cell w x))).route ≡ false
        kids x q true = rw q c.base_r
        kids x q false = rw q c.base_l

    abbrev w' : World
    w' = hung_world r.safe l (apply s me plan).root (λ x. get_or (apply s me plan).places x zero_place) k hangs_z mine c.owning.base c.owning.holds

    thread_is : thread_at (apply s me plan) me ≡ at_phase 8 (thread_at s me)
    unfolding hangs
    thread_is = thread_me s me plan len l

    holds' : hold w' B ≡ me
    holds' = k.holders B ∙ c.owning.holds

    -- keys of the new bases lead to them
    parts : (b : ℕ) → 1 ≤ count b z → (cell w b).route ≡ false → (j : ℕ) → has (keys w b) j ≡ true
        → Walk (cell w) (by j) summit B × Walk (cell w) (by j) M b
    parts b i f j h = go (stands i)
      where
        go : Stands b M (tip L) (tip R) → Walk (cell w) (by j) summit B × Walk (cell w) (by j) M b
        go (top q) = absurd (differ b f (sym q))
        go (in_l q) =
            let p = both (ltb j (cell w M).key) (has (keys w B) j)
            (sym (has-below (keys w B) (cell w M).key j) ∙ ap (λ (n : ℕ). has n j) (sym c.keys_l) ∙ ap (λ (n : ℕ). has (keys w n) j) (sym (is_some q)) ∙ h) in
            (leads j p.1, step M (here (sym (is_some q))) c.route (rw p.0))
        go (in_r q) =
            let p = both (not (ltb j (cell w M).key)) (has (keys w B) j)
            (sym (has-from (keys w B) (cell w M).key j) ∙ ap (λ (n : ℕ). has n j) (sym c.keys_r) ∙ ap (λ (n : ℕ). has (keys w n) j) (sym (is_some q)) ∙ h) in
            (leads j p.1, step M (here (sym (is_some q))) c.route (rw p.0))

    -- row 7 keeps the order
    pub row7_kept : Stepped r me (apply s me (row7 (view_of s me)))
    unfolding row7 apply hangs view_of view_before
    row7_kept =
        record {
          tree = w'.tree;
          own = w'.own;
          safe =
              hung_safe r.safe l (apply s me plan).root (λ x. get_or (apply s me plan).places x zero_place) k hangs_z mine c.owning.base
              c.owning.holds (thread_other s me plan) (λ q. omega arith)
              (hung_belongs r.safe l (apply s me plan).root (λ x. get_or (apply s me plan).places x zero_place) k hangs_z mine c.owning.base
              c.owning.holds parts)
              (λ q. record { holder = rw holds' l; phase = rw (holds', thread_is) refl; base = rw (holds', thread_is) refl })
              (rw thread_is
              (record {
                holds =
                    record {
                      base =
                          hung-base r.safe l (apply s me plan).root (λ x. get_or (apply s me plan).places x zero_place) k hangs_z mine
                          c.owning.base c.owning.holds;
                      holds = holds';
                      out =
                          hung-out_of r.safe l (apply s me plan).root (λ x. get_or (apply s me plan).places x zero_place) k hangs_z mine
                          c.owning.base c.owning.holds;
                    };
              }));
          unmoved = λ q. absurd (true≢false (sym q ∙ ap quiet_phase e));
          kinds = λ x q. slot_route k.slot x ∙ q;
        }

    -- and moves the tree so
    pub row7_effect : Replaces r (apply s me (row7 (view_of s me))) row7_kept.tree B z
    unfolding row7_kept row7 view_of view_before
    row7_effect =
        record { bare = record { kinds = slot_route k.slot; keys = k.keysets }; counted = (hang r.safe.sound.good hangs_z).counted }
