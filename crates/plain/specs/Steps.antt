-- What a step does to the keys that a state holds: nothing, but at a commit.
use Rattle.std.specs.Prelude.{Bool, true, false, not, ◌&&◌, ◌≡◌, refl, ℕ, ◌≤◌, ltb, length}
use Rattle.std.proofs.Common.{true≢false, sym, ap, ◌∙◌, arith}
use Rattle.keys.specs.Keys.{has}
use Rattle.keys.proofs.Laws.{has-below, has-from}
use Rattle.rules.specs.State.{thread_at}
use Rattle.rules.specs.Rows.{plan_of}
use Rattle.rules.specs.Step.{view_of, after}
use Rattle.rules.specs.declared.state.Thread.{Thread}
use Rattle.rules.specs.declared.state.State.{State}
use Rattle.states.specs.Tests.{both}
use Rattle.graph.specs.Cases.{Same, same, apart, compared, Test, holds, fails, test, Amount, none, some, amount, is_same, is_apart, is_some}
use Rattle.graph.specs.Walk.{Cell}
use Rattle.graph.specs.Tree.{Tree, tip, fork, count, kid_in, Stands, top, in_l, in_r, stands}
use Rattle.graph.specs.Graph.{hung}
use Rattle.runs.specs.Holders.{late}
use Rattle.order.specs.World.{cells_of, world_of}
use Rattle.order.specs.Stages.{Splitting}
use Rattle.order.specs.AtPhase.{at_phase_lem}
use Rattle.order.specs.Bridge.{thread_other}
use Rattle.order.specs.Ordered.{Ordered, quiet_phase, Unmoved}
use Rattle.order.specs.Effects.{Bare, Replaces, Moved}
use Rattle.order.specs.Nodes.{after-moved}
use Rattle.plain.specs.Held.{keys_at, Held, in_base, in_retired, linking_of}
use Rattle.plain.specs.Late.{late_same, late-base, late-split}

module _ {s : State} (r : Ordered s) (len : length s.threads ≡ 8) (room : length s.places ≡ 128) {me : ℕ} (l : me ≤ 7) where
  m : Moved r me (after s me)
  m = after-moved r len room l

  -- the order after the step
  abbrev pub next : Ordered (after s me)
  next = record { tree = (after-moved r len room l).stepped.tree; own = (after-moved r len room l).stepped.own; safe = (after-moved r len room l).stepped.safe }

  others : (v : ℕ) → (v ≡ me → ⊥) → thread_at (after s me) v ≡ thread_at s v
  unfolding after
  others v n = thread_other s me (plan_of (view_of s me)) v n

  tree_hung : (b : ℕ) → 1 ≤ count b r.tree → r.own b ≡ hung
  tree_hung b i = r.safe.sound.good.grown b i

  late-hung : (v : ℕ) → v ≤ 7 → late (thread_at s v).phase ≡ true → r.own (thread_at s v).base ≡ hung
  late-hung v k e = (linking_of r v k e).base.hung

  -- ---- the tree stays

  module _ (q : quiet_phase (thread_at s me).phase ≡ true) (j : ℕ) where
    u : Unmoved r me (after s me) next.tree
    u = (after-moved r len room l).stepped.unmoved q

    -- a key that its hung node keeps is held still
    pub held_on : ((x : ℕ) → r.own x ≡ hung → has (keys_at s x) j ≡ true → has (keys_at (after s me) x) j ≡ true) → Held r j → Held next j
    held_on f (in_base b i e h) =
        let o = tree_hung b i in
        in_base b (rw u.tree i) (ap (λ (c : Cell). c.route) (u.cells b o) ∙ e) (f b o h)
    held_on f (in_retired v k e h) = go (compared v me)
      where
        go : Same v me → Held next j
        go (apart n) =
            in_retired v k (ap (λ (t : Thread). late t.phase) (others v n) ∙ e)
            (ap (λ (t : Thread). has (keys_at (after s me) t.base) j) (others v n) ∙ f (thread_at s v).base (late-hung v k e) h)
        go (same z) =
            let e' : late (thread_at s me).phase ≡ true = rw z at e in
            in_retired me l (late_same s len l q ∙ e')
            (ap (λ (x : ℕ). has (keys_at (after s me) x) j) (late-base s len l q e')
            ∙ f (thread_at s me).base (late-hung me l e') (rw z at h))

    -- and none is held that was not
    pub held_back : ((x : ℕ) → r.own x ≡ hung → has (keys_at (after s me) x) j ≡ true → has (keys_at s x) j ≡ true) → Held next j → Held r j
    held_back f (in_base b i e h) =
        let i' : 1 ≤ count b r.tree = rw u.tree at i in
        let o = tree_hung b i' in
        in_base b i' (ap (λ (c : Cell). c.route) (sym (u.cells b o)) ∙ e) (f b o h)
    held_back f (in_retired v k e h) = go (compared v me)
      where
        go : Same v me → Held r j
        go (apart n) =
            let e' : late (thread_at s v).phase ≡ true = ap (λ (t : Thread). late t.phase) (sym (others v n)) ∙ e in
            in_retired v k e'
            (f (thread_at s v).base (late-hung v k e') (ap (λ (t : Thread). has (keys_at (after s me) t.base) j) (sym (others v n)) ∙ h))
        go (same z) =
            let e' : late (thread_at s me).phase ≡ true = sym (late_same s len l q) ∙ (rw z at e) in
            in_retired me l e'
            (f (thread_at s me).base (late-hung me l e')
            (ap (λ (x : ℕ). has (keys_at (after s me) x) j) (sym (late-base s len l q e')) ∙ (rw z at h)))

  -- ---- the tree changes: keys and kinds of all nodes stay

  module _ (bare : Bare s (after s me)) (j : ℕ) where
    pub has_on : (x : ℕ) → has (keys_at s x) j ≡ true → has (keys_at (after s me) x) j ≡ true
    has_on x h = ap (λ (n : ℕ). has n j) (bare.keys x) ∙ h

    pub has-back : (x : ℕ) → has (keys_at (after s me) x) j ≡ true → has (keys_at s x) j ≡ true
    has-back x h = ap (λ (n : ℕ). has n j) (sym (bare.keys x)) ∙ h

    pub base_on : (x : ℕ) → (cells_of s x).route ≡ false → (cells_of (after s me) x).route ≡ false
    base_on x e = bare.kinds x ∙ e

    pub base_back : (x : ℕ) → (cells_of (after s me) x).route ≡ false → (cells_of s x).route ≡ false
    base_back x e = sym (bare.kinds x) ∙ e

    -- a late thread other than me is so still, and was so
    pub other_on : (v : ℕ) → v ≤ 7 → (v ≡ me → ⊥) → late (thread_at s v).phase ≡ true → has (keys_at s (thread_at s v).base) j ≡ true → Held next j
    other_on v k n e h =
        in_retired v k (ap (λ (t : Thread). late t.phase) (others v n) ∙ e)
        (ap (λ (t : Thread). has (keys_at (after s me) t.base) j) (others v n) ∙ has_on (thread_at s v).base h)

    pub other_back : (v : ℕ) → v ≤ 7 → (v ≡ me → ⊥) → late (thread_at (after s me) v).phase ≡ true
        → has (keys_at (after s me) (thread_at (after s me) v).base) j ≡ true → Held r j
    other_back v k n e h =
        in_retired v k (ap (λ (t : Thread). late t.phase) (sym (others v n)) ∙ e)
        (has-back (thread_at s v).base (ap (λ (t : Thread). has (keys_at (after s me) t.base) j) (sym (others v n)) ∙ h))

  -- the new tree has what the old had but for x, and the nodes of z
  module _ {x : ℕ} {z : Tree} (rep : Replaces r (after s me) next.tree x z) where
    pub stays_in : (b : ℕ) → (b ≡ x → ⊥) → 1 ≤ count b r.tree → 1 ≤ count b next.tree
    stays_in b n i = omega (arith, rep.counted b, is_apart n)

    pub comes_in : (b : ℕ) → (b ≡ x → ⊥) → 1 ≤ count b z → 1 ≤ count b next.tree
    comes_in b n i = omega (arith, rep.counted b, is_apart n)

    pub data From (b : ℕ) : Type 0 where
      old : 1 ≤ count b r.tree → From b
      new : 1 ≤ count b z → From b

    pub whence : (b : ℕ) → 1 ≤ count b next.tree → From b
    whence b i = go (amount (count b z))
      where
        go : Amount (count b z) → From b
        go (some k) = new k
        go (none e) = old (omega (arith, rep.counted b))

  -- ---- the split

  module _ (e : (thread_at s me).phase ≡ 7) (j : ℕ) where
    abbrev B : ℕ
    B = (thread_at s me).base

    abbrev M : ℕ
    M = (thread_at s me).made

    c : Splitting (world_of s r.tree r.own) me (thread_at s me).key (thread_at s me).prev (thread_at s me).base (thread_at s me).made
    c = at_phase_lem 7 e (r.safe.each me l)

    abbrev L : ℕ
    L = (cells_of s (thread_at s me).made).left

    abbrev R : ℕ
    R = (cells_of s (thread_at s me).made).right

    rep7 : Replaces r (after s me) next.tree B (fork M (tip L) (tip R))
    rep7 = (after-moved r len room l).split e

    -- a node of mine is not B
    not_B : (x : ℕ) → r.own x ≡ me → x ≡ B → ⊥
    not_B x o q = omega (arith, c.owning.base.hung, ap r.own q)

    L-in : 1 ≤ count L (fork M (tip L) (tip R))
    L-in = omega (arith, is_same {x = L} refl)

    R-in : 1 ≤ count R (fork M (tip L) (tip R))
    R-in = omega (arith, is_same {x = R} refl)

    pub split_on : Held r j → Held next j
    split_on (in_retired v k f h) = other_on rep7.bare j v k (λ q. true≢false (sym f ∙ ap (λ (x : ℕ). late (thread_at s x).phase) q ∙ ap late e)) f h
    split_on (in_base b i f h) = go (compared b B)
      where
        side : Test (ltb j (cells_of s M).key) → has (keys_at s B) j ≡ true → Held next j
        side (holds t) g =
            in_base L (comes_in rep7 L (not_B L c.mine_l.own) L-in) (base_on rep7.bare j L c.base_l)
            (has_on rep7.bare j L
            (ap (λ (n : ℕ). has n j) c.keys_l ∙ has-below (keys_at s B) (cells_of s M).key j ∙ ap (λ (a : Bool). a && has (keys_at s B) j) t ∙ g))
        side (fails t) g =
            in_base R (comes_in rep7 R (not_B R c.mine_r.own) R-in) (base_on rep7.bare j R c.base_r)
            (has_on rep7.bare j R
            (ap (λ (n : ℕ). has n j) c.keys_r ∙ has-from (keys_at s B) (cells_of s M).key j ∙ ap (λ (a : Bool). not a && has (keys_at s B) j) t ∙ g))

        go : Same b B → Held next j
        go (apart n) = in_base b (stays_in rep7 b n i) (base_on rep7.bare j b f) (has_on rep7.bare j b h)
        go (same q) = side (test (ltb j (cells_of s M).key)) (rw q at h)

    B-in : 1 ≤ count B r.tree
    B-in =
        rw c.owning.meets.child at
        (kid_in r.safe.sound.good.shape (thread_at s me).prev c.owning.meets.above c.owning.prev.route
        (not (ltb (thread_at s me).key (cells_of s (thread_at s me).prev).key)))

    pub split-back : Held next j → Held r j
    split-back (in_retired v k f h) =
        other_back rep7.bare j v k (λ q. true≢false (sym f ∙ ap (λ (x : ℕ). late (thread_at (after s me) x).phase) q ∙ late-split s len l e)) f h
    split-back (in_base b i f h) = go (whence rep7 b i)
      where
        f' : (cells_of s b).route ≡ false
        f' = base_back rep7.bare j b f

        h' : has (keys_at s b) j ≡ true
        h' = has-back rep7.bare j b h

        part : Stands b M (tip L) (tip R) → Held r j
        part (top q) = absurd (true≢false (sym c.route ∙ ap (λ (x : ℕ). (cells_of s x).route) (sym q) ∙ f'))
        part (in_l q) =
            in_base B B-in c.owning.base.base
            (both (ltb j (cells_of s M).key) (has (keys_at s B) j)
            (sym (has-below (keys_at s B) (cells_of s M).key j) ∙ ap (λ (n : ℕ). has n j) (sym c.keys_l) ∙ ap (λ (x : ℕ). has (keys_at s x) j) (sym (is_some q)) ∙ h')
            ).1
        part (in_r q) =
            in_base B B-in c.owning.base.base
            (both (not (ltb j (cells_of s M).key)) (has (keys_at s B) j)
            (sym (has-from (keys_at s B) (cells_of s M).key j) ∙ ap (λ (n : ℕ). has n j) (sym c.keys_r) ∙ ap (λ (x : ℕ). has (keys_at s x) j) (sym (is_some q)) ∙ h')
            ).1

        go : From rep7 b → Held r j
        go (old k) = in_base b k f' h'
        go (new k) = part (stands k)
