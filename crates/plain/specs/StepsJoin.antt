-- The splice and the link hold the keys that were held.
use Rattle.std.specs.Prelude.{Bool, true, false, not, ◌||◌, ◌≡◌, refl, ℕ, ◌≤◌, length}
use Rattle.std.proofs.Common.{true≢false, sym, ap, ◌∙◌, arith}
use Rattle.keys.specs.Keys.{has}
use Rattle.keys.proofs.Laws.{has-union}
use Rattle.rules.specs.State.{thread_at}
use Rattle.rules.specs.Step.{after}
use Rattle.rules.specs.declared.state.State.{State}
use Rattle.graph.specs.Cases.{Same, same, apart, compared, is_same, is_apart, is_some}
use Rattle.graph.specs.Tree.{tip, count, kid_in}
use Rattle.runs.specs.Holders.{late}
use Rattle.order.specs.World.{cells_of, world_of}
use Rattle.order.specs.Stages.{Dying, Linking}
use Rattle.order.specs.AtPhase.{at_phase_lem}
use Rattle.order.specs.Ordered.{Ordered}
use Rattle.order.specs.Effects.{Replaces, Drops}
use Rattle.order.specs.Nodes.{after-moved}
use Rattle.plain.specs.Held.{keys_at, Held, in_base, in_retired}
use Rattle.plain.specs.Late.{late_splice, late_link}
use Rattle.plain.specs.Steps.{next, has_on, has-back, base_on, base_back, other_on, other_back, stays_in, comes_in, From, old, new, whence}

module _ {s : State} (r : Ordered s) (len : length s.threads ≡ 8) (room : length s.places ≡ 128) {me : ℕ} (l : me ≤ 7) where
  abbrev nx : Ordered (after s me)
  nx = next r len room l

  abbrev P : ℕ
  P = (thread_at s me).prev

  abbrev B : ℕ
  B = (thread_at s me).base

  abbrev N : ℕ
  N = (thread_at s me).neighbour

  abbrev M : ℕ
  M = (thread_at s me).made

  -- ---- the splice: B's keys go with B to the thread

  module _ (e : (thread_at s me).phase ≡ 19) (j : ℕ) where
    c : Dying (world_of s r.tree r.own) me (thread_at s me).side (thread_at s me).prev (thread_at s me).base (thread_at s me).neighbour (thread_at s me).made
    c = (at_phase_lem 19 e (r.safe.each me l)).0

    drop : Drops r (after s me) nx.tree P B
    drop = (after-moved r len room l).splice e

    not_P : (b : ℕ) → (cells_of s b).route ≡ false → b ≡ P → ⊥
    not_P b f q = true≢false (sym c.pairing.joining.prev.route ∙ ap (λ (x : ℕ). (cells_of s x).route) (sym q) ∙ f)

    pub splice_on : Held r j → Held nx j
    splice_on (in_retired v k f h) =
        other_on r len room l drop.bare j v k (λ q. true≢false (sym f ∙ ap (λ (x : ℕ). late (thread_at s x).phase) q ∙ ap late e)) f h
    splice_on (in_base b i f h) = go (compared b B)
      where
        go : Same b B → Held nx j
        go (same q) =
            let t = late_splice s len l e in
            in_retired me l t.0
            (ap (λ (x : ℕ). has (keys_at (after s me) x) j) t.1 ∙ has_on r len room l drop.bare j B (rw q at h))
        go (apart n) =
            in_base b (omega (arith, drop.counted b, is_apart n, is_apart (not_P b f))) (base_on r len room l drop.bare j b f)
            (has_on r len room l drop.bare j b h)

    B-in : 1 ≤ count B r.tree
    B-in =
        rw c.pairing.joining.near at
        (kid_in r.safe.sound.good.shape P c.pairing.joining.above c.pairing.joining.prev.route (not (thread_at s me).side))

    pub splice_back : Held nx j → Held r j
    splice_back (in_base b i f h) =
        in_base b (omega (arith, drop.counted b)) (base_back r len room l drop.bare j b f) (has-back r len room l drop.bare j b h)
    splice_back (in_retired v k f h) = go (compared v me)
      where
        go : Same v me → Held r j
        go (apart n) = other_back r len room l drop.bare j v k n f h
        go (same q) =
            in_base B B-in c.pairing.joining.base.base
            (has-back r len room l drop.bare j B
            (ap (λ (x : ℕ). has (keys_at (after s me) x) j) (sym (late_splice s len l e).1) ∙ (rw q at h)))

  -- ---- the link: the made base has the keys of B and N

  module _ (e : (thread_at s me).phase ≡ 23) (j : ℕ) where
    d : Linking (world_of s r.tree r.own) me (thread_at s me).side (thread_at s me).prev (thread_at s me).base (thread_at s me).neighbour (thread_at s me).made
    d = (at_phase_lem 23 e (r.safe.each me l)).0

    rep : Replaces r (after s me) nx.tree N (tip M)
    rep = (after-moved r len room l).link e

    in_M : has (keys_at s M) j ≡ true → Held nx j
    in_M h =
        in_base M
        (comes_in r len room l rep M (λ q. omega (arith, d.union.mine.own, d.neighbour.hung, ap r.own q)) (omega (arith, is_same {x = M} refl)))
        (base_on r len room l rep.bare j M d.union.base) (has_on r len room l rep.bare j M h)

    sum : has (keys_at s M) j ≡ (has (keys_at s B) j || has (keys_at s N) j)
    sum = ap (λ (n : ℕ). has n j) d.union.sum ∙ has-union (keys_at s B) (keys_at s N) j

    left_or : (a b : Bool) → a ≡ true → (a || b) ≡ true
    left_or true b x = refl
    left_or false b x = absurd (true≢false (sym x))

    right_or : (a b : Bool) → b ≡ true → (a || b) ≡ true
    right_or true b x = refl
    right_or false b x = x

    pub link_on : Held r j → Held nx j
    link_on (in_retired v k f h) = go (compared v me)
      where
        go : Same v me → Held nx j
        go (apart n) = other_on r len room l rep.bare j v k n f h
        go (same q) = in_M (sum ∙ left_or (has (keys_at s B) j) (has (keys_at s N) j) (rw q at h))
    link_on (in_base b i f h) = go (compared b N)
      where
        go : Same b N → Held nx j
        go (apart n) =
            in_base b (stays_in r len room l rep b n i) (base_on r len room l rep.bare j b f) (has_on r len room l rep.bare j b h)
        go (same q) = in_M (sum ∙ right_or (has (keys_at s B) j) (has (keys_at s N) j) (rw q at h))

    pub link_back : Held nx j → Held r j
    link_back (in_retired v k f h) =
        other_back r len room l rep.bare j v k
        (λ q. true≢false (sym f ∙ ap (λ (x : ℕ). late (thread_at (after s me) x).phase) q ∙ late_link s len l e)) f h
    link_back (in_base b i f h) = go (whence r len room l rep b i)
      where
        h' : has (keys_at s b) j ≡ true
        h' = has-back r len room l rep.bare j b h

        either : (a b : Bool) → has (keys_at s B) j ≡ a → has (keys_at s N) j ≡ b → (a || b) ≡ true → Held r j
        either true b x y z = in_retired me l (ap late e) x
        either false true x y z = in_base N d.inside d.neighbour.base y
        either false false x y z = absurd (true≢false (sym z))

        go : From r len room l rep b → Held r j
        go (old k) = in_base b k (base_back r len room l rep.bare j b f) h'
        go (new k) =
            either (has (keys_at s B) j) (has (keys_at s N) j) refl refl
            (sym sum ∙ ap (λ (x : ℕ). has (keys_at s x) j) (sym (is_some k)) ∙ h')
