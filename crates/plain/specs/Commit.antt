-- The commit: B has the key exactly if it is held, and what is held then is what the plain set has.
use Rattle.std.specs.Prelude.{Bool, true, false, cond, ◌≡◌, refl, ℕ, ◌≤◌, ◌<◌, ltb, eqb, get_or, length}
use Rattle.std.proofs.Common.{true≢false, sym, ◌∙◌, arith, ne_eqb}
use Rattle.std.proofs.Math.Path.{ap}
use Rattle.keys.specs.Keys.{has, size}
use Rattle.rules.specs.State.{none, zero_place, place_at, thread_at}
use Rattle.rules.specs.Registers.{at_phase}
use Rattle.rules.specs.Places.{keys_of, keys_after, with_keys, release, zero}
use Rattle.rules.specs.Rows.{at, stores1, above_max, below_min, keys_then, commits, decides, row5, rows, plan_of}
use Rattle.rules.specs.Step.{view_before, view_of, put, apply, after}
use Rattle.rules.specs.declared.state.Place.{Place}
use Rattle.rules.specs.declared.state.Thread.{Thread}
use Rattle.rules.specs.declared.state.State.{State}
use Rattle.rules.specs.declared.row.View.{View}
use Rattle.rules.specs.declared.row.Plan.{Plan}
use Rattle.states.specs.Tests.{pick}
use Rattle.states.specs.Phase.{row_at}
use Rattle.graph.specs.Cases.{Same, same, apart, compared}
use Rattle.graph.specs.Walk.{Cell, walks_meet}
use Rattle.graph.specs.Tree.{count}
use Rattle.graph.specs.Graph.{hung}
use Rattle.runs.specs.PlainSet.{PlainSet, insert, delete}
use Rattle.runs.proofs.Tied.{keys_tied}
use Rattle.runs.specs.Holders.{late}
use Rattle.order.specs.World.{cells_of, hold, valid, world_of}
use Rattle.order.specs.Stages.{Locked, Meets}
use Rattle.order.specs.AtPhase.{at_phase_lem}
use Rattle.order.specs.Bridge.{place_at_lem, put_new, thread_other}
use Rattle.order.specs.Walks.{held_in}
use Rattle.order.specs.Ordered.{Ordered, quiet_phase, Unmoved}
use Rattle.order.specs.Nodes.{after-moved}
use Rattle.plain.specs.Held.{keys_at, Held, in_base, in_retired, linking_of}
use Rattle.plain.specs.Late.{late_same}
use Rattle.plain.specs.Once.{leads, reaches}
use Rattle.plain.specs.Steps.{next, held_on, held_back}

-- an operation on key k leaves the other keys
after_other : (o ks k j : ℕ) → k < 64 → (j ≡ k → ⊥) → has (keys_after o ks k) j ≡ has ks j
after_other o ks k j l n =
    keys_tied o ks k j l ∙ pick (λ (p : PlainSet). p j ≡ has ks j) (eqb o 0) (rw (ne_eqb j k n))
    (pick (λ (p : PlainSet). p j ≡ has ks j) (eqb o 1) (rw (ne_eqb j k n)) refl)

-- and does the same to k in two sets that agree on it
after_own : (o a b k : ℕ) → k < 64 → has a k ≡ has b k → has (keys_after o a k) k ≡ has (keys_after o b k) k
after_own o a b k l e = keys_tied o a k k l ∙ go (eqb o 0) (eqb o 1) ∙ sym (keys_tied o b k k l)
  where
    go : (x y : Bool) → cond x (insert k (has a)) (cond y (delete k (has a)) (has a)) k ≡ cond x (insert k (has b)) (cond y (delete k (has b)) (has b)) k
    go true y = rw e
    go false true = rw e
    go false false = e

module _ {s : State} (r : Ordered s) (len : length s.threads ≡ 8) (room : length s.places ≡ 128) {me : ℕ} (l : me ≤ 7)
    (e : (thread_at s me).phase ≡ 5) where
  abbrev B : ℕ
  B = (thread_at s me).base

  abbrev k : ℕ
  k = (thread_at s me).key

  abbrev o : ℕ
  o = (thread_at s me).operation

  c : Locked (world_of s r.tree r.own) me (thread_at s me).key (thread_at s me).prev (thread_at s me).base
  c = at_phase_lem 5 e (r.safe.each me l)

  -- a plan leaves B with the keys x
  abbrev Leaves : ℕ → Plan → Type 0
  Leaves x p = keys_of (get_or (put p.third (put p.second (put p.first s.places))) (thread_at s me).base zero_place) ≡ x

  small : B < 128
  small = c.arrived.base.small

  at_B : keys_of (place_at s B) ≡ keys_at s B
  at_B = ap keys_of (place_at_lem s B small)

  leaf : (n : ℕ) (b : Place) → keys_of b ≡ keys_after o (keys_of (place_at s B)) k → Leaves (keys_after o (keys_at s B) k) (commits (view_of s me) n b)
  unfolding commits put view_of view_before
  leaf n b f = ap keys_of (put_new s.places B b room small) ∙ f ∙ ap (λ (x : ℕ). keys_after o x k) at_B

  row_leaves : Leaves (cond (place_at s B).valid (keys_after o (keys_at s B) k) (keys_at s B)) (row5 (view_of s me))
  unfolding row5 decides put view_of view_before
  row_leaves = go (place_at s B).valid
    where
      v : View
      v = view_of s me

      b : Place
      b = with_keys (keys_after o (keys_of (place_at s B)) k) (place_at s B)

      X : ℕ
      X = keys_after o (keys_at s B) k

      go : (a : Bool) → Leaves (cond a (keys_after o (keys_at s B) k) (keys_at s B))
          (cond a (decides (view_of s me) b) (stores1 (view_of s me) (at_phase 1 (thread_at s me)) (at B (release (place_at s B)))))
      go true =
          pick (Leaves X) (above_max v) (pick (Leaves X) (ltb (size (keys_then v)) 2) (leaf 25 (zero b) refl) (leaf 6 b refl))
          (pick (Leaves X) (below_min v) (pick (Leaves X) (eqb (thread_at s me).prev none) (leaf 25 (zero b) refl) (leaf 9 b refl)) (leaf 25 b refl))
      go false = ap keys_of (put_new s.places B (release (place_at s B)) room small) ∙ at_B

  -- the keys of B after the step
  pub keys_then_lem : keys_at (after s me) B ≡ cond (place_at s B).valid (keys_after o (keys_at s B) k) (keys_at s B)
  unfolding after apply rows view_of view_before
  keys_then_lem =
      ap (λ (p : Plan). keys_of (get_or (put p.third (put p.second (put p.first s.places))) B zero_place)) (row_at (view_of s me) 5 e)
      ∙ row_leaves

  thread_still : (v : ℕ) → (v ≡ me → ⊥) → thread_at (after s me) v ≡ thread_at s v
  unfolding after
  thread_still v n = thread_other s me (plan_of (view_of s me)) v n

  u : Unmoved r me (after s me) (next r len room l).tree
  u = (after-moved r len room l).stepped.unmoved (ap quiet_phase e)

  -- where B is invalid, nothing is held that was not, and all that was
  module _ (f : (place_at s (thread_at s me).base).valid ≡ false) (j : ℕ) where
    same_keys : (x : ℕ) → r.own x ≡ hung → keys_at (after s me) x ≡ keys_at s x
    same_keys x h = go (compared x B)
      where
        go : Same x B → keys_at (after s me) x ≡ keys_at s x
        go (same q) = rw q (keys_then_lem ∙ ap (λ (a : Bool). cond a (keys_after o (keys_at s B) k) (keys_at s B)) f)
        go (apart n) = u.keys x h (λ z. n)

    pub retry_on : Held r j → Held (next r len room l) j
    retry_on = held_on r len room l (ap quiet_phase e) j (λ x h g. ap (λ (n : ℕ). has n j) (same_keys x h) ∙ g)

    pub retry_back : Held (next r len room l) j → Held r j
    retry_back = held_back r len room l (ap quiet_phase e) j (λ x h g. ap (λ (n : ℕ). has n j) (sym (same_keys x h)) ∙ g)

  -- where B is valid, the operation is done
  module _ (f : (place_at s (thread_at s me).base).valid ≡ true) where
    was : valid (world_of s r.tree r.own) B ≡ true
    was = ap (λ (q : Place). q.valid) (sym (place_at_lem s B small)) ∙ f

    B-in : 1 ≤ count B r.tree
    B-in = held_in r.safe.sound c.arrived.base.hung c.holds was (λ z. omega arith)

    found : Meets (world_of s r.tree r.own) k (thread_at s me).prev B
    found = c.arrived.meets was B-in

    new_keys : keys_at (after s me) B ≡ keys_after o (keys_at s B) k
    new_keys = keys_then_lem ∙ ap (λ (a : Bool). cond a (keys_after o (keys_at s B) k) (keys_at s B)) f

    -- the key k is held exactly if B has it
    pub key_in : Held r k → has (keys_at s B) k ≡ true
    key_in (in_base b i g h) =
        ap (λ (x : ℕ). has (keys_at s x) k) (sym (walks_meet (leads r k b i g h) found.path g c.arrived.base.base)) ∙ h
    key_in (in_retired v m g h) =
        let d = linking_of r v m g in
        let q = walks_meet (reaches r k v m g h) found.path d.neighbour.base c.arrived.base.base in
        absurd (true≢false (sym was ∙ ap (valid (world_of s r.tree r.own)) (sym q) ∙ d.invalid_n))

    pub in_key : has (keys_at s B) k ≡ true → Held r k
    in_key h = in_base B B-in c.arrived.base.base h

    other_key : (j x : ℕ) → (j ≡ k → ⊥) → r.own x ≡ hung → has (keys_at (after s me) x) j ≡ has (keys_at s x) j
    other_key j x n h = go (compared x B)
      where
        go : Same x B → has (keys_at (after s me) x) j ≡ has (keys_at s x) j
        go (same q) = rw q (ap (λ (y : ℕ). has y j) new_keys ∙ after_other o (keys_at s B) k j c.arrived.key n)
        go (apart m) = ap (λ (y : ℕ). has y j) (u.keys x h (λ z. m))

    -- the other keys are held as before
    pub other_on : (j : ℕ) → (j ≡ k → ⊥) → Held r j → Held (next r len room l) j
    other_on j n = held_on r len room l (ap quiet_phase e) j (λ x h g. other_key j x n h ∙ g)

    pub other_back : (j : ℕ) → (j ≡ k → ⊥) → Held (next r len room l) j → Held r j
    other_back j n = held_back r len room l (ap quiet_phase e) j (λ x h g. sym (other_key j x n h) ∙ g)

    -- then too, k is held exactly if B has it
    pub in_key_then : has (keys_at (after s me) B) k ≡ true → Held (next r len room l) k
    in_key_then h =
        in_base B (rw u.tree B-in) (ap (λ (x : Cell). x.route) (u.cells B c.arrived.base.hung) ∙ c.arrived.base.base) h

    pub key_in_then : Held (next r len room l) k → has (keys_at (after s me) B) k ≡ true
    key_in_then (in_base b i g h) = go (compared b B)
      where
        i' : 1 ≤ count b r.tree
        i' = rw u.tree at i

        o' : r.own b ≡ hung
        o' = r.safe.sound.good.grown b i'

        g' : (cells_of s b).route ≡ false
        g' = ap (λ (x : Cell). x.route) (sym (u.cells b o')) ∙ g

        go : Same b B → has (keys_at (after s me) B) k ≡ true
        go (same q) = rw q at h
        go (apart n) =
            absurd (n (walks_meet (leads r k b i' g' (ap (λ (x : ℕ). has x k) (sym (u.keys b o' (λ z. n))) ∙ h)) found.path g' c.arrived.base.base))
    key_in_then (in_retired v m g h) = go (compared v me)
      where
        go : Same v me → has (keys_at (after s me) B) k ≡ true
        go (same q) = absurd (true≢false (sym (rw q at g) ∙ late_same s len l (ap quiet_phase e) ∙ ap late e))
        go (apart n) =
            let t = thread_still v n in
            let g' : late (thread_at s v).phase ≡ true = ap (λ (x : Thread). late x.phase) (sym t) ∙ g in
            let d = linking_of r v m g' in
            let w : (thread_at s v).base ≡ B → ⊥ =
            λ z. n (sym d.holds_b ∙ ap (hold (world_of s r.tree r.own)) z ∙ c.holds) in
            let h' : has (keys_at s (thread_at s v).base) k ≡ true =
            ap (λ (x : ℕ). has x k) (sym (u.keys (thread_at s v).base d.base.hung (λ z. w)))
            ∙ ap (λ (x : Thread). has (keys_at (after s me) x.base) k) (sym t)
            ∙ h in
            let q = walks_meet (reaches r k v m g' h') found.path d.neighbour.base c.arrived.base.base in
            absurd (true≢false (sym was ∙ ap (valid (world_of s r.tree r.own)) (sym q) ∙ d.invalid_n))

    -- the plain set after the operation has the keys that are held then
    module _ (p : ℕ) (on : (j : ℕ) → Held r j → has p j ≡ true) (back : (j : ℕ) → has p j ≡ true → Held r j) where
      pub agrees : has p k ≡ has (keys_at s B) k
      agrees = go (has p k) (has (keys_at s B) k) refl refl
        where
          go : (a b : Bool) → has p k ≡ a → has (keys_at s B) k ≡ b → a ≡ b
          go true true x y = refl
          go false false x y = refl
          go true false x y = absurd (true≢false (sym (key_in (back k x)) ∙ y))
          go false true x y = absurd (true≢false (sym (on k (in_key y)) ∙ x))

      same_then : has (keys_after o p k) k ≡ has (keys_at (after s me) B) k
      same_then = after_own o p (keys_at s B) k c.arrived.key agrees ∙ ap (λ (x : ℕ). has x k) (sym new_keys)

      pub commit_on : (j : ℕ) → Held (next r len room l) j → has (keys_after o p k) j ≡ true
      commit_on j h = go (compared j k)
        where
          go : Same j k → has (keys_after o p k) j ≡ true
          go (same q) = rw q (same_then ∙ key_in_then (rw q at h))
          go (apart n) = after_other o p k j c.arrived.key n ∙ on j (other_back j n h)

      pub commit_back : (j : ℕ) → has (keys_after o p k) j ≡ true → Held (next r len room l) j
      commit_back j h = go (compared j k)
        where
          go : Same j k → Held (next r len room l) j
          go (same q) = rw q (in_key_then (sym same_then ∙ (rw q at h)))
          go (apart n) = other_on j n (back j (sym (after_other o p k j c.arrived.key n) ∙ h))
