-- For each key, the number of bases that hold it is 1 or 0 as it is in the plain set or not.
use Rattle.std.specs.Prelude.{Bool, true, false, cond, ◌&&◌, ◌≡◌, refl, ℕ, zero, suc, ◌+◌, ◌≤◌, ◌<◌, get_or}
use Rattle.std.proofs.Common.{true≢false, sym, ap, ◌∙◌, lt-ltb}
use native.Mathlib.Omega.{arith}
use Rattle.std.proofs.lemmas.Bool.{not-true}
use Rattle.keys.specs.Keys.{has}
use Rattle.rules.specs.State.{place_at, thread_at}
use Rattle.rules.specs.Places.{is_route, is_base, keys_of}
use Rattle.rules.specs.Needs.{base}
use Rattle.rules.specs.List.{reached}
use Rattle.rules.specs.declared.state.Place.{Place}
use Rattle.rules.specs.declared.state.State.{State}
use Rattle.states.specs.Tests.{both}
use Rattle.graph.specs.Cases.{Test, holds, fails, test, Same, same, apart, compared}
use Rattle.graph.specs.Tree.{count}
use Rattle.graph.specs.Graph.{summit}
use Rattle.runs.specs.Passes.{one}
use Rattle.runs.specs.Holders.{late, how_many, keeps, carries, holders}
use Rattle.order.specs.World.{cells_of}
use Rattle.order.specs.Bridge.{place_at_lem, reads_route}
use Rattle.order.specs.KeyList.{root_tree, rest_small, reached_met, reached-only}
use Rattle.plain.specs.Held.{keys_at, Held, in_base, in_retired, linking_of}
use Rattle.plain.specs.Once.{one-base, base-or_retired, one_retired}
use Rattle.plain.specs.Plain.{Plain}
use Rattle.plain.specs.Listed.{under_root}

-- none passes
many_none : (f : ℕ → Bool) (n : ℕ) → ((a : ℕ) → a < n → f a ≡ true → ⊥) → how_many f n ≡ 0
unfolding how_many one
many_none f zero h = refl
many_none f (suc n) h = go (test (f n)) (many_none f n (λ a l. h a (omega arith)))
  where
    go : Test (f n) → how_many f n ≡ 0 → one (f n) + how_many f n ≡ 0
    go (holds e) k = absurd (h n (omega arith) e)
    go (fails e) k = omega (arith, ap one e)

-- one passes and no other
many_one : (f : ℕ → Bool) (n b : ℕ) → b < n → f b ≡ true → ((a : ℕ) → a < n → f a ≡ true → a ≡ b) → how_many f n ≡ 1
unfolding how_many one
many_one f zero b l e u = absurd (omega arith)
many_one f (suc n) b l e u = go (compared b n) (λ k. many_one f n b k e (λ a m. u a (omega arith)))
  where
    go : Same b n → (b < n → how_many f n ≡ 1) → one (f n) + how_many f n ≡ 1
    go (same q) k =
        omega (arith, ap one (ap f (sym q) ∙ e), many_none f n (λ a m t. omega (arith, u a (omega arith) t)))
    go (apart d) k = off (test (f n))
      where
        off : Test (f n) → one (f n) + how_many f n ≡ 1
        off (holds t) = absurd (d (sym (u n (omega arith) t)))
        off (fails t) = omega (arith, ap one t, k (omega arith))

module _ {s : State} {p : ℕ} (x : Plain s p) where
  -- a base of the tree that has the key j
  record InTree (b j : ℕ) : Type 0 where
    inside : 1 ≤ count b x.inv.nodes.tree
    base : (cells_of s b).route ≡ false
    key : has (keys_at s b) j ≡ true

  in_tree : {b j : ℕ} → b < summit → 1 ≤ count b x.inv.nodes.tree → is_base (place_at s b) ≡ true → has (keys_of (place_at s b)) j ≡ true
      → InTree b j
  in_tree {b} {j} m i e h =
      record {
        inside = i;
        base = sym (reads_route s x.inv.nodes.tree x.inv.nodes.own b m) ∙ not-true (is_route (place_at s b)) e;
        key = ap (λ (q : Place). has (keys_of q) j) (sym (place_at_lem s b m)) ∙ h;
      }

  -- the base register of a late thread names a base, whose keys are those that the tree has
  carried : (v j : ℕ) → v ≤ 7 → late (thread_at s v).phase ≡ true
      → (base (thread_at s v).base (place_at s (thread_at s v).base) ≡ true)
      × (has (keys_of (place_at s (thread_at s v).base)) j ≡ has (keys_at s (thread_at s v).base) j)
  carried v j l e =
      let b = (thread_at s v).base in
      let k = (linking_of x.inv.nodes v l e).base in (
        rw (lt-ltb b summit k.small, reads_route s x.inv.nodes.tree x.inv.nodes.own b k.small ∙ k.base),
        ap (λ (q : Place). has (keys_of q) j) (place_at_lem s b k.small),
      )

  module _ (j : ℕ) where
    kept : (b : ℕ) → b < 128 → keeps s j b ≡ true → InTree b j
    kept b l e =
        let q = both (get_or (reached s).seen b false) (is_base (place_at s b) && has (keys_of (place_at s b)) j) e in
        let r = both (is_base (place_at s b)) (has (keys_of (place_at s b)) j) q.1 in
        in_tree l (omega (arith, (root_tree x.inv).inside b, reached-only x.inv b q.0)) r.0 r.1

    keeping : (b : ℕ) → InTree b j → (b < 128) × (keeps s j b ≡ true)
    keeping b k =
        let i = under_root x j b k.inside k.base k.key in
        let m = rest_small x.inv b i in (
          m,
          rw (
            reached_met x.inv b i,
            reads_route s x.inv.nodes.tree x.inv.nodes.own b m ∙ k.base,
            ap (λ (q : Place). has (keys_of q) j) (place_at_lem s b m) ∙ k.key,
          ),
        )

    -- a late thread whose base register has the key
    record Late (v : ℕ) : Type 0 where
      thread : v ≤ 7
      phase : late (thread_at s v).phase ≡ true
      key : has (keys_at s (thread_at s v).base) j ≡ true

    taken : (v : ℕ) → v < 8 → carries s j v ≡ true → Late v
    taken v l e =
        let b = (thread_at s v).base in
        let q = both (late (thread_at s v).phase) (base b (place_at s b) && has (keys_of (place_at s b)) j) e in
        let r = both (base b (place_at s b)) (has (keys_of (place_at s b)) j) q.1 in
        let m : v ≤ 7 = omega arith in
        record { thread = m; phase = q.0; key = sym (carried v j m q.0).1 ∙ r.1 }

    same_base : {a b : ℕ} → InTree a j → InTree b j → a ≡ b
    same_base {a} {b} u v = one-base x.inv.nodes j a b u.inside u.base u.key v.inside v.base v.key

    not-both : {b v : ℕ} → InTree b j → Late v → ⊥
    not-both {b} {v} u k = base-or_retired x.inv.nodes j b v u.inside u.base u.key k.thread k.phase k.key

    same_late : {u v : ℕ} → Late u → Late v → u ≡ v
    same_late {u} {v} k m = one_retired x.inv.nodes j u v k.thread k.phase k.key m.thread m.phase m.key

    -- the plain set has the key exactly if one such base has it
    pub plain_holders : holders s j ≡ one (has p j)
    unfolding holders one
    plain_holders = go (test (has p j))
      where
        by : Held x.inv.nodes j → how_many (keeps s j) 128 + how_many (carries s j) 8 ≡ 1
        by (in_base b i f h) =
            let k : InTree b j = record { inside = i; base = f; key = h } in
            let q = keeping b k in
            omega (
              arith,
              many_one (keeps s j) 128 b q.0 q.1 (λ a l e. same_base (kept a l e) k),
              many_none (carries s j) 8 (λ v l e. not-both k (taken v l e)),
            )
        by (in_retired v l f h) =
            let k : Late v = record { thread = l; phase = f; key = h } in
            let q = carried v j l f in
            omega (
              arith,
              many_one (carries s j) 8 v (omega arith) (rw (f, q.0, q.1 ∙ h)) (λ u m e. same_late (taken u m e) k),
              many_none (keeps s j) 128 (λ b m e. not-both (kept b m e) k),
            )

        go : Test (has p j) → how_many (keeps s j) 128 + how_many (carries s j) 8 ≡ cond (has p j) 1 0
        go (holds e) = by (x.back j e) ∙ ap one (sym e)
        go (fails e) =
            omega (
              arith,
              ap one e,
              many_none (keeps s j) 128
                  (λ b l t. let k = kept b l t in true≢false (sym (x.on j (in_base b k.inside k.base k.key)) ∙ e)),
              many_none (carries s j) 8
                  (λ v l t. let k = taken v l t in true≢false (sym (x.on j (in_retired v k.thread k.phase k.key)) ∙ e)),
            )
