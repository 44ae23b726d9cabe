-- The key list has the keys of the bases of the tree: those of the plain set, while no thread is between splice and link.
use Rattle.std.specs.Prelude.{Bool, true, false, ◌||◌, ◌≡◌, refl, ℕ, ◌≤◌}
use Rattle.std.proofs.Common.{true≢false, sym, ap, ◌∙◌, arith}
use Rattle.std.proofs.Math.ListN.{get_or-eq_default}
use Rattle.keys.specs.Keys.{has}
use Rattle.keys.proofs.Laws.{has-none}
use Rattle.rules.specs.State.{zero_place}
use Rattle.rules.specs.Places.{keys_of}
use Rattle.rules.specs.List.{reached}
use Rattle.rules.specs.declared.state.Place.{Place}
use Rattle.rules.specs.declared.state.State.{State}
use Rattle.graph.specs.Cases.{is_same, is_apart, is_some}
use Rattle.graph.specs.Walk.{Cell}
use Rattle.graph.specs.Tree.{Tree, fork, count, Shape, leaf, branch, Stands, top, in_l, in_r, stands}
use Rattle.graph.specs.Graph.{summit}
use Rattle.runs.specs.Holders.{Quiet}
use Rattle.order.specs.World.{World, cell, cells_of, keys, world_of}
use Rattle.order.specs.Walks.{summit-at}
use Rattle.order.specs.KeyList.{keys_in, root_tree, reached-keys}
use Rattle.plain.specs.Held.{keys_at, Held, in_base, in_retired}
use Rattle.plain.specs.Plain.{Plain}

-- a base of the tree that has the key
record Found (g : ℕ → Cell) (ks : ℕ → ℕ) (t : Tree) (j : ℕ) : Type 0 where
  base : ℕ
  inside : 1 ≤ count base t
  kind : (g base).route ≡ false
  key : has (ks base) j ≡ true

-- a passed test of two
data Either (a b : Bool) : Type 0 where
  one : a ≡ true → Either a b
  two : b ≡ true → Either a b

either : (a b : Bool) → (a || b) ≡ true → Either a b
either true b e = one refl
either false b e = two e

left_or : {a : Bool} (b : Bool) → a ≡ true → (a || b) ≡ true
left_or b x = rw x

right_or : (a : Bool) {b : Bool} → b ≡ true → (a || b) ≡ true
right_or true x = refl
right_or false x = x

find : (g : ℕ → Cell) (ks : ℕ → ℕ) (j : ℕ) {t : Tree} → Shape g t → keys_in ks t j ≡ true → Found g ks t j
unfolding keys_in
find g ks j (leaf {n} f) h = record { base = n; inside = omega (arith, is_same {x = n} refl); kind = f; key = h }
find g ks j (branch {n} {l} {r} f a b) h = go (either (keys_in ks l j) (keys_in ks r j) h) (find g ks j a) (find g ks j b)
  where
    go : Either (keys_in ks l j) (keys_in ks r j) → (keys_in ks l j ≡ true → Found g ks l j) → (keys_in ks r j ≡ true → Found g ks r j)
        → Found g ks (fork n l r) j
    go (one e) u v = let k = u e in record { base = k.base; inside = omega (arith, k.inside); kind = k.kind; key = k.key }
    go (two e) u v = let k = v e in record { base = k.base; inside = omega (arith, k.inside); kind = k.kind; key = k.key }

-- and every base's keys are found
found : (g : ℕ → Cell) (ks : ℕ → ℕ) (j b : ℕ) {t : Tree} → Shape g t → 1 ≤ count b t → (g b).route ≡ false → has (ks b) j ≡ true → keys_in ks t j ≡ true
unfolding keys_in
found g ks j b (leaf {n} f) i e h = ap (λ (x : ℕ). has (ks x) j) (sym (is_some i)) ∙ h
found g ks j b (branch {n} {l} {r} f a c) i e h = go (stands i) (λ k. found g ks j b a k e h) (λ k. found g ks j b c k e h)
  where
    go : Stands b n l r → (1 ≤ count b l → keys_in ks l j ≡ true) → (1 ≤ count b r → keys_in ks r j ≡ true) → (keys_in ks l j || keys_in ks r j) ≡ true
    go (top q) u v = absurd (true≢false (sym f.route ∙ ap (λ (x : ℕ). (g x).route) (sym q) ∙ e))
    go (in_l k) u v = left_or (keys_in ks r j) (u k)
    go (in_r k) u v = right_or (keys_in ks l j) (v k)

module _ {s : State} {p : ℕ} (x : Plain s p) (j : ℕ) where
  abbrev w : World
  w = world_of s x.inv.nodes.tree x.inv.nodes.own

  -- the listed keys are held, and the other way round
  listed_held : has (reached s).keys j ≡ true → Held x.inv.nodes j
  listed_held h =
      let k = find (cell w) (keys w) j (root_tree x.inv).shape (sym (reached-keys x.inv j) ∙ h) in
      in_base k.base (omega (arith, (root_tree x.inv).inside k.base, k.inside)) k.kind k.key

  -- a base of the tree with a key stands under the root pointer
  pub under_root : (b : ℕ) → 1 ≤ count b x.inv.nodes.tree → (cells_of s b).route ≡ false → has (keys_at s b) j ≡ true
      → 1 ≤ count b (root_tree x.inv).rest
  under_root b a f h = omega (arith, (root_tree x.inv).inside b, is_apart not-summit, is_apart not_last)
    where
      not-summit : b ≡ summit → ⊥
      not-summit q = true≢false (sym (summit-at x.inv.nodes.safe.sound).route ∙ ap (λ (y : ℕ). (cells_of s y).route) (sym q) ∙ f)

      not_last : b ≡ 129 → ⊥
      not_last q =
          true≢false (sym h ∙ ap (λ (y : ℕ). has (keys_at s y) j) q
          ∙ ap (λ (y : Place). has (keys_of y) j) (get_or-eq_default s.places zero_place {n = 129} (omega (arith, x.inv.places))) ∙ has-none j)

  held_listed : (b : ℕ) → 1 ≤ count b x.inv.nodes.tree → (cells_of s b).route ≡ false → has (keys_at s b) j ≡ true → has (reached s).keys j ≡ true
  held_listed b a f h = reached-keys x.inv j ∙ found (cell w) (keys w) j b (root_tree x.inv).shape (under_root b a f h) f h

  -- while no thread is in phases 20 to 23, the key list has the keys of the plain set
  pub quiet-keys : Quiet s → has (reached s).keys j ≡ has p j
  quiet-keys q = go (has (reached s).keys j) (has p j) refl refl
    where
      listed : Held x.inv.nodes j → has (reached s).keys j ≡ true
      listed (in_base b a f h) = held_listed b a f h
      listed (in_retired v a f h) = absurd (true≢false (sym f ∙ q v a))

      go : (a b : Bool) → has (reached s).keys j ≡ a → has p j ≡ b → a ≡ b
      go true true u v = refl
      go false false u v = refl
      go true false u v = absurd (true≢false (sym (x.on j (listed_held u)) ∙ v))
      go false true u v = absurd (true≢false (sym (listed (x.back j v)) ∙ u))
