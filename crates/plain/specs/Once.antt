-- Each key is held once: by one base of the tree, or by one retired base.
use Rattle.std.specs.Prelude.{true, false, ◌≡◌, ℕ, ◌≤◌}
use Rattle.std.proofs.Common.{sym, ap, ◌∙◌}
use Rattle.keys.specs.Keys.{has}
use Rattle.rules.specs.State.{thread_at}
use Rattle.rules.specs.declared.state.State.{State}
use Rattle.graph.specs.Walk.{by, Walk, walks_meet}
use Rattle.graph.specs.Tree.{count}
use Rattle.graph.specs.Graph.{summit}
use Rattle.runs.specs.Holders.{late}
use Rattle.order.specs.World.{cells_of, hold, world_of}
use Rattle.order.specs.Ordered.{Ordered}
use Rattle.plain.specs.Held.{keys_at, linking_of}

module _ {s : State} (r : Ordered s) (j : ℕ) where
  -- a key of a base of the tree leads to it; a key of a retired base leads to its neighbour
  pub leads : (b : ℕ) → 1 ≤ count b r.tree → (cells_of s b).route ≡ false → has (keys_at s b) j ≡ true → Walk (cells_of s) (by j) summit b
  leads b i f h = r.safe.sound.belongs.leads b i f j h

  pub reaches : (v : ℕ) → v ≤ 7 → late (thread_at s v).phase ≡ true → has (keys_at s (thread_at s v).base) j ≡ true
      → Walk (cells_of s) (by j) summit (thread_at s v).neighbour
  reaches v l e h = (linking_of r v l e).reach j h

  -- no key is in two bases of the tree
  pub one-base : (a b : ℕ) → 1 ≤ count a r.tree → (cells_of s a).route ≡ false → has (keys_at s a) j ≡ true
      → 1 ≤ count b r.tree → (cells_of s b).route ≡ false → has (keys_at s b) j ≡ true → a ≡ b
  one-base a b i f h k g m = walks_meet (leads a i f h) (leads b k g m) f g

  -- none is in a base of the tree and in a retired one
  pub base-or_retired : (b v : ℕ) → 1 ≤ count b r.tree → (cells_of s b).route ≡ false → has (keys_at s b) j ≡ true → v ≤ 7
      → late (thread_at s v).phase ≡ true → has (keys_at s (thread_at s v).base) j ≡ true → ⊥
  base-or_retired b v i f h l e m =
      let c = linking_of r v l e in
      let q = walks_meet (leads b i f h) (reaches v l e m) f c.neighbour.base in
      c.union.apart j m (rw q at h)

  -- none is in two retired bases
  pub one_retired : (u v : ℕ) → u ≤ 7 → late (thread_at s u).phase ≡ true → has (keys_at s (thread_at s u).base) j ≡ true → v ≤ 7
      → late (thread_at s v).phase ≡ true → has (keys_at s (thread_at s v).base) j ≡ true → u ≡ v
  one_retired u v l e h k f m =
      let c = linking_of r u l e in
      let d = linking_of r v k f in
      let q = walks_meet (reaches u l e h) (reaches v k f m) c.neighbour.base d.neighbour.base in
      sym c.holds_n ∙ ap (λ (x : ℕ). hold (world_of s r.tree r.own) x) q ∙ d.holds_n
