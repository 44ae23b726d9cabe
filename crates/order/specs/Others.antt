-- The conditions of the other threads survive a step of thread me.
use Rattle.std.specs.Prelude.{List, [], ◌∷◌, ◌≡◌, ℕ, zero, suc, ◌<◌, get_or}
use Rattle.rules.specs.declared.state.Thread.{Thread}
use Rattle.graph.specs.Graph.{summit, Good}
use Rattle.order.specs.World.{World, graph, hold}
use Rattle.order.specs.Stages.{Towards, Over, Under, Dying, Linking, Closing, Descending, Parent, Holding, Stage}
use Rattle.order.specs.Change.{Other, Change}
use Rattle.order.specs.Survive.{searching, arrived, locked, dense, splitting, replaced, turning, seeking, reached, taken, pairing, ready, dying, towards, over, under, holding_of, holding}
use Rattle.order.specs.SurviveLink.{linking, closing, descending, parent_of}

-- a type, another, and a function between them
record Survival : Type 1 where
  from : Type 0
  to : Type 0
  map : from → to

survives : {A B : Type 0} → (A → B) → Survival
survives {A} {B} f = record { from = A; to = B; map = f }

abbrev froms : List Survival → List (Type 0)
froms [] = []
froms (s ∷ l) = s.from ∷ froms l

abbrev tos : List Survival → List (Type 0)
tos [] = []
tos (s ∷ l) = s.to ∷ tos l

through : (l : List Survival) (n : ℕ) → get_or (froms l) n ⊥ → get_or (tos l) n ⊥
through [] n x = x
through (s ∷ l) zero x = s.map x
through (s ∷ l) (suc n) x = through l n x

module _ {w w' : World} {me : ℕ} {K : ℕ → Type 0} {F : Type 0} (good : Good (graph w)) (c : Change w w' me K F) (v : ℕ) (o : Other v me) where
  -- the condition at each phase, before and after
  survivals : ((x : ℕ) → K x) → F → (t : Thread) → List Survival
  survivals κ f t =
      survives {A = Unit {0}} (λ x. x)
      ∷ survives {A = t.key < 64} (λ x. x)
      ∷ survives (searching good c v o t.key t.walk)
      ∷ survives (arrived good c v o t.key t.prev t.base)
      ∷ survives (arrived good c v o t.key t.prev t.base)
      ∷ survives (locked good c v o t.key t.prev t.base (κ t.base))
      ∷ survives (dense good c v o t.key t.prev t.base (κ t.base) f)
      ∷ survives (splitting good c v o t.key t.prev t.base t.made (κ t.base) f)
      ∷ survives (replaced good c v o t.base (κ t.base))
      ∷ survives (turning good c v o t.key t.prev t.base (κ t.base) f)
      ∷ survives (seeking good c v o t.side t.prev t.base t.walk (κ t.base))
      ∷ survives (reached good c v o t.side t.prev t.base t.walk (κ t.base))
      ∷ survives (taken good c v o t.side t.prev t.base t.neighbour (κ t.base) (κ t.neighbour))
      ∷ survives (pairing good c v o t.side t.prev t.base t.neighbour t.made (κ t.base) (κ t.neighbour))
      ∷ survives (ready good c v o t.side t.prev t.base t.neighbour t.made (κ t.prev) (κ t.base) (κ t.neighbour))
      ∷ survives (dying good c v o t.side t.prev t.base t.neighbour t.made (κ t.prev) (κ t.base) (κ t.neighbour))
      ∷ survives {A = Dying w v t.side t.prev t.base t.neighbour t.made × Towards w t.prev t.walk}
      {B = Dying w' v t.side t.prev t.base t.neighbour t.made × Towards w' t.prev t.walk}
      (λ x. (
        dying good c v o t.side t.prev t.base t.neighbour t.made (κ t.prev) (κ t.base) (κ t.neighbour) x.0,
        towards good c v o t.side t.prev t.base t.neighbour t.made t.walk x.0 x.1,
      ))
      ∷ survives {A = Dying w v t.side t.prev t.base t.neighbour t.made × Over w t.prev t.grandparent}
      {B = Dying w' v t.side t.prev t.base t.neighbour t.made × Over w' t.prev t.grandparent}
      (λ x. (
        dying good c v o t.side t.prev t.base t.neighbour t.made (κ t.prev) (κ t.base) (κ t.neighbour) x.0,
        over good c v o t.side t.prev t.base t.neighbour t.made t.grandparent x.0 x.1,
      ))
      ∷ survives
      {A = Dying w v t.side t.prev t.base t.neighbour t.made × Over w t.prev t.grandparent
      × (hold w t.grandparent ≡ v)}
      {B = Dying w' v t.side t.prev t.base t.neighbour t.made × Over w' t.prev t.grandparent
      × (hold w' t.grandparent ≡ v)}
      (λ x. (
        dying good c v o t.side t.prev t.base t.neighbour t.made (κ t.prev) (κ t.base) (κ t.neighbour) x.0,
        over good c v o t.side t.prev t.base t.neighbour t.made t.grandparent x.0 x.1,
        holding good c v o (κ t.grandparent) x.1.at.hung x.2,
      ))
      ∷ survives {A = Dying w v t.side t.prev t.base t.neighbour t.made × Under w v t.prev t.grandparent}
      {B = Dying w' v t.side t.prev t.base t.neighbour t.made × Under w' v t.prev t.grandparent}
      (λ x. (
        dying good c v o t.side t.prev t.base t.neighbour t.made (κ t.prev) (κ t.base) (κ t.neighbour) x.0,
        under good c v o t.side t.prev t.base t.neighbour t.made t.grandparent (κ t.grandparent) x.0 x.1,
      ))
      ∷ survives
      {A = Linking w v t.side t.prev t.base t.neighbour t.made
      × Closing w t.side t.prev t.neighbour t.grandparent × (hold w t.prev ≡ v)
      × (t.grandparent < summit → hold w t.grandparent ≡ v)}
      {B = Linking w' v t.side t.prev t.base t.neighbour t.made
      × Closing w' t.side t.prev t.neighbour t.grandparent × (hold w' t.prev ≡ v)
      × (t.grandparent < summit → hold w' t.grandparent ≡ v)}
      (λ x. (
        linking good c v o t.side t.prev t.base t.neighbour t.made (κ t.base) (κ t.neighbour) x.0,
        closing good c v o t.side t.prev t.base t.neighbour t.made t.grandparent x.0 x.1,
        holding good c v o (κ t.prev) x.0.prev.hung x.2,
        λ l. holding good c v o (κ t.grandparent) x.1.at.hung (x.3 l),
      ))
      ∷ survives
      {A = Linking w v t.side t.prev t.base t.neighbour t.made
      × Closing w t.side t.prev t.neighbour t.grandparent}
      {B = Linking w' v t.side t.prev t.base t.neighbour t.made
      × Closing w' t.side t.prev t.neighbour t.grandparent}
      (λ x. (
        linking good c v o t.side t.prev t.base t.neighbour t.made (κ t.base) (κ t.neighbour) x.0,
        closing good c v o t.side t.prev t.base t.neighbour t.made t.grandparent x.0 x.1,
      ))
      ∷ survives
      {A = Linking w v t.side t.prev t.base t.neighbour t.made
      × Descending w t.side t.prev t.neighbour t.walk}
      {B = Linking w' v t.side t.prev t.base t.neighbour t.made
      × Descending w' t.side t.prev t.neighbour t.walk}
      (λ x. (
        linking good c v o t.side t.prev t.base t.neighbour t.made (κ t.base) (κ t.neighbour) x.0,
        descending good c v o t.side t.prev t.base t.neighbour t.made t.walk x.0 x.1,
      ))
      ∷ survives {A = Linking w v t.side t.prev t.base t.neighbour t.made × Parent w t.neighbour t.walk}
      {B = Linking w' v t.side t.prev t.base t.neighbour t.made × Parent w' t.neighbour t.walk}
      (λ x. (
        linking good c v o t.side t.prev t.base t.neighbour t.made (κ t.base) (κ t.neighbour) x.0,
        parent_of good c v o t.side t.prev t.base t.neighbour t.made t.walk x.0 x.1,
      ))
      ∷ survives {A = Holding w v t.base × Holding w v t.neighbour × (t.neighbour ≡ t.base → ⊥)}
      {B = Holding w' v t.base × Holding w' v t.neighbour × (t.neighbour ≡ t.base → ⊥)}
      (λ x. (holding_of good c v o t.base (κ t.base) x.0, holding_of good c v o t.neighbour (κ t.neighbour) x.1, x.2))
      ∷ survives (holding_of good c v o t.base (κ t.base))
      ∷ []

  -- the condition of thread v survives
  pub others : ((x : ℕ) → K x) → F → (t : Thread) → Stage w v t → Stage w' v t
  unfolding survivals survives
  others κ f t s = record { holds = through (survivals κ f t) t.phase s.holds }
