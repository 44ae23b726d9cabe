-- The walk of the key list, one node at a time.
use Rattle.std.specs.Prelude.{Bool, true, false, List, ◌≡◌, refl, ℕ, suc, ◌%◌, get_or}
use Rattle.rules.specs.State.{zero_place}
use Rattle.rules.specs.List.{again, meets, lists, gather}
use Rattle.rules.specs.declared.state.Body.{Body}
use Rattle.rules.specs.declared.state.Body.TheVariants.{Base, Route}
use Rattle.rules.specs.declared.state.Place.{Place}
use Rattle.rules.specs.declared.list.Met.{Met}

-- the walk at a node, by the answers to its three questions
unfoldable pub entering : ℕ → List Place → ℕ → Met → Bool → Bool → Body → Met
entering d ps n m true b c = m
entering d ps n m false true c = again m
entering d ps n m false false (Base ks) = lists ks (meets (n % 128) m)
entering d ps n m false false (Route k l r) = gather d ps r (gather d ps l (meets (n % 128) m))

pub enters : (d : ℕ) (ps : List Place) (n : ℕ) (m : Met)
    → gather (suc d) ps n m ≡ entering d ps n m m.twice (get_or m.seen (n % 128) false) (get_or ps (n % 128) zero_place).body
unfolding gather entering
enters d ps n m = go m.twice (get_or m.seen (n % 128) false) (get_or ps (n % 128) zero_place).body
  where
    go : (a b : Bool) (c : Body)
        → elim a as (λ x. Met) [
          | true ↦ m
          | false ↦
              elim b as (λ x. Met) [
                | true ↦ again m
                | false ↦
                    elim c as (λ x. Met) [
                      | Base ks ↦ lists ks (meets (n % 128) m)
                      | Route k l r ↦ gather d ps r (gather d ps l (meets (n % 128) m))
                    ]
              ]
        ]
        ≡ entering d ps n m a b c
    go true b c = refl
    go false true c = refl
    go false false (Base ks) = refl
    go false false (Route k l r) = refl
