-- What the recursive walk of the key list promises of itself.
use Rattle.std.specs.Prelude.{◌≡◌, Bool, true, false, List, [], ◌∷◌, ℕ, suc, ◌≤◌, ◌<◌}
use Rattle.rules.specs.List.{gather}
use Rattle.rules.specs.declared.state.Place.{Place}
use Rattle.rules.specs.declared.list.Met.{Met}

-- how many nodes are not yet met
unfoldable pub unseen : List Bool → ℕ
unseen [] = 0
unseen (true ∷ bs) = unseen bs
unseen (false ∷ bs) = suc (unseen bs)

-- the count of nodes not yet met is right
pub record Counted (m : Met) : Type 0 where
  pub right : unseen m.seen ≡ m.left

-- r is what the walk at node n, which has met m so far, comes to, however deep it may go beyond the nodes not yet met
pub record Gathered (ps : List Place) (n : ℕ) (m r : Met) : Type 0 where
  pub same : (d : ℕ) → m.left < d → r ≡ gather d ps n m
  pub falls : r.left ≤ m.left
  pub counted : Counted r
