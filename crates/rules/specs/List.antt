-- "Reachable bases are listed from the left child down to each leaf, then the right."
use Rattle.std.specs.Prelude.{true, false, not, List, [], ◌∷◌, ℕ, zero, suc, ◌-◌, ◌%◌, get_or, set, replicate, Result, Ok, Err}
use Rattle.keys.specs.Keys.{union}
use Rattle.rules.specs.State.{zero_place}
use Rattle.rules.specs.Range.{in_range}
use Rattle.rules.specs.Refusals.{Ground, ◌if◌, first}
use Rattle.rules.specs.declared.state.Body.TheVariants.{Base, Route}
use Rattle.rules.specs.declared.state.Place.{Place}
use Rattle.rules.specs.declared.state.State.{State}
use Rattle.rules.specs.declared.list.Met.{Met}
use Rattle.rules.specs.declared.answer.Refusal.{Refusal}
use Rattle.rules.specs.declared.answer.Refusal.TheVariants.{OutOfRange, Stuck}

-- nothing is met yet
unfoldable pub unmet : Met
unmet = record { twice = false; left = 128; keys = 0; seen = replicate 128 false }

-- a node was met a second time: nothing more is listed
unfoldable pub again : Met → Met
again m = record { twice = true; left = m.left; keys = m.keys; seen = m.seen }

-- node n is met, for the first time
unfoldable pub meets : ℕ → Met → Met
meets n m = record { twice = m.twice; left = m.left - 1; keys = m.keys; seen = set m.seen n true }

-- the keys of a base are listed
unfoldable pub lists : ℕ → Met → Met
lists ks m = record { twice = m.twice; left = m.left; keys = union m.keys ks; seen = m.seen }

-- the walk at node n: "a walk listing keys that meets a node twice" lists no more. The first number bounds how deep it goes
unfoldable pub gather : ℕ → List Place → ℕ → Met → Met
gather zero ps n m = again m
gather (suc d) ps n m =
    elim m.twice [
      | true ↦ m
      | false ↦
          elim (get_or m.seen (n % 128) false) [
            | true ↦ again m
            | false ↦
                elim (get_or ps (n % 128) zero_place).body [
                  | Base ks ↦ lists ks (meets (n % 128) m)
                  | Route k l r ↦ gather d ps r (gather d ps l (meets (n % 128) m))
                ]
          ]
    ]

-- what the walk from the root has met; there are 128 nodes, so it never goes deeper
unfoldable pub reached : State → Met
reached s = gather 129 s.places s.root unmet

-- "key list 7, 8"
abbrev pub list_order : State → List Ground
list_order s = (OutOfRange if not (in_range s)) ∷ (Stuck if (reached s).twice) ∷ []

-- the key list
unfoldable pub key_list_of : State → Result ℕ Refusal
key_list_of s = first (list_order s) Err (Ok (reached s).keys)
