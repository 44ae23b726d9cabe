-- What each element of a list has; past its end stands a default that has it too.
use Rattle.std.specs.Prelude.{List, [], ◌∷◌, ◌≡◌, refl, ℕ, zero, suc, length, get_or, set, replicate, Option, Some, None, IfSome}
use Rattle.std.proofs.Common.{length-set}
use Rattle.rules.specs.State.{zero_place}
use Rattle.rules.specs.Step.{put}
use Rattle.rules.specs.declared.state.Place.{Place}
use Rattle.rules.specs.declared.row.Store.{Store}

-- after one element is set to what has it
pub each_set : {A : Type 0} (P : A → Type 0) (l : List A) (j : ℕ) (a d : A) → P a → ((i : ℕ) → P (get_or l i d))
    → (i : ℕ) → P (get_or (set l j a) i d)
each_set P [] j a d p f i = f i
each_set P (x ∷ xs) zero a d p f zero = p
each_set P (x ∷ xs) zero a d p f (suc i) = f (suc i)
each_set P (x ∷ xs) (suc j) a d p f zero = f 0
each_set P (x ∷ xs) (suc j) a d p f (suc i) = each_set P xs j a d p (λ n. f (suc n)) i

-- n times a
pub each_replicate : {A : Type 0} (P : A → Type 0) {a d : A} → P a → P d → (n i : ℕ) → P (get_or (replicate n a) i d)
each_replicate P p q zero i = q
each_replicate P p q (suc n) zero = p
each_replicate P p q (suc n) (suc i) = each_replicate P p q n i

-- the place that is stored, if one is
abbrev pub Stored : (Place → Type 0) → Option Store → Type 0
Stored P a = IfSome a (λ w. P w.place)

-- the places after a store
pub each-put : (P : Place → Type 0) (a : Option Store) (ps : List Place) → Stored P a → ((n : ℕ) → P (get_or ps n zero_place))
    → (n : ℕ) → P (get_or (put a ps) n zero_place)
unfolding put
each-put P None ps p f n = f n
each-put P (Some w) ps p f n = each_set P ps w.at w.place zero_place p f n

-- a store leaves how many places there are
pub length-put : (a : Option Store) (ps : List Place) → length (put a ps) ≡ length ps
unfolding put
length-put None ps = refl
length-put (Some w) ps = length-set ps w.at w.place
