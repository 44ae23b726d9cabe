-- The plain set of demand 3, as a textbook has it: no tree, no machine, and no way in which keys are held.
use Rattle.std.specs.Prelude.{Bool, false, cond, not, ◌&&◌, ◌||◌, List, [], ◌∷◌, ℕ, zero, suc, eqb}

-- a set of keys: whether a key is in it
abbrev pub PlainSet : Type 0
PlainSet = ℕ → Bool

-- the set without a key
abbrev pub empty : PlainSet
empty j = false

-- "adds it": key k, and all that was in the set
abbrev pub insert : ℕ → PlainSet → PlainSet
insert k p j = eqb j k || p j

-- "takes it out": all that was in the set but key k
abbrev pub delete : ℕ → PlainSet → PlainSet
delete k p j = not (eqb j k) && p j

-- "Insert answers 1 if the key was absent", "otherwise 0"
abbrev pub insert_replies : ℕ → PlainSet → ℕ
insert_replies k p = cond (p k) 0 1

-- "delete answers 1 if it was present", "otherwise 0"
abbrev pub delete_replies : ℕ → PlainSet → ℕ
delete_replies k p = cond (p k) 1 0

-- "lookup answers 1 if present", "otherwise 0"
abbrev pub lookup_replies : ℕ → PlainSet → ℕ
lookup_replies k p = cond (p k) 1 0

-- the set after an operation: "insert, delete, lookup, numbered 0, 1, 2"; lookup leaves it
abbrev pub set_after : (operation key : ℕ) → PlainSet → PlainSet
set_after o k p = cond (eqb o 0) (insert k p) (cond (eqb o 1) (delete k p) p)

-- the reply to an operation
abbrev pub replies : (operation key : ℕ) → PlainSet → ℕ
replies o k p = cond (eqb o 0) (insert_replies k p) (cond (eqb o 1) (delete_replies k p) (lookup_replies k p))

-- the n numbers from i on, rising
unfoldable pub numbers : ℕ → ℕ → List ℕ
numbers i zero = []
numbers i (suc n) = i ∷ numbers (suc i) n

-- those of a list that are in the set
unfoldable pub only : PlainSet → List ℕ → List ℕ
only p [] = []
only p (j ∷ l) = cond (p j) (j ∷ only p l) (only p l)

-- the keys of the set, rising: those of 0 to 63 that are in it
abbrev pub keys_in : PlainSet → List ℕ
keys_in p = only p (numbers 0 64)
