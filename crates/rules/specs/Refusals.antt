-- Refusals as data: the list of a call has them in document 01's order, and the first that applies is given.
use Rattle.std.specs.Prelude.{Bool, true, false, cond, List, [], ◌∷◌, ◌≡◌, refl, ℕ, Option, Some, None, Result, Ok, Err}
use Rattle.rules.specs.declared.answer.Refusal.{Refusal}
use Rattle.rules.specs.declared.answer.Refusal.TheVariants.{NotOfTheForms, BadSettings, NoThread, NoKey, Busy, Idle, OutOfRange, Stuck, LittleRoom, BadCount, AllBegun, TooLong}

-- "Refusal numbers"
abbrev pub number : Refusal → ℕ
number NotOfTheForms = 1
number BadSettings = 2
number NoThread = 3
number NoKey = 4
number Busy = 5
number Idle = 6
number OutOfRange = 7
number Stuck = 8
number LittleRoom = 9
number BadCount = 10
number AllBegun = 11
number TooLong = 12

-- a refusal, and whether it applies
pub record Ground : Type 0 where
  pub refusal : Refusal
  pub applies : Bool

-- a refusal, where the test holds
abbrev pub ◌if◌ : Refusal → Bool → Ground
r if test = record { refusal = r; applies = test }

infixl 20 ◌if◌
-- the first refusal that applies, or what is accepted
abbrev pub first : {A : Type 0} → List Ground → (Refusal → A) → A → A
first [] refuse accept = accept
first (g ∷ gs) refuse accept = cond g.applies (refuse g.refusal) (first gs refuse accept)

-- the number of the first that applies; 0 where none does
abbrev pub refusal_of : List Ground → ℕ
refusal_of gs = first gs number 0

-- the number in a reply; 0 where nothing is refused
abbrev pub reply_number : {A : Type 0} → Result A Refusal → ℕ
reply_number (Ok a) = 0
reply_number (Err r) = number r

-- the refusal in a reply, if it is one
abbrev pub refused_in : {A : Type 0} → Result A Refusal → Option Refusal
refused_in (Ok a) = None
refused_in (Err r) = Some r

-- the number of a refusal, if there is one; 0 where nothing is refused
abbrev pub number_in : Option Refusal → ℕ
number_in None = 0
number_in (Some r) = number r

-- what f reads off the answer it reads off the refusal given, or off what is accepted
pub first-map : {A B : Type 0} (f : A → B) (gs : List Ground) (refuse : Refusal → A) (accept : A)
    → f (first gs refuse accept) ≡ first gs (λ r. f (refuse r)) (f accept)
first-map f [] refuse accept = refl
first-map {A = A} {B = B} f (g ∷ gs) refuse accept = by g.applies (first-map f gs refuse accept)
  where
    by : (b : Bool) {x : A} {y : B} → f x ≡ y → f (cond b (refuse g.refusal) x) ≡ cond b (f (refuse g.refusal)) y
    by true e = refl
    by false e = e
