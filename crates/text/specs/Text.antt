-- Bytes of schedules and sheets: numbers, fields, lines.
use Rattle.std.specs.Prelude.{Bool, true, false, cond, not, ◌&&◌, ◌||◌, List, [], ◌∷◌, ◌++◌, ◌≡◌, ℕ, zero, suc, ◌+◌, ◌-◌, ◌*◌, ◌/◌, ◌%◌, ltb, leb, eqb, length, get_or, Option, Some, None}
use Rattle.std.proofs.lemmas.List.Edits.{sets}
use Rattle.keys.specs.Keys.{has}

-- "Fields are parted by one tab"
abbrev pub tab : ℕ
tab = 9

-- "Lines end with one newline byte"
abbrev pub newline : ℕ
newline = 10

-- "min may have a minus"
abbrev pub minus : ℕ
minus = 45

-- ---- reading

-- how many bytes stand before the first b; all of them where there is no b
unfoldable pub until : ℕ → List ℕ → ℕ
until b [] = 0
until b (x ∷ xs) = cond (eqb x b) 0 (suc (until b xs))

-- b in front of the first of some parts
unfoldable pub onto : ℕ → List (List ℕ) → List (List ℕ)
onto b [] = (b ∷ []) ∷ []
onto b (f ∷ fs) = (b ∷ f) ∷ fs

-- "Fields are parted by one tab"
unfoldable pub fields : List ℕ → List (List ℕ)
fields [] = [] ∷ []
fields (b ∷ bs) = cond (eqb b tab) ([] ∷ fields bs) (onto b (fields bs))

-- "Lines end with one newline byte; the last may lack it, with the same result"
unfoldable pub lines : List ℕ → List (List ℕ)
lines [] = []
lines (b ∷ bs) = cond (eqb b newline) ([] ∷ lines bs) (onto b (lines bs))

-- a part that is one letter
unfoldable pub is_letter : ℕ → List ℕ → Bool
is_letter b f = eqb (length f) 1 && eqb (get_or f 0 0) b

-- all bytes are digits
unfoldable pub digits : List ℕ → Bool
digits [] = true
digits (b ∷ bs) = leb 48 b && leb b 57 && digits bs

-- "Numbers: 1 to 7 digits, no leading zero but `0` itself"
unfoldable pub is_number : List ℕ → Bool
is_number f = leb 1 (length f) && leb (length f) 7 && digits f && (eqb (length f) 1 || not (eqb (get_or f 0 0) 48))

-- the value of some digits, behind those of value n
unfoldable pub value_from : ℕ → List ℕ → ℕ
value_from n [] = n
value_from n (b ∷ bs) = value_from (n * 10 + (b - 48)) bs

-- the value of a number's digits
unfoldable pub value : List ℕ → ℕ
value f = value_from 0 f

-- a value, or none where the test fails
unfoldable pub value_if : Bool → ℕ → Option ℕ
value_if t v = cond t (Some v) None

-- what a part says as a number
abbrev pub number_of : List ℕ → Option ℕ
number_of f = value_if (is_number f) (value f)

-- the value that was read; none is refusal 1 in a line, 2 in the first line
abbrev pub number_values : Option ℕ → List ℕ
number_values (Some v) = v ∷ []
number_values None = []

-- the value of a part that is a number
abbrev pub number_says : List ℕ → List ℕ
number_says f = cond (is_number f) (value f ∷ []) []

-- ---- writing

-- the digits of n; the first number is how many they are at most
unfoldable pub decimal_of : ℕ → ℕ → List ℕ
decimal_of zero n = []
decimal_of (suc d) n = cond (ltb n 10) ((48 + n) ∷ []) (decimal_of d (n / 10) ++ ((48 + n % 10) ∷ []))

-- a number of the sheet: none is over 7 digits
unfoldable pub decimal : ℕ → List ℕ
decimal n = decimal_of 7 n

-- each number behind a tab
unfoldable pub tabbed : List ℕ → List ℕ
tabbed [] = []
tabbed (n ∷ ns) = tab ∷ (decimal n ++ tabbed ns)

-- a sheet line: its letter and its numbers
unfoldable pub sheet_line : ℕ → List ℕ → List ℕ
sheet_line letter ns = letter ∷ (tabbed ns ++ (newline ∷ []))

-- numbers parted by commas
unfoldable pub commas : List ℕ → List ℕ
commas [] = []
commas (n ∷ ns) = 44 ∷ (decimal n ++ commas ns)

-- the key k behind a comma, where the set m has it
unfoldable pub key_text : ℕ → ℕ → List ℕ
key_text m k = cond (has m k) (44 ∷ decimal k) []

-- "parted by commas, `-` if none"
unfoldable pub keys_text : List ℕ → List ℕ
keys_text [] = minus ∷ []
keys_text (n ∷ ns) = decimal n ++ commas ns

-- xs was written from place at on, and no other byte changed: the bytes l became l', and r is the place behind xs
pub record Wrote (l : List ℕ) (at : ℕ) (xs : List ℕ) (r : ℕ) (l' : List ℕ) : Type 0 where
  pub next : r ≡ at + length xs
  pub bytes : l' ≡ sets l at xs

-- a line where there is room for the most that it can take, and nothing where there is not
unfoldable pub fitted : ℕ → ℕ → List ℕ → List ℕ
fitted most room line = cond (ltb room most) [] line

-- a sheet line that ends in keys
unfoldable pub keys_line : ℕ → List ℕ → List ℕ → List ℕ
keys_line letter ns ks = letter ∷ (tabbed ns ++ (tab ∷ (keys_text ks ++ (newline ∷ []))))

-- no byte is a newline
abbrev pub Unbroken : List ℕ → Type 0
Unbroken [] = Unit {0}
Unbroken (b ∷ bs) = (eqb b newline ≡ false) × Unbroken bs

-- one line with its newline; `bare` is the line without it
pub record OneLine (l : List ℕ) : Type 0 where
  pub bare : List ℕ
  pub unbroken : Unbroken bare
  pub whole : l ≡ bare ++ (newline ∷ [])
