-- Laws of reading: fields and lines by the places of their ends, and what a loop over the bytes needs.
use Rattle.std.specs.Prelude.{Bool, true, false, cond, ◌&&◌, List, [], ◌∷◌, ◌≡◌, refl, ℕ, zero, suc, ◌+◌, ◌-◌, ◌*◌, ◌≤◌, ◌<◌, ltb, leb, eqb, length, get_or, take, drop, Option, Some, None}
use Rattle.std.proofs.Math.Bool.{and-eq-true_iff}
use Rattle.std.proofs.Common.{sym, ap, ◌∙◌, zero-le, suc-le-suc, add-one, arith, lt-ltb, le-ltb, leb-true, length-drop, drop-cons, take_all}
use Rattle.std.proofs.Math.Dec.{leb-suc-suc}
use Rattle.std.proofs.lemmas.Option.{none-some, cond_some}
use Rattle.text.specs.Text.{tab, newline, until, onto, fields, lines, digits, is_number, value_from, value, value_if, number_of, number_values, number_says}
use Rattle.text.specs.Reading.{Digit}

pub until-le : (b : ℕ) (l : List ℕ) → until b l ≤ length l
unfolding until
until-le b [] = zero-le
until-le b (x ∷ xs) = go (eqb x b) (until-le b xs)
  where
    go : (t : Bool) → until b xs ≤ length xs → cond t 0 (suc (until b xs)) ≤ suc (length xs)
    go true h = zero-le
    go false h = suc-le-suc h

-- by the byte at i
pub until-at : (b : ℕ) (l : List ℕ) (i : ℕ) → i < length l → until b (drop i l) ≡ cond (eqb (get_or l i 0) b) 0 (suc (until b (drop (suc i) l)))
unfolding until
until-at b l i h = rw (drop-cons l i 0 h)

-- a line is its first field, and behind a tab the other fields
pub fields-cut : (l : List ℕ) → fields l ≡ take (until tab l) l ∷ cond (ltb (until tab l) (length l)) (fields (drop (suc (until tab l)) l)) []
unfolding until fields onto
fields-cut [] = refl
fields-cut (x ∷ xs) = go (eqb x tab) refl (fields-cut xs)
  where
    go : (t : Bool) → eqb x tab ≡ t
        → fields xs ≡ take (until tab xs) xs ∷ cond (ltb (until tab xs) (length xs)) (fields (drop (suc (until tab xs)) xs)) []
        → fields (x ∷ xs) ≡ take (until tab (x ∷ xs)) (x ∷ xs)
        ∷ cond (ltb (until tab (x ∷ xs)) (length (x ∷ xs))) (fields (drop (suc (until tab (x ∷ xs))) (x ∷ xs))) []
    go true e h = simp (e, lt-ltb 0 (suc (length xs)) (suc-le-suc zero-le))
    go false e h = simp (e, h, leb-suc-suc)

pub fields_some : (l : List ℕ) → 1 ≤ length (fields l)
fields_some l = rw fields-cut (suc-le-suc zero-le)

-- a tab begins one more field, and no other byte does
pub count_at : (l : List ℕ) (i : ℕ) → i < length l
    → length (fields (drop i l)) ≡ cond (eqb (get_or l i 0) tab) (suc (length (fields (drop (suc i) l)))) (length (fields (drop (suc i) l)))
unfolding fields onto
count_at l i h = rw (drop-cons l i 0 h) (go (eqb (get_or l i 0) tab) (fields (drop (suc i) l)) (fields_some (drop (suc i) l)))
  where
    go : (t : Bool) (fs : List (List ℕ)) → 1 ≤ length fs → length (cond t ([] ∷ fs) (onto (get_or l i 0) fs)) ≡ cond t (suc (length fs)) (length fs)
    go true fs k = refl
    go false [] k = absurd (omega arith)
    go false (f ∷ fs) k = refl

pub field-first : (l : List ℕ) → get_or (fields l) 0 [] ≡ take (until tab l) l
field-first l = rw (fields-cut l)

-- a later field is one of those behind the first tab
pub field_later : (l : List ℕ) (i : ℕ) → 0 < i → until tab l < length l → get_or (fields l) i [] ≡ get_or (fields (drop (until tab l + 1) l)) (i - 1) []
field_later l zero k h = absurd (omega arith)
field_later l (suc i) k h =
    let e : suc i - 1 ≡ i = omega arith in rw (e, add-one, fields-cut l, lt-ltb (until tab l) (length l) h)

-- with no tab there is none
pub field-none : (l : List ℕ) (i : ℕ) → 0 < i → until tab l ≡ length l → get_or (fields l) i [] ≡ []
field-none l zero k h = absurd (omega arith)
field-none l (suc i) k h = rw (fields-cut l, le-ltb (until tab l) (length l) (omega arith))

-- the part of a line from a place on
pub rest_part : (n : ℕ) (l : List ℕ) → take (length l - n) (drop n l) ≡ drop n l
rest_part n l = take_all (length l - n) (drop n l) (omega (arith, length-drop n l))

-- a file that is not empty is its first line and the other lines
pub lines_cut : (l : List ℕ) → 0 < length l → lines l ≡ take (until newline l) l ∷ lines (drop (suc (until newline l)) l)
unfolding until lines onto
lines_cut [] h = absurd (omega arith)
lines_cut (x ∷ []) h = go (eqb x newline) refl
  where
    go : (t : Bool) → eqb x newline ≡ t
        → lines (x ∷ []) ≡ take (until newline (x ∷ [])) (x ∷ []) ∷ lines (drop (suc (until newline (x ∷ []))) (x ∷ []))
    go true e = simp e
    go false e = simp e
lines_cut (x ∷ y ∷ ys) h = go (eqb x newline) refl (lines_cut (y ∷ ys) (suc-le-suc zero-le))
  where
    go : (t : Bool) → eqb x newline ≡ t
        → lines (y ∷ ys) ≡ take (until newline (y ∷ ys)) (y ∷ ys) ∷ lines (drop (suc (until newline (y ∷ ys))) (y ∷ ys))
        → lines (x ∷ y ∷ ys) ≡ take (until newline (x ∷ y ∷ ys)) (x ∷ y ∷ ys) ∷ lines (drop (suc (until newline (x ∷ y ∷ ys))) (x ∷ y ∷ ys))
    go true e h = simp e
    go false e h = simp (e, h)

-- by the byte at i
pub digits-at : (l : List ℕ) (i : ℕ) → i < length l → digits (drop i l) ≡ (leb 48 (get_or l i 0) && leb (get_or l i 0) 57 && digits (drop (suc i) l))
unfolding digits
digits-at l i h = rw (drop-cons l i 0 h)

pub value-at : (n : ℕ) (l : List ℕ) (i : ℕ) → i < length l → value_from n (drop i l) ≡ value_from (n * 10 + (get_or l i 0 - 48)) (drop (suc i) l)
unfolding value_from
value-at n l i h = rw (drop-cons l i 0 h)

pub digit_at : (l : List ℕ) (i : ℕ) → i < length l → digits (drop i l) ≡ true → Digit l i
digit_at l i h e =
    let t = (and-eq-true_iff (leb 48 (get_or l i 0) && leb (get_or l i 0) 57) (digits (drop (suc i) l))).0 (sym (digits-at l i h) ∙ e) in
    let u = (and-eq-true_iff (leb 48 (get_or l i 0)) (leb (get_or l i 0) 57)).0 t.0 in
    record { low = leb-true 48 (get_or l i 0) u.0; high = leb-true (get_or l i 0) 57 u.1; others = t.1 }

-- a number is at most 7 digits
pub number_digits : (f : List ℕ) → is_number f ≡ true → (length f ≤ 7) × (digits f ≡ true)
unfolding is_number
number_digits f e =
    let t = (and-eq-true_iff (leb 1 (length f) && leb (length f) 7 && digits f) _).0 e in
    let u = (and-eq-true_iff (leb 1 (length f) && leb (length f) 7) (digits f)).0 t.0 in
    (leb-true (length f) 7 ((and-eq-true_iff (leb 1 (length f)) (leb (length f) 7)).0 u.0).1, u.1)

-- what is known where a value was read
pub value_if_lem : (t : Bool) (v w : ℕ) → value_if t v ≡ Some w → (t ≡ true) × (v ≡ w)
unfolding value_if
value_if_lem t v w e = cond_some t v w e

-- and where none was
pub slip_if : (t : Bool) (v : ℕ) → value_if t v ≡ None → t ≡ false
unfolding value_if
slip_if true v e = absurd (none-some v (sym e))
slip_if false v e = refl

-- the other way round
pub value_made : (t : Bool) (v w : ℕ) → t ≡ true → v ≡ w → Some w ≡ value_if t v
unfolding value_if
value_made t v w e f = rw (e, f)

pub slip_made : (t : Bool) (v : ℕ) → t ≡ false → None ≡ value_if t v
unfolding value_if
slip_made t v e = rw e

-- with what a part says as a number, its value
pub number_says_lem : (f : List ℕ) (r : Option ℕ) → r ≡ number_of f → (r ≡ number_of f) × (number_values r ≡ number_says f)
unfolding value_if
number_says_lem f r e = (e, ap number_values e ∙ by (is_number f) (value f))
  where
    by : (t : Bool) (v : ℕ) → number_values (cond t (Some v) None) ≡ cond t (v ∷ []) []
    by true v = refl
    by false v = refl
