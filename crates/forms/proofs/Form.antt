-- What the forms of lines say: settings in range, and the answer of each form by its number and values.
use Rattle.std.specs.Prelude.{Bool, true, false, cond, not, ◌||◌, List, [], ◌∷◌, ◌≡◌, refl, ℕ, Option, Some, None}
use Rattle.std.proofs.Common.{ap, ◌∙◌}
use Rattle.std.proofs.lemmas.Option.{none-some, cond_some}
use Rattle.rules.specs.Range.{settings_in_range}
use Rattle.rules.specs.Refusals.{first, refusal_of}
use Rattle.rules.specs.declared.state.Settings.{Settings}
use Rattle.text.specs.Text.{fields, value}
use Rattle.forms.specs.declared.Line as Line
use Rattle.forms.specs.Form.{field, is_first, settings_of, settings_form, ranged, first_form, operation_of, is_begin, is_steps, line_form, first_number, first_values, first_order, first_says, line_number, line_values, line_order, line_says}

-- the settings of an accepted line are in range
pub first_in_range : (l : List ℕ) (c : Settings) → first_form l ≡ Some c → settings_in_range c ≡ true
unfolding first_form ranged
first_in_range l c e = go (settings_form (fields l)) e
  where
    go : (f : Option Settings) → ranged f ≡ Some c → settings_in_range c ≡ true
    go None e = absurd (none-some c e)
    go (Some d) e = let p = cond_some (settings_in_range d) d c e in rw p.1 at p.0

-- with the answer on a first line, its number by the order and its values by the line
pub first_says_lem : (l : List ℕ) (r : Option Settings) → r ≡ first_form l
    → (r ≡ first_form l) × ((first_number r ≡ refusal_of (first_order l)) × (first_values r ≡ first (first_order l) (λ n. []) (first_says l)))
unfolding first_form ranged settings_form settings_of
first_says_lem l r e = let b = by (is_first (fields l)) (settings_of (fields l)) in (e, (ap first_number e ∙ b.0, ap first_values e ∙ b.1))
  where
    at : (c : Settings) (t : Bool)
        → (first_number (cond t (Some c) None) ≡ cond (not t) 2 0)
        × (first_values (cond t (Some c) None) ≡ cond (not t) [] (c.succ ∷ c.fail ∷ c.low ∷ c.max ∷ []))
    at c true = (refl, refl)
    at c false = (refl, refl)

    by : (t : Bool) (c : Settings)
        → (first_number (ranged (cond t (Some c) None)) ≡ cond (not t) 2 (cond (not (settings_in_range c)) 2 0))
        × (first_values (ranged (cond t (Some c) None))
        ≡ cond (not t) [] (cond (not (settings_in_range c)) [] (c.succ ∷ c.fail ∷ c.low ∷ c.max ∷ [])))
    by true c = at c (settings_in_range c)
    by false c = (refl, refl)

-- with the answer on another line, its number by the order and its values by the line
pub line_says_lem : (l : List ℕ) (r : Option Line.Line) → r ≡ line_form l
    → (r ≡ line_form l) × ((line_number r ≡ refusal_of (line_order l)) × (line_values r ≡ first (line_order l) (λ n. []) (line_says l)))
unfolding line_form
line_says_lem l r e =
    let v : ℕ → ℕ = λ i. value (field (fields l) i) in
    let b = by (is_begin (fields l)) (is_steps (fields l)) (v 1) (operation_of (field (fields l) 2)) (v 3) (v 1) (v 2) in
    (e, (ap line_number e ∙ b.0, ap line_values e ∙ b.1))
  where
    by : (a b : Bool) (t o k s n : ℕ)
        → (line_number (cond a (Some (Line.TheVariants.Begin t o k)) (cond b (Some (Line.TheVariants.Steps s n)) None)) ≡ cond (not (a || b)) 1 0)
        × (line_values (cond a (Some (Line.TheVariants.Begin t o k)) (cond b (Some (Line.TheVariants.Steps s n)) None))
        ≡ cond (not (a || b)) [] (cond a (t ∷ o ∷ k ∷ []) (s ∷ n ∷ [])))
    by true b t o k s n = (refl, refl)
    by false true t o k s n = (refl, refl)
    by false false t o k s n = (refl, refl)
