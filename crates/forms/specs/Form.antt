-- "Schedule and key sheet": the forms of the schedule's lines.
use Rattle.std.specs.Prelude.{Bool, true, cond, not, ◌&&◌, ◌||◌, List, [], ◌∷◌, ℕ, eqb, length, get_or, drop, Option, Some, None}
use Rattle.rules.specs.Range.{settings_in_range}
use Rattle.rules.specs.Refusals.{number, Ground, ◌if◌}
use Rattle.rules.specs.declared.answer.Refusal.{Refusal}
use Rattle.rules.specs.declared.answer.Refusal.TheVariants.{NotOfTheForms, BadSettings}
use Rattle.rules.specs.declared.state.Settings.{Settings}
use Rattle.text.specs.Text.{minus, fields, is_letter, is_number, value, value_if}
use Rattle.forms.specs.declared.Line as Line

-- field i of some fields
abbrev pub field : List (List ℕ) → ℕ → List ℕ
field fs i = get_or fs i []

-- "min may have a minus before a number that isn't 0": the number behind the minus
unfoldable pub is_below : List ℕ → Bool
is_below f = eqb (get_or f 0 0) minus && is_number (drop 1 f) && not (eqb (value (drop 1 f)) 0)

-- min is a number, which is in range only if it is 0, or lies below 0
unfoldable pub is_min : List ℕ → Bool
is_min f = cond (is_below f) true (is_number f && eqb (value f) 0)

-- how far min lies below 0
unfoldable pub low_of : List ℕ → ℕ
low_of f = cond (is_below f) (value (drop 1 f)) 0

-- what a field says as a number below 0
abbrev pub below_read : List ℕ → Option ℕ
below_read f = value_if (is_below f) (value (drop 1 f))

-- what a field says as min
abbrev pub low_read : List ℕ → Option ℕ
low_read f = value_if (is_min f) (low_of f)

-- `R succ fail min max`
unfoldable pub is_first : List (List ℕ) → Bool
is_first fs =
    eqb (length fs) 5 && is_letter 82 (field fs 0) && is_number (field fs 1) && is_number (field fs 2) && is_min (field fs 3)
    && is_number (field fs 4)

-- the settings of such a line
unfoldable pub settings_of : List (List ℕ) → Settings
settings_of fs =
    record { succ = value (field fs 1); fail = value (field fs 2); low = low_of (field fs 3); max = value (field fs 4) }

-- a settings line, in range or not; none is a slip
unfoldable pub settings_form : List (List ℕ) → Option Settings
settings_form fs = cond (is_first fs) (Some (settings_of fs)) None

-- settings out of range are a slip
unfoldable pub ranged : Option Settings → Option Settings
ranged (Some c) = cond (settings_in_range c) (Some c) None
ranged None = None

-- a settings line in range, or a slip
unfoldable pub first_form : List ℕ → Option Settings
first_form l = ranged (settings_form (fields l))

-- "op `I`, `D` or `L`"
unfoldable pub is_operation : List ℕ → Bool
is_operation f = cond (is_letter 73 f) true (cond (is_letter 68 f) true (is_letter 76 f))

-- "insert, delete, lookup, numbered 0, 1, 2"
unfoldable pub operation_of : List ℕ → ℕ
operation_of f = cond (is_letter 73 f) 0 (cond (is_letter 68 f) 1 2)

-- the operation that a field names
abbrev pub operation_read : List ℕ → Option ℕ
operation_read f = value_if (is_operation f) (operation_of f)

-- `B thread op key`
unfoldable pub is_begin : List (List ℕ) → Bool
is_begin fs =
    eqb (length fs) 4 && is_letter 66 (field fs 0) && is_number (field fs 1) && is_operation (field fs 2) && is_number (field fs 3)

-- `S thread n`
unfoldable pub is_steps : List (List ℕ) → Bool
is_steps fs = eqb (length fs) 3 && is_letter 83 (field fs 0) && is_number (field fs 1) && is_number (field fs 2)

-- what a line other than the first says: "Nothing else is allowed"
unfoldable pub line_form : List ℕ → Option Line.Line
line_form l =
    cond (is_begin (fields l))
    (Some (Line.TheVariants.Begin (value (field (fields l) 1)) (operation_of (field (fields l) 2)) (value (field (fields l) 3))))
    (cond (is_steps (fields l)) (Some (Line.TheVariants.Steps (value (field (fields l) 1)) (value (field (fields l) 2)))) None)

-- ---- document 01's number and values for each case of the two answers, and what the line says that they are

-- "2 the first line is .. not a settings line in range"
abbrev pub first_slip : Refusal
first_slip = BadSettings

-- its number; 0 for a settings line in range
abbrev pub first_number : Option Settings → ℕ
first_number (Some c) = 0
first_number None = number first_slip

-- succ, fail, how far min lies below 0, max
abbrev pub first_values : Option Settings → List ℕ
first_values (Some c) = c.succ ∷ c.fail ∷ c.low ∷ c.max ∷ []
first_values None = []

-- "2 the first line is .. not a settings line in range": not one, or not in range
abbrev pub first_order : List ℕ → List Ground
first_order l = (first_slip if not (is_first (fields l))) ∷ (first_slip if not (settings_in_range (settings_of (fields l)))) ∷ []

-- the values of an accepted first line: `R succ fail min max`
abbrev pub first_says : List ℕ → List ℕ
first_says l =
    value (field (fields l) 1) ∷ value (field (fields l) 2) ∷ low_of (field (fields l) 3) ∷ value (field (fields l) 4) ∷ []

-- "1 a line .. is not of the forms"
abbrev pub line_slip : Refusal
line_slip = NotOfTheForms

-- its number; 0 for a line of the forms
abbrev pub line_number : Option Line.Line → ℕ
line_number (Some (Line.TheVariants.Begin t o k)) = 0
line_number (Some (Line.TheVariants.Steps t n)) = 0
line_number None = number line_slip

-- "B thread op key", "S thread n"
abbrev pub line_values : Option Line.Line → List ℕ
line_values (Some (Line.TheVariants.Begin t o k)) = t ∷ o ∷ k ∷ []
line_values (Some (Line.TheVariants.Steps t n)) = t ∷ n ∷ []
line_values None = []

-- "1 a line .. is not of the forms"
abbrev pub line_order : List ℕ → List Ground
line_order l = (line_slip if not (is_begin (fields l) || is_steps (fields l))) ∷ []

-- the values of an accepted line: `B thread op key`, else `S thread n`
abbrev pub line_says : List ℕ → List ℕ
line_says l =
    cond (is_begin (fields l)) (value (field (fields l) 1) ∷ operation_of (field (fields l) 2) ∷ value (field (fields l) 3) ∷ [])
    (value (field (fields l) 1) ∷ value (field (fields l) 2) ∷ [])
