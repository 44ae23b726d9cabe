-- Every sheet line is at most 256 bytes: it fits into its room, and can be read back from there.
use Rattle.std.specs.Prelude.{Bool, true, false, cond, not, List, [], ◌∷◌, ◌≡◌, refl, ℕ, ◌≤◌, length, take, Option, Some, None, Result, Ok, Err}
use Rattle.std.proofs.Common.{zero-le, arith, ltb-false}
use Rattle.rules.specs.Range.{in_range}
use Rattle.rules.specs.List.{key_list_of}
use Rattle.rules.specs.Step.{begin_of, run_of}
use Rattle.rules.specs.declared.state.State.{State}
use Rattle.rules.specs.Refusals.{number}
use Rattle.rules.specs.declared.state.Settings.{Settings}
use Rattle.rules.specs.declared.answer.Refusal.{Refusal}
use Rattle.rules.specs.declared.answer.Refusal.TheVariants.{LittleRoom, OutOfRange}
use Rattle.rules.specs.declared.answer.RunReply.{RunReply}
use Rattle.rules.specs.declared.answer.RunReply.TheVariants.{Stops, Ends}
use Rattle.text.proofs.Writing.{line-length, keys-line-length}
use Rattle.forms.specs.Form.{first_form, line_form}
use Rattle.forms.specs.declared.Line.{Line}
use Rattle.forms.specs.declared.Line.TheVariants.{Begin, Steps}
use Rattle.sheet.specs.Sheet.{Played, silent, narrow, refusal, begin_line, run_line, play_form, line_of, end_text, end_form, end_of, first_played, first_of}
use Rattle.sheet.specs.Called.{Called}
use Rattle.sheet.proofs.Called.{called_read}
use Rattle.sheet.specs.declared.calls.Answer.{Answer}

pub refusal_short : (n : ℕ) → length (refusal n) ≤ 256
unfolding refusal
refusal_short n = omega (arith, line-length 88 (n ∷ []))

begin_short : (t : ℕ) (s : State) (r : Result (Unit {0}) Refusal) → length (begin_line t s r).sheet ≤ 256
unfolding begin_line
begin_short t s (Ok u) = omega (arith, line-length 66 (t ∷ []))
begin_short t s (Err r) = refusal_short (number r)

run_short : (t : ℕ) (s : State) (r : Result RunReply Refusal) → length (run_line t s r).sheet ≤ 256
unfolding run_line
run_short t s (Ok (Stops n p)) = omega (arith, line-length 83 (t ∷ n ∷ p ∷ []))
run_short t s (Ok (Ends n a c)) = omega (arith, line-length 68 (t ∷ n ∷ a ∷ c ∷ []))
run_short t s (Err r) = refusal_short (number r)

pub form_short : (s : State) (f : Option Line) → length (play_form s f).sheet ≤ 256
unfolding play_form
form_short s (Some (Begin t o k)) = begin_short t (begin_of s t o k).state (begin_of s t o k).reply
form_short s (Some (Steps t n)) = run_short t (run_of s t n).state (run_of s t n).reply
form_short s None = refusal_short 1

pub end_short : (s : State) (r : Result ℕ Refusal) → length (end_form s r).sheet ≤ 256
unfolding end_form end_text
end_short s (Ok ks) = omega (arith, keys-line-length 69 (s.committed ∷ s.made ∷ []) ks)
end_short s (Err r) = refusal_short (number r)

pub first_short : (f : Option Settings) → length (first_played f).sheet ≤ 256
unfolding first_played
first_short (Some c) = omega (arith, line-length 82 [])
first_short None = refusal_short 2

-- what is written in a room of at least 256 bytes only, and is no longer, fits
narrow_fits : (room : ℕ) (s : State) (p : Played) → length p.sheet ≤ 256 → length (cond (narrow room) (silent s LittleRoom) p).sheet ≤ room
narrow_fits room s p h = go (narrow room) refl
  where
    go : (t : Bool) → narrow room ≡ t → length (cond t (silent s LittleRoom) p).sheet ≤ room
    go true e = zero-le
    go false e = omega (arith, ltb-false room 256 e)

-- and so does what is written in a state in range only
range_short : (s : State) (p : Played) → length p.sheet ≤ 256 → length (cond (not (in_range s)) (silent s OutOfRange) p).sheet ≤ 256
range_short s p h = go (in_range s)
  where
    go : (t : Bool) → length (cond (not t) (silent s OutOfRange) p).sheet ≤ 256
    go true = h
    go false = zero-le

pub line_fits : (room : ℕ) (s : State) (l : List ℕ) → length (line_of room s l).sheet ≤ room
unfolding line_of
line_fits room s l = narrow_fits room s _ (range_short s _ (form_short s (line_form l)))

pub end_fits : (room : ℕ) (s : State) → length (end_of room s).sheet ≤ room
unfolding end_of
end_fits room s = narrow_fits room s _ (range_short s _ (end_short s (key_list_of s)))

pub first_fits : (room : ℕ) (l : List ℕ) → length (first_of room l).sheet ≤ room
unfolding first_of
first_fits room l = narrow_fits room _ _ (first_short (first_form l))

-- What a line call writes is read back by the length that it answers.
pub line_read : {l l' : List ℕ} {r : Answer} {s' : State} (s : State) (line : List ℕ) → Called (line_of (length l) s line) l r s' l'
    → take r.length l' ≡ (line_of (length l) s line).sheet
line_read {l} s line c = called_read c (line_fits (length l) s line)

pub end_read : {l l' : List ℕ} {r : Answer} {s' : State} (s : State) → Called (end_of (length l) s) l r s' l' → take r.length l' ≡ (end_of (length l) s).sheet
end_read {l} s c = called_read c (end_fits (length l) s)

pub first_read : {l l' : List ℕ} {r : Answer} {s' : State} (line : List ℕ) → Called (first_of (length l) line) l r s' l'
    → take r.length l' ≡ (first_of (length l) line).sheet
first_read {l} line c = called_read c (first_fits (length l) line)
