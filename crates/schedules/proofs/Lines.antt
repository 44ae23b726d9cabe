-- Each sheet line is one line, and is `X 8` only where its line is refused with 8.
use Rattle.std.specs.Prelude.{false, List, [], ◌∷◌, ◌≡◌, refl, ℕ, eqb, get_or, Option, Some, None, Ok, Err, Result}
use Rattle.std.proofs.Common.{ap, arith}
use Rattle.keys.specs.Keys.{list_of}
use Rattle.rules.specs.Step.{begin_of, run_of}
use Rattle.rules.specs.declared.state.State.{State}
use Rattle.text.specs.Text.{newline, sheet_line, keys_line}
use Rattle.text.proofs.Writing.{sheet_line-one, keys-line-one}
use Rattle.forms.specs.declared.Line as Line
use Rattle.sheet.specs.Sheet.{refusal, begin_line, run_line, play_form, end_text, end_form}
use Rattle.schedules.specs.Lines.{Shown}
use Rattle.schedules.proofs.RefusedLines.{refused_shown}
use Rattle.rules.specs.declared.answer.Refusal.{Refusal}
use Rattle.rules.specs.declared.answer.RunReply.{RunReply}
use Rattle.rules.specs.declared.answer.RunReply as RunReply
use Rattle.rules.specs.Refusals.{reply_number, number, number_in}

-- one with another letter
pub wrote_shown : (letter : ℕ) (ns : List ℕ) → eqb letter newline ≡ false → (letter ≡ 88 → ⊥) → Shown 0 (sheet_line letter ns)
unfolding refusal sheet_line
wrote_shown letter ns e d =
    record { one = sheet_line-one letter ns e; eight = λ z. absurd (d (ap (λ (l : List ℕ). get_or l 0 0) z)) }

begin_shown : (t : ℕ) (s : State) (r : Result (Unit {0}) Refusal) → Shown (number_in (begin_line t s r).refused) (begin_line t s r).sheet
unfolding begin_line
begin_shown t s (Ok u) = wrote_shown 66 (t ∷ []) refl (λ e. omega arith)
begin_shown t s (Err r) = refused_shown (number r)

run_shown : (t : ℕ) (s : State) (r : Result RunReply Refusal) → Shown (number_in (run_line t s r).refused) (run_line t s r).sheet
unfolding run_line
run_shown t s (Ok (RunReply.TheVariants.Stops n p)) = wrote_shown 83 (t ∷ n ∷ p ∷ []) refl (λ e. omega arith)
run_shown t s (Ok (RunReply.TheVariants.Ends n a c)) = wrote_shown 68 (t ∷ n ∷ a ∷ c ∷ []) refl (λ e. omega arith)
run_shown t s (Err r) = refused_shown (number r)

-- that of a schedule line
pub form_shown : (s : State) (f : Option Line.Line) → Shown (number_in (play_form s f).refused) (play_form s f).sheet
unfolding play_form
form_shown s (Some (Line.TheVariants.Begin t o k)) = begin_shown t (begin_of s t o k).state (begin_of s t o k).reply
form_shown s (Some (Line.TheVariants.Steps t n)) = run_shown t (run_of s t n).state (run_of s t n).reply
form_shown s None = refused_shown 1

-- `E`, by what the key list answers
pub end_shown : (s : State) (r : Result ℕ Refusal) → Shown (reply_number r) (end_form s r).sheet
unfolding end_form end_text keys_line refusal sheet_line
end_shown s (Ok ks) =
    record {
      one = keys-line-one 69 (s.committed ∷ s.made ∷ []) (list_of ks) refl;
      eight = λ z. let e : ◌≡◌ {A = ℕ} 69 88 = ap (λ (l : List ℕ). get_or l 0 0) z in absurd (omega arith);
    }
end_shown s (Err r) = refused_shown (number r)
