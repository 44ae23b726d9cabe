-- What a reply shows is what its line plays: of a begin, of counted steps, of the key list, of any line.
use Rattle.std.specs.Prelude.{◌≡◌, refl, ℕ, Result, Ok, Err}
use Rattle.rules.specs.Step.{Replied}
use Rattle.rules.specs.declared.state.State.{State}
use Rattle.rules.specs.declared.answer.Refusal.{Refusal}
use Rattle.rules.specs.declared.answer.RunReply.{RunReply}
use Rattle.rules.specs.declared.answer.RunReply as RunReply
use Rattle.sheet.specs.Sheet.{begin_line, run_line, end_form, end_text}
use Rattle.sheet.specs.Shown.{plays}
use Rattle.sheet.specs.declared.shown.SheetLine.{SheetLine}
use Rattle.sheet.specs.declared.shown.SheetLine as SheetLine

-- the sheet line of a begin's reply
abbrev pub begun : ℕ → Result (Unit {0}) Refusal → Result SheetLine Refusal
begun t (Ok u) = Ok (SheetLine.TheVariants.Begun t)
begun t (Err r) = Err r

-- of the reply of counted steps
abbrev pub ran : ℕ → Result RunReply Refusal → Result SheetLine Refusal
ran t (Ok (RunReply.TheVariants.Stops n p)) = Ok (SheetLine.TheVariants.Stops t n p)
ran t (Ok (RunReply.TheVariants.Ends n a c)) = Ok (SheetLine.TheVariants.Ends t n a c)
ran t (Err r) = Err r

-- of the key list
abbrev pub listed : State → Result ℕ Refusal → Result SheetLine Refusal
listed s (Ok ks) = Ok (SheetLine.TheVariants.Keys s.committed s.made ks)
listed s (Err r) = Err r

pub begin_plays : (t : ℕ) (b : Replied (Unit {0})) → plays (begun t b.reply) b.state ≡ begin_line t b.state b.reply
unfolding begin_line
begin_plays t b = go b.reply
  where
    go : (r : Result (Unit {0}) Refusal) → plays (begun t r) b.state ≡ begin_line t b.state r
    go (Ok u) = refl
    go (Err r) = refl

pub run_plays : (t : ℕ) (b : Replied RunReply) → plays (ran t b.reply) b.state ≡ run_line t b.state b.reply
unfolding run_line
run_plays t b = go b.reply
  where
    go : (r : Result RunReply Refusal) → plays (ran t r) b.state ≡ run_line t b.state r
    go (Ok (RunReply.TheVariants.Stops n p)) = refl
    go (Ok (RunReply.TheVariants.Ends n a c)) = refl
    go (Err r) = refl

pub end_plays : (s : State) (r : Result ℕ Refusal) → plays (listed s r) s ≡ end_form s r
unfolding end_form end_text
end_plays s (Ok ks) = refl
end_plays s (Err r) = refl
