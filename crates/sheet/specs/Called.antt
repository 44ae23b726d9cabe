-- What the contract of a line call says: its answer, the state after and every byte of the room.
use Rattle.std.specs.Prelude.{List, ◌≡◌, ℕ, length, Option, Some}
use Rattle.std.proofs.lemmas.List.Edits.{sets}
use Rattle.rules.specs.declared.state.State.{State}
use Rattle.rules.specs.declared.answer.Refusal.{Refusal}
use Rattle.sheet.specs.Sheet.{Played}
use Rattle.sheet.specs.declared.calls.Answer.{Answer}

-- an answer with this refusal, if it is one, and line length
abbrev pub answer : Option Refusal → ℕ → Answer
answer r size = record { refused = r; length = size }

-- a refusal that writes nothing
abbrev pub silently : Refusal → Answer
silently r = answer (Some r) 0

-- r was answered, the state is s', and the bytes l of the room became l': p's refusal, state and sheet line, and no other byte changed
pub record Called (p : Played) (l : List ℕ) (r : Answer) (s' : State) (l' : List ℕ) : Type 0 where
  pub reply : r ≡ answer p.refused (length p.sheet)
  pub state : s' ≡ p.state
  pub bytes : l' ≡ sets l 0 p.sheet
