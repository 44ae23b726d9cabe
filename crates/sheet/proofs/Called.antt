-- What follows of the answer of a line call, and how a call comes to it.
use Rattle.std.specs.Prelude.{List, ◌≡◌, refl, ℕ, ◌≤◌, length, take, Option}
use Rattle.std.proofs.Common.{sym, ◌∙◌, arith, le-ltb}
use Rattle.rules.specs.declared.state.State.{State}
use Rattle.rules.specs.declared.answer.Refusal.{Refusal}
use Rattle.text.specs.Text.{Wrote, fitted}
use Rattle.text.proofs.Writing.{front_read}
use Rattle.sheet.specs.Sheet.{Played, silent}
use Rattle.sheet.specs.declared.calls.Answer.{Answer}
use Rattle.sheet.specs.Called.{answer, silently, Called}

-- two answers that the same line call allows are equal, and so are the states after and each byte of the room
pub called_same : {p : Played} {l l₁ l₂ : List ℕ} {a₁ a₂ : Answer} {s₁ s₂ : State} → Called p l a₁ s₁ l₁ → Called p l a₂ s₂ l₂
    → (a₁ ≡ a₂) × ((s₁ ≡ s₂) × (l₁ ≡ l₂))
called_same c d = (c.reply ∙ sym d.reply, (c.state ∙ sym d.state, c.bytes ∙ sym d.bytes))

-- the sheet line stands at the front of the room, as long as was answered
pub called_read : {p : Played} {l l' : List ℕ} {r : Answer} {s' : State} → Called p l r s' l' → length p.sheet ≤ length l → take r.length l' ≡ p.sheet
called_read {p} {l} c h = rw (c.reply, c.bytes) (front_read l p.sheet h)

-- a line that fits is written
pub fits_wrote : {l l' : List ℕ} {r : ℕ} (most : ℕ) (line : List ℕ) → Wrote l 0 (fitted most (length l) line) r l' → most ≤ length l → Wrote l 0 line r l'
unfolding fitted
fits_wrote {l} most line w h = rw (le-ltb (length l) most h) at w

-- a written line is answered by its length
pub called_wrote : {l l' : List ℕ} {r : ℕ} (f : Option Refusal) (s : State) (line : List ℕ) → Wrote l 0 line r l'
    → Called (record { refused = f; state = s; sheet = line }) l (answer f r) s l'
called_wrote {l} {l'} {r} f s line v =
    let e : r ≡ length line = omega (arith, v.next) in
    record { reply = rw e; state = refl; bytes = v.bytes }

-- both
pub called_line : {l l' : List ℕ} {r : ℕ} (f : Option Refusal) (s : State) (most : ℕ) (line : List ℕ) → Wrote l 0 (fitted most (length l) line) r l'
    → most ≤ length l → Called (record { refused = f; state = s; sheet = line }) l (answer f r) s l'
called_line f s most line w h = called_wrote f s line (fits_wrote most line w h)

-- nothing was written
pub called_silent : {l : List ℕ} {r : Answer} (f : Refusal) (s : State) → r ≡ silently f → Called (silent s f) l r s l
called_silent f s e = record { reply = e; state = refl; bytes = refl }
