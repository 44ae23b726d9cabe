-- One call of the player: what it writes, and where the play stands then.
use Rattle.std.specs.Prelude.{Bool, true, false, cond, List, [], ◌≡◌, refl, ℕ, ◌+◌, ◌≤◌, ltb, leb, eqb, length, take, drop, Option, Some, None, is_none}
use Rattle.std.proofs.Common.{sym, ◌∙◌, zero-le, arith, ltb-false}
use Rattle.std.proofs.lemmas.List.Edits.{sets}
use Rattle.rules.specs.State.{fresh}
use Rattle.rules.specs.Step.{zero_settings}
use Rattle.rules.specs.declared.state.State.{State}
use Rattle.text.specs.Text.{newline, until}
use Rattle.text.proofs.Writing.{front_read}
use Rattle.sheet.specs.Sheet.{Played, narrow, refusal, first_of, line_of, end_of}
use Rattle.sheet.specs.Called.{Called}
use Rattle.sheet.proofs.Lengths.{refusal_short, line_fits, end_fits, first_fits}
use Rattle.sheet.specs.declared.calls.Answer.{Answer}
use Rattle.player.specs.declared.Player.{Player}
use Rattle.rules.specs.Refusals.{number}
use Rattle.rules.specs.declared.answer.Refusal.{Refusal}
use Rattle.rules.specs.declared.answer.Refusal.TheVariants.{LittleRoom, TooLong}

-- what a call gives: the last refusal, if there is one, the sheet line, and where the play stands then
pub record Out : Type 0 where
  pub refused : Option Refusal
  pub sheet : List ℕ
  pub player : Player

-- a play that stands at this byte, in this stage and state
abbrev pub standing : ℕ → ℕ → State → Player
standing at stage s = record { at = at; stage = stage; state = s }

-- nothing is played yet
unfoldable pub opened : Player
opened = standing 0 0 (fresh zero_settings)

-- what a line call did, and where the play stands then
abbrev pub out : Played → ℕ → ℕ → Out
out q at stage = record { refused = q.refused; sheet = q.sheet; player = standing at stage q.state }

-- a line of some bytes: those before the first newline
abbrev pub front : List ℕ → List ℕ
front l = take (until newline l) l

-- the first line, without its newline
abbrev pub first_play : ℕ → List ℕ → Played
first_play room file = first_of room (front file)

-- "A file too long gives `X 12` alone"; the settings line, after which the lines follow or, if it is refused, nothing
unfoldable pub first_turn : ℕ → List ℕ → Player → Out
first_turn room file p =
    cond (ltb 60000 (length file)) (record { refused = Some TooLong; sheet = refusal (number TooLong); player = standing p.at 2 p.state })
    (cond (is_none (first_play room file).refused) (out (first_play room file) (until newline file + 1) 1) (out (first_play room file) p.at 2))

-- "one line for each schedule line, then `E`"
unfoldable pub line_turn : ℕ → List ℕ → Player → Out
line_turn room file p =
    cond (leb (length file) p.at) (out (end_of room p.state) p.at 2)
    (out (line_of room p.state (front (drop p.at file))) (p.at + until newline (drop p.at file) + 1) 1)

-- a call that writes nothing
abbrev pub silently : Option Refusal → Player → Out
silently f p = record { refused = f; sheet = []; player = p }

-- one call; 9 for a room that is too small
unfoldable pub turn_of : ℕ → List ℕ → Player → Out
turn_of room file p =
    cond (narrow room) (silently (Some LittleRoom) p)
    (cond (eqb p.stage 0) (first_turn room file p) (cond (eqb p.stage 1) (line_turn room file p) (silently None p)))

-- what a call answers, and where the play stands then
pub record Turn : Type 0 where
  pub refused : Option Refusal
  pub length : ℕ
  pub player : Player

-- a turn with this refusal, if there is one, line length and player
abbrev pub turn : Option Refusal → ℕ → Player → Turn
turn f size p = record { refused = f; length = size; player = p }

-- a turn by its answer
abbrev pub turned_to : Answer → Player → Turn
turned_to a p = turn a.refused a.length p

-- the bytes l of the room became l', and r was answered: o's refusal, sheet line and player, and no other byte changed
pub record Turned (o : Out) (l : List ℕ) (r : Turn) (l' : List ℕ) : Type 0 where
  pub reply : r ≡ turn o.refused (length o.sheet) o.player
  pub bytes : l' ≡ sets l 0 o.sheet

-- two turns that the same call allows are equal, and so is each byte of the room
pub turned_same : {o : Out} {l l₁ l₂ : List ℕ} {r₁ r₂ : Turn} → Turned o l r₁ l₁ → Turned o l r₂ l₂ → (r₁ ≡ r₂) × (l₁ ≡ l₂)
turned_same t u = (t.reply ∙ sym u.reply, t.bytes ∙ sym u.bytes)

-- the line stands at the front of the room, as long as was answered
pub turned_read : {o : Out} {l l' : List ℕ} {r : Turn} → Turned o l r l' → length o.sheet ≤ length l → take r.length l' ≡ o.sheet
turned_read {o} {l} t h = rw (t.reply, t.bytes) (front_read l o.sheet h)

-- one of two that fit
either_fits : (room : ℕ) (t : Bool) (o q : Out) → length o.sheet ≤ room → length q.sheet ≤ room → length (cond t o q).sheet ≤ room
either_fits room true o q h k = h
either_fits room false o q h k = k

-- every line fits into its room
pub turn_fits : (room : ℕ) (file : List ℕ) (p : Player) → length (turn_of room file p).sheet ≤ room
unfolding turn_of first_turn line_turn
turn_fits room file p = go (narrow room) refl
  where
    first : 256 ≤ room → length (first_turn room file p).sheet ≤ room
    first h =
        either_fits room (ltb 60000 (length file)) _ _ (omega (arith, refusal_short (number TooLong)))
        (either_fits room (is_none (first_play room file).refused) _ _ (first_fits room (front file)) (first_fits room (front file)))

    line : length (line_turn room file p).sheet ≤ room
    line = either_fits room (leb (length file) p.at) _ _ (end_fits room p.state) (line_fits room p.state (front (drop p.at file)))

    go : (t : Bool) → narrow room ≡ t
        → length (cond t (silently (Some LittleRoom) p) (cond (eqb p.stage 0) (first_turn room file p) (cond (eqb p.stage 1) (line_turn room file p) (silently None p)))).sheet ≤ room
    go true h = zero-le
    go false h = either_fits room (eqb p.stage 0) _ _ (first (ltb-false room 256 h)) (either_fits room (eqb p.stage 1) _ _ line zero-le)

-- what a line call did to the room is what the call of the player did
pub turned_called : {q : Played} {l l' : List ℕ} {a : Answer} {s : State} → Called q l a s l' → (at stage : ℕ)
    → Turned (out q at stage) l (turn a.refused a.length (standing at stage s)) l'
turned_called {q} {l} {l'} {a} c at stage = record { reply = rw (c.reply, c.state); bytes = c.bytes }
