-- What the calls of the player leave in the lent rooms, put together, is the sheet of the file.
use Rattle.std.specs.Prelude.{Bool, cond, ◌≡◌, eqb, take, drop, Option, Some, None, is_none}
use Rattle.std.proofs.Math.Bool.{true, false, and-eq-true_iff}
use mathlib.Core.List.{List, [], ◌∷◌, ◌++◌, append-nil, append_assoc}
use Rattle.std.proofs.Math.Path.{refl, sym, ap}
use Rattle.std.proofs.Common.{◌∙◌, add-one, drop_of_length-le, length-drop, drop-drop}
use Prim.Native.Nat.{ℕ, zero, suc, ◌+◌, ◌-◌, ◌≤◌, ◌<◌, zero-le}
use Rattle.std.proofs.Math.Decide.{dec_le}
use native.Mathlib.Omega.{arith}
use borrow.Author.Tests.{lt-ltb, le-ltb, le-leb, lt-leb, ltb-false, not-true}
use Rattle.std.proofs.Math.ListN.{length, length-append}
use Rattle.std.proofs.Math.Seq.{length-sets}
use Rattle.rules.specs.declared.state.Settings.{Settings}
use Rattle.rules.specs.State.{fresh}
use Rattle.rules.specs.List.{key_list_of}
use Rattle.rules.specs.Range.{in_range}
use Rattle.rules.specs.declared.state.State.{State}
use Rattle.states.specs.Kept.{begin_in_range, run_in_range, fresh_in_range}
use Rattle.text.specs.Text.{newline, until, fields, is_letter, lines}
use Rattle.text.proofs.Reading.{lines_cut}
use Rattle.forms.specs.Form.{is_first, settings_form, ranged, first_form, line_form}
use Rattle.forms.proofs.Form.{first_in_range}
use Rattle.sheet.proofs.States.{begin_state, run_state}
use Rattle.sheet.specs.Sheet.{narrow, refusal, first_played, first_of, play_form, play_lines, line_of, end_of, end_form, play_first, play_all, sheet_of}
use Rattle.forms.specs.declared.Line as Line
use Rattle.player.specs.Turns.{Turn, Out, standing, out, front, opened, first_turn, line_turn, turn_of, turn_fits, Turned, turned_read}
use Rattle.player.specs.Several.{behind, goes_on, turns_of, several_of}
use Rattle.player.specs.declared.Player.{Player}
use Rattle.rules.specs.Refusals.{number}
use Rattle.rules.specs.declared.answer.Refusal.TheVariants.{TooLong}

-- ---- calls

-- a call: the room that was lent, what was answered, and the room then
pub record Call : Type 0 where
  pub before : List ℕ
  pub answered : Turn
  pub after : List ℕ

-- calls one after the other from p on: each has 256 bytes of room or more, does what its contract says, and hands its player to the next
pub data Calls (does : ℕ → List ℕ → Player → Out) (file : List ℕ) : Player → List Call → Type 0 where
  none : {p : Player} → Calls does file p []
  call : {p : Player} (c : Call) {cs : List Call} → 256 ≤ length c.before
      → Turned (does (length c.before) file p) c.before c.answered c.after
      → Calls does file c.answered.player cs
      → Calls does file p (c ∷ cs)

-- the bytes that calls leave at the front of their rooms, as many as they answer, put together
unfoldable pub taken : List Call → List ℕ
taken [] = []
taken (c ∷ cs) = take c.answered.length c.after ++ taken cs

-- where calls leave the play
unfoldable pub reached : Player → List Call → Player
reached p [] = p
reached p (c ∷ cs) = reached c.answered.player cs

-- ---- what is still to be written

-- a play that began with `opened`: xs is what it has still to write
pub data Rest (file : List ℕ) (p : Player) (xs : List ℕ) : Type 0 where
  before : p ≡ opened → xs ≡ sheet_of file → Rest file p xs
  among : (at : ℕ) (s : State) → p ≡ standing at 1 s → in_range s ≡ true → xs ≡ play_lines s (lines (drop at file)) → Rest file p xs
  ended : (at : ℕ) (s : State) → p ≡ standing at 2 s → xs ≡ [] → Rest file p xs

-- how many turns a play has left at most: one for each byte, and the settings line and the end line
unfoldable pub turns_left : List ℕ → Player → ℕ
turns_left file p = cond (eqb p.stage 0) (length file + 2) (cond (eqb p.stage 1) (length file - p.at + 1) 0)

-- o writes the first of it
pub record On (file : List ℕ) (p : Player) (xs : List ℕ) (o : Out) : Type 0 where
  pub left : List ℕ
  pub sheet : xs ≡ o.sheet ++ left
  pub rest : Rest file o.player left
  pub fewer : turns_left file o.player ≤ turns_left file p - 1

-- ---- one turn

-- a line leaves a state in range
pub form_in_range : (s : State) (f : Option Line.Line) → in_range s ≡ true → in_range (play_form s f).state ≡ true
unfolding play_form
form_in_range s (Some (Line.TheVariants.Begin t o k)) h = rw begin_state (begin_in_range s t o k h)
form_in_range s (Some (Line.TheVariants.Steps t n)) h = rw run_state (run_in_range s t n h)
form_in_range s None h = h

play_all_lem : (l : List ℕ) (ls : List (List ℕ)) → play_all (l ∷ ls) ≡ play_first (first_form l) ls
unfolding play_all
play_all_lem l ls = refl

-- the empty file has no first line, and its empty line would be refused alike
empty : play_first (first_form (front [])) (lines (drop (until newline [] + 1) [])) ≡ play_all (lines [])
unfolding play_first play_all first_form settings_form ranged fields is_letter lines until is_first
empty = refl

module _ (room : ℕ) (wide : 256 ≤ room) where
  -- a room of 256 bytes or more is wide enough
  wide_enough : narrow room ≡ false
  wide_enough = le-ltb room 256 wide

  line-is : (s : State) (l : List ℕ) → in_range s ≡ true → line_of room s l ≡ play_form s (line_form l)
  unfolding line_of
  line-is s l h = rw (wide_enough, h)

  end_is : (s : State) → in_range s ≡ true → end_of room s ≡ end_form s (key_list_of s)
  unfolding end_of
  end_is s h = rw (wide_enough, h)

  first-is : (l : List ℕ) → first_of room l ≡ first_played (first_form l)
  unfolding first_of
  first-is l = rw wide_enough

  module _ (file : List ℕ) where
    turn_end : (at : ℕ) (s : State) → length file ≤ at → in_range s ≡ true
        → turn_of room file (standing at 1 s) ≡ out (end_form s (key_list_of s)) at 2
    unfolding turn_of line_turn
    turn_end at s k h = rw (wide_enough, le-leb (length file) at k, end_is s h)

    turn-next : (at : ℕ) (s : State) → at < length file → in_range s ≡ true
        → turn_of room file (standing at 1 s)
        ≡ out (play_form s (line_form (front (drop at file)))) (at + until newline (drop at file) + 1) 1
    unfolding turn_of line_turn
    turn-next at s k h = rw (wide_enough, lt-leb (length file) at k, line-is s (front (drop at file)) h)

    -- the lines from a byte on: the one that starts there, and those behind it
    cut : (at : ℕ) → at < length file
        → lines (drop at file) ≡ front (drop at file) ∷ lines (drop (at + until newline (drop at file) + 1) file)
    cut at q =
        let u = until newline (drop at file) in
        let e : at + suc u ≡ at + u + 1 = omega arith in
        lines_cut (drop at file) (omega (arith, length-drop at file))
        ∙ ap (λ (m : List ℕ). front (drop at file) ∷ lines m) (drop-drop (suc u) at file ∙ ap (λ (m : ℕ). drop m file) e)

    -- the first call on a file that is not too long
    turn-first : length file ≤ 60000 → (f : Option Settings) → first_form (front file) ≡ f
        → turn_of room file opened
        ≡ cond (is_none (first_played f).refused) (out (first_played f) (until newline file + 1) 1) (out (first_played f) 0 2)
    unfolding turn_of first_turn opened
    turn-first k f e = rw (wide_enough, le-ltb 60000 (length file) k, first-is (front file), e)

    -- on a file that is too long
    turn_long : 60000 < length file
        → turn_of room file opened ≡ record { refused = Some TooLong; sheet = refusal (number TooLong); player = standing 0 2 opened.state }
    unfolding turn_of first_turn opened
    turn_long k = rw (wide_enough, lt-ltb 60000 (length file) k)

    -- the lines of a file that is not too long: the first, and those behind it
    first-cut : length file ≤ 60000 → sheet_of file ≡ play_first (first_form (front file)) (lines (drop (until newline file + 1) file))
    unfolding sheet_of
    first-cut short = rw (le-ltb 60000 (length file) short) (go file refl)
      where
        go : (l : List ℕ) → file ≡ l → play_all (lines file) ≡ play_first (first_form (front file)) (lines (drop (until newline file + 1) file))
        go [] e = rw e (sym empty)
        go (b ∷ bs) e =
            ap play_all
            (lines_cut file (rw e (omega arith)) ∙ ap (λ (m : ℕ). front file ∷ lines (drop m file)) (sym (add-one (until newline file))))
            ∙ play_all_lem (front file) (lines (drop (until newline file + 1) file))

    -- the settings line
    first_on : length file ≤ 60000 → (f : Option Settings) → first_form (front file) ≡ f → On file opened (sheet_of file) (turn_of room file opened)
    unfolding first_played play_first turns_left opened
    first_on short (Some c) e =
        rw (turn-first short (Some c) e)
        (record {
          left = play_lines (fresh c) (lines (drop (until newline file + 1) file));
          sheet = rw (first-cut short, e);
          rest = among (until newline file + 1) (fresh c) refl (fresh_in_range c (first_in_range (front file) c e)) refl;
          fewer = omega arith;
        })
    first_on short None e =
        rw (turn-first short None e)
        (record {
          left = [];
          sheet = rw (first-cut short, e, append-nil);
          rest = ended 0 _ refl refl;
          fewer = zero-le;
        })

    -- the first turn
    before_on : Dec (length file ≤ 60000) → On file opened (sheet_of file) (turn_of room file opened)
    unfolding turns_left opened sheet_of
    before_on (yes k) = first_on k (first_form (front file)) refl
    before_on (no k) =
        rw (turn_long (omega arith))
        (record {
          left = [];
          sheet = rw (lt-ltb 60000 (length file) (omega arith), append-nil);
          rest = ended 0 _ refl refl;
          fewer = zero-le;
        })

    -- a turn among the lines
    among_on : (at : ℕ) (s : State) → in_range s ≡ true → Dec (length file ≤ at)
        → On file (standing at 1 s) (play_lines s (lines (drop at file))) (turn_of room file (standing at 1 s))
    unfolding turns_left play_lines lines
    among_on at s r (yes k) =
        rw (turn_end at s k r)
        (record {
          left = [];
          sheet = rw (drop_of_length-le file k, append-nil);
          rest = ended at _ refl refl;
          fewer = zero-le;
        })
    among_on at s r (no k) =
        rw (turn-next at s (omega arith) r)
        (record {
          left = play_lines (play_form s (line_form (front (drop at file)))).state (lines (drop (at + until newline (drop at file) + 1) file));
          sheet = ap (play_lines s) (cut at (omega arith));
          rest = among (at + until newline (drop at file) + 1) _ refl (form_in_range s (line_form (front (drop at file))) r) refl;
          fewer = omega arith;
        })

    -- a turn at the end
    ended_on : (at : ℕ) (s : State) → On file (standing at 2 s) [] (turn_of room file (standing at 2 s))
    unfolding turns_left turn_of
    ended_on at s = rw wide_enough (record { left = []; sheet = refl; rest = ended at s refl refl; fewer = zero-le })

    -- a turn writes the first of what is left to write
    turn_on : (p : Player) (xs : List ℕ) → Rest file p xs → On file p xs (turn_of room file p)
    turn_on p xs (before e h) = rw (e, h) (before_on (dec_le (length file) 60000))
    turn_on p xs (among at s e r h) = rw (e, h) (among_on at s r (dec_le (length file) at))
    turn_on p xs (ended at s e h) = rw (e, h) (ended_on at s)

-- ---- several turns

-- what is known where another turn follows
goes_on_lem : (room : ℕ) (o : Out) → goes_on room o ≡ true → 256 ≤ room - length o.sheet
goes_on_lem room o e = ltb-false _ 256 (not-true _ ((and-eq-true_iff _ _).0 ((and-eq-true_iff _ _).0 e).0).0)

-- a turn behind one that is on
behind_on : {file : List ℕ} {p : Player} {xs : List ℕ} {o q : Out} (a : On file p xs o) → On file o.player a.left q → On file p xs (behind o q)
behind_on {file} {p} {xs} {o} {q} a b =
    record {
      left = b.left;
      sheet = a.sheet ∙ ap (λ (l : List ℕ). o.sheet ++ l) b.sheet ∙ sym (append_assoc o.sheet q.sheet b.left);
      rest = b.rest;
      fewer = omega (arith, a.fewer, b.fewer);
    }

module _ (room : ℕ) (file : List ℕ) where
  -- one turn more
  another : Out → Out
  another o = behind o (turn_of (room - length o.sheet) file o.player)

  -- what one turn more keeps, several keep
  turns_keep : (P : Out → Type 0) → ((o : Out) → goes_on room o ≡ true → P o → P (another o)) → (n : ℕ) (o : Out) → P o → P (turns_of n room file o)
  unfolding turns_of another
  turns_keep P step zero o h = h
  turns_keep P step (suc n) o h = go (goes_on room o) refl (λ e. turns_keep P step n (another o) (step o e h))
    where
      go : (t : Bool) → goes_on room o ≡ t → (goes_on room o ≡ true → P (turns_of n room file (another o))) → P (cond t (turns_of n room file (another o)) o)
      go true e k = k e
      go false e k = h

  pub several_fits : (p : Player) → length (several_of room file p).sheet ≤ room
  unfolding several_of another
  several_fits p =
      turns_keep (λ (o : Out). length o.sheet ≤ room)
      (λ o e h. simp length-append (omega (arith, turn_fits (room - length o.sheet) file o.player)))
      (length file + 1) (turn_of room file p) (turn_fits room file p)

  several_on : 256 ≤ room → (p : Player) (xs : List ℕ) → Rest file p xs → On file p xs (several_of room file p)
  unfolding several_of another
  several_on wide p xs r =
      turns_keep (On file p xs)
      (λ o e a. behind_on a (turn_on (room - length o.sheet) (goes_on_lem room o e) file o.player a.left a.rest))
      (length file + 1) (turn_of room file p) (turn_on room wide file p xs r)

-- ---- all calls

-- with no turn left nothing is left to write
rest_done : {file : List ℕ} {p : Player} {xs : List ℕ} → Rest file p xs → turns_left file p ≤ 0 → xs ≡ []
unfolding turns_left opened
rest_done {file} {p} (before e h) k = absurd (omega (arith, rw e at k))
rest_done {file} {p} (among at s e r h) k = absurd (omega (arith, rw e at k))
rest_done (ended at s e h) k = h

module _ (does : ℕ → List ℕ → Player → Out) (file : List ℕ)
    (fits : (room : ℕ) (p : Player) → length (does room file p).sheet ≤ room)
    (on : (room : ℕ) → 256 ≤ room → (p : Player) (xs : List ℕ) → Rest file p xs → On file p xs (does room file p)) where
  calls_write : {p : Player} {xs : List ℕ} {cs : List Call} → Calls does file p cs → Rest file p xs → turns_left file (reached p cs) ≤ 0 → taken cs ≡ xs
  unfolding taken reached
  calls_write none r h = sym (rest_done r h)
  calls_write {p} {xs} (call c {cs} wide t more) r h =
      let a = on (length c.before) wide p xs r in
      let e = ap (λ (u : Turn). u.player) t.reply in
      let k : taken cs ≡ a.left = calls_write more (rw (sym e) at a.rest) h in
      rw (turned_read t (fits (length c.before) p), k) (sym a.sheet)

  calls_fewer : {p : Player} {xs : List ℕ} {cs : List Call} → Calls does file p cs → Rest file p xs
      → turns_left file (reached p cs) ≤ turns_left file p - length cs
  unfolding reached
  calls_fewer none r = omega arith
  calls_fewer {p} {xs} (call c {cs} wide t more) r =
      let a = on (length c.before) wide p xs r in
      let e = ap (λ (u : Turn). u.player) t.reply in
      omega (arith, calls_fewer more (rw (sym e) at a.rest), rw (sym e) at a.fewer)

  ended_calls : (cs : List Call) → Calls does file opened cs → (reached opened cs).stage ≡ 2 → taken cs ≡ sheet_of file
  unfolding turns_left
  ended_calls cs c h = calls_write c (before refl refl) (rw h zero-le)

  all_calls : (cs : List Call) → Calls does file opened cs → length file + 2 ≤ length cs → taken cs ≡ sheet_of file
  unfolding turns_left opened
  all_calls cs c h = calls_write c (before refl refl) (omega (arith, calls_fewer c (before refl refl)))

-- What calls of `next` leave in rooms of at least 256 bytes, put together, is the sheet of the file: two calls more than it has bytes are enough.
pub sheet_written : (file : List ℕ) (cs : List Call) → Calls turn_of file opened cs → length file + 2 ≤ length cs → taken cs ≡ sheet_of file
sheet_written file = all_calls turn_of file (λ room. turn_fits room file) (λ room wide. turn_on room wide file)

-- And so is what calls of `several` leave.
pub several_written : (file : List ℕ) (cs : List Call) → Calls several_of file opened cs → length file + 2 ≤ length cs → taken cs ≡ sheet_of file
several_written file = all_calls several_of file (λ room. several_fits room file) (λ room. several_on room file)

-- The same where the play has come to its end, at which the program stops.
pub several_ended : (file : List ℕ) (cs : List Call) → Calls several_of file opened cs → (reached opened cs).stage ≡ 2 → taken cs ≡ sheet_of file
several_ended file = ended_calls several_of file (λ room. several_fits room file) (λ room. several_on room file)

-- ---- for a loop over the calls

-- a play that began with `opened` stands at p
pub record Playing (file : List ℕ) (p : Player) : Type 0 where
  pub left : List ℕ
  pub rest : Rest file p left

pub playing_opened : (file : List ℕ) → Playing file opened
playing_opened file = record { left = sheet_of file; rest = before refl refl }

-- before the end a turn is left
turn_left : {file : List ℕ} {p : Player} {xs : List ℕ} → Rest file p xs → (p.stage ≡ 2 → ⊥) → 1 ≤ turns_left file p
unfolding turns_left opened
turn_left (before e h) k = rw e (omega arith)
turn_left (among at s e r h) k = rw e (omega arith)
turn_left (ended at s e h) k = absurd (k (ap (λ (p : Player). p.stage) e))

module _ {l k : List ℕ} {t : Turn} (file : List ℕ) (p : Player) (u : Turned (several_of (length l) file p) l t k) where
  -- a call writes no more than its room has
  pub several_within : t.length ≤ length k
  several_within =
      omega (arith, ap (λ (r : Turn). r.length) u.reply, several_fits (length l) file p, ap length u.bytes, length-sets l 0 (several_of (length l) file p).sheet)

  -- it plays on
  pub playing_on : 256 ≤ length l → Playing file p → Playing file t.player
  playing_on wide a =
      let b = several_on (length l) file wide p a.left a.rest in
      record { left = b.left; rest = rw (ap (λ (r : Turn). r.player) u.reply) b.rest }

  -- and comes nearer to the end
  pub playing_less : 256 ≤ length l → Playing file p → (p.stage ≡ 2 → ⊥) → turns_left file t.player < turns_left file p
  playing_less wide a h =
      let b = several_on (length l) file wide p a.left a.rest in
      rw (ap (λ (r : Turn). r.player) u.reply) (omega (arith, b.fewer, turn_left a.rest h))
