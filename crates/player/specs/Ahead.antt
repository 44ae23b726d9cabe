-- Turns behind others in one room: what a loop over the lines needs.
use Rattle.std.specs.Prelude.{Bool, true, false, cond, not, List, ◌++◌, ◌≡◌, refl, ℕ, zero, suc, ◌+◌, ◌-◌, ◌≤◌, ◌<◌, length, take, drop, Option}
use Rattle.std.proofs.Math.Bool.{and-false}
use Rattle.std.proofs.Common.{append-nil, subst, sym, ◌∙◌, add-one, arith, drop_of_length-le, length-drop, length-append}
use Rattle.std.proofs.Math.Path.{ap}
use borrow.Author.Tests.{le-ltb, lt-ltb, le-leb, lt-leb, ne_eqb}
use Rattle.std.proofs.Math.Seq.{length-sets}
use Rattle.rules.specs.Range.{in_range}
use Rattle.rules.specs.declared.state.State.{State}
use Rattle.text.specs.Text.{newline, until, Wrote}
use Rattle.text.proofs.Reading.{until-le, rest_part}
use Rattle.text.proofs.Writing.{wrote-both, sets_behind}
use Rattle.forms.specs.Form.{line_form}
use Rattle.sheet.specs.Sheet.{Played, silent, narrow, play_form, line_of, end_of}
use Rattle.sheet.specs.Called.{Called}
use Rattle.sheet.proofs.Lengths.{line_fits, end_fits}
use Rattle.sheet.specs.declared.calls.Answer.{Answer}
use Rattle.player.specs.Turns.{Turn, Out, standing, out, front, line_turn, turn_of, turn_fits, Turned, turn}
use Rattle.player.specs.Several.{last, behind, goes_on, turns_of, several_of}
use Rattle.player.specs.Sheets.{form_in_range}
use Rattle.player.specs.declared.Player.{Player}
use Rattle.rules.specs.declared.answer.Refusal.{Refusal}
use Rattle.rules.specs.declared.answer.Refusal.TheVariants.{LittleRoom, OutOfRange}

-- the room behind its first n bytes
abbrev pub back : ℕ → List ℕ → List ℕ
back n l = take (length l - n) (drop n l)

-- the room with other bytes there
abbrev pub backed : ℕ → List ℕ → List ℕ → List ℕ
backed n l m = take n l ++ (m ++ drop (length l - n) (drop n l))

-- a turn among the lines, in a state in range, that wrote no more than the room has
pub record Among (t : Turn) (l : List ℕ) : Type 0 where
  pub stage : t.player.stage ≡ 1
  pub range : in_range t.player.state ≡ true
  pub fits : t.length ≤ length l

-- r stands some turns behind o, in the room that was l and is l': whoever plays on from r plays what follows o
pub record Ahead (file : List ℕ) (o : Out) (l : List ℕ) (r : Turn) (l' : List ℕ) : Type 0 where
  pub last : Out
  pub turns : ℕ
  pub enough : length file ≤ r.player.at + turns
  pub turned : Turned last l r l'
  pub play : turns_of (length file + 1) (length l) file o ≡ turns_of (suc turns) (length l) file last

-- where no turn follows, more turns are none
turns_stop : (n room : ℕ) (file : List ℕ) (o : Out) → goes_on room o ≡ false → turns_of n room file o ≡ o
unfolding turns_of
turns_stop zero room file o e = refl
turns_stop (suc n) room file o e = rw e

-- where one follows
turns_go : (n room : ℕ) (file : List ℕ) (o : Out) → goes_on room o ≡ true
    → turns_of (suc n) room file o ≡ turns_of n room file (behind o (turn_of (room - length o.sheet) file o.player))
unfolding turns_of
turns_go n room file o e = rw e

-- with no room left none follows
none_fits : (room : ℕ) (o : Out) → room < length o.sheet + 256 → goes_on room o ≡ false
none_fits room o h = rw (lt-ltb (room - length o.sheet) 256 (omega arith))

-- among the lines, in a state in range and with room left, one does
one_fits : (room : ℕ) (o : Out) → o.player.stage ≡ 1 → in_range o.player.state ≡ true → length o.sheet + 256 ≤ room → goes_on room o ≡ true
one_fits room o e r h = rw (le-ltb (room - length o.sheet) 256 (omega arith), e, r)

-- a turn answers the length of its line
turned_length : {o : Out} {l l' : List ℕ} {r : Turn} → Turned o l r l' → r.length ≡ length o.sheet
turned_length t = ap (λ (r : Turn). r.length) t.reply

back-length : (n : ℕ) (l : List ℕ) → length (back n l) ≡ length l - n
back-length n l = rw (rest_part n l) (length-drop n l)

-- what a line call writes behind some bytes stays within the room
within : {q : Played} {part : List ℕ} {a : Answer} {s1 : State} (n : ℕ) (k : List ℕ) → Called q (back n k) a s1 part → length q.sheet ≤ length (back n k) → n ≤ length k
    → n + a.length ≤ length k
within {q} {part} {a} {s1} n k d h m = omega (arith, ap (λ (x : Answer). x.length) d.reply, back-length n k)

pub line_within : {part : List ℕ} {a : Answer} {s1 : State} (n : ℕ) (k : List ℕ) (s : State) (line : List ℕ) → Called (line_of (length (back n k)) s line) (back n k) a s1 part
    → n ≤ length k → n + a.length ≤ length k
line_within n k s line d m = within n k d (line_fits (length (back n k)) s line) m

pub end_within : {part : List ℕ} {a : Answer} {s1 : State} (n : ℕ) (k : List ℕ) (s : State) → Called (end_of (length (back n k)) s) (back n k) a s1 part → n ≤ length k
    → n + a.length ≤ length k
end_within n k s d m = within n k d (end_fits (length (back n k)) s) m

-- a turn whose stage is known
pub turned_stage : {o : Out} {l k : List ℕ} {t : Turn} {n : ℕ} → Turned o l t k → t.player.stage ≡ n
    → Turned o l (turn t.refused t.length (standing t.player.at n t.player.state)) k
turned_stage {o} {l} {k} {t} {n} u e =
    record {
      reply = ap (λ (m : ℕ). turn t.refused t.length (standing t.player.at m t.player.state)) (sym e) ∙ u.reply;
      bytes = u.bytes;
    }

-- a line call in the room behind a turn
turned_behind : {o : Out} {l k part : List ℕ} {t : Turn} {q : Played} {a : Answer} {s1 : State} (at stage : ℕ) → Turned o l t k → Called q (back t.length k) a s1 part
    → t.length + length q.sheet ≤ length k
    → Turned (behind o (out q at stage)) l
    (turn (last t.refused a.refused) (t.length + a.length) (standing at stage s1))
    (backed t.length k part)
turned_behind {o} {l} {k} {part} {t} {q} {a} {s1} at stage c d h =
    let e = turned_length c in
    let v : Wrote l 0 o.sheet t.length k = record { next = omega arith; bytes = c.bytes } in
    let y : length (drop t.length k) ≤ length k - t.length = simp length-drop (omega arith) in
    let z = drop_of_length-le (drop t.length k) y in
    let w : Wrote k t.length q.sheet (t.length + length q.sheet) (backed t.length k part) =
    record { next = refl; bytes = rw (z, append-nil, d.bytes, rest_part) (sets_behind k t.length q.sheet h) }
    in
    record { reply = rw (d.reply, d.state, c.reply, length-append); bytes = (wrote-both v w).bytes }

-- the next turn in what a turn left of the room, where it surely fits
module _ {o : Out} {l k : List ℕ} {f0 : Option Refusal} {used at : ℕ} {s : State} (file : List ℕ) (t : Turned o l (turn f0 used (standing at 1 s)) k)
    (r : in_range s ≡ true) (h : used + 256 ≤ length k) where
  left_over : length l - length o.sheet ≡ length (back used k)
  left_over = omega (arith, turned_length t, ap length t.bytes, length-sets l 0 o.sheet, back-length used k)

  next-turn : turn_of (length l - length o.sheet) file o.player ≡ line_turn (length (back used k)) file (standing at 1 s)
  unfolding turn_of
  next-turn =
      rw (left_over, ← ap (λ (u : Turn). u.player) t.reply, le-ltb (length (back used k)) 256 (omega (arith, back-length used k)))

  turn-follows : (n : ℕ) → turns_of (suc n) (length l) file o
      ≡ turns_of n (length l) file (behind o (line_turn (length (back used k)) file (standing at 1 s)))
  turn-follows n =
      let e = ap (λ (u : Turn). u.player) t.reply in
      turns_go n (length l) file o
      (one_fits (length l) o (sym (ap (λ (p : Player). p.stage) e)) (rw (← e) r)
      (omega (arith, turned_length t, ap length t.bytes, length-sets l 0 o.sheet)))
      ∙ ap (λ (q : Out). turns_of n (length l) file (behind o q)) next-turn

-- a line leaves a state in range
pub line_inner : {k k' : List ℕ} {a : Answer} {s1 : State} (room : ℕ) (s : State) (l : List ℕ) → in_range s ≡ true → Called (line_of room s l) k a s1 k'
    → in_range s1 ≡ true
unfolding line_of
line_inner room s l r c = rw c.state (go (narrow room))
  where
    go : (t : Bool) → in_range (cond t (silent s LittleRoom) (cond (not (in_range s)) (silent s OutOfRange) (play_form s (line_form l)))).state ≡ true
    go true = r
    go false = rw r (form_in_range s (line_form l) r)

-- where the line at a byte ends
pub line_end : (at e : ℕ) (file : List ℕ) → at < length file → e ≡ until newline (back at file) → (e ≡ until newline (drop at file)) × (at + e ≤ length file)
line_end at e file h u =
    let v : e ≡ until newline (drop at file) = rw (rest_part at file) at u in
    (v, omega (arith, until-le newline (drop at file), length-drop at file))

-- no turn more
pub ahead_none : {o : Out} {l k : List ℕ} {r : Turn} (file : List ℕ) → Turned o l r k → Ahead file o l r k
ahead_none {o} {l} {k} {r} file t = record { last = o; turns = length file; enough = omega arith; turned = t; play = rw add-one }

-- a turn whose stage is known
pub ahead_stage : {file l k : List ℕ} {o : Out} {t : Turn} {n : ℕ} → Ahead file o l t k → t.player.stage ≡ n
    → Ahead file o l (turn t.refused t.length (standing t.player.at n t.player.state)) k
ahead_stage {file} {l} {k} {o} {t} b e = subst (λ (m : ℕ). Ahead file o l (turn t.refused t.length (standing t.player.at m t.player.state)) k) e b

-- a line more
pub ahead_line : {file l k part : List ℕ} {o : Out} {f0 : Option Refusal} {used at : ℕ} {s : State} {a : Answer} {s1 : State} → Ahead file o l (turn f0 used (standing at 1 s)) k
    → in_range s ≡ true → used + 256 ≤ length k → at < length file
    → Called (line_of (length (back used k)) s (front (drop at file))) (back used k) a s1 part
    → Ahead file o l
    (turn (last f0 a.refused) (used + a.length) (standing (at + until newline (drop at file) + 1) 1 s1))
    (backed used k part)
unfolding line_turn
ahead_line {file} {l} {k} {part} {o} {f0} {used} {at} {s} {a} {s1} b r h f d = go b.turns b.enough b.play
  where
    m : ℕ
    m = length (back used k)

    q : Played
    q = line_of m s (front (drop at file))

    is : line_turn m file (standing at 1 s) ≡ out q (at + until newline (drop at file) + 1) 1
    is = rw (lt-leb (length file) at f)

    go : (n : ℕ) → length file ≤ at + n → turns_of (length file + 1) (length l) file o ≡ turns_of (suc n) (length l) file b.last
        → Ahead file o l
        (turn (last f0 a.refused) (used + a.length) (standing (at + until newline (drop at file) + 1) 1 s1))
        (backed used k part)
    go zero e p = absurd (omega arith)
    go (suc n) e p =
        record {
          last = behind b.last (out q (at + until newline (drop at file) + 1) 1);
          turns = n;
          enough = omega arith;
          turned =
              turned_behind (at + until newline (drop at file) + 1) 1 b.turned d
              (omega (arith, line_fits m s (front (drop at file)), back-length used k));
          play =
              p ∙ turn-follows file b.turned r h (suc n) ∙ ap (λ (x : Out). turns_of (suc n) (length l) file (behind b.last x)) is;
        }

-- the end line
pub ahead_end : {l k part : List ℕ} {o : Out} {f0 : Option Refusal} {used at : ℕ} {s : State} {a : Answer} {s1 : State} (file : List ℕ) (n : ℕ)
    → Turned o l (turn f0 used (standing at 1 s)) k → in_range s ≡ true → used + 256 ≤ length k → length file ≤ at
    → Called (end_of (length (back used k)) s) (back used k) a s1 part
    → Turned (turns_of (suc n) (length l) file o) l
    (turn (last f0 a.refused) (used + a.length) (standing at 2 s1))
    (backed used k part)
unfolding line_turn
ahead_end {l} {k} {part} {o} {f0} {used} {at} {s} {a} {s1} file n t r h f d =
    let m = length (back used k) in
    rw (
      turn-follows file t r h n,
      le-leb (length file) at f,
      turns_stop n (length l) file (behind o (out (end_of m s) at 2)) (simp and-false),
    )
    (turned_behind at 2 t d (omega (arith, end_fits m s, back-length used k)))

-- no more fits
pub ahead_full : {l k : List ℕ} {o : Out} {t : Turn} (file : List ℕ) (n : ℕ) → Turned o l t k → length k < t.length + 256
    → Turned (turns_of n (length l) file o) l t k
ahead_full {l} {k} {o} {t} file n u h =
    rw (turns_stop n (length l) file o
    (none_fits (length l) o (omega (arith, turned_length u, ap length u.bytes, length-sets l 0 o.sheet))))
    u

-- ---- the whole call, by its first turn

module _ {l k : List ℕ} {t : Turn} (file : List ℕ) (p : Player) (u : Turned (turn_of (length l) file p) l t k) where
  pub turn_within : t.length ≤ length k
  turn_within =
      let o = turn_of (length l) file p in
      omega (arith, turned_length u, turn_fits (length l) file p, ap length u.bytes, length-sets l 0 o.sheet)

  -- no other turn follows where the play is not among the lines
  pub alone_stage : (t.player.stage ≡ 1 → ⊥) → Turned (several_of (length l) file p) l t k
  unfolding several_of
  alone_stage h =
      let o = turn_of (length l) file p in
      let e = ap (λ (r : Turn). r.player.stage) u.reply in
      rw (turns_stop (length file + 1) (length l) file o (rw (ne_eqb o.player.stage 1 (λ w. h (e ∙ w)), and-false))) u

  -- nor where its state is not in range
  pub alone_range : in_range t.player.state ≡ false → Turned (several_of (length l) file p) l t k
  unfolding several_of
  alone_range h =
      let o = turn_of (length l) file p in
      let e = ap (λ (r : Turn). in_range r.player.state) u.reply in
      rw (turns_stop (length file + 1) (length l) file o (rw (sym e ∙ h, and-false))) u

  -- others follow
  pub several_behind : {r : Turn} {q q' : List ℕ} {v : Turn} (a : Ahead file (turn_of (length l) file p) l v q)
      → Turned (turns_of (suc a.turns) (length l) file a.last) l r q'
      → Turned (several_of (length l) file p) l r q'
  unfolding several_of
  several_behind a w = rw a.play w
