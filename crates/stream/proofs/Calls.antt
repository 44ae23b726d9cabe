-- Calls of the player behind others, and on to the end of the play: what calls leave is the front of the sheet.
use Rattle.std.specs.Prelude.{Bool, true, false, ◌≡◌, refl, List, [], ◌∷◌, ◌++◌, ℕ, zero, suc, ◌≤◌, ◌<◌, length, take, drop, replicate, eqb}
use Rattle.std.proofs.Common.{sym, ap, ◌∙◌, append_assoc, append-nil, arith}
use Rattle.std.specs.Io.{StartsWith}
use Rattle.std.proofs.KnownBytes.{starts_with_rest}
use lib.Seq.{take-append_seam}
use Rattle.std.proofs.lemmas.Bool.{true≢false, eqb-true, eq-eqb}
use Rattle.std.proofs.lemmas.List.{length-replicate}
use Rattle.std.proofs.lemmas.List.Edits.{sets}
use Rattle.sheet.specs.Sheet.{sheet_of}
use Rattle.player.specs.Turns.{Out, opened, turn, Turned}
use Rattle.player.specs.Several.{several_of}
use Rattle.player.specs.Sheets.{Call, Calls, none, call, taken, reached, Playing, turns_left, playing_on, playing_less, several_ended}
use Rattle.player.specs.declared.Player.{Player}

-- ---- calls behind calls

pub calls_append : {does : ℕ → List ℕ → Player → Out} {file : List ℕ} {p : Player} {cs ds : List Call} → Calls does file p cs → Calls does file (reached p cs) ds
    → Calls does file p (cs ++ ds)
unfolding reached
calls_append none d = d
calls_append (call c wide t more) d = call c wide t (calls_append more d)

pub reached_append : (p : Player) (cs ds : List Call) → reached p (cs ++ ds) ≡ reached (reached p cs) ds
unfolding reached
reached_append p [] ds = refl
reached_append p (c ∷ cs) ds = reached_append c.answered.player cs ds

pub taken_append : (cs ds : List Call) → taken (cs ++ ds) ≡ taken cs ++ taken ds
unfolding taken
taken_append [] ds = refl
taken_append (c ∷ cs) ds =
    ap (λ l. take c.answered.length c.after ++ l) (taken_append cs ds) ∙ sym (append_assoc (take c.answered.length c.after) (taken cs) (taken ds))

pub taken_more : (cs : List Call) (c : Call) → taken (cs ++ c ∷ []) ≡ taken cs ++ take c.answered.length c.after
unfolding taken
taken_more cs c = taken_append cs (c ∷ []) ∙ ap (λ l. taken cs ++ l) (append-nil (take c.answered.length c.after))

-- the front of a part, behind what stands before that part
pub front_within : (all xs part rest bs : List ℕ) → all ≡ (xs ++ part) ++ rest → StartsWith part bs → StartsWith all (xs ++ bs)
front_within all xs part rest bs e h =
    let more = drop (length bs) part in
    let split =
    e
    ∙ ap (λ l. (xs ++ l) ++ rest) (starts_with_rest part bs h)
    ∙ ap (λ l. l ++ rest) (sym (append_assoc xs bs more))
    ∙ append_assoc (xs ++ bs) more rest in
    ap (take (length (xs ++ bs))) split ∙ take-append_seam (xs ++ bs) (more ++ rest)

-- ---- on to the end

-- calls that go from p on to the end of the play
pub record Ending (file : List ℕ) (p : Player) : Type 0 where
  pub calls : List Call
  pub made : Calls several_of file p calls
  pub ends : (reached p calls).stage ≡ 2

module _ (file : List ℕ) where
  abbrev room : List ℕ
  room = replicate 256 0

  wide : 256 ≤ length room
  wide = omega (arith, length-replicate {A = ℕ} 256 0)

  -- the call from p on
  abbrev one : Player → Call
  one p =
      let o = several_of (length room) file p in
      record { before = room; answered = turn o.refused (length o.sheet) o.player; after = sets room 0 o.sheet }

  done : (p : Player) → Turned (several_of (length room) file p) room (one p).answered (one p).after
  done p = record { reply = refl; bytes = refl }

  less : (p : Player) → Playing file p → eqb p.stage 2 ≡ false → turns_left file (one p).answered.player < turns_left file p
  less p a e = playing_less file p (done p) wide a (λ q. true≢false (sym (eq-eqb p.stage 2 q) ∙ e))

  to_the_end : (n : ℕ) (p : Player) → turns_left file p ≤ n → Playing file p → (t : Bool) → eqb p.stage 2 ≡ t → Ending file p
  unfolding reached
  to_the_end n p k a true e = record { calls = []; made = none; ends = eqb-true p.stage 2 e }
  to_the_end zero p k a false e = absurd (omega (arith, k, less p a e))
  to_the_end (suc m) p k a false e =
      let q = (one p).answered.player in
      let rest = to_the_end m q (omega (arith, k, less p a e)) (playing_on file p (done p) wide a) (eqb q.stage 2) refl in
      record { calls = one p ∷ rest.calls; made = call (one p) wide (done p) rest.made; ends = rest.ends }

  -- what calls from the start on leave is the front of the sheet
  pub taken_front : (cs : List Call) → Calls several_of file opened cs → Playing file (reached opened cs) → (rest : List ℕ) × (sheet_of file ≡ taken cs ++ rest)
  taken_front cs made a =
      let p = reached opened cs in
      let on = to_the_end (turns_left file p) p (omega arith) a (eqb p.stage 2) refl in
      let ends = ap (λ (p : Player). p.stage) (reached_append opened cs on.calls) ∙ on.ends in
      (taken on.calls, sym (several_ended file (cs ++ on.calls) (calls_append made on.made) ends) ∙ taken_append cs on.calls)
