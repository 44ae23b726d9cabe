-- Whole files: demand 3 holds after the lines of a file, its sheet ends in `E` with the counts and keys of that state, and no sheet has `X 8`.
use Rattle.std.specs.Prelude.{List, [], ◌∷◌, ◌++◌, ◌≡◌, refl, ℕ, zero, suc, ◌≤◌, ◌<◌, ltb, length, get_or, Option, Some, None, Ok, Result}
use Rattle.std.proofs.Common.{append-nil, sym, ap, ◌∙◌, subst, arith, lt-ltb, le-ltb}
use Rattle.rules.specs.State.{fresh}
use Rattle.rules.specs.List.{reached, key_list_of}
use Rattle.rules.specs.Answers.{list_values}
use Rattle.rules.specs.declared.state.Settings.{Settings}
use Rattle.rules.specs.declared.state.State.{State}
use Rattle.states.specs.Tests.{pick}
use Rattle.order.specs.Invariant.{Invariant, fresh_kept}
use Rattle.order.specs.Refusal.{list_not_8, list_keys}
use Rattle.text.specs.Text.{newline, lines, sheet_line, OneLine}
use Rattle.text.proofs.Writing.{sheet_line-one, lines-first}
use Rattle.forms.specs.Form.{first_form, line_form}
use Rattle.forms.proofs.Form.{first_in_range}
use Rattle.sheet.specs.Sheet.{refusal, play_form, end_form, play_lines, play_first, play_all, sheet_of}
use Rattle.schedules.specs.Played.{after_lines, sheet_lines, lines_sheet}
use Rattle.schedules.proofs.Played.{schedule_demand3, sheet_ends, form_not_8, line_kept, lines_kept, lines_in_range}
use Rattle.schedules.specs.Lines.{Shown}
use Rattle.schedules.proofs.RefusedLines.{refused_shown}
use Rattle.schedules.proofs.Lines.{wrote_shown, form_shown, end_shown}
use Rattle.schedules.specs.Files.{PlayedFile, Without8}
use Rattle.rules.specs.declared.answer.Refusal.{Refusal}

-- one sheet line for each line
lines-each : (s : State) (ls : List (List ℕ)) → length (sheet_lines s ls) ≡ length ls
unfolding sheet_lines
lines-each s [] = refl
lines-each s (l ∷ ls) = ap suc (lines-each (play_form s (line_form l)).state ls)

-- which is one line
lines-one : (s : State) (ls : List (List ℕ)) (i : ℕ) → i < length ls → OneLine (get_or (sheet_lines s ls) i [])
unfolding sheet_lines
lines-one s [] i h = absurd (omega arith)
lines-one s (l ∷ ls) zero h = (form_shown s (line_form l)).one
lines-one s (l ∷ ls) (suc i) h = lines-one (play_form s (line_form l)).state ls i (omega arith)

-- one line more, then the others
count-line : {l : List ℕ} → OneLine l → (rest : List ℕ) → length (lines (l ++ rest)) ≡ suc (length (lines rest))
count-line o rest = ap length (lines-first o rest)

-- and `E` is one more
lines-count : (s : State) (ls : List (List ℕ)) → length (lines (play_lines s ls)) ≡ suc (length ls)
unfolding play_lines lines
lines-count s [] =
    let e = (end_form s (key_list_of s)).sheet in
    ap (λ (l : List ℕ). length (lines l)) (sym (append-nil e)) ∙ count-line (end_shown s (key_list_of s)).one []
lines-count s (l ∷ ls) =
    count-line (form_shown s (line_form l)).one (play_lines (play_form s (line_form l)).state ls)
    ∙ ap suc (lines-count (play_form s (line_form l)).state ls)

-- a file that is not too long, by its lines
sheet_short : (file : List ℕ) → length file ≤ 60000 → sheet_of file ≡ play_all (lines file)
unfolding sheet_of
sheet_short file h = rw (le-ltb 60000 (length file) h)

-- its first line, and the others
sheet_first : (file first : List ℕ) (ls : List (List ℕ)) (f : Option Settings) → length file ≤ 60000 → lines file ≡ first ∷ ls → first_form first ≡ f
    → sheet_of file ≡ play_first f ls
unfolding play_all
sheet_first file first ls f h e z = sheet_short file h ∙ ap play_all e ∙ ap (λ (x : Option Settings). play_first x ls) z

-- so it is with every file of at most 60,000 bytes whose first line is accepted
pub file_played : (file first : List ℕ) (ls : List (List ℕ)) (c : Settings) → length file ≤ 60000 → lines file ≡ first ∷ ls
    → first_form first ≡ Some c → PlayedFile file c ls (after_lines (fresh c) ls)
unfolding play_first end_form
file_played file first ls c h e z =
    record {
      demand = schedule_demand3 c ls;
      list = keys;
      sheet =
          whole ∙ ap (λ (l : List ℕ). sheet_line 82 [] ++ l)
          (sheet_ends (fresh c) ls ∙ ap (λ (r : Result ℕ Refusal). lines_sheet (fresh c) ls ++ (end_form s r).sheet) keys);
      plain = λ q. let k = (schedule_demand3 c ls).listed (first_in_range first c z) q in ap list_values (sym keys ∙ k.accepted) ∙ k.rising;
      each = lines-each (fresh c) ls;
      one = lines-one (fresh c) ls;
      count =
          ap (λ (l : List ℕ). length (lines l)) whole ∙ count-line (sheet_line-one 82 [] refl) (play_lines (fresh c) ls)
          ∙ ap suc (lines-count (fresh c) ls)
          ∙ omega (arith, ap length e);
    }
  where
    s : State
    s = after_lines (fresh c) ls

    keys : key_list_of s ≡ Ok (reached s).keys
    keys = list_keys (lines_kept c ls) (lines_in_range c ls (first_in_range first c z))

    whole : sheet_of file ≡ sheet_line 82 [] ++ play_lines (fresh c) ls
    whole = sheet_first file first ls (Some c) h e z

-- one whose first line is not: "the sheet is `X 2` alone"
pub file_refused : (file first : List ℕ) (ls : List (List ℕ)) → length file ≤ 60000 → lines file ≡ first ∷ ls → first_form first ≡ None
    → sheet_of file ≡ refusal 2
unfolding play_first
file_refused file first ls h e z = sheet_first file first ls None h e z

-- "A file too long gives `X 12` alone, whatever its first line"
pub file_too_long : (file : List ℕ) → 60000 < length file → sheet_of file ≡ refusal 12
unfolding sheet_of
file_too_long file h = rw (lt-ltb 60000 (length file) h)

-- where there is no line
none_8 : Without8 []
unfolding lines refusal sheet_line
none_8 i e = let z : ◌≡◌ {A = ℕ} 10 88 = ap (λ (l : List ℕ). get_or l 0 0) e in omega arith

-- one line more, then the others
line_8 : {n : ℕ} {l : List ℕ} → Shown n l → (n ≡ 8 → ⊥) → (rest : List ℕ) → Without8 rest → Without8 (l ++ rest)
line_8 p d rest w i = rw (lines-first p.one rest) (go i)
  where
    go : (i : ℕ) → get_or (p.one.bare ∷ lines rest) i [] ++ (newline ∷ []) ≡ refusal 8 → ⊥
    go zero e = d (p.eight (p.one.whole ∙ e))
    go (suc i) e = w i e

-- one line alone
alone_8 : {n : ℕ} {l : List ℕ} → Shown n l → (n ≡ 8 → ⊥) → Without8 l
alone_8 {n} {l} p d = subst Without8 (append-nil l) (line_8 p d [] none_8)

-- the lines of a schedule and `E`
lines_8 : {s : State} → Invariant s → (ls : List (List ℕ)) → Without8 (play_lines s ls)
unfolding play_lines
lines_8 {s} i [] = alone_8 (end_shown s (key_list_of s)) (list_not_8 i)
lines_8 {s} i (l ∷ ls) =
    line_8 (form_shown s (line_form l)) (form_not_8 i (line_form l)) (play_lines (play_form s (line_form l)).state ls)
    (lines_8 {s = (play_form s (line_form l)).state} (line_kept i (line_form l)) ls)

-- "Refusal 8 never occurs in a state reached from fresh": whatever the file, no line of its sheet is `X 8`
pub file_without_8 : (file : List ℕ) → Without8 (sheet_of file)
unfolding sheet_of play_all play_first
file_without_8 file =
    pick Without8 (ltb 60000 (length file)) (alone_8 (refused_shown 12) (λ e. omega arith)) (all (lines file))
  where
    first : (f : Option Settings) (ls : List (List ℕ)) → Without8 (play_first f ls)
    first (Some c) ls =
        line_8 (wrote_shown 82 [] refl (λ e. omega arith)) (λ e. omega arith) (play_lines (fresh c) ls) (lines_8 (fresh_kept c) ls)
    first None ls = alone_8 (refused_shown 2) (λ e. omega arith)

    all : (ls : List (List ℕ)) → Without8 (play_all ls)
    all [] = alone_8 (refused_shown 2) (λ e. omega arith)
    all (l ∷ ls) = first (first_form l) ls
