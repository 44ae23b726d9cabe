-- A schedule is a run: its begin lines are begins, its step lines counted steps. So demand 3 holds of it.
use Rattle.std.specs.Prelude.{true, not, ◌≡◌, refl, ℕ, ltb, leb, eqb, Option, Some, None, Ok, Err, Result}
use mathlib.Core.List.{List, [], ◌∷◌, ◌++◌, append_assoc, flatten}
use Rattle.std.proofs.Common.{sym, ap, ◌∙◌, subst, arith}
use Rattle.rules.specs.State.{fresh, thread_at}
use Rattle.rules.specs.Range.{settings_in_range, in_range}
use Rattle.rules.specs.Step.{begin_of, run_of, Replied}
use Rattle.rules.specs.List.{key_list_of}
use Rattle.rules.specs.declared.state.Settings.{Settings}
use Rattle.rules.specs.declared.state.State.{State}
use Rattle.runs.specs.Calls.{after_calls, moves_of}
use Rattle.runs.specs.PlainSet.{empty, keys_in}
use Rattle.runs.specs.Log.{log_of, play_log}
use Rattle.runs.specs.Events.{events_of}
use Rattle.runs.specs.Holders.{Quiet}
use Rattle.runs.specs.Demand.{Demand3}
use Rattle.states.specs.Tests.{pick}
use Rattle.states.specs.Kept.{fresh_in_range}
use Rattle.order.specs.Refusal.{run_not_8}
use Rattle.order.specs.Invariant.{Invariant, fresh_kept}
use Rattle.plain.proofs.Quiet.{moves_in_range}
use Rattle.plain.specs.CountedSteps.{Last}
use Rattle.plain.proofs.CountedSteps.{run_replies, calls_kept, calls_are_moves}
use Rattle.plain.proofs.Demand.{demand3}
use Rattle.forms.specs.Form.{line_form}
use Rattle.forms.specs.declared.Line as Line
use Rattle.sheet.specs.Sheet.{begin_line, run_line, play_form, end_text, end_form, play_lines}
use Rattle.schedules.specs.Played.{after_lines, call_of, calls_of, sheet_lines, lines_sheet}
use Rattle.schedules.proofs.LineCalls.{line-is_call}
use Rattle.rules.specs.declared.answer.Refusal.{Refusal}
use Rattle.rules.specs.declared.answer.RunReply.{RunReply}
use Rattle.rules.specs.declared.answer.RunReply as RunReply
use Rattle.rules.specs.Refusals.{reply_number, number_in}

lines_are_calls : (s : State) (ls : List (List ℕ)) → after_lines s ls ≡ after_calls s (calls_of ls)
unfolding after_lines calls_of after_calls
lines_are_calls s [] = refl
lines_are_calls s (l ∷ ls) = lines_are_calls (play_form s (line_form l)).state ls ∙ sym (line-is_call s (line_form l) (calls_of ls))

-- demand 3 holds after the lines of any schedule
pub schedule_demand3 : (c : Settings) (ls : List (List ℕ))
    → Demand3 c (calls_of ls) (after_lines (fresh c) ls) (events_of (fresh c) (moves_of (fresh c) (calls_of ls)))
    (log_of (fresh c) (moves_of (fresh c) (calls_of ls)))
schedule_demand3 c ls = rw (lines_are_calls (fresh c) ls) (demand3 c (calls_of ls))

-- `E` is that of the state after the lines
pub sheet_ends : (s : State) (ls : List (List ℕ))
    → play_lines s ls ≡ lines_sheet s ls ++ (end_form (after_lines s ls) (key_list_of (after_lines s ls))).sheet
unfolding play_lines sheet_lines flatten after_lines
sheet_ends s [] = refl
sheet_ends s (l ∷ ls) =
    ap (λ (x : List ℕ). (play_form s (line_form l)).sheet ++ x) (sheet_ends (play_form s (line_form l)).state ls)
    ∙ sym (append_assoc (play_form s (line_form l)).sheet (lines_sheet (play_form s (line_form l)).state ls)
    (end_form (after_lines (play_form s (line_form l)).state ls) (key_list_of (after_lines (play_form s (line_form l)).state ls))).sheet)

-- where no thread is in phases 20 to 23 at the end, `E` has the keys of the plain set, rising
pub sheet_ends_plain : (c : Settings) (ls : List (List ℕ)) → settings_in_range c ≡ true → Quiet (after_lines (fresh c) ls)
    → play_lines (fresh c) ls
    ≡ lines_sheet (fresh c) ls ++ end_text (after_lines (fresh c) ls) (keys_in (play_log empty (log_of (fresh c) (moves_of (fresh c) (calls_of ls)))))
unfolding end_form
sheet_ends_plain c ls r q =
    let k = (schedule_demand3 c ls).listed r q in
    sheet_ends (fresh c) ls
    ∙ ap (λ (x : Result ℕ Refusal). lines_sheet (fresh c) ls ++ (end_form (after_lines (fresh c) ls) x).sheet) k.accepted
    ∙ ap (λ (x : List ℕ). lines_sheet (fresh c) ls ++ end_text (after_lines (fresh c) ls) x) k.rising

-- a begin is never refused with 8
begin_not_8 : (s : State) (t o k : ℕ) → reply_number (begin_of s t o k).reply ≡ 8 → ⊥
unfolding begin_of
begin_not_8 s t o k =
    let Q : Replied (Unit {0}) → Type 0 = λ b. reply_number b.reply ≡ 8 → ⊥ in
    pick Q (not (in_range s)) (λ e. omega arith)
    (pick Q (ltb 2 o) (λ e. omega arith)
    (pick Q (ltb 7 t) (λ e. omega arith)
    (pick Q (ltb 63 k) (λ e. omega arith)
    (pick Q (not (eqb (thread_at s t).phase 0)) (λ e. omega arith) (pick Q (leb 1000000 s.begun) (λ e. omega arith) (λ e. omega arith))))))

begin_same : (t : ℕ) (s : State) (r : Result (Unit {0}) Refusal) → number_in (begin_line t s r).refused ≡ reply_number r
unfolding begin_line
begin_same t s (Ok u) = refl
begin_same t s (Err r) = refl

run_same : (t : ℕ) (s : State) (r : Result RunReply Refusal) → number_in (run_line t s r).refused ≡ reply_number r
unfolding run_line
run_same t s (Ok p) = refl
run_same t s (Err r) = refl

pub form_not_8 : {s : State} → Invariant s → (f : Option Line.Line) → number_in (play_form s f).refused ≡ 8 → ⊥
unfolding play_form
form_not_8 {s} i (Some (Line.TheVariants.Begin t o k)) e = begin_not_8 s t o k (sym (begin_same t (begin_of s t o k).state (begin_of s t o k).reply) ∙ e)
form_not_8 {s} i (Some (Line.TheVariants.Steps t n)) e = run_not_8 i t n (sym (run_same t (run_of s t n).state (run_of s t n).reply) ∙ e)
form_not_8 i None e = omega arith

-- a line keeps the invariant
pub line_kept : {s : State} → Invariant s → (f : Option Line.Line) → Invariant (play_form s f).state
unfolding after_calls
line_kept {s} i f = subst Invariant (line-is_call s f []) (calls_kept i (call_of f ++ []))

-- it holds after the lines of any schedule
pub lines_kept : (c : Settings) (ls : List (List ℕ)) → Invariant (after_lines (fresh c) ls)
lines_kept c ls = rw (lines_are_calls (fresh c) ls) (calls_kept (fresh_kept c) (calls_of ls))

-- and they leave a state in range
pub lines_in_range : (c : Settings) (ls : List (List ℕ)) → settings_in_range c ≡ true → in_range (after_lines (fresh c) ls) ≡ true
lines_in_range c ls r =
    rw (lines_are_calls (fresh c) ls, calls_are_moves (fresh_kept c) (calls_of ls))
    (moves_in_range (fresh c) (moves_of (fresh c) (calls_of ls)) (fresh_in_range c r))

-- no line of a schedule is refused with 8
pub line-not_8 : (c : Settings) (ls : List (List ℕ)) (l : List ℕ) → number_in (play_form (after_lines (fresh c) ls) (line_form l)).refused ≡ 8 → ⊥
line-not_8 c ls l = form_not_8 (lines_kept c ls) (line_form l)

-- the answer and the commit number of a `D` line are those with which the last step taken ends the operation
pub end_of_line : (c : Settings) (ls : List (List ℕ)) (t n k a m : ℕ)
    → (run_of (after_lines (fresh c) ls) t n).reply ≡ Ok (RunReply.TheVariants.Ends k a m) → Last (after_lines (fresh c) ls) t k a m
end_of_line c ls = run_replies (lines_kept c ls)
