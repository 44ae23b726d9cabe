-- Begin, step and counted steps: what each call answers, and the state after.
use Rattle.std.specs.Prelude.{Bool, true, false, cond, not, List, [], ◌∷◌, ◌++◌, ℕ, zero, suc, ◌+◌, ltb, leb, eqb, set, Option, Some, None, Result, Ok, Err}
use Rattle.rules.specs.State.{none, fresh, zero_place, place_at, thread_at}
use Rattle.rules.specs.Registers.{set_operation}
use Rattle.rules.specs.Places.{child_on, child_by}
use Rattle.rules.specs.Rows.{far_side, near_child, plan_of}
use Rattle.rules.specs.Needs.{stuck}
use Rattle.rules.specs.Range.{settings_in_range, in_range}
use Rattle.rules.specs.Refusals.{Ground, ◌if◌, first}
use Rattle.rules.specs.declared.state.Settings.{Settings}
use Rattle.rules.specs.declared.state.Place.{Place}
use Rattle.rules.specs.declared.state.Thread.{Thread}
use Rattle.rules.specs.declared.state.State.{State}
use Rattle.rules.specs.declared.row.View.{View}
use Rattle.rules.specs.declared.row.Store.{Store}
use Rattle.rules.specs.declared.row.Plan.{Plan}
use Rattle.rules.specs.declared.answer.Refusal.{Refusal}
use Rattle.rules.specs.declared.answer.Refusal.TheVariants.{NotOfTheForms, BadSettings, NoThread, NoKey, Busy, Idle, OutOfRange, Stuck, BadCount, AllBegun}
use Rattle.rules.specs.declared.answer.StepReply.{StepReply}
use Rattle.rules.specs.declared.answer.StepReply as StepReply
use Rattle.rules.specs.declared.answer.RunReply.{RunReply}
use Rattle.rules.specs.declared.answer.RunReply as RunReply

-- what a call answers, and the state after
pub record Replied (A : Type 0) : Type 0 where
  pub reply : Result A Refusal
  pub state : State

-- "State unchanged in all"
abbrev pub refused_by : {A : Type 0} → State → Refusal → Replied A
refused_by s r = record { reply = Err r; state = s }

-- ---- fresh

-- settings of four zeros
unfoldable pub zero_settings : Settings
zero_settings = record { succ = 0; fail = 0; low = 0; max = 0 }

-- "2 .. a fresh state is asked for with settings out of range"
abbrev pub fresh_order : Settings → List Ground
fresh_order c = (BadSettings if not (settings_in_range c)) ∷ []

-- there is no state before to be left: the fresh state of settings of four zeros
abbrev pub refused_fresh : Refusal → Replied (Unit {0})
refused_fresh r = record { reply = Err r; state = fresh zero_settings }

-- a fresh state
unfoldable pub fresh_of : Settings → Replied (Unit {0})
fresh_of c = first (fresh_order c) refused_fresh (record { reply = Ok tt; state = fresh c })

-- ---- begin

-- the state with a count of begun operations and one thread anew
abbrev pub with_thread : State → ℕ → ℕ → Thread → State
with_thread s begun t th =
    record {
      root = s.root;
      made = s.made;
      begun = begun;
      committed = s.committed;
      settings = s.settings;
      places = s.places;
      threads = set s.threads t th;
    }

-- "Begin: begun goes up by one, and the thread gets the operation, the key and phase 1"
unfoldable pub begun : State → ℕ → ℕ → ℕ → State
begun s t o k = with_thread s (s.begun + 1) t (set_operation o k (thread_at s t))

-- what begin is refused with behind 7: 1, 3, 4, 5, 11
abbrev pub begin_rest : State → ℕ → ℕ → ℕ → List Ground
begin_rest s t o k =
    (NotOfTheForms if ltb 2 o) ∷ (NoThread if ltb 7 t) ∷ (NoKey if ltb 63 k) ∷ (Busy if not (eqb (thread_at s t).phase 0)) ∷ (AllBegun if leb 1000000 s.begun) ∷ []

-- "Order: begin 7, 1, 3, 4, 5, 11"
abbrev pub begin_order : State → ℕ → ℕ → ℕ → List Ground
begin_order s t o k = (OutOfRange if not (in_range s)) ∷ begin_rest s t o k

-- begin without the range test
abbrev pub begin_in : State → ℕ → ℕ → ℕ → Replied (Unit {0})
begin_in s t o k =
    first (begin_rest s t o k) (refused_by s) (record { reply = Ok tt; state = begun s t o k })

-- begin
unfoldable pub begin_of : State → ℕ → ℕ → ℕ → Replied (Unit {0})
begin_of s t o k =
    first (begin_order s t o k) (refused_by s) (record { reply = Ok tt; state = begun s t o k })

-- ---- one step

-- what the step of thread t reads, but for the node that it walks to
unfoldable pub view_before : State → ℕ → View
view_before s t =
    record {
      me = t;
      thread = thread_at s t;
      settings = s.settings;
      root = s.root;
      made = s.made;
      begun = s.begun;
      committed = s.committed;
      prev = place_at s (thread_at s t).prev;
      base = place_at s (thread_at s t).base;
      walk = place_at s (thread_at s t).walk;
      neighbour = place_at s (thread_at s t).neighbour;
      grandparent = place_at s (thread_at s t).grandparent;
      own = place_at s (thread_at s t).made;
      reached = zero_place;
    }

-- the node that the rows at 1, 2, 9, 10 and 22 go to or ask for; none at other phases
unfoldable pub next_of : View → ℕ
next_of v =
    let p = v.thread.phase in
    cond (eqb p 1) v.root
    (cond (eqb p 2) (child_by v.thread.key v.walk)
    (cond (eqb p 9) (child_on (far_side v) v.prev) (cond (eqb p 10) (near_child v) (cond (eqb p 22) (near_child v) none))))

-- the view with the place of the node that it walks to
abbrev pub reaching : Place → View → View
reaching p v =
    record {
      me = v.me;
      thread = v.thread;
      settings = v.settings;
      root = v.root;
      made = v.made;
      begun = v.begun;
      committed = v.committed;
      prev = v.prev;
      base = v.base;
      walk = v.walk;
      neighbour = v.neighbour;
      grandparent = v.grandparent;
      own = v.own;
      reached = p;
    }

-- what the step of thread t reads
unfoldable pub view_of : State → ℕ → View
view_of s t = reaching (place_at s (next_of (view_before s t))) (view_before s t)

-- the places after a store
unfoldable pub put : Option Store → List Place → List Place
put None ps = ps
put (Some w) ps = set ps w.at w.place

-- the state after the plan of thread t's step
unfoldable pub apply : State → ℕ → Plan → State
apply s t p =
    record {
      root = p.root;
      made = p.made;
      begun = s.begun;
      committed = p.committed;
      settings = s.settings;
      places = put p.third (put p.second (put p.first s.places));
      threads = set s.threads t p.thread;
    }

-- the state after thread t's next step, where that is not stuck
unfoldable pub after : State → ℕ → State
after s t = apply s t (plan_of (view_of s t))

-- the step ends the operation: with the answer and the commit number set at phase 5
abbrev pub ends : Thread → Bool
ends t = eqb t.phase 25

-- what the step of thread `th` with plan p answers
abbrev pub reply_from : Thread → Plan → StepReply
reply_from th p =
    cond (ends th) (StepReply.TheVariants.Ends th.answer th.commit) (StepReply.TheVariants.Goes p.thread.phase)

-- what thread t's next step answers
unfoldable pub reply_of : State → ℕ → StepReply
reply_of s t = reply_from (thread_at s t) (plan_of (view_of s t))

-- "Order: .. step 7, 3, 6, 8"
abbrev pub step_order : State → ℕ → List Ground
step_order s t =
    (OutOfRange if not (in_range s)) ∷ (NoThread if ltb 7 t) ∷ (Idle if eqb (thread_at s t).phase 0) ∷ (Stuck if stuck (view_of s t)) ∷ []

-- one step
unfoldable pub step_of : State → ℕ → Replied StepReply
step_of s t = first (step_order s t) (refused_by s) (record { reply = Ok (reply_of s t); state = after s t })

-- ---- counted steps

-- "Steps are taken until n have been taken or the operation ends; waits count." "If 8 comes inside a counted line, the state before the line stands":
-- here it is `from`
unfoldable pub steps : ℕ → State → State → ℕ → ℕ → Replied RunReply
steps zero from s t taken = record { reply = Ok (RunReply.TheVariants.Stops taken (thread_at s t).phase); state = s }
steps (suc n) from s t taken =
    elim (stuck (view_of s t)) [
      | true ↦ refused_by from Stuck
      | false ↦
          elim (ends (thread_at s t)) [
            | true ↦
                record { reply = Ok (RunReply.TheVariants.Ends (suc taken) (thread_at s t).answer (thread_at s t).commit); state = after s t }
            | false ↦ steps n from (after s t) t (suc taken)
          ]
    ]

-- what counted steps are refused with behind 7 and before the first step, by the order of lines as it applies to them: 3, 10, 6
abbrev pub run_rest : State → ℕ → ℕ → List Ground
run_rest s t n = (NoThread if ltb 7 t) ∷ (BadCount if eqb n 0) ∷ (BadCount if ltb 1000 n) ∷ (Idle if eqb (thread_at s t).phase 0) ∷ []

-- what they are refused with before the first step: 7, 3, 10, 6
abbrev pub run_tests : State → ℕ → ℕ → List Ground
run_tests s t n = (OutOfRange if not (in_range s)) ∷ run_rest s t n

-- counted steps without the range test
abbrev pub run_in : State → ℕ → ℕ → Replied RunReply
run_in s t n = first (run_rest s t n) (refused_by s) (steps n s s t 0)

-- counted steps
unfoldable pub run_of : State → ℕ → ℕ → Replied RunReply
run_of s t n = first (run_tests s t n) (refused_by s) (steps n s s t 0)

-- "If 8 comes inside a counted line": one of the next n steps is stuck, and the operation does not end before it
unfoldable pub stuck_within : ℕ → State → ℕ → Bool
stuck_within zero s t = false
stuck_within (suc n) s t = cond (stuck (view_of s t)) true (cond (ends (thread_at s t)) false (stuck_within n (after s t) t))

-- the order of counted steps, 7, 3, 10, 6, 8: that of a line without the numbers that do not apply to them
abbrev pub run_order : State → ℕ → ℕ → List Ground
run_order s t n = run_tests s t n ++ ((Stuck if stuck_within n s t) ∷ [])
