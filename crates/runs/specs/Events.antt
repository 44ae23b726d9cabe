-- Begins, commits and ends in their order, and where the operation of each thread stands.
use Rattle.std.specs.Prelude.{cond, ◌&&◌, List, [], ◌∷◌, ◌≡◌, ℕ, leb, eqb, Ok, Err, Result}
use Rattle.rules.specs.State.{thread_at}
use Rattle.rules.specs.Step.{after, step_of}
use Rattle.rules.specs.declared.state.Thread.{Thread}
use Rattle.rules.specs.declared.state.State.{State}
use Rattle.runs.specs.Calls.{Move, begins, steps, after_move, is_begun, accepted}
use Rattle.runs.specs.Log.{commits_now, Entry, entry_of, replied}
use Rattle.rules.specs.declared.answer.Refusal.{Refusal}
use Rattle.rules.specs.declared.answer.StepReply.{StepReply}
use Rattle.rules.specs.declared.answer.StepReply as StepReply

-- thread t begins operation o on key k; an operation commits; one ends with this reply
pub data Event : Type 0 where
  begin : (t o k : ℕ) → Event
  commit : Entry → Event
  finish : Entry → Event

-- the events l behind a step of thread n, whose registers were t: only a reply that ends the operation is one
abbrev pub finished : ℕ → Thread → Result StepReply Refusal → List Event → List Event
finished n t (Ok (StepReply.TheVariants.Ends a m)) l = finish (replied n t a m) ∷ l
finished n t (Ok (StepReply.TheVariants.Goes p)) l = l
finished n t (Err r) l = l

-- the accepted begins, the commits and the ends of some moves, in their order
unfoldable pub events_of : State → List Move → List Event
events_of s [] = []
events_of s (begins t o k ∷ cs) =
    cond (is_begun s t o k) (begin t o k ∷ events_of (after_move s (begins t o k)) cs) (events_of (after_move s (begins t o k)) cs)
events_of s (steps t ∷ cs) =
    cond (accepted s t && commits_now s t) (commit (entry_of t (thread_at (after s t) t)) ∷ events_of (after_move s (steps t)) cs)
    (finished t (thread_at s t) (step_of s t).reply (events_of (after_move s (steps t)) cs))

-- the commits among some events
unfoldable pub commits_in : List Event → List Entry
commits_in [] = []
commits_in (begin t o k ∷ l) = commits_in l
commits_in (commit e ∷ l) = e ∷ commits_in l
commits_in (finish e ∷ l) = commits_in l

-- a thread has no operation; has begun this one and not committed it; has committed it so and not ended it
pub data Due : Type 0 where
  nothing : Due
  due : (o k : ℕ) → Due
  done : Entry → Due

-- the same for all threads, where it is d for thread t
abbrev pub due_at : ℕ → Due → (ℕ → Due) → ℕ → Due
due_at t d f u = cond (eqb u t) d (f u)

-- at first no thread has an operation
abbrev pub nothing_due : ℕ → Due
nothing_due t = nothing

-- a thread begins if it has no operation, commits the one that it has begun and not committed, and ends the one that it has committed and not
-- ended, with the answer and the number of that commit
abbrev pub Fits : (ℕ → Due) → List Event → Type 0
Fits f [] = Unit {0}
Fits f (begin t o k ∷ l) = (f t ≡ nothing) × Fits (due_at t (due o k) f) l
Fits f (commit e ∷ l) = (f e.thread ≡ due e.operation e.key) × Fits (due_at e.thread (done e) f) l
Fits f (finish e ∷ l) = (f e.thread ≡ done e) × Fits (due_at e.thread nothing f) l

-- how it stands after some events
abbrev pub due_after : (ℕ → Due) → List Event → ℕ → Due
due_after f [] = f
due_after f (begin t o k ∷ l) = due_after (due_at t (due o k) f) l
due_after f (commit e ∷ l) = due_after (due_at e.thread (done e) f) l
due_after f (finish e ∷ l) = due_after (due_at e.thread nothing f) l

-- how it stands by the registers of thread n: phase 0, phases 1 to 5, phases 6 to 25
unfoldable pub due_of : ℕ → Thread → Due
due_of n t = cond (eqb t.phase 0) nothing (cond (leb t.phase 5) (due t.operation t.key) (done (entry_of n t)))
