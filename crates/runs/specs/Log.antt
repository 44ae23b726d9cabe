-- The log of commits, and one plain set that takes them in their order.
use Rattle.std.specs.Prelude.{Bool, cond, ◌&&◌, List, [], ◌∷◌, ◌≡◌, ℕ, ◌+◌, eqb}
use Rattle.rules.specs.State.{place_at, thread_at}
use Rattle.rules.specs.Step.{after}
use Rattle.rules.specs.declared.state.Thread.{Thread}
use Rattle.rules.specs.declared.state.State.{State}
use Rattle.runs.specs.Calls.{Move, begins, steps, after_move, accepted}
use Rattle.runs.specs.PlainSet.{PlainSet, set_after, replies}

-- thread t's next step commits
abbrev pub commits_now : State → ℕ → Bool
commits_now s t = eqb (thread_at s t).phase 5 && (place_at s (thread_at s t).base).valid

-- a commit: the thread, the operation, its key, the answer and the commit number
pub record Entry : Type 0 where
  pub thread : ℕ
  pub operation : ℕ
  pub key : ℕ
  pub answer : ℕ
  pub number : ℕ

-- what the registers of thread n say of its commit
abbrev pub entry_of : ℕ → Thread → Entry
entry_of n t = record { thread = n; operation = t.operation; key = t.key; answer = t.answer; number = t.commit }

-- the commits of some moves, in their order
unfoldable pub log_of : State → List Move → List Entry
log_of s [] = []
log_of s (begins t o k ∷ cs) = log_of (after_move s (begins t o k)) cs
log_of s (steps t ∷ cs) =
    cond (accepted s t && commits_now s t) (entry_of t (thread_at (after s t) t) ∷ log_of (after_move s (steps t)) cs)
    (log_of (after_move s (steps t)) cs)

-- the plain set p after some commits
unfoldable pub play_log : PlainSet → List Entry → PlainSet
play_log p [] = p
play_log p (e ∷ l) = play_log (set_after e.operation e.key p) l

-- from the plain set p and n commits on, each answer is the reply of the plain set and the numbers count on
abbrev pub Right : PlainSet → ℕ → List Entry → Type 0
Right p n [] = Unit {0}
Right p n (e ∷ l) =
    (e.answer ≡ replies e.operation e.key p) × (e.number ≡ n + 1) × Right (set_after e.operation e.key p) (n + 1) l

-- a commit of the operation of thread n with the answer and the commit number of a reply
abbrev pub replied : ℕ → Thread → ℕ → ℕ → Entry
replied n t a m = record { thread = n; operation = t.operation; key = t.key; answer = a; number = m }
