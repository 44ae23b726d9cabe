-- Runs from fresh: the commits in their order answer as a plain set does, and the keys are the plain set's, each once.
use Rattle.std.specs.Prelude.{cond, not, List, [], ◌∷◌, ℕ, ltb, leb, eqb}
use Rattle.std.proofs.Common.{ltb-false, eqb-true}
use Rattle.std.proofs.lemmas.Bool.{not-false}
use Rattle.rules.specs.State.{fresh, thread_at}
use Rattle.rules.specs.Range.{in_range}
use Rattle.rules.specs.Needs.{stuck}
use Rattle.rules.specs.Step.{begin_of, view_of, step_of, Replied}
use Rattle.rules.specs.declared.state.Settings.{Settings}
use Rattle.rules.specs.declared.state.State.{State}
use Rattle.states.specs.Tests.{pick-by}
use Rattle.runs.specs.Calls.{Move, begins, steps, after_move, after_moves, accepted}
use Rattle.plain.specs.Plain.{Plain, plain_then, fresh_plain, begun_plain, after_plain}
use Rattle.rules.specs.declared.answer.StepReply.{StepReply}
use Rattle.rules.specs.Refusals.{reply_number}

-- the plain set after a call: only an accepted step that commits changes it
unfoldable pub plain_move : State → Move → ℕ → ℕ
plain_move s (begins t o k) p = p
plain_move s (steps t) p = cond (accepted s t) (plain_then s t p) p

-- the plain set after some calls
unfoldable pub plain_after : State → List Move → ℕ → ℕ
plain_after s [] p = p
plain_after s (c ∷ cs) p = plain_after (after_move s c) cs (plain_move s c p)

-- a call holds what the plain set then has
pub move_plain : {s : State} {p : ℕ} → Plain s p → (c : Move) → Plain (after_move s c) (plain_move s c p)
unfolding after_move plain_move begin_of step_of
move_plain {s} {p} x (begins t o k) =
    let Q : Replied (Unit {0}) → Type 0 = λ b. Plain b.state p in
    pick-by Q (not (in_range s)) (λ e. x) λ r.
    pick-by Q (ltb 2 o) (λ e. x) λ a.
    pick-by Q (ltb 7 t) (λ e. x) λ b.
    pick-by Q (ltb 63 k) (λ e. x) λ c.
    pick-by Q (not (eqb (thread_at s t).phase 0)) (λ e. x) λ d.
    pick-by Q (leb 1000000 s.begun) (λ e. x) λ g.
    begun_plain x t o k (ltb-false 7 t b) (ltb-false 63 k c) (eqb-true (thread_at s t).phase 0 (not-false _ d))
move_plain {s} {p} x (steps t) =
    let Q : Replied StepReply → Type 0 = λ b. Plain b.state (cond (eqb (reply_number b.reply) 0) (plain_then s t p) p) in
    pick-by Q (not (in_range s)) (λ e. x) λ r.
    pick-by Q (ltb 7 t) (λ e. x) λ a.
    pick-by Q (eqb (thread_at s t).phase 0) (λ e. x) λ b.
    pick-by Q (stuck (view_of s t)) (λ e. x) λ c.
    after_plain x (ltb-false 7 t a)

-- so do all calls
pub moves_plain : {s : State} {p : ℕ} → Plain s p → (cs : List Move) → Plain (after_moves s cs) (plain_after s cs p)
unfolding after_moves plain_after
moves_plain x [] = x
moves_plain {s = s} {p = p} x (c ∷ cs) = moves_plain {s = after_move s c} (move_plain x c) cs

-- after any calls from a fresh state
pub run_plain : (c : Settings) (cs : List Move) → Plain (after_moves (fresh c) cs) (plain_after (fresh c) cs 0)
run_plain c cs = moves_plain (fresh_plain c) cs
