-- `ready::ready_splice` meets its contract at the arms of two phases.
use Rattle.std.proofs.Common.{◌≡◌, arith, ℕ, ◌+◌, ◌≤◌, ◌⊎◌, inl, inr, rules}
use borrow.Author.Tests.{tests}
use Rattle.rules.specs.Needs.{needs as row_needs}
use Rattle.ready.proofs.ready_splice.Goals as goal

-- a phase of two is the one or the other
one_of : (a p : ℕ) → a ≤ p → p ≤ a + 1 → (p ≡ a) ⊎ (p ≡ a + 1)
one_of a p l h = grind arith

pub returns-in-17 : goal.returns-in-17
unfolding row_needs
returns-in-17 c =
    elim (one_of 17 c.args.v.thread.phase (omega arith) (omega arith)) [
      | inl e ↦ rw e (search (rules, tests))
      | inr e ↦ rw e (search (rules, tests))
    ]

pub returns-then-is_route-2 : goal.returns-then-is_route-2
unfolding row_needs
returns-then-is_route-2 c =
    elim (one_of 19 c.args.v.thread.phase (omega arith) (omega arith)) [
      | inl e ↦ rw e (search (rules, tests))
      | inr e ↦ rw e (search (rules, tests))
    ]

pub returns-else-is_route-2 : goal.returns-else-is_route-2
unfolding row_needs
returns-else-is_route-2 c =
    elim (one_of 19 c.args.v.thread.phase (omega arith) (omega arith)) [
      | inl e ↦ rw e (search (rules, tests))
      | inr e ↦ rw e (search (rules, tests))
    ]
