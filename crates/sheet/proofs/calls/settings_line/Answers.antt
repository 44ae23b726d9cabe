-- `sheet::calls::settings_line` meets its contract.
use borrow.Author.Tests.{lt-ltb, le-ltb}
use mathlib.Core.Path.{sym, ap, ◌∙◌}
use Rattle.rules.specs.Step.{Replied}
use Rattle.forms.proofs.Form.{first_in_range}
use Rattle.sheet.specs.Sheet.{first_played, first_of}
use Rattle.sheet.proofs.Called.{called_silent}
use Rattle.sheet.proofs.States.{fresh_accepted}
use Rattle.sheet.proofs.calls.settings_line.Goals as goal

pub returns-then-room-lt-LEAST_ROOM : goal.returns-then-room-lt-LEAST_ROOM
unfolding first_of
returns-then-room-lt-LEAST_ROOM c = rw (lt-ltb _ _ c.if-room-lt-LEAST_ROOM.true, ← c.zero_state.ensures) (called_silent _ _ c.silent.ensures)

pub returns-in-Some : goal.returns-in-Some
unfolding first_of first_played
returns-in-Some c =
    let ranged = first_in_range _ _ (sym c.first_form.ensures.answer ∙ c.in-Some.is) in
    let made = ap (λ (r : Replied (Unit {0})). r.state) c.fresh.ensures.answer ∙ fresh_accepted _ ranged in
    rw (le-ltb _ _ c.if-room-lt-LEAST_ROOM.false, ← c.first_form.ensures.answer, c.in-Some.is, ← made) (c.reply_with.ensures _)

pub returns-in-None : goal.returns-in-None
unfolding first_of first_played
returns-in-None c = rw (le-ltb _ _ c.if-room-lt-LEAST_ROOM.false, ← c.first_form.ensures.answer, c.in-None.is, ← c.zero_state-in-None.ensures) (c.reply_with-in-None.ensures _)
