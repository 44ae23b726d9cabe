-- `rows::phase::plan_of` meets its contract at a thread that is idle, or in no phase of the table.
use Rattle.std.proofs.Common.{sym, ◌∙◌, arith}
use Rattle.rows.proofs.Idle.{plan_idle, plan_past}
use Rattle.rows.proofs.phase.plan_of.Goals as goal
use Rattle.rows.proofs.phase.plan_of.Goals.{in_default-via-then-v-lt1, in_default-via-else-v-lt1+else-v-lt6+else-v-lt9+else-v-lt15+else-v-lt21+else-v-lt25}

pub returns-in_default : goal.returns-in_default
returns-in_default c = λ h.
    elim c.in_default.branch [
      | in_default-via-then-v-lt1 w ↦ c.only.ensures ∙ sym (plan_idle _ (omega arith))
      | in_default-via-else-v-lt1+else-v-lt6+else-v-lt9+else-v-lt15+else-v-lt21+else-v-lt25 w ↦ c.only.ensures ∙ sym (plan_past _ (omega arith))
    ]
