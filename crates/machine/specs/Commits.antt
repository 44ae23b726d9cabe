-- A step at phase 5 that is not stuck has an operation left to commit, so the contract of `plan_of` gives its plan.
use Rattle.std.specs.Prelude.{◌≡◌, refl, Bool, true, false, not, ◌&&◌, ◌||◌, ℕ, ◌<◌, ltb, get_or}
use Rattle.std.proofs.Common.{◌∙◌, sym, ap, true≢false, ltb-true}
use Rattle.std.proofs.lemmas.Bool.{false≢true}
use Rattle.rules.specs.Rows.{above_max, below_min, plan_of}
use Rattle.rules.specs.Needs.{base_b, none_or_p, needs, idle, stuck}
use Rattle.rules.specs.declared.row.View.{View}
use Rattle.rules.specs.declared.row.Plan.{Plan}

-- what a step at 5 needs, with the valid flag b and the test l of the counts
counts : (a b l m : Bool) → b ≡ true → not (a && (not b || (l && m))) ≡ false → l ≡ true
counts true true true m w h = refl
counts true true false m w h = absurd (true≢false h)
counts true false l m w h = absurd (false≢true w)
counts false b l m w h = absurd (true≢false h)

pub can_commit : (v : View) → stuck v ≡ false → v.thread.phase ≡ 5 → v.base.valid ≡ true → v.committed < v.begun
unfolding stuck needs
can_commit v h e w =
    ltb-true v.committed v.begun
    (counts (base_b v) v.base.valid (ltb v.committed v.begun) (above_max v || not (below_min v) || none_or_p v) w
    (ap (λ (p : ℕ). not (get_or needs p idle v)) (sym e) ∙ h))

-- what the contract of `plan_of` says of a plan p
abbrev pub Planned : View → Plan → Type 0
Planned v p = (v.thread.phase ≡ 5 → v.base.valid ≡ true → v.committed < v.begun) → p ≡ plan_of v

-- two plans that it allows of a step that is not stuck are equal
pub planned_same : (v : View) (p q : Plan) → stuck v ≡ false → Planned v p → Planned v q → p ≡ q
planned_same v p q h f g = f (can_commit v h) ∙ sym (g (can_commit v h))
