-- `machine::view::view` meets its contract: the loads are the view.
use mathlib.Core.Path.{refl, ap, ◌∙◌}
use Rattle.rules.specs.State.{zero_place}
use Rattle.rules.specs.Step.{view_before, next_of, reaching}
use Rattle.rules.specs.declared.state.Place.{Place}
use Rattle.rules.specs.declared.row.View.{View}
use Rattle.machine.specs.InPlace.{loads}
use Rattle.machine.proofs.view.view.Goals as goal

pub returns : goal.returns
unfolding view_before
returns c =
    let s = c.args.s.now in
    let t = c.args.t in
    let e = c.look-before.ensures in
    ap (λ (v : View). reaching c.place_at.result v) e
    ∙ ap (λ (p : Place). reaching p (view_before s t)) c.place_at.ensures
    ∙ loads s t c.next.result zero_place refl (c.next.ensures ∙ ap next_of e)
