-- `machine::view::apply` meets its contract: the stores in place, one after the other, are `apply`.
use mathlib.Core.Path.{refl, ap, ◌∙◌}
use Rattle.std.specs.Prelude.{List, Option}
use Rattle.rules.specs.declared.state.Place.{Place}
use Rattle.rules.specs.declared.row.Store.{Store}
use Rattle.machine.specs.InPlace.{stored, found, placed, written, stores}
use Rattle.machine.proofs.view.apply.Goals as goal

-- the places after a store in place
abbrev in_place : Option Store → List Place → List Place
in_place a ps = placed a (stored a (found a ps)) ps

pub returns : goal.returns
returns c =
    let s = c.args.s.now in
    let t = c.args.t in
    let p = c.args.p in
    ap (written s t p) (c.store-3.ensures.loaded ∙ ap (in_place p.third) (c.store-2.ensures.loaded ∙ ap (in_place p.second) c.store.ensures.loaded))
    ∙ stores s t p _ _ _ refl refl refl
