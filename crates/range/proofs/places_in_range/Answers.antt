use Rattle.std.proofs.Common.{◌∙◌, refl, rules}
use Rattle.std.proofs.lemmas.Iterator.{YieldsList-from_slice}
use Rattle.std.proofs.lemmas.Iterator.Search.{all_from_yields_List}
use Rattle.std.proofs.lemmas.List.Recursion.{same_from_clauses}
use Rattle.std.specs.List.{list_all}
use mathlib.Core.Bool.{◌&&◌}
use borrow.Author.Tests.{tests}
use Rattle.rules.specs.Range.{place_in_range, places_in_range}
use Rattle.range.proofs.places_in_range.Goals as goal

-- `all` asks what the definition asks of each place
pub returns : goal.returns
unfolding places_in_range
returns c =
    let each = place_in_range c.args.made in
    all_from_yields_List each _ _ c.all.result c.all.ensures.ran (YieldsList-from_slice c.args.places.now cc) (λ x b q k. search (rules, tests))
    ∙ same_from_clauses (list_all each) (places_in_range c.args.made) (λ x b. each x && b) refl (λ _ _. refl) (λ _ _. refl) c.args.places.now
