-- `keys::split_key` meets its contract: the filtered range is the list of the keys.
use Rattle.std.proofs.Common.{◌≡◌, refl, ◌∙◌, ap, ℕ, zero, suc, ◌+◌, ◌/◌, List, ◌∷◌, rules, add-one, get_or, Option}
use Rattle.std.specs.Prelude.{cond}
use borrow.Author.Tests.{tests}
use Rattle.std.specs.List.{filter, range_with_len, slice_get}
use Rattle.std.specs.Option.{unwrap_or, option_map}
use Rattle.std.proofs.lemmas.Option.{unwrap_or-slice_get}
use Rattle.std.proofs.lemmas.Iterator.{YieldsList-from_range}
use Rattle.std.proofs.lemmas.Iterator.Adapters.{option_map_id}
use Rattle.std.proofs.lemmas.Iterator.Consumers.{nth_from_yields_List, YieldsList-from_filter}
use Rattle.keys.specs.Keys.{has, rising, list_of, size, split_key}
use Rattle.keys.proofs.split_key.Goals as goal

-- the keys among n numbers are what a filter leaves of them
filtered : (m i n : ℕ) → filter (has m) (range_with_len i n) ≡ rising m i n
unfolding rising
filtered m i zero = refl
filtered m i (suc n) =
    let rest : filter (has m) (range_with_len (i + 1) n) ≡ rising m (suc i) n = rw (add-one i) (filtered m (suc i) n) in
    ap (λ (ks : List ℕ). cond (has m i) (i ∷ ks) ks) rest

-- the element at n, or 0
element : (o : Option ℕ) (ks : List ℕ) (n : ℕ) → option_map (λ x. x) o ≡ slice_get ks n → unwrap_or o 0 ≡ get_or ks n 0
element o ks n e = rw (← option_map_id o, e) (unwrap_or-slice_get ks n 0)

pub returns : goal.returns
unfolding split_key list_of
returns c =
    let m = c.args.m in
    let at : option_map (λ x. x) c.nth.result ≡ slice_get (filter (has m) (range_with_len 0 64)) c.from.result =
    nth_from_yields_List c.nth.result c.nth.new.self c.from.result c.nth.ensures.ran
    (YieldsList-from_filter _ (has m) (YieldsList-from_range 0 64 64 (cc) refl) c.filter.ensures.closure (λ x b q k. search (rules, tests))) in
    let half : c.from.result ≡ size m / 2 = c.from.ensures ∙ ap (λ (n : ℕ). n / 2) c.size-before.ensures in
    c.unwrap_or.ensures ∙ element c.nth.result _ c.from.result at ∙ ap (λ (ks : List ℕ). get_or ks c.from.result 0) (filtered m 0 64)
    ∙ ap (λ (n : ℕ). get_or (list_of m) n 0) half
