-- A step in place: the places are loaded and stored one by one, and where nothing is stored the old place is put back.
use Rattle.std.specs.Prelude.{◌≡◌, refl, false, List, ℕ, get_or, set, Option, Some, None}
use Rattle.std.proofs.Common.{◌∙◌}
use Rattle.std.proofs.Math.Path.{ap}
use Rattle.std.proofs.lemmas.List.{set-get_or}
use Rattle.rules.specs.State.{zero_place, place_at}
use Rattle.rules.specs.Rows.{plan_of}
use Rattle.rules.specs.Needs.{stuck}
use Rattle.rules.specs.Step.{view_before, next_of, reaching, view_of, put, apply, after}
use Rattle.rules.specs.declared.state.Place.{Place}
use Rattle.rules.specs.declared.state.State.{State}
use Rattle.rules.specs.declared.row.Store.{Store}
use Rattle.rules.specs.declared.row.Plan.{Plan}
use Rattle.machine.specs.Commits.{can_commit, Planned}

-- the place at a store's number after it: the stored one or, where nothing is stored, the old one
abbrev pub stored : Option Store → Place → Place
stored None old = old
stored (Some w) old = w.place

-- the number that a store names; where nothing is stored, some number
abbrev pub named : Option Store → ℕ
named None = 0
named (Some w) = w.at

-- the place that a store finds
abbrev pub found : Option Store → List Place → Place
found a ps = get_or ps (named a) zero_place

-- the places with p there
abbrev pub placed : Option Store → Place → List Place → List Place
placed a p ps = set ps (named a) p

-- putting back what was there is no store
store_is-put : (a : Option Store) (ps : List Place) → placed a (stored a (found a ps)) ps ≡ put a ps
unfolding put
store_is-put None ps = set-get_or ps 0 zero_place
store_is-put (Some w) ps = refl

-- over places that are those of the stores before
is-put : (a : Option Store) (p : Place) (ps qs : List Place) → ps ≡ qs → p ≡ stored a (found a ps) → placed a p ps ≡ put a qs
is-put a p ps qs e f = ap (λ (x : Place). placed a x ps) f ∙ store_is-put a ps ∙ ap (put a) e

-- the state with these places and the rest of thread t's plan
abbrev pub written : State → ℕ → Plan → List Place → State
written s t p ps =
    record {
      root = p.root;
      made = p.made;
      begun = s.begun;
      committed = p.committed;
      settings = s.settings;
      places = ps;
      threads = set s.threads t p.thread;
    }

-- the stores are `apply`
pub stores : (s : State) (t : ℕ) (p : Plan) (x y z : Place) → x ≡ stored p.first (found p.first s.places)
    → y ≡ stored p.second (found p.second (placed p.first x s.places))
    → z ≡ stored p.third (found p.third (placed p.second y (placed p.first x s.places)))
    → written s t p (placed p.third z (placed p.second y (placed p.first x s.places))) ≡ apply s t p
unfolding apply
stores s t p x y z e f g =
    ap (written s t p) (is-put p.third z _ _ (is-put p.second y _ _ (is-put p.first x _ _ refl e) f) g)

module _ (s : State) (t n : ℕ) (z : Place) (e : z ≡ zero_place) (f : n ≡ next_of (reaching z (view_before s t))) where
  -- the loads are the view
  pub loads : reaching (place_at s n) (view_before s t) ≡ view_of s t
  unfolding view_before view_of
  loads =
      ap (λ (m : ℕ). reaching (place_at s m) (view_before s t)) (f ∙ ap (λ (p : Place). next_of (reaching p (view_before s t))) e)

  -- its plan, where it is not stuck, is that of the step
  pub planned : (p : Plan) → Planned (reaching (place_at s n) (view_before s t)) p
      → stuck (reaching (place_at s n) (view_before s t)) ≡ false → apply s t p ≡ after s t
  unfolding after
  planned p h k = ap (apply s t) (h (can_commit _ k) ∙ ap plan_of loads)
