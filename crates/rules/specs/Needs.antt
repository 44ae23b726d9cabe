-- Refusal 8: what the row of each phase needs, and whether a step has it.
use Rattle.std.specs.Prelude.{Bool, true, not, ◌&&◌, ◌||◌, List, [], ◌∷◌, ℕ, ltb, leb, eqb, get_or}
use Rattle.keys.specs.Keys.{size}
use Rattle.rules.specs.State.{none}
use Rattle.rules.specs.Places.{is_route, is_base, keys_of}
use Rattle.rules.specs.declared.state.Place.{Place}
use Rattle.rules.specs.declared.row.View.{View}
use Rattle.rules.specs.Rows.{above_max, below_min}

-- register n, whose place is p, names a route
abbrev pub route : ℕ → Place → Bool
route n p = ltb n none && is_route p

-- register n, whose place is p, names a base
abbrev pub base : ℕ → Place → Bool
base n p = ltb n none && is_base p

-- register n, whose place is p, is none or names a route
abbrev pub maybe_route : ℕ → Place → Bool
maybe_route n p = eqb n none || route n p

-- P is a route
abbrev pub route_p : View → Bool
route_p v = route v.thread.prev v.prev

-- G is a route
abbrev pub route_g : View → Bool
route_g v = route v.thread.grandparent v.grandparent

-- walk is a route
abbrev pub route_walk : View → Bool
route_walk v = route v.thread.walk v.walk

-- B is a base
abbrev pub base_b : View → Bool
base_b v = base v.thread.base v.base

-- N is a base
abbrev pub base_n : View → Bool
base_n v = base v.thread.neighbour v.neighbour

-- P is none or a route
abbrev pub none_or_p : View → Bool
none_or_p v = maybe_route v.thread.prev v.prev

-- G is none or a route
abbrev pub none_or_g : View → Bool
none_or_g v = maybe_route v.thread.grandparent v.grandparent

-- a commit needs committed < begun; P is named at 5 only below min
abbrev pub commitable : View → Bool
commitable v = ltb v.committed v.begun && (above_max v || not (below_min v) || none_or_p v)

-- what the row at each phase needs of the registers that it names without first setting them, and of the counts
unfoldable pub needs : List (View → Bool)
needs =
    (λ v. true)  -- 0
    ∷ (λ v. true)  -- 1
    ∷ route_walk  -- 2
    ∷ base_b  -- 3
    ∷ base_b  -- 4
    ∷ (λ v. base_b v && (not v.base.valid || commitable v))  -- 5
    ∷ (λ v. base_b v && leb 2 (size (keys_of v.base)))  -- 6
    ∷ (λ v. base_b v && none_or_p v && route v.thread.made v.own)  -- 7
    ∷ base_b  -- 8
    ∷ (λ v. route_p v && base_b v)  -- 9
    ∷ route_walk  -- 10
    ∷ (λ v. base v.thread.walk v.walk && base_b v)  -- 11
    ∷ (λ v. base_n v && base_b v)  -- 12
    ∷ route_p  -- 13
    ∷ (λ v. route_p v && base_n v && base_b v)  -- 14
    ∷ route_p  -- 15
    ∷ (λ v. route_walk v && route_p v)  -- 16
    ∷ route_g  -- 17
    ∷ route_g  -- 18
    ∷ (λ v. route_p v && none_or_g v)  -- 19
    ∷ (λ v. route_p v && none_or_g v)  -- 20
    ∷ (λ v. route_p v && base_n v && none_or_g v)  -- 21
    ∷ route_walk  -- 22
    ∷ (λ v. base v.thread.made v.own && base_n v && maybe_route v.thread.walk v.walk)  -- 23
    ∷ base_n  -- 24
    ∷ base_b  -- 25
    ∷ []

-- a phase above 25 needs nothing: no row stands there
abbrev pub idle : View → Bool
idle v = true

-- "a step .. is stuck"
unfoldable pub stuck : View → Bool
stuck v = not (get_or needs v.thread.phase idle v)
