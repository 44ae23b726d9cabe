-- What rows ask of a place, and what they do to one.
use Rattle.std.specs.Prelude.{Bool, true, false, cond, not, ℕ, ◌+◌, ◌-◌, min, ltb, eqb}
use Rattle.keys.specs.Keys.{with, without}
use Rattle.rules.specs.State.{none, nobody, zero_statistics, top_statistics}
use Rattle.rules.specs.declared.state.Settings.{Settings}
use Rattle.rules.specs.declared.state.Lock.{Lock}
use Rattle.rules.specs.declared.state.Body.{Body}
use Rattle.rules.specs.declared.state.Body.TheVariants.{Base, Route}
use Rattle.rules.specs.declared.state.Place.{Place}

-- "A route has key, left, right": a body is that of a route
abbrev pub is_route_body : Body → Bool
is_route_body (Base ks) = false
is_route_body (Route k l r) = true

-- the node is a route
abbrev pub is_route : Place → Bool
is_route p = is_route_body p.body

-- the node is a base
abbrev pub is_base : Place → Bool
is_base p = not (is_route_body p.body)

-- the keys of a base
abbrev pub keys_of_body : Body → ℕ
keys_of_body (Base ks) = ks
keys_of_body (Route k l r) = 0

-- "A base has a set of keys"
abbrev pub keys_of : Place → ℕ
keys_of p = keys_of_body p.body

-- the key of a route; 0 of a base, for which no row asks
abbrev pub route_key_of_body : Body → ℕ
route_key_of_body (Base ks) = 0
route_key_of_body (Route k l r) = k

-- the key of a route
abbrev pub route_key : Place → ℕ
route_key p = route_key_of_body p.body

-- the child of a body on a side: true is right
abbrev pub child_on_body : Bool → Body → ℕ
child_on_body w (Base ks) = none
child_on_body w (Route k l r) = cond w r l

-- the child of a route on a side: true is right
abbrev pub child_on : Bool → Place → ℕ
child_on w p = child_on_body w p.body

-- "Child by key k is left if k < route key, else right"
abbrev pub child_by : ℕ → Place → ℕ
child_by k p = child_on (not (ltb k (route_key p))) p

-- the body with `new` in the place of child x
abbrev pub swap_body : ℕ → ℕ → Body → Body
swap_body x new (Base ks) = Base ks
swap_body x new (Route k l r) = cond (eqb l x) (Route k new r) (Route k l new)

-- "Takes X's place under Y": Y's left if that is X, else its right
abbrev pub takes_place : ℕ → ℕ → Place → Place
takes_place x new y = record { lock = y.lock; valid = y.valid; body = swap_body x new y.body }

-- "B free": its holder is none
abbrev pub is_free : Place → Bool
is_free p = eqb p.lock.holder nobody

-- the place with another lock record: "and no other record"
abbrev pub with_lock : Lock → Place → Place
with_lock l p = record { lock = l; valid = p.valid; body = p.body }

-- a lock taken: its holder, and the statistics that the taking leaves
abbrev pub taken : ℕ → ℕ → Lock
taken me n = record { holder = me; statistics = n }

-- a lock taken with no change of statistics: a try on a neighbour, and route locks
abbrev pub tried : ℕ → Lock → Lock
tried me l = taken me l.statistics

-- "Taking at phase 3 subtracts succ from the base's statistics", down to the lower stop
abbrev pub taken3 : ℕ → Settings → Lock → Lock
taken3 me c l = taken me (l.statistics - c.succ)

-- "taking at phase 4 adds fail", up to the upper stop
abbrev pub taken4 : ℕ → Settings → Lock → Lock
taken4 me c l = taken me (min top_statistics (l.statistics + c.fail))

-- "Releasing sets the holder to none"
abbrev pub released : Lock → Lock
released l = record { holder = nobody; statistics = l.statistics }

-- "statistics 0"
abbrev pub zeroed : Lock → Lock
zeroed l = record { holder = l.holder; statistics = zero_statistics }

-- the place with its lock released
abbrev pub release : Place → Place
release p = with_lock (released p.lock) p

-- the place with its statistics 0
abbrev pub zero : Place → Place
zero p = with_lock (zeroed p.lock) p

-- "B invalid": the valid flag goes
abbrev pub invalid : Place → Place
invalid p = record { lock = p.lock; valid = false; body = p.body }

-- the base with other keys
abbrev pub with_keys : ℕ → Place → Place
with_keys ks p = record { lock = p.lock; valid = p.valid; body = Base ks }

-- "Insert answers 1 if the key was absent ..; delete answers 1 if it was present ..; lookup answers 1 if present; otherwise 0"
abbrev pub answer_of : ℕ → Bool → ℕ
answer_of o present = cond (eqb o 0) (cond present 0 1) (cond present 1 0)

-- "Insert .. adds it; delete .. takes it out"
abbrev pub keys_after : ℕ → ℕ → ℕ → ℕ
keys_after o ks k = cond (eqb o 0) (with ks k) (cond (eqb o 1) (without ks k) ks)
