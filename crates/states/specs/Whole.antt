-- What the machine's types say of any state record, and that fresh, begin, step and counted steps keep it.
use Rattle.std.specs.Prelude.{not, ◌||◌, ◌≡◌, ℕ, ◌<◌, ◌^◌, eqb, ltb, length, get_or, replicate}
use Rattle.std.proofs.Common.{◌∙◌, arith, length-set}
use Rattle.std.proofs.lemmas.List.{length-replicate}
use Rattle.keys.specs.Keys.{size}
use Rattle.keys.proofs.Laws.{with-lt, without-lt, union-lt, below-lt, from-lt}
use Rattle.states.specs.Tests.{pick}
use Rattle.states.specs.Lists.{Stored, each_set, each_replicate, each-put, length-put}
use Rattle.states.specs.Phase.{Each, end, ◌then◌, by_phase}
use Rattle.states.specs.Calls.{begin_state, step_state, run_state}
use Rattle.rules.specs.State.{none, unmade, new_node, fresh_thread, fresh, zero_place, place_at}
use Rattle.rules.specs.Places.{keys_of, keys_of_body, swap_body, takes_place, is_free, keys_after}
use Rattle.rules.specs.Rows.{hangs, searches, seeks, above_max, below_min, keys_then, commits, decides, no_split, split, no_join, join, row0, row1, row2, row3, row4, row5, row6, row7, row8, row9, row10, row11, row12, row13, row14, row15, row16, row17, row18, row19, row20, row21, row22, row23, row24, row25, rows, plan_of}
use Rattle.rules.specs.Step.{begun, begin_of, view_before, view_of, apply, after, step_of, run_of}
use Rattle.rules.specs.declared.state.Settings.{Settings}
use Rattle.rules.specs.declared.state.Body.{Body}
use Rattle.rules.specs.declared.state.Body.TheVariants.{Base, Route}
use Rattle.rules.specs.declared.state.Place.{Place}
use Rattle.rules.specs.declared.state.Thread.{Thread}
use Rattle.rules.specs.declared.state.State.{State}
use Rattle.rules.specs.declared.row.View.{View}
use Rattle.rules.specs.declared.row.Plan.{Plan}

-- the keys of a place are a set of the keys 0 to 63; a route has none
abbrev pub HasSet : Place → Type 0
HasSet p = keys_of p < 2 ^ 64

-- 128 places, 8 threads, and in each base a set of keys
pub record Whole (s : State) : Type 0 where
  pub places : length s.places ≡ 128
  pub threads : length s.threads ≡ 8
  pub keys : (n : ℕ) → HasSet (get_or s.places n zero_place)

-- ---- each row stores sets

-- the places that a step reads
record Reads (v : View) : Type 0 where
  prev : HasSet v.prev
  base : HasSet v.base
  walk : HasSet v.walk
  neighbour : HasSet v.neighbour
  grandparent : HasSet v.grandparent

-- the places that a plan stores
record Writes (p : Plan) : Type 0 where
  first : Stored HasSet p.first
  second : Stored HasSet p.second
  third : Stored HasSet p.third

-- from its three places
sets : {p : Plan} → Stored HasSet p.first → Stored HasSet p.second → Stored HasSet p.third → Writes p
sets a b c = record { first = a; second = b; third = c }

-- the empty set
empty : 0 < 2 ^ 64
empty = omega arith

-- a child that is swapped leaves the keys
takes_set : (x new : ℕ) (p : Place) → HasSet p → HasSet (takes_place x new p)
takes_set x new p h = go p.body h
  where
    go : (b : Body) → keys_of_body b < 2 ^ 64 → keys_of_body (swap_body x new b) < 2 ^ 64
    go (Base ks) l = l
    go (Route k c d) l = pick (λ (b : Body). keys_of_body b < 2 ^ 64) (eqb c x) l l

-- "Insert .. adds it; delete .. takes it out"
after-set : (o ks k : ℕ) → ks < 2 ^ 64 → keys_after o ks k < 2 ^ 64
after-set o ks k l =
    pick (λ (x : ℕ). x < 2 ^ 64) (eqb o 0) (with-lt ks k l) (pick (λ (x : ℕ). x < 2 ^ 64) (eqb o 1) (without-lt ks k l) l)

-- a node takes the place of another under the route q, or as root
hangs_writes : (v : View) (t : Thread) (new x y : ℕ) (q : Place) → HasSet q → Writes (hangs v t new x y q)
unfolding hangs
hangs_writes v t new x y q h = sets (pick (Stored HasSet) (eqb y none) tt (takes_set x new q h)) tt tt

-- the commit
row5_writes : (v : View) → Reads v → Writes (row5 v)
unfolding row5 decides commits
row5_writes v f =
    let k = after-set v.thread.operation (keys_of v.base) v.thread.key f.base in
    pick Writes v.base.valid
    (pick Writes (above_max v) (pick Writes (ltb (size (keys_then v)) 2) (sets k tt tt) (sets k tt tt))
    (pick Writes (below_min v) (pick Writes (eqb v.thread.prev none) (sets k tt tt) (sets k tt tt)) (sets k tt tt)))
    (sets f.base tt tt)

-- the row at a phase stores sets where it reads sets
abbrev Stores : ℕ → (View → Plan) → Type 0
Stores p row = (v : View) → Reads v → Writes (row v)

-- the join
row12_writes : (v : View) → Reads v → Writes (row12 v)
unfolding row12 no_join join
row12_writes v f =
    let n = f.neighbour in
    pick Writes (not v.neighbour.valid || ltb 127 v.made)
    (sets n (pick HasSet (eqb v.thread.base v.thread.neighbour) n f.base) tt) (sets (union-lt _ _ f.base n) tt tt)

-- all rows, in their order
stores : Each Stores 0 rows
unfolding rows row0 row1 row2 row3 row4 row6 row7 row8 row9 row10 row11 row13 row14 row15 row16 row17 row18 row19 row20 row21 row22 row23 row24 row25 searches seeks no_split split
stores =
    (λ v f. sets tt tt tt)
    then (λ v f. sets tt tt tt)
    then (λ v f. sets tt tt tt)
    then (λ v f. pick Writes (is_free v.base) (sets f.base tt tt) (sets tt tt tt))
    then (λ v f. pick Writes (is_free v.base) (sets f.base tt tt) (sets tt tt tt))
    then row5_writes
    then (λ v f. pick Writes (ltb 125 v.made) (sets f.base tt tt) (sets (below-lt _ _ f.base) (from-lt _ _ f.base) empty))
    then (λ v f. hangs_writes v _ v.thread.made v.thread.base v.thread.prev v.prev f.prev)
    then (λ v f. sets f.base tt tt)
    then (λ v f. sets tt tt tt)
    then (λ v f. sets tt tt tt)
    then (λ v f. pick Writes (is_free v.walk) (sets f.walk tt tt) (sets f.base tt tt))
    then row12_writes
    then (λ v f. pick Writes (is_free v.prev) (sets f.prev tt tt) (sets tt tt tt))
    then (λ v f. sets f.prev f.neighbour f.base)
    then (λ v f. sets tt tt tt)
    then (λ v f. sets tt tt tt)
    then (λ v f. pick Writes (is_free v.grandparent) (sets f.grandparent tt tt) (sets tt tt tt))
    then (λ v f. pick Writes v.grandparent.valid (sets tt tt tt) (sets f.grandparent tt tt))
    then (λ v f. hangs_writes v _ _ v.thread.prev v.thread.grandparent v.grandparent f.grandparent)
    then (λ v f. sets f.prev (pick (Stored HasSet) (eqb v.thread.grandparent none) tt f.grandparent) tt)
    then (λ v f. sets tt tt tt)
    then (λ v f. sets tt tt tt)
    then (λ v f. hangs_writes v _ v.thread.made v.thread.neighbour v.thread.walk v.walk f.walk)
    then (λ v f. sets f.neighbour tt tt)
    then (λ v f. sets f.base tt tt)
    then end

-- ---- the theorems

-- fresh
pub fresh_whole : (c : Settings) → Whole (fresh c)
unfolding fresh
fresh_whole c =
    record {
      places = length-set (replicate 128 unmade) 0 (new_node (Base 0)) ∙ length-replicate 128 unmade;
      threads = length-replicate 8 fresh_thread;
      keys = each_set HasSet (replicate 128 unmade) 0 (new_node (Base 0)) zero_place empty (each_replicate HasSet {a = unmade} empty empty 128);
    }

-- begin, where it is accepted
pub begun_whole : (s : State) (t o k : ℕ) → Whole s → Whole (begun s t o k)
unfolding begun
begun_whole s t o k w = record { places = w.places; threads = length-set s.threads t _ ∙ w.threads; keys = w.keys }

-- a step, stuck or not
pub after_whole : (s : State) (t : ℕ) → Whole s → Whole (after s t)
unfolding after apply plan_of row0 view_of view_before place_at
after_whole s t w =
    let v = view_of s t in
    let p = plan_of v in
    let f : Reads v = record { prev = w.keys _; base = w.keys _; walk = w.keys _; neighbour = w.keys _; grandparent = w.keys _ } in
    let g = by_phase stores (λ n l x h. sets tt tt tt) v.thread.phase v f in
    let first = each-put HasSet p.first s.places g.first w.keys in
    record {
      places = length-put p.third _ ∙ length-put p.second _ ∙ length-put p.first s.places ∙ w.places;
      threads = length-set s.threads t p.thread ∙ w.threads;
      keys = each-put HasSet p.third _ g.third (each-put HasSet p.second _ g.second first);
    }

-- begin, whatever it answers
pub begin_whole : (s : State) (t o k : ℕ) → Whole s → Whole (begin_of s t o k).state
begin_whole s t o k w = begin_state Whole s t o k w (λ r a b c. begun_whole s t o k w)

-- one step, whatever it answers
pub step_whole : (s : State) (t : ℕ) → Whole s → Whole (step_of s t).state
step_whole s t w = step_state Whole s t w (λ r l h. after_whole s t w)

-- counted steps, whatever they answer
pub run_whole : (s : State) (t n : ℕ) → Whole s → Whole (run_of s t n).state
run_whole s t n w = run_state Whole s t n w (λ r l x f h. after_whole x t f)
