-- "Phases": one definition a row. v is what the step reads: `v.base` is the place of B, `v.thread.base` its number, and so for P (prev),
-- N (neighbour), G (grandparent), walk, and the made node (own). A row that is not stuck has these as it needs them.
use Rattle.std.specs.Prelude.{Bool, false, cond, not, ◌||◌, List, [], ◌∷◌, ℕ, ◌+◌, ltb, eqb, get_or, Option, Some, None}
use Rattle.keys.specs.Keys.{has, union, below, from, size, split_key}
use Rattle.rules.specs.State.{none, zero_statistics, fresh_thread, new_node}
use Rattle.rules.specs.Registers.{at_phase, set_prev, set_base, set_walk, set_neighbour, set_grandparent, set_made, set_side, set_answer}
use Rattle.rules.specs.Places.{is_route, keys_of, route_key, child_on, child_by, takes_place, is_free, with_lock, tried, taken3, taken4, release, zero, invalid, with_keys, answer_of, keys_after}
use Rattle.rules.specs.declared.state.Body.TheVariants.{Base, Route}
use Rattle.rules.specs.declared.state.Place.{Place}
use Rattle.rules.specs.declared.state.Thread.{Thread}
use Rattle.rules.specs.declared.row.View.{View}
use Rattle.rules.specs.declared.row.Store.{Store}
use Rattle.rules.specs.declared.row.Plan.{Plan}

-- ---- what a row may change

-- a place to be stored at node n
abbrev pub at : ℕ → Place → Option Store
at n p = Some (record { at = n; place = p })

-- nothing is stored
abbrev pub no_store : Option Store
no_store = None

-- three places
abbrev pub stores3 : View → Thread → Option Store → Option Store → Option Store → Plan
stores3 v t a b c =
    record { thread = t; root = v.root; made = v.made; committed = v.committed; first = a; second = b; third = c }

-- two places
abbrev pub stores2 : View → Thread → Option Store → Option Store → Plan
stores2 v t a b = stores3 v t a b no_store

-- one place
abbrev pub stores1 : View → Thread → Option Store → Plan
stores1 v t a = stores3 v t a no_store no_store

-- the thread alone
abbrev pub only : View → Thread → Plan
only v t = stores3 v t no_store no_store no_store

-- the phase alone
abbrev pub goes : View → ℕ → Plan
goes v p = only v (at_phase p v.thread)

-- ---- what rows have in common

-- `new` takes X's place under Y (its number y, its place q), or as root if Y is none
unfoldable pub hangs : View → Thread → ℕ → ℕ → ℕ → Place → Plan
hangs v t new x y q =
    record {
      thread = t;
      root = cond (eqb y none) new v.root;
      made = v.made;
      committed = v.committed;
      first = cond (eqb y none) no_store (at y (takes_place x new q));
      second = no_store;
      third = no_store;
    }

-- walk = w; "2 if walk is a route; else base = walk, 3"
unfoldable pub searches : View → Thread → ℕ → Plan
searches v t w = only v (cond (is_route v.reached) (at_phase 2 (set_walk w t)) (at_phase 3 (set_base w (set_walk w t))))

-- walk = w; "10 if route; else 11"
unfoldable pub seeks : View → Thread → ℕ → Plan
seeks v t w = only v (cond (is_route v.reached) (at_phase 10 (set_walk w t)) (at_phase 11 (set_walk w t)))

-- "Far": "right if B is then P's left child, else left"
abbrev pub far_side : View → Bool
far_side v = eqb (child_on false v.prev) v.thread.base

-- P's far child by the kept side
abbrev pub far_child : View → ℕ
far_child v = child_on v.thread.side v.prev

-- walk's child in the near way
abbrev pub near_child : View → ℕ
near_child v = child_on (not v.thread.side) v.walk

-- ---- the rows

-- | 1 | prev none, walk = root | 2 if walk is a route; else base = walk, 3
unfoldable pub row1 : View → Plan
row1 v = searches v (set_prev none v.thread) v.root

-- | 2 | prev = walk, walk = its child by the operation's key | as 1
unfoldable pub row2 : View → Plan
row2 v = searches v (set_prev v.thread.walk v.thread) (child_by v.thread.key v.walk)

-- | 3 | B free: take | 5; held: 4
unfoldable pub row3 : View → Plan
row3 v =
    cond (is_free v.base)
    (stores1 v (at_phase 5 v.thread) (at v.thread.base (with_lock (taken3 v.me v.settings v.base.lock) v.base)))
    (goes v 4)

-- | 4 | B free: take; held: waits, nothing changes | 5; 4
unfoldable pub row4 : View → Plan
row4 v =
    cond (is_free v.base)
    (stores1 v (at_phase 5 v.thread) (at v.thread.base (with_lock (taken4 v.me v.settings v.base.lock) v.base)))
    (goes v 4)

-- the statistics of B are above max
abbrev pub above_max : View → Bool
above_max v = ltb (zero_statistics + v.settings.max) v.base.lock.statistics

-- the statistics of B are below min
abbrev pub below_min : View → Bool
below_min v = ltb (v.base.lock.statistics + v.settings.low) zero_statistics

-- B's keys after the operation
abbrev pub keys_then : View → ℕ
keys_then v = keys_after v.thread.operation (keys_of v.base) v.thread.key

-- "Commit: the committed count goes up by one and is the commit number"; B with its keys then, the thread at phase p
unfoldable pub commits : View → ℕ → Place → Plan
commits v p b =
    record {
      thread =
          at_phase p
          (set_answer (answer_of v.thread.operation (has (keys_of v.base) v.thread.key)) (v.committed + 1) v.thread);
      root = v.root;
      made = v.made;
      committed = v.committed + 1;
      first = at v.thread.base b;
      second = no_store;
      third = no_store;
    }

-- "Decide: statistics > max: fewer than 2 keys after the operation gives statistics 0 and phase 25, else 6. Otherwise statistics < min: P none
-- gives statistics 0 and 25, else 9. Otherwise 25"
unfoldable pub decides : View → Place → Plan
decides v b =
    cond (above_max v)
    (cond (ltb (size (keys_then v)) 2) (commits v 25 (zero b)) (commits v 6 b))
    (cond (below_min v) (cond (eqb v.thread.prev none) (commits v 25 (zero b)) (commits v 9 b)) (commits v 25 b))

-- | 5 | B invalid: release B | 1
-- | 5 | B valid: commit, then decide | 6, 9 or 25
unfoldable pub row5 : View → Plan
row5 v =
    cond v.base.valid (decides v (with_keys (keys_then v) v.base))
    (stores1 v (at_phase 1 v.thread) (at v.thread.base (release v.base)))

-- | 6 | fewer than 3 places: B's statistics 0 | 25
unfoldable pub no_split : View → Plan
no_split v = stores1 v (at_phase 25 v.thread) (at v.thread.base (zero v.base))

-- | 6 | else make left base, right base, route in that order | 7; "Smaller keys go left, the rest right"
unfoldable pub split : View → Plan
split v =
    record {
      thread = at_phase 7 (set_made (v.made + 2) v.thread);
      root = v.root;
      made = v.made + 3;
      committed = v.committed;
      first = at v.made (new_node (Base (below (keys_of v.base) (split_key (keys_of v.base)))));
      second = at (v.made + 1) (new_node (Base (from (keys_of v.base) (split_key (keys_of v.base)))));
      third = at (v.made + 2) (new_node (Route (split_key (keys_of v.base)) v.made (v.made + 1)));
    }

-- | 6 | fewer than 3 places ..; else make .. | 25; 7
unfoldable pub row6 : View → Plan
row6 v = cond (ltb 125 v.made) (no_split v) (split v)

-- | 7 | the new route takes B's place under P, or as root if P is none | 8
unfoldable pub row7 : View → Plan
row7 v = hangs v (at_phase 8 v.thread) v.thread.made v.thread.base v.thread.prev v.prev

-- | 8 | B invalid | 25
unfoldable pub row8 : View → Plan
row8 v = stores1 v (at_phase 25 v.thread) (at v.thread.base (invalid v.base))

-- | 9 | side fixed; walk = P's far child | 10 if route; else 11
unfoldable pub row9 : View → Plan
row9 v = seeks v (set_side (far_side v) v.thread) (child_on (far_side v) v.prev)

-- | 10 | walk = its child in the near way | as 9
unfoldable pub row10 : View → Plan
row10 v = seeks v v.thread (near_child v)

-- | 11 | N = walk. N held: B's statistics 0; free: take | 25; 12
unfoldable pub row11 : View → Plan
row11 v =
    cond (is_free v.walk)
    (stores1 v (at_phase 12 (set_neighbour v.thread.walk v.thread))
    (at v.thread.walk (with_lock (tried v.me v.walk.lock) v.walk)))
    (stores1 v (at_phase 25 (set_neighbour v.thread.walk v.thread)) (at v.thread.base (zero v.base)))

-- B after N was released: the same place where B is N
abbrev pub base_then : View → Place
base_then v = cond (eqb v.thread.base v.thread.neighbour) (release v.neighbour) v.base

-- | 12 | N invalid or no place: release N, B's statistics 0 | 25
unfoldable pub no_join : View → Plan
no_join v =
    stores2 v (at_phase 25 v.thread) (at v.thread.neighbour (release v.neighbour)) (at v.thread.base (zero (base_then v)))

-- | 12 | else make a base with the keys of B and N | 13
unfoldable pub join : View → Plan
join v =
    record {
      thread = at_phase 13 (set_made v.made v.thread);
      root = v.root;
      made = v.made + 1;
      committed = v.committed;
      first = at v.made (new_node (Base (union (keys_of v.base) (keys_of v.neighbour))));
      second = no_store;
      third = no_store;
    }

-- | 12 | N invalid or no place ..; else make .. | 25; 13
unfoldable pub row12 : View → Plan
row12 v = cond (not v.neighbour.valid || ltb 127 v.made) (no_join v) (join v)

-- | 13 | P free: take; held: waits | 14; 13
unfoldable pub row13 : View → Plan
row13 v =
    cond (is_free v.prev)
    (stores1 v (at_phase 14 v.thread) (at v.thread.prev (with_lock (tried v.me v.prev.lock) v.prev))) (goes v 13)

-- | 14 | P, N, B invalid | 15
unfoldable pub row14 : View → Plan
row14 v =
    stores3 v (at_phase 15 v.thread)
    (at v.thread.prev (invalid v.prev))
    (at v.thread.neighbour (invalid v.neighbour))
    (at v.thread.base (invalid v.base))

-- | 15 | G none, walk = root | 19 if walk is P; else 16
unfoldable pub row15 : View → Plan
row15 v = only v (at_phase (cond (eqb v.root v.thread.prev) 19 16) (set_walk v.root (set_grandparent none v.thread)))

-- walk's child by P's key
abbrev pub towards_prev : View → ℕ
towards_prev v = child_by (route_key v.prev) v.walk

-- | 16 | G = walk, walk = its child by P's key | 17 if walk is P; else 16
unfoldable pub row16 : View → Plan
row16 v =
    only v
    (at_phase (cond (eqb (towards_prev v) v.thread.prev) 17 16) (set_walk (towards_prev v) (set_grandparent v.thread.walk v.thread)))

-- | 17 | G free: take; held: waits | 18; 17
unfoldable pub row17 : View → Plan
row17 v =
    cond (is_free v.grandparent)
    (stores1 v (at_phase 18 v.thread) (at v.thread.grandparent (with_lock (tried v.me v.grandparent.lock) v.grandparent)))
    (goes v 17)

-- | 18 | G invalid: release G | 15; valid: 19
unfoldable pub row18 : View → Plan
row18 v =
    cond v.grandparent.valid (goes v 19)
    (stores1 v (at_phase 15 v.thread) (at v.thread.grandparent (release v.grandparent)))

-- | 19 | P's far child takes P's place under G, or as root | 20
unfoldable pub row19 : View → Plan
row19 v = hangs v (at_phase 20 v.thread) (far_child v) v.thread.prev v.thread.grandparent v.grandparent

-- | 20 | release P, and G if there is one | 21
unfoldable pub row20 : View → Plan
row20 v =
    stores2 v (at_phase 21 v.thread) (at v.thread.prev (release v.prev))
    (cond (eqb v.thread.grandparent none) no_store (at v.thread.grandparent (release v.grandparent)))

-- | 21 | P's far child is N: walk = G, which may be none; else walk = that child | 23; 22
unfoldable pub row21 : View → Plan
row21 v =
    only v
    (cond (eqb (far_child v) v.thread.neighbour) (at_phase 23 (set_walk v.thread.grandparent v.thread))
    (at_phase 22 (set_walk (far_child v) v.thread)))

-- | 22 | walk's near-way child a base: nothing changes; else walk = that child | 23; 22
unfoldable pub row22 : View → Plan
row22 v = only v (cond (is_route v.reached) (at_phase 22 (set_walk (near_child v) v.thread)) (at_phase 23 v.thread))

-- | 23 | the made base takes N's place under walk, or as root | 24
unfoldable pub row23 : View → Plan
row23 v = hangs v (at_phase 24 v.thread) v.thread.made v.thread.neighbour v.thread.walk v.walk

-- | 24 | release N | 25
unfoldable pub row24 : View → Plan
row24 v = stores1 v (at_phase 25 v.thread) (at v.thread.neighbour (release v.neighbour))

-- | 25 | release B; the operation ends, the thread is as fresh | 0
unfoldable pub row25 : View → Plan
row25 v = stores1 v fresh_thread (at v.thread.base (release v.base))

-- | 0 | idle | refused: it changes nothing
unfoldable pub row0 : View → Plan
row0 v = only v v.thread

-- the rows by their phase
unfoldable pub rows : List (View → Plan)
rows =
    row0 ∷ row1 ∷ row2 ∷ row3 ∷ row4 ∷ row5 ∷ row6 ∷ row7 ∷ row8 ∷ row9 ∷ row10 ∷ row11 ∷ row12 ∷ row13 ∷ row14 ∷ row15 ∷ row16 ∷ row17 ∷ row18 ∷ row19 ∷ row20 ∷ row21 ∷ row22 ∷ row23 ∷ row24 ∷ row25 ∷ []

-- "A thread's phase is the step it takes next"
unfoldable pub plan_of : View → Plan
plan_of v = get_or rows v.thread.phase row0 v
