-- Demand 3, sentence by sentence: what is to hold after any calls from a fresh state.
use Rattle.std.specs.Prelude.{true, false, List, ◌≡◌, ℕ, ◌≤◌, ◌<◌, length, get_or, Ok}
use Rattle.keys.specs.Keys.{has, list_of}
use Rattle.rules.specs.State.{fresh, place_at, thread_at}
use Rattle.rules.specs.Places.{is_route, is_base, keys_of, route_key, child_on}
use Rattle.rules.specs.Range.{settings_in_range}
use Rattle.rules.specs.Step.{step_of, run_of}
use Rattle.rules.specs.List.{reached, key_list_of}
use Rattle.rules.specs.declared.state.Settings.{Settings}
use Rattle.rules.specs.declared.state.State.{State}
use Rattle.runs.specs.Calls.{Call, moves_of}
use Rattle.runs.specs.Passes.{one, passed}
use Rattle.runs.specs.PlainSet.{PlainSet, empty, keys_in}
use Rattle.runs.specs.Log.{Entry, play_log, Right}
use Rattle.runs.specs.Events.{Event, commits_in, nothing_due, Fits, due_after, due_of}
use Rattle.runs.specs.Holders.{Reaches, Quiet, holders}
use Rattle.rules.specs.Refusals.{reply_number}

-- the key list is accepted; a key is listed exactly if it is in the plain set p; so the listed keys, rising, are those of p
pub record ListsThe (p : PlainSet) (s : State) : Type 0 where
  pub keys : ℕ
  pub accepted : key_list_of s ≡ Ok keys
  pub exactly : (j : ℕ) → has keys j ≡ p j
  pub rising : list_of keys ≡ keys_in p

-- c: the settings; cs: the calls; s: the state after them; events: their accepted begins, commits and ends; log: the commits alone
pub record Demand3 (c : Settings) (cs : List Call) (s : State) (events : List Event) (log : List Entry) : Type 0 where
  -- the log has the commits in their order, all of them
  pub commits : log ≡ commits_in events
  pub all : s.committed ≡ length log
  -- a thread commits what it has begun and not committed before, and an operation that ends replies with the answer and number of its commit
  pub operations : Fits nothing_due events
  -- by its registers too, a thread in phases 1 to 5 has begun and not committed, and one in 6 to 25 has committed so and not ended
  pub standing : (t : ℕ) → t ≤ 7 → due_after nothing_due events t ≡ due_of t (thread_at s t)
  -- commit numbers are 1, 2, 3, .., and each answer is that of one plain set, empty at first, that takes the commits in this order
  pub answers : Right empty 0 log
  -- of the reachable bases and the base registers of threads in phases 20 to 23, one has the key j if it is in the plain set, and none if not
  pub keys : (j : ℕ) → holders s j ≡ one (play_log empty log j)
  -- a node is reachable from the root exactly if the walk that lists keys meets it
  pub met : (b : ℕ) → get_or (reached s).seen b false ≡ true → Reaches s s.root b
  pub meets : (b : ℕ) → Reaches s s.root b → get_or (reached s).seen b false ≡ true
  -- while no thread is in phases 20 to 23, the key list is the plain set
  pub listed : settings_in_range c ≡ true → Quiet s → ListsThe (play_log empty log) s
  -- below each reachable route, keys on its left are smaller than its key and keys on its right are not
  pub left : (x b j : ℕ) → Reaches s s.root x → is_route (place_at s x) ≡ true → Reaches s (child_on false (place_at s x)) b
      → is_base (place_at s b) ≡ true → has (keys_of (place_at s b)) j ≡ true → j < route_key (place_at s x)
  pub right : (x b j : ℕ) → Reaches s s.root x → is_route (place_at s x) ≡ true → Reaches s (child_on true (place_at s x)) b
      → is_base (place_at s b) ≡ true → has (keys_of (place_at s b)) j ≡ true → route_key (place_at s x) ≤ j
  -- and so are the keys of the routes below it
  pub left_routes : (x y : ℕ) → Reaches s s.root x → is_route (place_at s x) ≡ true → Reaches s (child_on false (place_at s x)) y
      → is_route (place_at s y) ≡ true → route_key (place_at s y) < route_key (place_at s x)
  pub right_routes : (x y : ℕ) → Reaches s s.root x → is_route (place_at s x) ≡ true → Reaches s (child_on true (place_at s x)) y
      → is_route (place_at s y) ≡ true → route_key (place_at s x) ≤ route_key (place_at s y)
  -- no walk passes more than 42 routes
  pub routes : (t : ℕ) → passed t (fresh c) (moves_of (fresh c) cs) 0 ≤ 42
  -- no step, no counted steps and no key list is refused with 8
  pub steps : (t : ℕ) → reply_number (step_of s t).reply ≡ 8 → ⊥
  pub counts : (t n : ℕ) → reply_number (run_of s t n).reply ≡ 8 → ⊥
  pub list : reply_number (key_list_of s) ≡ 8 → ⊥
