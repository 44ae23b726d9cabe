-- "The state": none, the records as they are when fresh, and reading a place or a thread by its number.
use Rattle.std.specs.Prelude.{true, false, ℕ, ◌%◌, get_or, set, replicate}
use Rattle.rules.specs.declared.state.Settings.{Settings}
use Rattle.rules.specs.declared.state.Lock.{Lock}
use Rattle.rules.specs.declared.state.Body.{Body}
use Rattle.rules.specs.declared.state.Body.TheVariants.{Base}
use Rattle.rules.specs.declared.state.Place.{Place}
use Rattle.rules.specs.declared.state.Thread.{Thread}
use Rattle.rules.specs.declared.state.State.{State}

-- a node register that names no node
abbrev pub none : ℕ
none = 128

-- the holder of a lock that is free
abbrev pub nobody : ℕ
nobody = 8

-- statistics 0: they are held 2,000,000 up
abbrev pub zero_statistics : ℕ
zero_statistics = 2000000

-- "Statistics stop at −2,000,000 and 2,000,000": held up, at 0 and here
abbrev pub top_statistics : ℕ
top_statistics = 4000000

-- the lock of a new node: free, with statistics 0
abbrev pub fresh_lock : Lock
fresh_lock = record { holder = nobody; statistics = zero_statistics }

-- a place that is not made: invalid, free, empty
abbrev pub unmade : Place
unmade = record { lock = fresh_lock; valid = false; body = Base 0 }

-- "New nodes are valid and free with statistics 0"
abbrev pub new_node : Body → Place
new_node b = record { lock = fresh_lock; valid = true; body = b }

-- a thread "as fresh": idle, all zero or none
abbrev pub fresh_thread : Thread
fresh_thread =
    record {
      phase = 0;
      operation = 0;
      key = 0;
      prev = none;
      base = none;
      walk = none;
      neighbour = none;
      grandparent = none;
      made = none;
      answer = 0;
      commit = 0;
      side = false;
    }

-- "Fresh: node 0 is a valid, free, empty base with statistics 0 and is the root; made 1; all 128 places and all threads otherwise zero or none"
unfoldable pub fresh : Settings → State
fresh c =
    record {
      root = 0;
      made = 1;
      begun = 0;
      committed = 0;
      settings = c;
      places = set (replicate 128 unmade) 0 (new_node (Base 0));
      threads = replicate 8 fresh_thread;
    }

-- what an index past the end reads: the record of zeros
abbrev pub zero_place : Place
zero_place = record { lock = record { holder = 0; statistics = 0 }; valid = false; body = Base 0 }

-- the same for a thread
abbrev pub zero_thread : Thread
zero_thread =
    record {
      phase = 0;
      operation = 0;
      key = 0;
      prev = 0;
      base = 0;
      walk = 0;
      neighbour = 0;
      grandparent = 0;
      made = 0;
      answer = 0;
      commit = 0;
      side = false;
    }

-- the place of node n; a register that is none reads place 0, which no row looks at
unfoldable pub place_at : State → ℕ → Place
place_at s n = get_or s.places (n % 128) zero_place

-- thread t
unfoldable pub thread_at : State → ℕ → Thread
thread_at s t = get_or s.threads t zero_thread
