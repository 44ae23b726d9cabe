-- Where keys are counted, played on example D: before and after the splice, before and after the link; and through both children of a route.
use Rattle.std.specs.Prelude.{false, ◌≡◌, ℕ, set}
use Rattle.rules.specs.State.{fresh, thread_at}
use Rattle.rules.specs.Registers.{at_phase}
use Rattle.rules.specs.declared.state.State.{State}
use Rattle.runs.specs.Calls.{after_moves}
use Rattle.runs.specs.Holders.{Reaches, carries, holders}
use Rattle.runs.specs.Instance.{example_settings, plays, joins}

-- the state after n steps of the last lookup of example D
unfoldable pub joining : ℕ → State
joining n = after_moves (fresh example_settings) (joins n)

-- thread 0, whose base has the key 2, is in phase p after n steps, and the key is counted once
pub record Once (n p : ℕ) : Type 0 where
  pub phase : (thread_at (joining n) 0).phase ≡ p
  pub count : holders (joining n) 2 ≡ 1

-- the state after thread 0 has inserted 5, but that it is in phase 20 with no base
unfoldable pub stray : State
stray =
    let s = after_moves (fresh example_settings) (plays 0 0 5 4) in
    record {
      root = s.root;
      made = s.made;
      begun = s.begun;
      committed = s.committed;
      settings = s.settings;
      places = s.places;
      threads = set s.threads 0 (at_phase 20 (thread_at s 0));
    }

-- before and after the splice, before and after the link; what carries no key; what is reached
pub record Played : Type 0 where
  pub splice : Once 10 19
  pub spliced : Once 11 20
  pub link : Once 13 23
  pub linked : Once 14 24
  -- a register that is none carries no key
  pub none : carries stray 5 0 ≡ false
  -- before the splice the root is a route, and both its children are reached
  pub left : Reaches (joining 10) (joining 10).root 1
  pub right : Reaches (joining 10) (joining 10).root 2
