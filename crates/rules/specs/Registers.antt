-- A thread with one register set. "Registers and nodes not named stay."
use Rattle.std.specs.Prelude.{Bool, ℕ}
use Rattle.rules.specs.declared.state.Thread.{Thread}

-- the thread in phase x
abbrev pub at_phase : ℕ → Thread → Thread
at_phase x t =
    record {
      phase = x;
      operation = t.operation;
      key = t.key;
      prev = t.prev;
      base = t.base;
      walk = t.walk;
      neighbour = t.neighbour;
      grandparent = t.grandparent;
      made = t.made;
      answer = t.answer;
      commit = t.commit;
      side = t.side;
    }

-- prev = x
abbrev pub set_prev : ℕ → Thread → Thread
set_prev x t =
    record {
      phase = t.phase;
      operation = t.operation;
      key = t.key;
      prev = x;
      base = t.base;
      walk = t.walk;
      neighbour = t.neighbour;
      grandparent = t.grandparent;
      made = t.made;
      answer = t.answer;
      commit = t.commit;
      side = t.side;
    }

-- base = x
abbrev pub set_base : ℕ → Thread → Thread
set_base x t =
    record {
      phase = t.phase;
      operation = t.operation;
      key = t.key;
      prev = t.prev;
      base = x;
      walk = t.walk;
      neighbour = t.neighbour;
      grandparent = t.grandparent;
      made = t.made;
      answer = t.answer;
      commit = t.commit;
      side = t.side;
    }

-- walk = x
abbrev pub set_walk : ℕ → Thread → Thread
set_walk x t =
    record {
      phase = t.phase;
      operation = t.operation;
      key = t.key;
      prev = t.prev;
      base = t.base;
      walk = x;
      neighbour = t.neighbour;
      grandparent = t.grandparent;
      made = t.made;
      answer = t.answer;
      commit = t.commit;
      side = t.side;
    }

-- N = x
abbrev pub set_neighbour : ℕ → Thread → Thread
set_neighbour x t =
    record {
      phase = t.phase;
      operation = t.operation;
      key = t.key;
      prev = t.prev;
      base = t.base;
      walk = t.walk;
      neighbour = x;
      grandparent = t.grandparent;
      made = t.made;
      answer = t.answer;
      commit = t.commit;
      side = t.side;
    }

-- G = x
abbrev pub set_grandparent : ℕ → Thread → Thread
set_grandparent x t =
    record {
      phase = t.phase;
      operation = t.operation;
      key = t.key;
      prev = t.prev;
      base = t.base;
      walk = t.walk;
      neighbour = t.neighbour;
      grandparent = x;
      made = t.made;
      answer = t.answer;
      commit = t.commit;
      side = t.side;
    }

-- the made node is x
abbrev pub set_made : ℕ → Thread → Thread
set_made x t =
    record {
      phase = t.phase;
      operation = t.operation;
      key = t.key;
      prev = t.prev;
      base = t.base;
      walk = t.walk;
      neighbour = t.neighbour;
      grandparent = t.grandparent;
      made = x;
      answer = t.answer;
      commit = t.commit;
      side = t.side;
    }

-- "kept as side"
abbrev pub set_side : Bool → Thread → Thread
set_side x t =
    record {
      phase = t.phase;
      operation = t.operation;
      key = t.key;
      prev = t.prev;
      base = t.base;
      walk = t.walk;
      neighbour = t.neighbour;
      grandparent = t.grandparent;
      made = t.made;
      answer = t.answer;
      commit = t.commit;
      side = x;
    }

-- "the thread gets the operation, the key and phase 1"
abbrev pub set_operation : ℕ → ℕ → Thread → Thread
set_operation o k t =
    record {
      phase = 1;
      operation = o;
      key = k;
      prev = t.prev;
      base = t.base;
      walk = t.walk;
      neighbour = t.neighbour;
      grandparent = t.grandparent;
      made = t.made;
      answer = t.answer;
      commit = t.commit;
      side = t.side;
    }

-- the answer and the commit number
abbrev pub set_answer : ℕ → ℕ → Thread → Thread
set_answer a n t =
    record {
      phase = t.phase;
      operation = t.operation;
      key = t.key;
      prev = t.prev;
      base = t.base;
      walk = t.walk;
      neighbour = t.neighbour;
      grandparent = t.grandparent;
      made = t.made;
      answer = a;
      commit = n;
      side = t.side;
    }
