-- A commit of thread 0, for the logs that are refused.
use Rattle.std.specs.Prelude.{ℕ}
use Rattle.runs.specs.Log.{Entry}

-- thread 0 has inserted 5, with answer a as commit n
abbrev pub inserted : ℕ → ℕ → Entry
inserted a n = record { thread = 0; operation = 0; key = 5; answer = a; number = n }
