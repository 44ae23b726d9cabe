use Rattle.std.specs.Prelude.{ℕ, Result, Ok, Err}
use Rattle.console.specs.declared.Stopped.{Stopped}

-- how many bytes were moved in all, also where a call failed at last
abbrev pub moved : Result ℕ Stopped → ℕ
moved (Ok n) = n
moved (Err e) = e.bytes
