-- Calls that a signal broke off took nothing from the reader.
use Rattle.std.specs.Io.KnownBytes.{Keeps}
use Rattle.console.proofs.read_some.Given as goal

abbrev pub invariant-loop : goal.invariant-loop
invariant-loop g l = Keeps (g.R.Read.remaining l.fn.from) (g.R.Read.remaining l.from)
