-- Calls that a signal broke off gave nothing to the writer.
use Rattle.std.specs.Io.KnownBytes.{Keeps}
use Rattle.console.proofs.write_some.Given as goal

abbrev pub invariant-loop : goal.invariant-loop
invariant-loop g l = Keeps (g.W.Write.contents l.fn.to) (g.W.Write.contents l.to)
