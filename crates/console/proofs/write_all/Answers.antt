use Rattle.std.proofs.Common.{◌++◌, rules, take, sym, ap, ◌∙◌, subst}
use Rattle.std.proofs.lemmas.List.{take_rest}
use lib.Seq.{take-add}
use Rattle.std.specs.Io.KnownBytes.{Appends}
use Rattle.std.proofs.KnownBytes.{Appends-trans}
use Rattle.console.proofs.write_all.Goals as goal

-- what one write took stands behind what earlier ones did
pub loop-done-preserved : goal.loop-done-preserved
loop-done-preserved g c =
    let done = c.loop-done.done in
    let n = c.in-Ok.n in
    let bytes = c.args.bytes.now in (
      search rules,
      subst (Appends _ _) (ap (λ l. take done bytes ++ take n l) (take_rest bytes done) ∙ sym (take-add done n bytes))
          (Appends-trans _ _ _ _ _ c.loop-done.invariant.1 c.in-Ok.ensures.bytes),
    )
