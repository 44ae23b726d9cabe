-- `reading::field` meets its contract.
use mathlib.Core.Path.{sym, ◌∙◌}
use Rattle.std.proofs.Common.{rules, arith, ◌≡◌, ◌-◌, ◌+◌}
use lib.Seq.{length-take-le}
use Rattle.text.specs.Text.{tab}
use Rattle.text.proofs.Reading.{until-le, field-first, field_later, field-none, rest_part}
use Rattle.reading.proofs.field.Goals as goal

pub returns-then-end-rest : goal.returns-then-end-rest
returns-then-end-rest c =
    sym (c.loop.invariant.1 ∙ field-none _ _ (omega (arith, c.loop-test.true)) (omega (arith, c.until-end.ensures, c.if-end-rest.true)))

pub overflow_add-rest : goal.overflow_add-rest
overflow_add-rest c = omega (arith, c.until-end.ensures, until-le tab c.loop.rest.now, c.if-end-rest.false)

pub slice_bounds-rest-count : goal.slice_bounds-rest-count
slice_bounds-rest-count c = omega (arith, c.until-end.ensures, until-le tab c.loop.rest.now, c.if-end-rest.false)

pub slice_bounds-rest-start : goal.slice_bounds-rest-start
slice_bounds-rest-start c = omega (arith, c.until-end.ensures, until-le tab c.loop.rest.now, c.if-end-rest.false)

pub loop-preserved : goal.loop-preserved
loop-preserved c =
    let e : c.args.i - c.loop.counter - 1 ≡ c.args.i - (c.loop.counter + 1) = omega arith in (
      search rules,
      c.loop.invariant.1
          ∙ simp (rest_part, c.until-end.ensures)
          (rw e at (field_later c.loop.rest.now (c.args.i - c.loop.counter) (omega (arith, c.loop-test.true)) (omega (arith, c.until-end.ensures, until-le tab c.loop.rest.now, c.if-end-rest.false)))),
    )

pub slice_bounds-result-end-2 : goal.slice_bounds-result-end-2
slice_bounds-result-end-2 c = sym (length-take-le _ _ (omega (arith, c.until.ensures, until-le tab c.loop.rest.now)))

pub returns : goal.returns
returns c =
    let e : c.args.i - c.loop.counter ≡ 0 = omega (arith, c.loop-test.false) in
    rw (c.until.ensures, ← field-first) (sym (rw e at c.loop.invariant.1))
