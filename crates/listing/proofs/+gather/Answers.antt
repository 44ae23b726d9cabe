-- `listing::gather` meets its contract: at each node by what the walk finds there.
use Rattle.std.proofs.Common.{arith, rules, mod-lt}
use Rattle.listing.proofs.Walk.{in_list, stays, is-again, one_left, fewer, met_right, is_base, is-route}
use Rattle.listing.proofs.+gather.Goals as goal

pub returns-then-m : goal.returns-then-m
returns-then-m t c = stays _ _ _ c.requires c.if-m.true

pub returns-then-m-i : goal.returns-then-m-i
returns-then-m-i t c =
    let a = c.args in
    rw c.again.ensures (is-again a.places.now a.n a.m c.requires c.if-m.false c.if-m-i.true)

pub meets-met-requires : goal.meets-met-requires
meets-met-requires t c =
    let a = c.args in
    let fits = in_list a.n a.m.seen (search rules) in
    (mod-lt a.n (omega arith), one_left a.places.now a.n a.m c.requires c.if-m-i.false fits)

pub gather-requires : goal.gather-requires
gather-requires t c =
    let a = c.args in
    let fits = in_list a.n a.m.seen (search rules) in
    let e = c.meets-met.ensures in
    (rw e (omega (arith, fewer a.places.now a.n a.m c.requires c.if-m-i.false fits)), rw e (met_right a.places.now a.n a.m c.requires c.if-m-i.false fits))

pub gather-requires-in-Route : goal.gather-requires-in-Route
gather-requires-in-Route t c =
    let a = c.args in
    let fits = in_list a.n a.m.seen (search rules) in
    let e = c.meets-met.ensures in
    let f : _ = rw (← e) at (fewer a.places.now a.n a.m c.requires c.if-m-i.false fits) in
    (omega (arith, c.gather.ensures.falls, f), c.gather.ensures.counted)

pub returns-in-Base : goal.returns-in-Base
returns-in-Base t c =
    let a = c.args in
    let fits = in_list a.n a.m.seen (search rules) in
    rw (c.lists.ensures, c.meets-met.ensures) (is_base a.places.now a.n a.m c.requires c.if-m-i.false fits _ c.if-m.false c.in-Base.is)

pub returns-in-Route : goal.returns-in-Route
returns-in-Route t c =
    let a = c.args in
    let fits = in_list a.n a.m.seen (search rules) in
    is-route a.places.now a.n a.m c.requires c.if-m-i.false fits _ _ _ _ _ c.if-m.false c.in-Route.is (rw c.meets-met.ensures at c.gather.ensures) c.gather-in-Route.ensures
