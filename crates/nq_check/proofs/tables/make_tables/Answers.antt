use Rattle.std.proofs.Common.{◌≡◌, length, subst, arith}
use Rattle.nq_check.specs.Tables.{AreTablesTo}
use Rattle.nq_check.proofs.tables.make_tables.Goals as goal

pub loop-place-init : goal.loop-place-init
loop-place-init c = c.no_tables-tables.ensures c.args.whole.now

pub returns : goal.returns
returns c =
    let whole = c.args.whole.now in
    let past = c.loop-place-test.false in
    let upto = c.loop-place.auto.place-end in
    let all : c.loop-place.place ≡ length whole = omega arith in
    subst (λ k. AreTablesTo whole k c.loop-place.tables) all c.loop-place.invariant
