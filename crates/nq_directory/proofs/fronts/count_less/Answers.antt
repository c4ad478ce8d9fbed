use Rattle.std.proofs.Common.{◌≡◌, refl, arith, ◌+◌, ◌-◌, ◌/◌}
use Rattle.std.specs.List.{prefix_len}
use Rattle.std.specs.Prelude.{nat_lt}
use Rattle.std.proofs.lemmas.List.Sums.{prefix_len-le-length}
use Rattle.nq_directory.proofs.Halving.{halves, last}
use Rattle.nq_directory.proofs.fronts.count_less.Goals as goal

pub loop-size-preserved : goal.loop-size-preserved
loop-size-preserved c =
    let base = c.loop-size.base in
    let size = c.loop-size.size in
    halves c.args.numbers.now c.args.number base size (size / 2) c.if_on-base.result (base + c.if_on-base.result) (size - size / 2)
    c.requires c.loop-size.invariant c.loop-size-test.true refl c.if_on-base.ensures refl refl

pub returns-clause-count : goal.returns-clause-count
returns-clause-count c =
    let few = c.loop-size-test.false in
    last c.args.numbers.now c.args.number c.loop-size.base c.loop-size.size c.if_on.result (c.loop-size.base + c.if_on.result)
    c.requires c.loop-size.invariant (omega arith) c.if_on.ensures refl

pub returns-clause-within : goal.returns-clause-within
returns-clause-within c =
    let few = c.loop-size-test.false in
    let most = prefix_len-le-length (λ k. nat_lt k c.args.number) c.args.numbers.now in
    let at : c.loop-size.base + c.if_on.result ≡ prefix_len (λ k. nat_lt k c.args.number) c.args.numbers.now =
    last c.args.numbers.now c.args.number c.loop-size.base c.loop-size.size c.if_on.result (c.loop-size.base + c.if_on.result)
    c.requires c.loop-size.invariant (omega arith) c.if_on.ensures refl in
    omega arith
