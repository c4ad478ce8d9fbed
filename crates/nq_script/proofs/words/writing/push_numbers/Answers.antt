use Rattle.std.proofs.Common.{arith}
use Rattle.nq_script.proofs.Digits.{one_number, all_below}
use Rattle.nq_script.proofs.words.writing.push_numbers.Goals as goal

pub loop-number-preserved : goal.loop-number-preserved
loop-number-preserved c =
    one_number c.args.numbers.now c.loop-number.number-index _ _ _ _ c.loop-number-test.true c.loop-number.invariant c.in_ok-push.ensures.items
    c.in_ok-push_digits.ensures

pub returns-in_err-push-clause-fit : goal.returns-in_err-push-clause-fit
returns-in_err-push-clause-fit c = all_below c.args.numbers.now (λ place. omega (arith, c.type_inv.numbers place))

pub returns-in_err-push_digits-clause-fit : goal.returns-in_err-push_digits-clause-fit
returns-in_err-push_digits-clause-fit c = all_below c.args.numbers.now (λ place. omega (arith, c.type_inv.numbers place))

pub returns-clause-fit : goal.returns-clause-fit
returns-clause-fit c = all_below c.args.numbers.now (λ place. omega (arith, c.type_inv.numbers place))
