use Rattle.std.proofs.Common.{[], ◌∷◌, ap, length, arith}
use Rattle.std.proofs.lemmas.List.{length-append}
use Rattle.nq_image.specs.Kept.{numbers_from}
use Rattle.nq_image.proofs.KeptWalks.{number-passes, no-number-left}
use Rattle.nq_image.proofs.kept.numbers_from.Goals as goal

pub loop-preserved : goal.loop-preserved
loop-preserved c = record {
  at = omega arith;
  size = omega (arith, ap length c.in_ok-push.ensures.items, length-append c.loop.numbers.items (c.loop.number ∷ []));
  same = rw c.in_ok-push.ensures.items (number-passes c.args.count c.loop.counter c.loop.number c.loop.numbers.items (numbers_from c.args.first
      c.args.count) (omega arith) c.loop.invariant.same);
}

pub returns-clause-told : goal.returns-clause-told
returns-clause-told c = no-number-left c.args.count c.loop.counter c.loop.number c.loop.numbers.items (numbers_from c.args.first c.args.count)
    (omega arith) c.loop.invariant.same
