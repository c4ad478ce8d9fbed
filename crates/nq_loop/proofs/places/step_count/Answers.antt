use Rattle.std.proofs.Common.{arith}
use Rattle.nq_loop.proofs.TurnPlaces.{few_steps}
use Rattle.nq_loop.proofs.places.step_count.Goals as goal

pub overflow_mul-result : goal.overflow_mul-result
overflow_mul-result c = omega (arith, few_steps c.args.hosts c.args.rounds c.requires.few c.requires.rounds)

pub overflow_add-result : goal.overflow_add-result
overflow_add-result c = omega (arith, few_steps c.args.hosts c.args.rounds c.requires.few c.requires.rounds)
