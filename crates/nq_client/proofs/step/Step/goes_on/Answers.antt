use Rattle.nq_client.proofs.Between.{none, numbers}
use Rattle.nq_client.proofs.step.Step.goes_on.Goals as goal

pub send_next-requires-clause-none : goal.send_next-requires-clause-none
send_next-requires-clause-none c = none c.settle.new.self c.args.self.now c.settle.ensures c.requires.tied

pub send_next-requires-clause-numbers : goal.send_next-requires-clause-numbers
send_next-requires-clause-numbers c = numbers c.settle.new.self c.args.self.now c.settle.ensures c.requires.numbers
