use Rattle.nq_command.proofs.Ranges.{command_ranged}
use Rattle.nq_command.proofs.words.CommandWords.command.Goals as goal

pub returns-clause-ranged : goal.returns-clause-ranged
returns-clause-ranged c = rw c.said.ensures (command_ranged _)
