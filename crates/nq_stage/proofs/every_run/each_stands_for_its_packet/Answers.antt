use Rattle.nq_stage.proofs.Rebuilt.{each-stands, each-is-delivered}
use Rattle.nq_stage.proofs.every_run.each_stands_for_its_packet.Goals as goal

pub returns-clause-carries : goal.returns-clause-carries
returns-clause-carries c = each-stands

pub returns-clause-delivered : goal.returns-clause-delivered
returns-clause-delivered c = each-is-delivered
