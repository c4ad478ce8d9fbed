use Rattle.std.proofs.Common.{subst}
use Rattle.nq_client_parts.specs.Jobs.{job_of}
use Rattle.nq_client.proofs.Unlike.{no_refusal}
use Rattle.nq_client.specs.Prepared.{Comes}
use Rattle.nq_client.specs.Step.{step_of}
use Rattle.nq_model.specs.protocol.Client.{ClientStep}
use Rattle.nq_client.proofs.step.Step.answered.Goals as goal

pub returns-in_default : goal.returns-in_default
returns-in_default c =
    let s = c.args.self.now in
    let same = no_refusal (step_of s) c.args.packet c.args.asked.now (job_of c.job-job.result) c.args.reply.now c.job-job.ensures c.in_default.not-Refused in
    subst (λ (t : ClientStep). Comes c.done.result t s c.done.new.self) same c.done.ensures
