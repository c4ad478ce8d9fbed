-- What a request is for.
use Rattle.nq_client_parts.specs.declared.job.Job as code
use Rattle.nq_client_parts.specs.declared.job.Job.TheVariants.{Attaching, ForCall, Renewing, Pushing}
use Rattle.nq_model.specs.protocol.Client.{Job, attaching, for_call, renewing, pushing}

-- what a request is for
abbrev pub job_of : code.Job → Job
job_of Attaching = attaching
job_of ForCall = for_call
job_of Renewing = renewing
job_of Pushing = pushing
