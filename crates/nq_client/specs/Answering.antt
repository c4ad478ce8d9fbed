-- How a step answers the call under way, in the steps of the code.
use Rattle.std.specs.Prelude.{Option, Some, None}
use Rattle.nq_base.specs.declared.Answer.{Answer}
use Rattle.nq_base.specs.declared.Said.{Said}
use Rattle.nq_client.specs.Settling.{ended}
use Rattle.nq_model.specs.protocol.Client.{ClientStep, UnderWay}

-- an answer, as a journal tells it, ends the call under way, if there is one
abbrev pub answers_as : ClientStep → Answer → Said → Option UnderWay → ClientStep
answers_as t answer said None = t
answers_as t answer said (Some u) = ended t u.q answer said
