use Rattle.std.proofs.Common.{◌<◌, subst}
use Rattle.std.specs.List.{All}
use Rattle.nq_keeper.proofs.requests.for_proofs.is_body.Goals as goal

pub returns-in-Filled : goal.returns-in-Filled
returns-in-Filled c = record { size = c.seen.ensures.size; bytes = subst (All (λ byte. byte < 256)) c.in-Filled.ensures.bytes c.is_fill.ensures }

pub returns-in-Bytes : goal.returns-in-Bytes
returns-in-Bytes c = record { size = c.seen.ensures.size; bytes = subst (All (λ byte. byte < 256)) c.in-Bytes.ensures.bytes c.are_bytes.ensures }
