use Rattle.std.proofs.Common.{◌≡◌, ◌∙◌, Ok, Err, ap}
use Rattle.nq_wire.specs.declared.fault.WireFault.TheVariants as fault
use Rattle.nq_wire.proofs.replies.decoding.decode_reply.Goals as goal

-- what was read is kept as it is
pub returns-in-Ok-clause-only : goal.returns-in-Ok-clause-only
returns-in-Ok-clause-only c = λ r is. ap (λ reply. Ok reply) c.kept.ensures ∙ c.in-Ok.ensures.only r is

-- a reading that failed gave no reply
pub returns-in-Err-clause-only : goal.returns-in-Err-clause-only
returns-in-Err-clause-only c = c.in-Err.ensures.only

pub returns-in-Err-clause-garbage : goal.returns-in-Err-clause-garbage
returns-in-Err-clause-garbage c = (
  λ e. let same : c.in-Err.fault ≡ fault.Garbage = cc in c.in-Err.ensures.garbage.0 (ap (λ f. Err f) same),
  λ none. let e = c.in-Err.ensures.garbage.1 none in let same : c.in-Err.fault ≡ fault.Garbage = cc in ap (λ f. Err f) same,
)
