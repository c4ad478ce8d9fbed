-- A request of the call under way that was done, by whether it brings a value alone.
use Rattle.std.proofs.Common.{◌≡◌, ℕ, Option, Some, None, refl, ap, ◌∙◌}
use Rattle.nq_base.specs.declared.Answer.{Answer}
use Rattle.nq_base.specs.declared.Reply.{Reply}
use Rattle.nq_base.specs.declared.Request.{Request}
use Rattle.nq_base.specs.declared.Value.{Value}
use Rattle.nq_client.specs.Done.{brought, changes}
use Rattle.nq_model.specs.protocol.Client.{ClientStep}
use Rattle.nq_model.specs.protocol.Hear.{answers_call, done_for_call}

abbrev after : ClientStep → (number sent : ℕ) → Request → Reply → Option Value → ClientStep
after t number sent request r None = changes t number sent request r
after t number sent request r (Some value) = answers_call t (Answer.Ok value) None

all : (t : ClientStep) (number sent : ℕ) (request : Request) (r : Reply) → after t number sent request r (brought request r) ≡ done_for_call t number
    sent request r
all t number sent (Request.Lookup who name) (Reply.Lookup inc file blocks) = refl
all t number sent (Request.Create who seq name blocks) (Reply.Create inc file) = refl
all t number sent (Request.GetAttr who file) (Reply.GetAttr inc blocks rev) = refl
all t number sent (Request.Remove who seq q file) (Reply.Remove inc) = refl
all t number sent (Request.Read who q file block want) (Reply.Read inc rev body grant) = refl
all t number sent (Request.GetLease who file want) (Reply.GetLease inc grant) = refl
all t number sent (Request.Write who seq file block first last push body) (Reply.Write inc rev) = refl
all t number sent (Request.Resize who seq q file blocks) (Reply.Resize inc rev) = refl
all t number sent request other = refl

-- a value answers the call
pub with_value : (t : ClientStep) (number sent : ℕ) (request : Request) (r : Reply) (value : Value) → Some value ≡ brought request r
    → answers_call t (Answer.Ok value) None ≡ done_for_call t number sent request r
with_value t number sent request r value e = ap (after t number sent request r) e ∙ all t number sent request r

-- without one the client changes
pub without : (t : ClientStep) (number sent : ℕ) (request : Request) (r : Reply) → None ≡ brought request r → changes t number sent request r
    ≡ done_for_call t number sent request r
without t number sent request r e = ap (after t number sent request r) e ∙ all t number sent request r
