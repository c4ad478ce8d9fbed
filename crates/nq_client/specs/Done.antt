-- What comes of a request of the call under way that was done, in the steps of the code.
use Rattle.std.specs.Prelude.{ℕ, Option, Some, None}
use Rattle.nq_base.specs.declared.Answer.{Answer}
use Rattle.nq_base.specs.declared.Reply.{Reply}
use Rattle.nq_base.specs.declared.Request.{Request}
use Rattle.nq_base.specs.declared.Value.{Value}
use Rattle.nq_model.specs.protocol.Client.{ClientStep}
use Rattle.nq_model.specs.protocol.Hear.{answers_call, knows_revision, lease_done, read_done, write_done}

-- what answers the call where its request brings a value alone
abbrev pub brought : Request → Reply → Option Value
brought (Request.Lookup who name) (Reply.Lookup inc file blocks) = Some (Value.File file)
brought (Request.Create who seq name blocks) (Reply.Create inc file) = Some (Value.File file)
brought (Request.GetAttr who file) (Reply.GetAttr inc blocks rev) = Some (Value.Blocks blocks)
brought (Request.Remove who seq q file) (Reply.Remove inc) = Some Value.Nothing
brought request other = None

-- what any other request of the call brings
abbrev pub changes : ClientStep → (number sent : ℕ) → Request → Reply → ClientStep
changes t number sent (Request.Read who q file block want) (Reply.Read inc rev body grant) =
    read_done t file block body grant sent number
changes t number sent (Request.GetLease who file want) (Reply.GetLease inc grant) = lease_done t file grant sent
changes t number sent (Request.Write who seq file block first last push body) (Reply.Write inc rev) =
    write_done t file block body rev
changes t number sent (Request.Resize who seq q file blocks) (Reply.Resize inc rev) =
    answers_call (knows_revision t file rev) (Answer.Ok Value.Nothing) None
changes t number sent request other = t
