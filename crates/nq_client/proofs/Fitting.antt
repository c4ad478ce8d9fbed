-- Messages whose numbers are within their fields.
use Rattle.std.proofs.Common.{List, [], ◌∷◌, ◌++◌, All}
use Rattle.std.proofs.lemmas.List.Elements.{All-append, All-cons, All-nil}
use Rattle.nq_datagrams.specs.Messages.{FitsMessage}
use Rattle.nq_model.specs.protocol.Message.{Message}

-- of none
pub fit_none : All FitsMessage []
fit_none = All-nil FitsMessage

-- of one
pub fit_one : (m : Message) → FitsMessage m → All FitsMessage (m ∷ [])
fit_one m h = All-cons FitsMessage m [] h (All-nil FitsMessage)

-- of some and others
pub fit_both : (xs ys : List Message) → All FitsMessage xs → All FitsMessage ys → All FitsMessage (xs ++ ys)
fit_both xs ys h k = All-append FitsMessage xs ys h k
