-- Messages whose bytes are bytes carry names and bodies that are ones.
use Rattle.std.proofs.Common.{◌<◌, ℕ, List, [], ◌∷◌, ◌++◌}
use Rattle.std.proofs.lemmas.List.Elements.{All-nil, All-cons, All-head, All-tail}
use Rattle.std.specs.List.{All}
use Rattle.nq_base.specs.declared.Request.{Request}
use Rattle.nq_base.specs.declared.Request.TheVariants.{Create, Write}
use Rattle.nq_datagrams.specs.Messages.{FitsMessage, bytes_of}
use Rattle.nq_model.specs.protocol.Message.{call, reply, error}
use Rattle.nq_xdr.specs.Message.{spelling}
use Rattle.nq_wire.specs.Request.{arguments}
use Rattle.nq_xdr.specs.Item.{opaque}
use Rattle.nq_model.specs.protocol.Decided.{HasText}
use Rattle.nq_world.specs.Running.{BytesCarryText}

all-right : {X : Type 0} (P : X → Type 0) (xs ys : List X) → All P (xs ++ ys) → All P ys
all-right P [] ys each = each
all-right P (x ∷ xs) ys each = all-right P xs ys (All-tail P x (xs ++ ys) each)

all-left : {X : Type 0} (P : X → Type 0) (xs ys : List X) → All P (xs ++ ys) → All P xs
all-left P [] ys each = All-nil P
all-left P (x ∷ xs) ys each = All-cons P x xs (All-head P x (xs ++ ys) each) (all-left P xs ys (All-tail P x (xs ++ ys) each))

-- a byte
abbrev IsByte : ℕ → Type 0
IsByte b = b < 256

body-of : (body : List ℕ) → All IsByte (opaque body) → All IsByte body
unfolding opaque
body-of body each = all-left IsByte body _ (all-right IsByte _ _ each)

arguments-of : (xid : ℕ) (r : Request) → All IsByte (bytes_of (call xid r)) → All IsByte (arguments r)
unfolding bytes_of spelling
arguments-of xid r each = all-right IsByte _ (arguments r) each

text-of : (r : Request) (xid : ℕ) → FitsMessage (call xid r) → All IsByte (arguments r) → HasText r
unfolding arguments
text-of (Create who seq name blocks) xid fits each = fits.1.2
text-of (Write who seq file block first last push body) xid fits each = record {
  size = fits.1.7;
  bytes = body-of body (all-right IsByte _ (opaque body) each);
}
text-of other xid fits each = tt

pub bytes-carry-text : BytesCarryText
bytes-carry-text (call xid r) fits each = text-of r xid fits (arguments-of xid r each)
bytes-carry-text (reply xid r) fits each = tt
bytes-carry-text (error xid e) fits each = tt
