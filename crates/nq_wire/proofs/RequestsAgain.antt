-- Requests: what is spelled so is read, whatever follows.
use Rattle.std.proofs.Common.{◌≡◌, ℕ, ◌^◌, ◌<◌, IfSome, List, ◌++◌, Option, Some, None, Ok, refl, ap, ◌∙◌, append_assoc}
use Rattle.std.proofs.lemmas.Bool.{eq-eqb}
use Rattle.nq_base.specs.declared.PushBase.{PushBase}
use Rattle.nq_base.specs.declared.Request.{Request}
use Rattle.nq_base.specs.declared.Request.TheVariants.{Null, Attach, Lookup, Create, GetAttr, Read, Write, GetLease, Vacated, Evicted, Resize, Remove}
use Rattle.nq_xdr.specs.Item.{word, hyper, opaque}
use Rattle.nq_xdr.proofs.Numbers.{word_again, hyper_again}
use Rattle.nq_wire.specs.declared.procedure.Procedure.TheVariants as procedure
use Rattle.nq_wire.specs.Parts.{head, tag_bytes, want_bytes, base_bytes, optional, IsPushBase}
use Rattle.nq_wire.specs.Request.{arguments, procedure_of, IsRequest, HasSpelling, IsOneWrite}
use Rattle.nq_wire.specs.Reading.{lookup_at, create_at, get_attr_at, read_at, span_at, write_at, get_lease_at, vacated_at, evicted_at, resize_at}
use Rattle.nq_wire.specs.Reading.{remove_at, asked_at, request_at}
use Rattle.nq_wire.proofs.PartsAgain.{head_again, tag_again, want_again, want_if_there, base_if_there, name_again, body_again}

-- the write numbers of a push are any two, and those of another WRITE are equal
span_again : (first last : ℕ) (push : Option PushBase) (rest : List ℕ) → first < 2 ^ 64 → last < 2 ^ 64 → IfSome push IsPushBase → IsOneWrite first last push
    → span_at (hyper first ++ (hyper last ++ (optional base_bytes push ++ rest))) ≡ Ok ((first, last, push), rest)
unfolding span_at
span_again first last None rest first-fits last-fits fits one =
    let b = optional base_bytes None ++ rest in
    rw (hyper_again first (hyper last ++ b) first-fits, hyper_again last b last-fits, base_if_there None rest tt, eq-eqb first last one) refl
span_again first last (Some push) rest first-fits last-fits fits one =
    let b = optional base_bytes (Some push) ++ rest in
    rw (hyper_again first (hyper last ++ b) first-fits, hyper_again last b last-fits, base_if_there (Some push) rest fits) refl

pub request_again : (request : Request) (rest : List ℕ) → IsRequest request → HasSpelling request → request_at (procedure_of request)
    (arguments request ++ rest) ≡ Ok (request, rest)
unfolding arguments asked_at lookup_at create_at get_attr_at read_at write_at get_lease_at vacated_at evicted_at resize_at remove_at
request_again Null rest fits has = refl
request_again (Attach who) rest fits has = rw (head_again who rest fits) refl
request_again (Lookup who name) rest fits has =
    let parts : arguments (Lookup who name) ++ rest ≡ head who ++ (opaque name ++ rest) = simp append_assoc in
    ap (asked_at procedure.Lookup) parts ∙ rw (head_again who (opaque name ++ rest) fits.0, name_again name rest fits.1) refl
request_again (Create who seq name blocks) rest fits has =
    let c = word blocks ++ rest in
    let b = opaque name ++ c in
    let a = hyper seq ++ b in
    let parts : arguments (Create who seq name blocks) ++ rest ≡ head who ++ a = simp append_assoc in
    ap (asked_at procedure.Create) parts ∙ rw (head_again who a fits.0, hyper_again seq b fits.1, name_again name c fits.2, word_again blocks rest fits.3) refl
request_again (GetAttr who file) rest fits has =
    let parts : arguments (GetAttr who file) ++ rest ≡ head who ++ (word file ++ rest) = simp append_assoc in
    ap (asked_at procedure.GetAttr) parts ∙ rw (head_again who (word file ++ rest) fits.0, word_again file rest fits.1) refl
request_again (Read who call file block want) rest fits has =
    let d = optional want_bytes want ++ rest in
    let c = word block ++ d in
    let b = word file ++ c in
    let a = hyper call ++ b in
    let parts : arguments (Read who call file block want) ++ rest ≡ head who ++ a = simp append_assoc in
    ap (asked_at procedure.Read) parts ∙ rw (
      head_again who a fits.0,
      hyper_again call b fits.1,
      word_again file c fits.2,
      word_again block d fits.3,
      want_if_there want rest fits.4 has,
    ) refl
request_again (Write who seq file block first last push body) rest fits has =
    let f = opaque body ++ rest in
    let d = hyper first ++ (hyper last ++ (optional base_bytes push ++ f)) in
    let c = word block ++ d in
    let b = word file ++ c in
    let a = hyper seq ++ b in
    let parts : arguments (Write who seq file block first last push body) ++ rest ≡ head who ++ a = simp append_assoc in
    ap (asked_at procedure.Write) parts
    ∙ rw (
      head_again who a fits.0,
      hyper_again seq b fits.1,
      word_again file c fits.2,
      word_again block d fits.3,
      span_again first last push f fits.4 fits.5 fits.6 has,
      body_again body rest fits.7,
    ) refl
request_again (GetLease who file want) rest fits has =
    let b = want_bytes want ++ rest in
    let a = word file ++ b in
    let parts : arguments (GetLease who file want) ++ rest ≡ head who ++ a = simp append_assoc in
    ap (asked_at procedure.GetLease) parts ∙ rw (head_again who a fits.0, word_again file b fits.1, want_again want rest fits.2 has) refl
request_again (Vacated who file tag) rest fits has =
    let b = tag_bytes tag ++ rest in
    let a = word file ++ b in
    let parts : arguments (Vacated who file tag) ++ rest ≡ head who ++ a = simp append_assoc in
    ap (asked_at procedure.Vacated) parts ∙ rw (head_again who a fits.0, word_again file b fits.1, tag_again tag rest fits.2) refl
request_again (Evicted who file tag) rest fits has =
    let b = tag_bytes tag ++ rest in
    let a = word file ++ b in
    let parts : arguments (Evicted who file tag) ++ rest ≡ head who ++ a = simp append_assoc in
    ap (asked_at procedure.Evicted) parts ∙ rw (head_again who a fits.0, word_again file b fits.1, tag_again tag rest fits.2) refl
request_again (Resize who seq call file blocks) rest fits has =
    let d = word blocks ++ rest in
    let c = word file ++ d in
    let b = hyper call ++ c in
    let a = hyper seq ++ b in
    let parts : arguments (Resize who seq call file blocks) ++ rest ≡ head who ++ a = simp append_assoc in
    ap (asked_at procedure.Resize) parts ∙ rw (
      head_again who a fits.0,
      hyper_again seq b fits.1,
      hyper_again call c fits.2,
      word_again file d fits.3,
      word_again blocks rest fits.4,
    ) refl
request_again (Remove who seq call file) rest fits has =
    let c = word file ++ rest in
    let b = hyper call ++ c in
    let a = hyper seq ++ b in
    let parts : arguments (Remove who seq call file) ++ rest ≡ head who ++ a = simp append_assoc in
    ap (asked_at procedure.Remove) parts ∙ rw (head_again who a fits.0, hyper_again seq b fits.1, hyper_again call c fits.2, word_again file rest fits.3) refl
