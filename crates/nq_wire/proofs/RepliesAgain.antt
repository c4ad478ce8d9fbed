-- Replies: what is spelled so is read, whatever follows.
use Rattle.std.proofs.Common.{◌≡◌, ℕ, ◌^◌, ◌<◌, List, ◌++◌, Ok, refl, ap, ◌∙◌, append_assoc, arith}
use Rattle.std.proofs.lemmas.Bool.{ne_eqb}
use Rattle.nq_base.specs.declared.Refusal.{Refusal}
use Rattle.nq_base.specs.declared.Refusal.TheVariants.{NoEnt, Exist, Inval, NoSpc, Stale, TryLater, Fenced, NotAttached, Old}
use Rattle.nq_base.specs.declared.Reply.{Reply}
use Rattle.nq_base.specs.declared.Reply.TheVariants as reply
use Rattle.nq_xdr.specs.Item.{word, hyper, opaque}
use Rattle.nq_xdr.proofs.Numbers.{word_again, hyper_again}
use Rattle.nq_wire.specs.declared.procedure.Procedure.{Procedure}
use Rattle.nq_wire.specs.declared.procedure.Procedure.TheVariants.{Null, Attach, Lookup, Create, GetAttr, Read, Write, GetLease, Vacated, Evicted}
use Rattle.nq_wire.specs.declared.procedure.Procedure.TheVariants.{Resize, Remove}
use Rattle.nq_wire.specs.Parts.{grant_bytes, optional}
use Rattle.nq_wire.specs.Status.{status_number}
use Rattle.nq_wire.specs.Reply.{ok, results, IsReply, IsRefusable, Answers}
use Rattle.nq_wire.specs.Reading.{found_at, created_at, attributes_at, block_at, written_at, lease_at, resized_at, results_at, refusal_of, answer_at, reply_at}
use Rattle.nq_wire.proofs.PartsAgain.{grant_if_there, body_again}

status_fits : (status : Refusal) → status_number status < 2 ^ 32
status_fits NoEnt = omega arith
status_fits Exist = omega arith
status_fits Inval = omega arith
status_fits NoSpc = omega arith
status_fits Stale = omega arith
status_fits TryLater = omega arith
status_fits Fenced = omega arith
status_fits NotAttached = omega arith
status_fits Old = omega arith

-- a status other than OK, by its number
pub status_again : (status : Refusal) → (status_number status ≡ 0 → ⊥) × (refusal_of (status_number status) ≡ Ok status)
unfolding refusal_of
status_again NoEnt = (λ e. omega arith, refl)
status_again Exist = (λ e. omega arith, refl)
status_again Inval = (λ e. omega arith, refl)
status_again NoSpc = (λ e. omega arith, refl)
status_again Stale = (λ e. omega arith, refl)
status_again TryLater = (λ e. omega arith, refl)
status_again Fenced = (λ e. omega arith, refl)
status_again NotAttached = (λ e. omega arith, refl)
status_again Old = (λ e. omega arith, refl)

-- what follows an incarnation and a status
refused_again : (p : Procedure) (inc : ℕ) (status : Refusal) (rest : List ℕ) → inc < 2 ^ 32
    → answer_at p ((word inc ++ word (status_number status)) ++ rest) ≡ Ok (reply.Refused inc status, rest)
unfolding answer_at
refused_again p inc status rest fits =
    let s = status_again status in
    ap (answer_at p) (append_assoc (word inc) (word (status_number status)) rest)
    ∙ rw (
      word_again inc (word (status_number status) ++ rest) fits,
      word_again (status_number status) rest (status_fits status),
      ne_eqb (status_number status) 0 s.0,
      s.1,
    ) refl

ok_again : (p : Procedure) (inc : ℕ) (rest : List ℕ) → inc < 2 ^ 32 → answer_at p (ok inc ++ rest) ≡ results_at p inc rest
unfolding ok answer_at
ok_again p inc rest fits = ap (answer_at p) (append_assoc (word inc) (word 0) rest) ∙ rw (
  word_again inc (word 0 ++ rest) fits,
  word_again 0 rest (omega arith),
) refl

-- a procedure that has a reply with a status
answered : (p : Procedure) (bytes : List ℕ) → IsRefusable p → reply_at p bytes ≡ answer_at p bytes
answered Null bytes is = absurd is
answered Vacated bytes is = absurd is
answered Evicted bytes is = absurd is
answered Attach bytes is = refl
answered Lookup bytes is = refl
answered Create bytes is = refl
answered GetAttr bytes is = refl
answered Read bytes is = refl
answered Write bytes is = refl
answered GetLease bytes is = refl
answered Resize bytes is = refl
answered Remove bytes is = refl

pub reply_again : (p : Procedure) (r : Reply) (rest : List ℕ) → Answers r p → IsReply r → reply_at p (results r ++ rest) ≡ Ok (r, rest)
unfolding results found_at created_at attributes_at block_at written_at lease_at resized_at
reply_again p reply.Null rest is fits = ap (λ (p : Procedure). reply_at p rest) is
reply_again p (reply.Attach inc) rest is fits = ap (λ (p : Procedure). reply_at p (ok inc ++ rest)) is ∙ ok_again Attach inc rest fits
reply_again p (reply.Lookup inc file blocks) rest is fits =
    let b = word blocks ++ rest in
    let parts : results (reply.Lookup inc file blocks) ++ rest ≡ ok inc ++ (word file ++ b) = simp append_assoc in
    ap (λ (p : Procedure). reply_at p (results (reply.Lookup inc file blocks) ++ rest)) is
    ∙ ap (answer_at Lookup) parts ∙ ok_again Lookup inc (word file ++ b) fits.0 ∙ rw (word_again file b fits.1, word_again blocks rest fits.2) refl
reply_again p (reply.Create inc file) rest is fits =
    ap (λ (p : Procedure). reply_at p (results (reply.Create inc file) ++ rest)) is
    ∙ ap (answer_at Create) (append_assoc (ok inc) (word file) rest) ∙ ok_again Create inc (word file ++ rest) fits.0 ∙ rw (word_again file rest fits.1) refl
reply_again p (reply.GetAttr inc blocks rev) rest is fits =
    let b = hyper rev ++ rest in
    let parts : results (reply.GetAttr inc blocks rev) ++ rest ≡ ok inc ++ (word blocks ++ b) = simp append_assoc in
    ap (λ (p : Procedure). reply_at p (results (reply.GetAttr inc blocks rev) ++ rest)) is
    ∙ ap (answer_at GetAttr) parts ∙ ok_again GetAttr inc (word blocks ++ b) fits.0 ∙ rw (word_again blocks b fits.1, hyper_again rev rest fits.2) refl
reply_again p (reply.Read inc rev body grant) rest is fits =
    let c = optional grant_bytes grant ++ rest in
    let b = opaque body ++ c in
    let parts : results (reply.Read inc rev body grant) ++ rest ≡ ok inc ++ (hyper rev ++ b) = simp append_assoc in
    ap (λ (p : Procedure). reply_at p (results (reply.Read inc rev body grant) ++ rest)) is
    ∙ ap (answer_at Read) parts ∙ ok_again Read inc (hyper rev ++ b) fits.0
    ∙ rw (hyper_again rev b fits.1, body_again body c fits.2, grant_if_there grant rest fits.3) refl
reply_again p (reply.Write inc rev) rest is fits =
    ap (λ (p : Procedure). reply_at p (results (reply.Write inc rev) ++ rest)) is
    ∙ ap (answer_at Write) (append_assoc (ok inc) (hyper rev) rest) ∙ ok_again Write inc (hyper rev ++ rest) fits.0 ∙ rw (hyper_again rev rest fits.1) refl
reply_again p (reply.GetLease inc grant) rest is fits =
    ap (λ (p : Procedure). reply_at p (results (reply.GetLease inc grant) ++ rest)) is
    ∙ ap (answer_at GetLease) (append_assoc (ok inc) (optional grant_bytes grant) rest)
    ∙ ok_again GetLease inc (optional grant_bytes grant ++ rest) fits.0 ∙ rw (grant_if_there grant rest fits.1) refl
reply_again p (reply.Resize inc rev) rest is fits =
    ap (λ (p : Procedure). reply_at p (results (reply.Resize inc rev) ++ rest)) is
    ∙ ap (answer_at Resize) (append_assoc (ok inc) (hyper rev) rest) ∙ ok_again Resize inc (hyper rev ++ rest) fits.0 ∙ rw (hyper_again rev rest fits.1) refl
reply_again p (reply.Remove inc) rest is fits = ap (λ (p : Procedure). reply_at p (ok inc ++ rest)) is ∙ ok_again Remove inc rest fits
reply_again p (reply.Refused inc status) rest is fits =
    answered p ((word inc ++ word (status_number status)) ++ rest) is ∙ refused_again p inc status rest fits
