-- How many bytes requests and replies take.
use Rattle.std.proofs.Common.{◌≡◌, ℕ, ◌+◌, ◌≤◌, true, false, List, length, Option, Some, None, refl, arith}
use Rattle.std.proofs.lemmas.List.{length-append}
use Rattle.nq_base.specs.declared.Grant.{Grant}
use Rattle.nq_base.specs.declared.PushBase.{PushBase}
use Rattle.nq_base.specs.declared.Reply.{Reply}
use Rattle.nq_base.specs.declared.Reply.TheVariants as reply
use Rattle.nq_base.specs.declared.Request.{Request}
use Rattle.nq_base.specs.declared.Request.TheVariants as request
use Rattle.nq_base.specs.declared.Tag.{Tag}
use Rattle.nq_base.specs.declared.Want.{Want}
use Rattle.nq_base.specs.declared.Who.{Who}
use Rattle.nq_xdr.specs.Item.{boolean}
use Rattle.nq_xdr.proofs.Numbers.{length-word, length-hyper}
use Rattle.nq_xdr.proofs.Opaque.{length-boolean, length-opaque}
use Rattle.nq_wire.specs.Parts.{head, tag_bytes, want_bytes, grant_bytes, base_bytes, optional, optional_len}
use Rattle.nq_wire.specs.Request.{arguments, arguments_len, IsRequest}
use Rattle.nq_wire.specs.Reply.{ok, results, results_len, IsReply}

length-head : (who : Who) → length (head who) ≡ 8
unfolding head
length-head who = simp (length-append, length-word)

length-tag_bytes : (tag : Tag) → length (tag_bytes tag) ≡ 12
unfolding tag_bytes
length-tag_bytes tag = simp (length-append, length-word, length-hyper)

length-want_bytes : (want : Want) → length (want_bytes want) ≡ 8
unfolding want_bytes
length-want_bytes want = simp (length-append, length-word)

length-grant_bytes : (grant : Grant) → length (grant_bytes grant) ≡ 44
unfolding grant_bytes
length-grant_bytes grant = simp (length-append, length-word, length-hyper, length-tag_bytes)

length-base_bytes : (push : PushBase) → length (base_bytes push) ≡ 12
unfolding base_bytes
length-base_bytes push = simp (length-append, length-word, length-hyper)

length-optional : {A : Type 0} (part : A → List ℕ) (len : ℕ) (o : Option A) → ((x : A) → length (part x) ≡ len) → length (optional part o) ≡ optional_len len o
unfolding optional
length-optional part len None h = length-boolean false
length-optional part len (Some x) h = omega (arith, length-append (boolean true) (part x), length-boolean true, h x)

pub length-arguments : (r : Request) → IsRequest r → length (arguments r) ≡ arguments_len r
unfolding arguments
length-arguments request.Null fits = refl
length-arguments (request.Attach who) fits = length-head who
length-arguments (request.Lookup who name) fits = simp (length-append, length-head, length-opaque)
length-arguments (request.Create who seq name blocks) fits = simp (length-append, length-head, length-hyper, length-opaque, length-word) (omega arith)
length-arguments (request.GetAttr who file) fits = simp (length-append, length-head, length-word)
length-arguments (request.Read who call file block want) fits =
    let w = length-optional want_bytes 8 want length-want_bytes in
    simp (length-append, length-head, length-hyper, length-word) (omega arith)
length-arguments (request.Write who seq file block first last push body) fits =
    let p = length-optional base_bytes 12 push length-base_bytes in
    let b = length-opaque body in
    let size = fits.7 in
    simp (length-append, length-head, length-hyper, length-word) (omega arith)
length-arguments (request.GetLease who file want) fits = simp (length-append, length-head, length-word, length-want_bytes)
length-arguments (request.Vacated who file tag) fits = simp (length-append, length-head, length-word, length-tag_bytes)
length-arguments (request.Evicted who file tag) fits = simp (length-append, length-head, length-word, length-tag_bytes)
length-arguments (request.Resize who seq call file blocks) fits = simp (length-append, length-head, length-hyper, length-word)
length-arguments (request.Remove who seq call file) fits = simp (length-append, length-head, length-hyper, length-word)

optional_len-most : {A : Type 0} (len : ℕ) (o : Option A) → optional_len len o ≤ 4 + len
optional_len-most len None = omega arith
optional_len-most len (Some x) = omega arith

pub arguments_len-most : (r : Request) → IsRequest r → arguments_len r ≤ 4156
arguments_len-most request.Null fits = omega arith
arguments_len-most (request.Attach who) fits = omega arith
arguments_len-most (request.Lookup who name) fits = omega (arith, fits.1.1)
arguments_len-most (request.Create who seq name blocks) fits = omega (arith, fits.2.1)
arguments_len-most (request.GetAttr who file) fits = omega arith
arguments_len-most (request.Read who call file block want) fits = omega (arith, optional_len-most 8 want)
arguments_len-most (request.Write who seq file block first last push body) fits = omega (arith, optional_len-most 12 push)
arguments_len-most (request.GetLease who file want) fits = omega arith
arguments_len-most (request.Vacated who file tag) fits = omega arith
arguments_len-most (request.Evicted who file tag) fits = omega arith
arguments_len-most (request.Resize who seq call file blocks) fits = omega arith
arguments_len-most (request.Remove who seq call file) fits = omega arith

length-ok : (inc : ℕ) → length (ok inc) ≡ 8
unfolding ok
length-ok inc = simp (length-append, length-word)

pub length-results : (r : Reply) → IsReply r → length (results r) ≡ results_len r
unfolding results
length-results reply.Null fits = refl
length-results (reply.Attach inc) fits = length-ok inc
length-results (reply.Lookup inc file blocks) fits = simp (length-append, length-ok, length-word)
length-results (reply.Create inc file) fits = simp (length-append, length-ok, length-word)
length-results (reply.GetAttr inc blocks rev) fits = simp (length-append, length-ok, length-word, length-hyper)
length-results (reply.Read inc rev body grant) fits =
    let g = length-optional grant_bytes 44 grant length-grant_bytes in
    let b = length-opaque body in
    let size = fits.2 in
    simp (length-append, length-ok, length-hyper) (omega arith)
length-results (reply.Write inc rev) fits = simp (length-append, length-ok, length-hyper)
length-results (reply.GetLease inc grant) fits =
    let g = length-optional grant_bytes 44 grant length-grant_bytes in
    simp (length-append, length-ok) (omega arith)
length-results (reply.Resize inc rev) fits = simp (length-append, length-ok, length-hyper)
length-results (reply.Remove inc) fits = length-ok inc
length-results (reply.Refused inc status) fits = simp (length-append, length-word)

pub results_len-most : (r : Reply) → IsReply r → results_len r ≤ 4164
results_len-most reply.Null fits = omega arith
results_len-most (reply.Attach inc) fits = omega arith
results_len-most (reply.Lookup inc file blocks) fits = omega arith
results_len-most (reply.Create inc file) fits = omega arith
results_len-most (reply.GetAttr inc blocks rev) fits = omega arith
results_len-most (reply.Read inc rev body grant) fits = omega (arith, optional_len-most 44 grant)
results_len-most (reply.Write inc rev) fits = omega arith
results_len-most (reply.GetLease inc grant) fits = omega (arith, optional_len-most 44 grant)
results_len-most (reply.Resize inc rev) fits = omega arith
results_len-most (reply.Remove inc) fits = omega arith
results_len-most (reply.Refused inc status) fits = omega arith
