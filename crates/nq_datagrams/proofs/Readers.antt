-- What the server and a client make of the bytes of a message.
use Rattle.std.proofs.Common.{◌≡◌, ℕ, ◌≤◌, Bool, true, false, List, length, Ok, refl, sym, ap, ◌∙◌, arith, Err, Result}
use Rattle.std.specs.Prelude.{Option, Some, None, ◌==◌, ◌&&◌, if◌then◌else◌}
use Rattle.std.proofs.lemmas.Bool.{and_left, and_right, cases_eq, eqb-true, ne_eqb, le-ltb}
use Rattle.std.specs.Prelude.{◌⊎◌}
use mathlib.Core.Logic.{inl, inr}
use Rattle.nq_base.specs.declared.Reply.{Reply}
use Rattle.nq_base.specs.declared.Request.{Request}
use Rattle.nq_base.specs.declared.Request.TheVariants.{Null, Attach, Lookup, Create, GetAttr, Read, Write, GetLease, Vacated, Evicted, Resize, Remove}
use Rattle.nq_model.specs.protocol.Client.{Client, Ticket, begun}
use Rattle.nq_model.specs.protocol.Hear.{hear, hear_reply, hear_call, inc_of, reply_counts, goes_on, replied}
use Rattle.nq_model.specs.protocol.Message.{Message, call, reply, error, RpcError, rpc_mismatch, program_unavailable, program_mismatch, procedure_unavailable}
use Rattle.nq_model.specs.protocol.Message.{garbage_arguments, too_long, datagram_of}
use Rattle.nq_xdr.specs.declared.rpc.message.Outcome.TheVariants as outcome
use Rattle.nq_xdr.specs.RpcReading.{message_at}
use Rattle.nq_wire.specs.declared.WireFault.{WireFault}
use Rattle.nq_wire.specs.Procedure.{number_of}
use Rattle.nq_wire.specs.Reading.{reply_in}
use Rattle.nq_wire.specs.Reply.{results, IsReply, Answers}
use Rattle.nq_wire.specs.Request.{procedure_of, IsRequest, HasSpelling}
use Rattle.nq_datagrams.specs.Incoming.{longest_datagram, asked_as, called_as, read_as, datagram_in, notice_in, call_in, answer_in, awaited_of}
use Rattle.nq_datagrams.specs.Incoming.{reply_to, heard_as, heard_for, hears}
use Rattle.nq_datagrams.specs.Laws.{IsOfTicket, ServerReadsMessages, ClientReadsMessages}
use Rattle.nq_datagrams.specs.Messages.{call_message, error_outcome, message_of, FitsMessage, bytes_of}
use Rattle.nq_datagrams.proofs.Incarnations.{inc-again}
use Rattle.nq_datagrams.proofs.Written.{message-again, length-bytes_of, request-again, reply-again}

-- ---- the server

pub short-datagram : (bytes : List ℕ) → length bytes ≤ longest_datagram → datagram_in bytes ≡ read_as (message_at bytes)
unfolding datagram_in
short-datagram bytes short = ap (λ test. if test then too_long else read_as (message_at bytes)) (le-ltb longest_datagram (length bytes) short)

called-again : (xid : ℕ) (r : Request) → IsRequest r → HasSpelling r → read_as (Ok (call_message xid r)) ≡ datagram_of (call xid r)
unfolding called_as
called-again xid Null fits has = ap (asked_as xid 0) (request-again Null fits has)
called-again xid (Attach who) fits has = ap (asked_as xid 1) (request-again (Attach who) fits has)
called-again xid (Lookup who name) fits has = ap (asked_as xid 2) (request-again (Lookup who name) fits has)
called-again xid (Create who seq name blocks) fits has = ap (asked_as xid 3) (request-again (Create who seq name blocks) fits has)
called-again xid (GetAttr who file) fits has = ap (asked_as xid 4) (request-again (GetAttr who file) fits has)
called-again xid (Read who q file block want) fits has = ap (asked_as xid 5) (request-again (Read who q file block want) fits has)
called-again xid (Write who seq file block first last push body) fits has =
    ap (asked_as xid 6) (request-again (Write who seq file block first last push body) fits has)
called-again xid (GetLease who file want) fits has = ap (asked_as xid 7) (request-again (GetLease who file want) fits has)
called-again xid (Vacated who file tag) fits has = ap (asked_as xid 8) (request-again (Vacated who file tag) fits has)
called-again xid (Evicted who file tag) fits has = refl
called-again xid (Resize who seq q file blocks) fits has = ap (asked_as xid 10) (request-again (Resize who seq q file blocks) fits has)
called-again xid (Remove who seq q file) fits has = ap (asked_as xid 11) (request-again (Remove who seq q file) fits has)

read-again : (m : Message) → FitsMessage m → read_as (Ok (message_of m)) ≡ datagram_of m
read-again (call xid r) fits = called-again xid r fits.1 fits.2
read-again (reply xid r) fits = refl
read-again (error xid e) fits = refl

pub server-reads-messages : ServerReadsMessages
server-reads-messages m fits =
    short-datagram (bytes_of m) (omega (arith, length-bytes_of m fits))
    ∙ ap read_as (message-again m fits)
    ∙ read-again m fits

-- ---- a client

heard-call : (c : Client) (number xid : ℕ) (r : Request) → IsRequest r → HasSpelling r → hears c number (heard_as (awaited_of c.ticket)
    (Ok (call_message xid r))) ≡ hear_call c r
unfolding call_in
heard-call c number xid Null fits has = refl
heard-call c number xid (Attach who) fits has = refl
heard-call c number xid (Lookup who name) fits has = refl
heard-call c number xid (Create who seq name blocks) fits has = refl
heard-call c number xid (GetAttr who file) fits has = refl
heard-call c number xid (Read who q file block want) fits has = refl
heard-call c number xid (Write who seq file block first last push body) fits has = refl
heard-call c number xid (GetLease who file want) fits has = refl
heard-call c number xid (Vacated who file tag) fits has = refl
heard-call c number xid (Evicted who file tag) fits has = ap (λ read. hears c number (notice_in xid read)) (request-again (Evicted who file tag) fits has)
heard-call c number xid (Resize who seq q file blocks) fits has = refl
heard-call c number xid (Remove who seq q file) fits has = refl

heard-error : (c : Client) (number xid : ℕ) (o : Option Ticket) (e : RpcError) → hears c number (reply_to (awaited_of o) xid (error_outcome e)) ≡ None
unfolding reply_to
heard-error c number xid None e = refl
heard-error c number xid (Some t) rpc_mismatch = refl
heard-error c number xid (Some t) program_unavailable = refl
heard-error c number xid (Some t) program_mismatch = refl
heard-error c number xid (Some t) procedure_unavailable = refl
heard-error c number xid (Some t) garbage_arguments = refl

-- a reply to another incarnation is ignored
ignored : (c : Client) (number xid : ℕ) (a : Reply) (t : Ticket) → (inc_of a ≡ c.who.inc → ⊥) → hear_reply c number xid a (Some t) ≡ None
ignored c number xid a t other =
    let inc : (inc_of a == c.who.inc) ≡ false = ne_eqb (inc_of a) c.who.inc other in
    let none : (xid == t.xid && inc_of a == c.who.inc && reply_counts a t) ≡ false =
    and_left (xid == t.xid && inc_of a == c.who.inc) (reply_counts a t) (and_right (xid == t.xid) (inc_of a == c.who.inc) inc)
    in
    ap (λ test. if test then Some (goes_on (replied (begun c) number t a)) else None) none

-- also where it is read by another procedure
ignored-read : (c : Client) (number xid : ℕ) (a : Reply) (t : Ticket) (read : Result Reply WireFault) → c.ticket ≡ Some t → (inc_of a ≡ c.who.inc → ⊥)
    → IsReply a → reply_in (number_of (procedure_of t.request)) (results a) ≡ read → hears c number (answer_in xid read) ≡ None
ignored-read c number xid a t (Err e) has other fits is = refl
ignored-read c number xid a t (Ok b) has other fits is =
    ap (hear_reply c number xid b) has ∙ ignored c number xid b t (λ e. other (sym (inc-again (procedure_of t.request) a b fits is) ∙ e))

-- a reply to the request under way
heard-own : (c : Client) (number xid : ℕ) (a : Reply) (t : Ticket) → c.ticket ≡ Some t → (inc_of a ≡ c.who.inc → Answers a (procedure_of t.request))
    → IsReply a → (inc_of a ≡ c.who.inc) ⊎ (inc_of a ≡ c.who.inc → ⊥)
    → hears c number (answer_in xid (reply_in (number_of (procedure_of t.request)) (results a))) ≡ hear_reply c number xid a (Some t)
heard-own c number xid a t has answers fits (inl own) =
    ap (λ read. hears c number (answer_in xid read)) (reply-again (procedure_of t.request) a (answers own) fits) ∙ ap (hear_reply c number xid a) has
heard-own c number xid a t has answers fits (inr other) =
    ignored-read c number xid a t (reply_in (number_of (procedure_of t.request)) (results a)) has other fits refl ∙ sym (ignored c number xid a t other)

-- a reply to another request is ignored, as is one where no request is under way
heard-at : (c : Client) (number xid : ℕ) (a : Reply) (t : Ticket) (test : Bool) → c.ticket ≡ Some t → (xid == t.xid) ≡ test
    → (xid ≡ t.xid → inc_of a ≡ c.who.inc → Answers a (procedure_of t.request)) → IsReply a
    → hears c number (if test then answer_in xid (reply_in (number_of (procedure_of t.request)) (results a)) else None) ≡ hear_reply c number xid a (Some t)
heard-at c number xid a t true has e answers fits = heard-own c number xid a t has (answers (eqb-true xid t.xid e)) fits (cases_eq (inc_of a) c.who.inc)
heard-at c number xid a t false has e answers fits =
    sym (ap (λ test. if test && inc_of a == c.who.inc && reply_counts a t then Some (goes_on (replied (begun c) number t a)) else None) e)

heard-reply : (c : Client) (number xid : ℕ) (a : Reply) (o : Option Ticket) → c.ticket ≡ o → IsOfTicket c (reply xid a) → IsReply a
    → hears c number (reply_to (awaited_of o) xid (outcome.Success (results a))) ≡ hear_reply c number xid a o
unfolding reply_to
heard-reply c number xid a None has own fits = refl
heard-reply c number xid a (Some t) has own fits = heard-at c number xid a t (xid == t.xid) has refl (own t has) fits

heard-again : (c : Client) (number : ℕ) (m : Message) → FitsMessage m → IsOfTicket c m → hears c number (heard_as (awaited_of c.ticket)
    (Ok (message_of m))) ≡ hear c number m
heard-again c number (call xid r) fits own = heard-call c number xid r fits.1 fits.2
heard-again c number (reply xid r) fits own = heard-reply c number xid r c.ticket refl own fits.1
heard-again c number (error xid e) fits own = heard-error c number xid c.ticket e

pub client-reads-messages : ClientReadsMessages
unfolding heard_for
client-reads-messages c number m fits own =
    ap (λ read. hears c number (heard_as (awaited_of c.ticket) read)) (message-again m fits) ∙ heard-again c number m fits own
