-- What a client makes of the reply to its request, walked once: each outcome with what led to it.
use Rattle.std.proofs.Common.{◌≡◌, ◌⊎◌, ℕ, true, false, List, Option, Some, None, refl, inl, inr}
use Rattle.std.proofs.lemmas.Bool.{not-true}
use Rattle.nq_base.specs.declared.Answer.{Answer}
use Rattle.nq_base.specs.declared.Grant.{Grant}
use Rattle.nq_base.specs.declared.PushBase.{PushBase}
use Rattle.nq_base.specs.declared.Refusal.{Refusal}
use Rattle.nq_base.specs.declared.Reply.{Reply}
use Rattle.nq_base.specs.declared.Request.{Request}
use Rattle.nq_base.specs.declared.Value.{Value}
use Rattle.nq_base.specs.declared.Want.{Want}
use Rattle.nq_base.specs.declared.Who.{Who}
use Rattle.walk_steps.proofs.ClientFacts.{fits_job, fits_call}
use Rattle.nq_model.specs.protocol.Client.{Client, ClientStep, Job, for_call, pushing, Ticket, begun}
use Rattle.nq_model.specs.protocol.Hear.{spends, attached, pauses, answers_call, answer_of, is_put_off, counts_for_call, read_done, lease_done, write_done}
use Rattle.nq_model.specs.protocol.Hear.{knows_revision, takes_optional, push_done, push_refused, done, done_for_call, done_renewal, done_push, refused}
use Rattle.nq_model.specs.protocol.Hear.{refused_push, replied, reply_counts, refusal_counts, is_of_procedure}
use Rattle.walk_steps.proofs.Rows.{choice}

-- the request under way is of the call
pub record OfCall (ticket : Ticket) (request : Request) : Type 0 where
  pub job : ticket.job ≡ for_call
  pub asks : ticket.request ≡ request

-- the reply to LOOKUP, CREATE or GETATTR, and what it answers the call with
pub data IsNamed (request : Request) (r : Reply) : Answer → Type 0 where
  looked_up : (who : Who) (name : List ℕ) (inc file blocks : ℕ) → request ≡ Request.Lookup who name → r ≡ Reply.Lookup inc file blocks
      → IsNamed request r (Answer.Ok (Value.File file))
  created : (who : Who) (seq : ℕ) (name : List ℕ) (blocks inc file : ℕ) → request ≡ Request.Create who seq name blocks → r ≡ Reply.Create inc file
      → IsNamed request r (Answer.Ok (Value.File file))
  attributes : (who : Who) (file inc blocks rev : ℕ) → request ≡ Request.GetAttr who file → r ≡ Reply.GetAttr inc blocks rev
      → IsNamed request r (Answer.Ok (Value.Blocks blocks))

-- the outcomes
pub record RepliedCases (c : Client) (number : ℕ) (ticket : Ticket) (r : Reply) (Q : ClientStep → Type 0) : Type 0 where
  -- the incarnation is attached
  pub attaching : (who : Who) (inc : ℕ) → ticket.job ≡ Job.attaching → ticket.request ≡ Request.Attach who → r ≡ Reply.Attach inc
      → Q (attached (spends (begun c)))
  -- the call's request was done
  pub named : (answer : Answer) → ticket.job ≡ for_call → IsNamed ticket.request r answer → Q (answers_call (spends (begun c)) answer None)
  pub reading : (who : Who) (q file block : ℕ) (want : Option Want) (inc rev : ℕ) (body : List ℕ) (grant : Option Grant)
      → OfCall ticket (Request.Read who q file block want) → r ≡ Reply.Read inc rev body grant
      → Q (read_done (spends (begun c)) file block body grant ticket.first number)
  pub leasing : (who : Who) (file : ℕ) (want : Want) (inc : ℕ) (grant : Option Grant) → OfCall ticket (Request.GetLease who file want)
      → r ≡ Reply.GetLease inc grant → Q (lease_done (spends (begun c)) file grant ticket.first)
  pub writing : (who : Who) (seq file block first last : ℕ) (body : List ℕ) (inc rev : ℕ)
      → OfCall ticket (Request.Write who seq file block first last None body) → r ≡ Reply.Write inc rev
      → Q (write_done (spends (begun c)) file block body rev)
  pub resizing : (who : Who) (seq q file blocks inc rev : ℕ) → OfCall ticket (Request.Resize who seq q file blocks) → r ≡ Reply.Resize inc rev
      → Q (answers_call (knows_revision (spends (begun c)) file rev) (Answer.Ok Value.Nothing) None)
  pub removing : (who : Who) (seq q file inc : ℕ) → OfCall ticket (Request.Remove who seq q file) → r ≡ Reply.Remove inc
      → Q (answers_call (spends (begun c)) (Answer.Ok Value.Nothing) None)
  -- a lease was renewed
  pub renewing : (who : Who) (file : ℕ) (want : Want) (inc : ℕ) (grant : Option Grant) → ticket.job ≡ Job.renewing
      → ticket.request ≡ Request.GetLease who file want → r ≡ Reply.GetLease inc grant → Q (takes_optional (spends (begun c)) file grant ticket.first)
  -- the push under way was stored
  pub pushed : (who : Who) (seq file block first last : ℕ) (base : PushBase) (body : List ℕ) (inc rev : ℕ) → ticket.job ≡ pushing
      → ticket.request ≡ Request.Write who seq file block first last (Some base) body → r ≡ Reply.Write inc rev
      → Q (push_done (spends (begun c)) file block body rev)
  -- the call's request, or a renewal, was put off
  pub putting_off : (inc : ℕ) (status : Refusal) → (ticket.job ≡ for_call) ⊎ (ticket.job ≡ Job.renewing) → r ≡ Reply.Refused inc status
      → is_put_off status ≡ true → Q (pauses (spends (begun c)))
  -- the call's request was refused
  pub refusing : (inc : ℕ) (status : Refusal) → ticket.job ≡ for_call → r ≡ Reply.Refused inc status → counts_for_call status ticket.request ≡ true
      → is_put_off status ≡ false → Q (answers_call (spends (begun c)) (answer_of status) None)
  -- a renewal was refused
  pub renewal_refused : (inc : ℕ) (status : Refusal) → ticket.job ≡ Job.renewing → r ≡ Reply.Refused inc status → is_put_off status ≡ false
      → Q (spends (begun c))
  -- the push under way was refused
  pub push_refused : (who : Who) (seq file block first last : ℕ) (base : PushBase) (body : List ℕ) (inc : ℕ) (status : Refusal) → ticket.job ≡ pushing
      → ticket.request ≡ Request.Write who seq file block first last (Some base) body → r ≡ Reply.Refused inc status → is_put_off status ≡ false
      → Q (push_refused (spends (begun c)) file)

-- what is shown of each outcome holds of the step after the reply
pub replied-cases : (c : Client) (number : ℕ) (ticket : Ticket) (r : Reply) (Q : ClientStep → Type 0) → fits_job ticket.job ticket.request ≡ true
    → reply_counts r ticket ≡ true → RepliedCases c number ticket r Q → Q (replied (begun c) number ticket r)
replied-cases c number ticket r Q fits counts cases = by-reply r refl counts
  where
    call-done : (request : Request) (s : Reply) → ticket.job ≡ for_call → ticket.request ≡ request → r ≡ s → is_of_procedure s request ≡ true
        → fits_call request ≡ true → Q (done_for_call (spends (begun c)) number ticket.first request s)
    call-done (Request.Lookup who name) (Reply.Lookup inc file blocks) job asks is of f =
        cases.named (Answer.Ok (Value.File file)) job (looked_up who name inc file blocks asks is)
    call-done (Request.Create who seq name blocks) (Reply.Create inc file) job asks is of f =
        cases.named (Answer.Ok (Value.File file)) job (created who seq name blocks inc file asks is)
    call-done (Request.GetAttr who file) (Reply.GetAttr inc blocks rev) job asks is of f =
        cases.named (Answer.Ok (Value.Blocks blocks)) job (attributes who file inc blocks rev asks is)
    call-done (Request.Read who q file block want) (Reply.Read inc rev body grant) job asks is of f =
        cases.reading who q file block want inc rev body grant (record { job = job; asks = asks }) is
    call-done (Request.Write who seq file block first last None body) (Reply.Write inc rev) job asks is of f =
        cases.writing who seq file block first last body inc rev (record { job = job; asks = asks }) is
    call-done (Request.GetLease who file want) (Reply.GetLease inc grant) job asks is of f =
        cases.leasing who file want inc grant (record { job = job; asks = asks }) is
    call-done (Request.Resize who seq q file blocks) (Reply.Resize inc rev) job asks is of f =
        cases.resizing who seq q file blocks inc rev (record { job = job; asks = asks }) is
    call-done (Request.Remove who seq q file) (Reply.Remove inc) job asks is of f = cases.removing who seq q file inc (record { job = job; asks = asks }) is
    call-done request s job asks is of f = absurd (cc)

    renewal-done : (request : Request) (s : Reply) → ticket.job ≡ Job.renewing → ticket.request ≡ request → r ≡ s → is_of_procedure s request ≡ true
        → fits_job Job.renewing request ≡ true → Q (done_renewal (spends (begun c)) ticket.first request s)
    renewal-done (Request.GetLease who file want) (Reply.GetLease inc grant) job asks is of f = cases.renewing who file want inc grant job asks is
    renewal-done request s job asks is of f = absurd (cc)

    push-done : (request : Request) (s : Reply) → ticket.job ≡ pushing → ticket.request ≡ request → r ≡ s → is_of_procedure s request ≡ true
        → fits_job pushing request ≡ true → Q (done_push (spends (begun c)) request s)
    push-done (Request.Write who seq file block first last (Some base) body) (Reply.Write inc rev) job asks is of f = cases.pushed who seq file block
        first last base body inc rev job asks is
    push-done request s job asks is of f = absurd (cc)

    attach-done : (request : Request) (s : Reply) → ticket.job ≡ Job.attaching → ticket.request ≡ request → r ≡ s → is_of_procedure s request ≡ true
        → fits_job Job.attaching request ≡ true → Q (attached (spends (begun c)))
    attach-done (Request.Attach who) (Reply.Attach inc) job asks is of f = cases.attaching who inc job asks is
    attach-done request s job asks is of f = absurd (cc)

    was-done : (job : Job) → ticket.job ≡ job → (s : Reply) → r ≡ s → is_of_procedure s ticket.request ≡ true → fits_job job ticket.request ≡ true
        → Q (done (spends (begun c)) number ticket job s)
    was-done Job.attaching job s is of f = attach-done ticket.request s job refl is of f
    was-done for_call job s is of f = call-done ticket.request s job refl is of f
    was-done Job.renewing job s is of f = renewal-done ticket.request s job refl is of f
    was-done pushing job s is of f = push-done ticket.request s job refl is of f

    push-refused : (inc : ℕ) (status : Refusal) (request : Request) → ticket.job ≡ pushing → ticket.request ≡ request → r ≡ Reply.Refused inc status
        → is_put_off status ≡ false → fits_job pushing request ≡ true → Q (refused_push (spends (begun c)) request)
    push-refused inc status (Request.Write who seq file block first last (Some base) body) job asks is final f =
        cases.push_refused who seq file block first last base body inc status job asks is final
    push-refused inc status request job asks is final f = absurd (cc)

    was-refused : (job : Job) → ticket.job ≡ job → (inc : ℕ) (status : Refusal) → r ≡ Reply.Refused inc status
        → refusal_counts status ticket.request job ≡ true → fits_job job ticket.request ≡ true → Q (refused (spends (begun c)) status ticket job)
    was-refused Job.attaching job inc status is counted f = absurd (cc)
    was-refused for_call job inc status is counted f =
        choice Q (is_put_off status) (pauses (spends (begun c))) (answers_call (spends (begun c)) (answer_of status) None)
        (cases.putting_off inc status (inl job) is) (cases.refusing inc status job is counted)
    was-refused Job.renewing job inc status is counted f =
        choice Q (is_put_off status) (pauses (spends (begun c))) (spends (begun c)) (cases.putting_off inc status (inr job) is)
        (cases.renewal_refused inc status job is)
    was-refused pushing job inc status is counted f = push-refused inc status ticket.request job refl is (not-true _ counted) f

    by-reply : (s : Reply) → r ≡ s → reply_counts s ticket ≡ true → Q (replied (begun c) number ticket s)
    by-reply (Reply.Refused inc status) is counted = was-refused ticket.job refl inc status is counted fits
    by-reply other is counted = was-done ticket.job refl other is counted fits
