-- What a reply that counts leaves as it was, and how much it takes.
use Rattle.std.proofs.Common.{◌≡◌, ℕ, Bool, true, false, List, Option, Some, None, IsTrue}
use Rattle.std.proofs.Common.{if◌then◌else◌, refl}
use Rattle.nq_base.specs.declared.Push.{Push}
use Rattle.nq_base.specs.declared.Refusal.{Refusal}
use Rattle.nq_base.specs.declared.Reply.{Reply}
use Rattle.nq_base.specs.declared.Request.{Request}
use Rattle.nq_client.specs.Receiving.{answered}
use Rattle.nq_client.specs.Tied.{TiedFor, Stores}
use Rattle.nq_model.specs.protocol.Client.{Job, attaching, for_call, renewing, pushing, Ticket, ClientStep, is_push_of, push_passes}
use Rattle.nq_model.specs.protocol.Client.{notice_on}
use Rattle.nq_model.specs.protocol.Hear.{vacates_noticed, loses, without_lease}
use Rattle.nq_model.specs.protocol.Hear.{push_refused}
use Rattle.nq_model.specs.protocol.Hear.{ends_push, push_done}
use Rattle.nq_model.specs.protocol.Hear.{done_push, done, refused_push, refused, other_push, is_of_procedure}
use Rattle.nq_model.specs.protocol.Hear.{reply_counts}
use Rattle.nq_client.proofs.RepliedKept.{after-stored, done-kept, refused-kept, reported, unleased, vacated-noticed}

-- ---- delayed writes are no more under way

-- delayed writes of a file that are lost are not under way
other-none : (file : ℕ) (push : Option Push) → IsTrue (push_passes (is_push_of file) push) → other_push file push ≡ None
other-none file None h = refl
other-none file (Some p) h = go (is_push_of file p) h
  where
    go : (b : Bool) → IsTrue b → (if b then None else Some p) ≡ None
    go true i = refl
    go false i = absurd cc

lost-none : (t : ClientStep) (file : ℕ) → IsTrue (push_passes (is_push_of file) t.client.push) → (loses t file).client.push ≡ None
unfolding loses
lost-none t file h = other-none file t.client.push h

refused-none : (t : ClientStep) (file : ℕ) → IsTrue (push_passes (is_push_of file) t.client.push) → (push_refused t file).client.push ≡ None
refused-none t file h =
    let lost-step = loses t file in
    let unleased-step = without_lease lost-step file in
    let vacated-step = vacates_noticed unleased-step file (notice_on file t.client.notices) in
    (reported vacated-step file vacated-step.client.call).push
    ((vacated-noticed unleased-step file (notice_on file t.client.notices)).push
    ((unleased lost-step file).push (lost-none t file h)))

ends-none : (t : ClientStep) → (ends_push t).client.push ≡ None
unfolding ends_push
ends-none t = refl

stored-none : (t : ClientStep) (file block : ℕ) (body : List ℕ) (rev : ℕ) → (push_done t file block body rev).client.push ≡ None
stored-none t file block body rev = (after-stored (ends_push t) file block body rev).push (ends-none t)

pushed-none : (t : ClientStep) (request : Request) (r : Reply) → Stores request t.client.push → IsTrue (is_of_procedure r request)
    → (done_push t request r).client.push ≡ None
pushed-none t (Request.Write who seq file block first last push body) (Reply.Write inc rev) tied counts = stored-none t file block body rev
pushed-none t (Request.Write who seq file block first last push body) other tied counts = absurd cc
pushed-none t other r tied counts = absurd tied

refused-push-none : (t : ClientStep) (request : Request) → Stores request t.client.push → (refused_push t request).client.push ≡ None
refused-push-none t (Request.Write who seq file block first last push body) tied = refused-none t file tied
refused-push-none t other tied = absurd tied

done-none : (t : ClientStep) (number : ℕ) (ticket : Ticket) (job : Job) (r : Reply) → TiedFor job ticket.request t.client.push
    → IsTrue (is_of_procedure r ticket.request) → (done t number ticket job r).client.push ≡ None
done-none t number ticket attaching r tied counts = (done-kept t number ticket attaching r).push tied
done-none t number ticket for_call r tied counts = (done-kept t number ticket for_call r).push tied
done-none t number ticket renewing r tied counts = (done-kept t number ticket renewing r).push tied
done-none t number ticket pushing r tied counts = pushed-none t ticket.request r tied counts

was-refused-none : (t : ClientStep) (status : Refusal) (ticket : Ticket) (job : Job) → TiedFor job ticket.request t.client.push
    → (refused t status ticket job).client.push ≡ None
was-refused-none t status ticket attaching tied = (refused-kept t status ticket attaching).push tied
was-refused-none t status ticket for_call tied = (refused-kept t status ticket for_call).push tied
was-refused-none t status ticket renewing tied = (refused-kept t status ticket renewing).push tied
was-refused-none t status ticket pushing tied = refused-push-none t ticket.request tied

-- after a reply that counts no delayed writes are under way
pub answered-none : (t : ClientStep) (number : ℕ) (ticket : Ticket) (r : Reply) → TiedFor ticket.job ticket.request t.client.push
    → IsTrue (reply_counts r ticket) → (answered t number ticket r).client.push ≡ None
answered-none t number ticket (Reply.Refused inc status) tied counts = was-refused-none t status ticket ticket.job tied
answered-none t number ticket other tied counts = done-none t number ticket ticket.job other tied counts
