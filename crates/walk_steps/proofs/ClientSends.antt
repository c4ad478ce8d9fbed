-- A step of a client sends at most two messages, whatever its state is.
use Rattle.std.proofs.Common.{◌≡◌, ◌≤◌, ℕ, ◌+◌, ◌++◌, Bool, true, false, not, ◌&&◌, List, [], ◌∷◌, Option, Some, None, length, refl, ap, ◌∙◌, arith}
use Rattle.std.specs.Prelude.{is_some}
use Rattle.std.proofs.lemmas.List.{length-append}
use Rattle.nq_base.specs.declared.Answer.{Answer}
use Rattle.nq_base.specs.declared.Call.{Call}
use Rattle.nq_base.specs.declared.Grant.{Grant}
use Rattle.nq_base.specs.declared.Reply.{Reply}
use Rattle.nq_base.specs.declared.Refusal.{Refusal}
use Rattle.nq_base.specs.declared.Request.{Request}
use Rattle.nq_base.specs.declared.Tag.{Tag}
use Rattle.nq_model.specs.protocol.Client.{Client, ClientStep, lease_on, notice_on, dirty_at, is_clean, revision_of, is_revision_before, Job, attaching}
use Rattle.nq_model.specs.protocol.Client.{for_call, renewing, pushing, Notice, Ticket, UnderWay, begun}
use Rattle.nq_model.specs.protocol.ClientStep.{client_call, client_tick, restart, begins_call, is_called, says_busy, sends_again, at_time, starts}
use Rattle.nq_model.specs.protocol.Hear.{hear, waits_for, breaks, grant_caches, holds_caching, is_put_off, answer_of, answers_call, vacates_lease}
use Rattle.nq_model.specs.protocol.Hear.{vacates_noticed, loses, reports_to, without_lease, push_refused, breaks_chain, if_broken, holds, takes_grant}
use Rattle.nq_model.specs.protocol.Hear.{takes_optional, answers_call_of, caches_block, purges, knows_revision, then_caches, read_done, marks_through}
use Rattle.nq_model.specs.protocol.Hear.{lease_done, caches_write, write_done, ends_push, caches_push, vacates_if_clean, push_done, spends, attached, pauses}
use Rattle.nq_model.specs.protocol.Hear.{done_for_call, done_renewal, done_push, done, refused_push, refused, replied, cancels, notes_notice, evicted, goes_on}
use Rattle.nq_model.specs.protocol.Message.{Message}
use Rattle.nq_model.specs.protocol.Send.{sends_request, after_seq, after_number, takes_push, gives_up, send_next}
use Rattle.nq_model.specs.protocol.Settle.{answers, names_losses, after_write, reads_cached, marks_written, settle}
use Rattle.walk_steps.proofs.SendCases.{send-cases}
use Rattle.walk_steps.proofs.SettleCases.{settle-cases}
use Rattle.walk_steps.proofs.StepCases.{call-cases, unless-cached-cases, tick-cases, evicted-cases, heard-cases}
use Rattle.walk_steps.proofs.Rows.{choice}

-- a later step sends at most so many messages more
Adds : ℕ → ClientStep → ClientStep → Type 0
Adds n t u = length u.sends ≤ length t.sends + n

one-more : {A : Type 0} (xs : List A) (x : A) → length (xs ++ x ∷ []) ≡ length xs + 1
one-more xs x = let both = length-append xs (x ∷ []) in omega arith

same-adds : (n : ℕ) (t u : ClientStep) → u.sends ≡ t.sends → Adds n t u
unfolding Adds
same-adds n t u e = let same : length u.sends ≡ length t.sends = ap length e in omega arith

then-same : (n : ℕ) (t u v : ClientStep) → Adds n t u → v.sends ≡ u.sends → Adds n t v
unfolding Adds
then-same n t u v few e = let same : length v.sends ≡ length u.sends = ap length e in omega arith

from-same : (n : ℕ) (t u v : ClientStep) → u.sends ≡ t.sends → Adds n u v → Adds n t v
unfolding Adds
from-same n t u v e few = let same : length u.sends ≡ length t.sends = ap length e in omega arith

-- ---- what needs no packet, and the next request

settles : (t : ClientStep) → (settle t).sends ≡ t.sends
unfolding answers after_write reads_cached marks_written
settles t = settle-cases t (λ u. u.sends ≡ t.sends) (record {
  idle = λ none. refl;
  asking = λ u called own. refl;
  read_out = λ u file block lease is read can out. refl;
  reading = λ u file block lease body is read can below has. refl;
  read_waits = λ u file block is read waits. refl;
  write_out = λ u sync file block body lease is write can out. refl;
  write_full = λ u sync file block body lease is write can below full. refl;
  writing = λ u file block body lease is write can below room. refl;
  putting = λ u file block body lease is put first can below room. refl;
  write_waits = λ u sync file block body is write waits. refl;
  syncing = λ u file is sync clean. refl;
  sync_waits = λ u file is sync dirty. refl;
  others = λ u is needs. refl;
})

requests : (t u : ClientStep) (job : Job) (request : Request) → u.sends ≡ t.sends → Adds 1 t (sends_request u job request)
unfolding Adds sends_request
requests t u job request e =
    let same : length u.sends ≡ length t.sends = ap length e in
    let one = one-more u.sends (Message.call u.client.xid request) in
    omega arith

sends-one : (in_tick : Bool) (t : ClientStep) → Adds 1 t (send_next in_tick t)
unfolding after_seq after_number takes_push gives_up
sends-one in_tick t = send-cases in_tick t (Adds 1 t) (record {
  stays_asking = λ ticket asks. same-adds 1 t t refl;
  stays = λ free nothing. same-adds 1 t t refl;
  pushing = λ file p free first of. requests t _ pushing _ refl;
  creating = λ u name blocks free is. requests t _ for_call _ refl;
  looking_up = λ u name free is. requests t t for_call _ refl;
  getting_attributes = λ u file free is. requests t t for_call _ refl;
  reading = λ u file block free is. requests t t for_call _ refl;
  fetching = λ u file block free is. requests t t for_call _ refl;
  writing = λ u file block body free is through. requests t _ for_call _ refl;
  leasing = λ u file block body free is no alone. requests t t for_call _ refl;
  putting = λ u file block body free is first. requests t _ for_call _ refl;
  resizing = λ u file blocks free is clean. requests t _ for_call _ refl;
  removing = λ u file free is clean. requests t _ for_call _ refl;
  renewing = λ file lease tick free nothing unpaused renewed held of clean quiet. requests t t renewing _ refl;
})

-- ---- what a reply or a notice brings

vacates-one : (t : ClientStep) (file : ℕ) (tag : Tag) → Adds 1 t (vacates_lease t file tag)
unfolding Adds vacates_lease
vacates-one t file tag = let one = one-more t.sends (Message.call t.client.xid (Request.Vacated t.client.who file tag)) in omega arith

noticed-one : (t : ClientStep) (file : ℕ) (o : Option Notice) → Adds 1 t (vacates_noticed t file o)
noticed-one t file None = same-adds 1 t t refl
noticed-one t file (Some n) = vacates-one t file n.tag

reported : (t : ClientStep) (file : ℕ) (o : Option UnderWay) → (reports_to t file o).sends ≡ t.sends
unfolding answers
reported t file None = refl
reported t file (Some u) = choice (λ (v : ClientStep). v.sends ≡ t.sends) (waits_for file u.written u.call) (names_losses t u.q file) t (λ e. refl) (λ e. refl)

broken-one : (t : ClientStep) (file : ℕ) → Adds 1 t (breaks_chain t file)
unfolding loses
broken-one t file =
    let gone = vacates_noticed (loses t file) file (notice_on file t.client.notices) in
    then-same 1 t gone _ (from-same 1 t (loses t file) gone refl (noticed-one (loses t file) file _)) (reported gone file gone.client.call)

refused-one : (t : ClientStep) (file : ℕ) → Adds 1 t (push_refused t file)
unfolding loses without_lease
refused-one t file =
    let free = without_lease (loses t file) file in
    let gone = vacates_noticed free file (notice_on file t.client.notices) in
    then-same 1 t gone _ (from-same 1 t free gone refl (noticed-one free file _)) (reported gone file gone.client.call)

taken-one : (t : ClientStep) (file : ℕ) (g : Grant) (sent : ℕ) → Adds 1 t (takes_grant t file g sent)
unfolding holds
taken-one t file g sent =
    let broken : Adds 1 t (if_broken t file g) = choice (Adds 1 t) (breaks g (lease_on file t.client.leases) && not (is_clean t.client file))
    (breaks_chain t file) t (λ e. broken-one t file) (λ e. same-adds 1 t t refl) in
    then-same 1 t (if_broken t file g) _ broken refl

optional-one : (t : ClientStep) (file : ℕ) (o : Option Grant) (sent : ℕ) → Adds 1 t (takes_optional t file o sent)
optional-one t file None sent = same-adds 1 t t refl
optional-one t file (Some g) sent = taken-one t file g sent

answered : (t : ClientStep) (answer : Answer) (by : Option ℕ) (o : Option UnderWay) → (answers_call_of t answer by o).sends ≡ t.sends
unfolding answers
answered t answer by None = refl
answered t answer by (Some u) = refl

read-one : (t : ClientStep) (file block : ℕ) (body : List ℕ) (g : Option Grant) (sent number : ℕ) → Adds 1 t (read_done t file block body g sent number)
unfolding caches_block
read-one t file block body g sent number =
    let u = takes_optional t file g sent in
    let v = then_caches u file block body g in
    let kept : v.sends ≡ u.sends = choice (λ (x : ClientStep). x.sends ≡ u.sends) (grant_caches g) (caches_block u file block body) u (λ e. refl)
    (λ e. refl) in
    then-same 1 t u _ (optional-one t file g sent) (answered v _ _ v.client.call ∙ kept)

lease-one : (t : ClientStep) (file : ℕ) (g : Option Grant) (sent : ℕ) → Adds 1 t (lease_done t file g sent)
unfolding marks_through
lease-one t file g sent =
    choice (Adds 1 t) (grant_caches g) (takes_optional t file g sent) (marks_through true (takes_optional t file g sent))
    (λ e. optional-one t file g sent)
    (λ e. then-same 1 t (takes_optional t file g sent) (marks_through true (takes_optional t file g sent)) (optional-one t file g sent) refl)

write-one : (t : ClientStep) (file block : ℕ) (body : List ℕ) (rev : ℕ) → Adds 1 t (write_done t file block body rev)
unfolding caches_block purges knows_revision
write-one t file block body rev =
    let u = caches_write t file block body rev in
    let v = knows_revision u file rev in
    let kept : u.sends ≡ t.sends = choice (λ (x : ClientStep). x.sends ≡ t.sends)
    (holds_caching (lease_on file t.client.leases) && is_revision_before rev (revision_of file t.client.revisions)) (caches_block t file block body)
    (purges t file) (λ e. refl) (λ e. refl) in
    same-adds 1 t _ (answered v _ _ v.client.call ∙ kept)

pushed-one : (t : ClientStep) (file block : ℕ) (body : List ℕ) (rev : ℕ) → Adds 1 t (push_done t file block body rev)
unfolding caches_block knows_revision ends_push
pushed-one t file block body rev =
    let u = caches_push (knows_revision (ends_push t) file rev) file block body in
    let known = knows_revision (ends_push t) file rev in
    let kept : u.sends ≡ t.sends = choice (λ (x : ClientStep). x.sends ≡ t.sends) (is_some (dirty_at file block t.client.dirty)) known
    (caches_block known file block body) (λ e. refl) (λ e. refl) in
    let gone = vacates_noticed u file (notice_on file u.client.notices) in
    from-same 1 t u (vacates_if_clean u file) kept
    (choice (Adds 1 u) (is_clean u.client file) gone u (λ e. noticed-one u file (notice_on file u.client.notices)) (λ e. same-adds 1 u u refl))

call-one : (t : ClientStep) (number sent : ℕ) (request : Request) (r : Reply) → Adds 1 t (done_for_call t number sent request r)
unfolding knows_revision
call-one t number sent (Request.Lookup who name) (Reply.Lookup inc file blocks) = same-adds 1 t _ (answered t _ _ t.client.call)
call-one t number sent (Request.Create who seq name blocks) (Reply.Create inc file) = same-adds 1 t _ (answered t _ _ t.client.call)
call-one t number sent (Request.GetAttr who file) (Reply.GetAttr inc blocks rev) = same-adds 1 t _ (answered t _ _ t.client.call)
call-one t number sent (Request.Read who q file block want) (Reply.Read inc rev body grant) = read-one t file block body grant sent number
call-one t number sent (Request.GetLease who file want) (Reply.GetLease inc grant) = lease-one t file grant sent
call-one t number sent (Request.Write who seq file block first last push body) (Reply.Write inc rev) = write-one t file block body rev
call-one t number sent (Request.Resize who seq q file blocks) (Reply.Resize inc rev) =
    same-adds 1 t _ (answered (knows_revision t file rev) _ _ (knows_revision t file rev).client.call)
call-one t number sent (Request.Remove who seq q file) (Reply.Remove inc) = same-adds 1 t _ (answered t _ _ t.client.call)
call-one t number sent request other = same-adds 1 t t refl

renewal-one : (t : ClientStep) (sent : ℕ) (request : Request) (r : Reply) → Adds 1 t (done_renewal t sent request r)
renewal-one t sent (Request.GetLease who file want) (Reply.GetLease inc grant) = optional-one t file grant sent
renewal-one t sent request other = same-adds 1 t t refl

push-one : (t : ClientStep) (request : Request) (r : Reply) → Adds 1 t (done_push t request r)
push-one t (Request.Write who seq file block first last push body) (Reply.Write inc rev) = pushed-one t file block body rev
push-one t request other = same-adds 1 t t refl

done-one : (t : ClientStep) (number : ℕ) (ticket : Ticket) (job : Job) (r : Reply) → Adds 1 t (done t number ticket job r)
unfolding attached
done-one t number ticket attaching r = same-adds 1 t (attached t) refl
done-one t number ticket for_call r = call-one t number ticket.first ticket.request r
done-one t number ticket renewing r = renewal-one t ticket.first ticket.request r
done-one t number ticket pushing r = push-one t ticket.request r

refused-push-one : (t : ClientStep) (request : Request) → Adds 1 t (refused_push t request)
refused-push-one t (Request.Write who seq file block first last push body) = refused-one t file
refused-push-one t other = same-adds 1 t t refl

refusal-one : (t : ClientStep) (status : Refusal) (ticket : Ticket) (job : Job) → Adds 1 t (refused t status ticket job)
unfolding pauses marks_through
refusal-one t status ticket attaching = same-adds 1 t t refl
refusal-one t status ticket for_call =
    choice (Adds 1 t) (is_put_off status) (pauses t) (answers_call t (answer_of status) None) (λ e. same-adds 1 t (pauses t) refl)
    (λ e. same-adds 1 t (answers_call t (answer_of status) None) (answered t (answer_of status) None t.client.call))
refusal-one t status ticket renewing = choice (Adds 1 t) (is_put_off status) (pauses t) t (λ e. same-adds 1 t (pauses t) refl) (λ e. same-adds 1 t t refl)
refusal-one t status ticket pushing = refused-push-one t ticket.request

replied-one : (t : ClientStep) (number : ℕ) (ticket : Ticket) (r : Reply) → Adds 1 t (replied t number ticket r)
unfolding spends
replied-one t number ticket (Reply.Refused inc status) = from-same 1 t (spends t) _ refl (refusal-one (spends t) status ticket ticket.job)
replied-one t number ticket other = from-same 1 t (spends t) _ refl (done-one (spends t) number ticket ticket.job other)

evicted-one : (t : ClientStep) (file : ℕ) (tag : Tag) → Adds 1 t (evicted t file tag)
unfolding notes_notice
evicted-one t file tag =
    evicted-cases t file tag (Adds 1 t) (record { clean = λ e. vacates-one t file tag; waiting = λ e. same-adds 1 t (notes_notice t file tag) refl })

goes-on : (t u : ClientStep) → Adds 1 t u → Adds 2 t (goes_on u)
unfolding Adds
goes-on t u few =
    let more : length (goes_on u).sends ≤ length (settle u).sends + 1 = sends-one false (settle u) in
    let same : length (settle u).sends ≡ length u.sends = ap length (settles u) in
    omega arith

-- ---- the steps

pub call-sends : (c : Client) (op : Call) → length (client_call c op).sends ≤ 2
unfolding Adds answers begins_call is_called says_busy
call-sends c op = call-cases c op (λ t. length t.sends ≤ 2) (record {
  busy = λ e. omega arith;
  telling = λ file loss losses none on changed has. omega arith;
  going = λ none on unlost.
      let u = is_called (begins_call c op) op in
      let same : length (settle u).sends ≡ length u.sends = ap length (settles u) in
      unless-cached-cases (settle u) (λ t. length t.sends ≤ 2) (λ cached. omega arith)
      (λ e. let one : length (send_next false (settle u)).sends ≤ length (settle u).sends + 1 = sends-one false (settle u) in omega arith);
})

pub tick-sends : (c : Client) (now : ℕ) → length (client_tick c now).sends ≤ 2
unfolding Adds sends_again
tick-sends c now = tick-cases c now (λ t. length t.sends ≤ 2) (record {
  again = λ ticket asks long. omega arith;
  quiet = λ ticket asks short. omega arith;
  free = λ free.
      let u = begun (at_time c now) in
      let same : length (settle u).sends ≡ length u.sends = ap length (settles u) in
      let one : length (send_next true (settle u)).sends ≤ length (settle u).sends + 1 = sends-one true (settle u) in
      omega arith;
})

pub hears-sends : (c : Client) (k : ℕ) (m : Message) (t : ClientStep) → hear c k m ≡ Some t → length t.sends ≤ 2
unfolding Adds cancels
hears-sends c k m t hears = heard-cases c k m t (λ t. length t.sends ≤ 2) hears (record {
  answered = λ xid r ticket is asks own inc counts. goes-on (begun c) (replied (begun c) k ticket r) (replied-one (begun c) k ticket r);
  noticed =
      λ xid file tag is older. goes-on (cancels (begun c) file) (evicted (cancels (begun c) file) file tag) (evicted-one (cancels (begun c) file) file tag);
})

pub restart-sends : (c : Client) → length (restart c).sends ≤ 2
unfolding starts
restart-sends c = omega arith
