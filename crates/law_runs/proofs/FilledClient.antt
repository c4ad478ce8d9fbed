-- The bodies that a client has and sends stay filled over each of its steps.
use Rattle.std.proofs.Common.{◌≡◌, ℕ, ◌+◌, Bool, true, false, List, Option, Some, None, if◌then◌else◌, refl, subst, ap}
use Rattle.nq_base.specs.declared.Answer.{Answer}
use Rattle.nq_base.specs.declared.Call.{Call}
use Rattle.nq_base.specs.declared.Grant.{Grant}
use Rattle.nq_base.specs.declared.Push.{Push}
use Rattle.nq_base.specs.declared.Reply.{Reply}
use Rattle.nq_base.specs.declared.Request.{Request}
use Rattle.nq_base.specs.declared.Tag.{Tag}
use Rattle.law_runs.proofs.EachOf.{each-filter}
use Rattle.nq_model.proofs.Lists.{each-append}
use Rattle.nq_model.specs.protocol.Client.{Client, ClientStep, Notice, Ticket, UnderWay, begun, is_push_of, notice_on}
use Rattle.nq_model.specs.protocol.ClientStep.{begins_call, is_called, sends_unless_cached, says_busy, client_call, at_time, sends_again, client_tick}
use Rattle.nq_model.specs.protocol.ClientStep.{fresh_client, starts, restart}
use Rattle.nq_model.specs.protocol.Hear.{vacates_lease, vacates_noticed, loses, reports, without_lease, push_refused, breaks_chain, if_broken, holds}
use Rattle.nq_model.specs.protocol.Hear.{takes_grant, takes_optional, answers_call, caches_block, purges, knows_revision, then_caches, read_done, with_through}
use Rattle.nq_model.specs.protocol.Hear.{marks_through, caches_write, write_done, ends_push, caches_push, push_done, answer_of, spends, attached, pauses}
use Rattle.nq_model.specs.protocol.Hear.{replied, reply_counts, cancels, notes_notice, evicted, hear, other_push}
use Rattle.nq_model.specs.protocol.Message.{Message}
use Rattle.nq_model.specs.protocol.Send.{send_next}
use Rattle.nq_model.specs.protocol.Settle.{settle}
use Rattle.nq_model.specs.laws.BodiesAreFilled.{IsFilled, BringsFilled, AsksFilled, TellsFilled, HasFilledBody, HasFilledBodies}
use Rattle.walk_steps.proofs.ClientFacts.{Alone, fits_job}
use Rattle.walk_steps.proofs.ClientMoves.{some-same, none-some, keeps-or-cancels}
use Rattle.walk_steps.proofs.PartCases.{answers-call-cases, vacates-noticed-cases, reports-cases, if-broken-cases, takes-optional-cases}
use Rattle.walk_steps.proofs.PartCases.{lease-done-cases, then-caches-cases, caches-write-cases, caches-push-cases, vacates-if-clean-cases}
use Rattle.walk_steps.proofs.RepliedCases.{replied-cases}
use Rattle.walk_steps.proofs.StepCases.{call-cases, unless-cached-cases, tick-cases, heard-cases, evicted-cases}
use Rattle.law_runs.proofs.FilledParts.{FitsIn, answered, begun-fits, named, put-filled, revision-filled, sends, settled}

-- ---- a reply

spent : (t : ClientStep) → FitsIn t → FitsIn (spends t)
unfolding spends
spent t m = record { called = m.called; asked = λ k e. none-some k e; listed = m.listed; pushes = m.pushes; cached = m.cached; sent = m.sent }

attached-fits : (t : ClientStep) → FitsIn t → FitsIn (attached t)
unfolding attached
attached-fits t m = m

vacated : (t : ClientStep) (file : ℕ) (tag : Tag) → FitsIn t → FitsIn (vacates_lease t file tag)
unfolding vacates_lease
vacated t file tag m =
    record {
      called = m.called;
      asked = m.asked;
      listed = m.listed;
      pushes = m.pushes;
      cached = m.cached;
      sent = each-append HasFilledBody t.sends _
          m.sent (tt, tt);
    }

vacated-noticed : (t : ClientStep) (file : ℕ) (o : Option Notice) → FitsIn t → FitsIn (vacates_noticed t file o)
vacated-noticed t file o m = vacates-noticed-cases t file o FitsIn (λ e. m) (λ n e. vacated t file n.tag m)

other-filled : (file : ℕ) (o : Option Push) → ((p : Push) → o ≡ Some p → IsFilled p.body) → (p : Push) → other_push file o ≡ Some p → IsFilled p.body
other-filled file None h p e = none-some p e
other-filled file (Some x) h p e = step (is_push_of file x) e
  where
    step : (b : Bool) → (if b then None else Some x) ≡ Some p → IsFilled p.body
    step true e = none-some p e
    step false e = h p e

lost : (t : ClientStep) (file : ℕ) → FitsIn t → FitsIn (loses t file)
unfolding loses
lost t file m =
    record {
      called = m.called;
      asked = m.asked;
      listed = each-filter (λ p. IsFilled p.body) _ t.client.dirty m.listed;
      pushes = other-filled file
          t.client.push m.pushes;
      cached = m.cached;
      sent = m.sent;
    }

reported : (t : ClientStep) (file : ℕ) → FitsIn t → FitsIn (reports t file)
reported t file m = reports-cases t file FitsIn (λ none. m) (λ u is waits. m) (λ u is waits. named t u.q file m)

held : (t : ClientStep) (file : ℕ) (g : Grant) (sent : ℕ) → FitsIn t → FitsIn (holds t file g sent)
unfolding holds
held t file g at m =
    record {
      called = m.called;
      asked = m.asked;
      listed = m.listed;
      pushes = m.pushes;
      cached = revision-filled file g.rev t.client.revisions
          t.client.clean m.cached;
      sent = m.sent;
    }

broken : (t : ClientStep) (file : ℕ) → FitsIn t → FitsIn (breaks_chain t file)
broken t file m =
    reported (vacates_noticed (loses t file) file (notice_on file t.client.notices)) file
    (vacated-noticed (loses t file) file (notice_on file t.client.notices) (lost t file m))

granted : (t : ClientStep) (file : ℕ) (g : Grant) (sent : ℕ) → FitsIn t → FitsIn (takes_grant t file g sent)
granted t file g at m = held (if_broken t file g) file g at (if-broken-cases t file g FitsIn (λ e. m) (λ lease has breaks dirty. broken t file m))

takes : (t : ClientStep) (file : ℕ) (o : Option Grant) (sent : ℕ) → FitsIn t → FitsIn (takes_optional t file o sent)
takes t file o at m = takes-optional-cases t file o at FitsIn (λ e. m) (λ g e. granted t file g at m)

caches : (t : ClientStep) (file block : ℕ) (body : List ℕ) → IsFilled body → FitsIn t → FitsIn (caches_block t file block body)
unfolding caches_block
caches t file block body filled m =
    record {
      called = m.called;
      asked = m.asked;
      listed = m.listed;
      pushes = m.pushes;
      cached = put-filled file block body t.client.clean filled
          m.cached;
      sent = m.sent;
    }

purged : (t : ClientStep) (file : ℕ) → FitsIn t → FitsIn (purges t file)
unfolding purges
purged t file m =
    record {
      called = m.called;
      asked = m.asked;
      listed = m.listed;
      pushes = m.pushes;
      cached = each-filter (λ k. IsFilled k.body) _ t.client.clean
          m.cached;
      sent = m.sent;
    }

known : (t : ClientStep) (file rev : ℕ) → FitsIn t → FitsIn (knows_revision t file rev)
unfolding knows_revision
known t file rev m = m

unleased : (t : ClientStep) (file : ℕ) → FitsIn t → FitsIn (without_lease t file)
unfolding without_lease
unleased t file m = m

ended : (t : ClientStep) → FitsIn t → FitsIn (ends_push t)
unfolding ends_push
ended t m = record { called = m.called; asked = m.asked; listed = m.listed; pushes = λ p e. none-some p e; cached = m.cached; sent = m.sent }

through-filled : (on : Bool) (o : Option UnderWay) → ((u : UnderWay) → o ≡ Some u → BringsFilled u.call) → (v : UnderWay) → with_through on o ≡ Some v
    → BringsFilled v.call
through-filled on None h v e = none-some v e
through-filled on (Some u) h v e = subst (λ z. BringsFilled z.call) (some-same (record u { through = on }) v e) (h u refl)

marks : (on : Bool) (t : ClientStep) → FitsIn t → FitsIn (marks_through on t)
unfolding marks_through
marks on t m =
    record { called = through-filled on t.client.call m.called; asked = m.asked; listed = m.listed; pushes = m.pushes; cached = m.cached; sent = m.sent }

paused : (t : ClientStep) → FitsIn t → FitsIn (pauses t)
unfolding pauses marks_through
paused t m =
    record { called = through-filled false t.client.call m.called; asked = m.asked; listed = m.listed; pushes = m.pushes; cached = m.cached; sent = m.sent }

answers-fit : (t : ClientStep) (a : Answer) (by : Option ℕ) → FitsIn t → FitsIn (answers_call t a by)
answers-fit t a by m = answers-call-cases t a by FitsIn (λ e. m) (λ u e. answered t u.q a by m)

read-done : (t : ClientStep) (file block : ℕ) (body : List ℕ) (o : Option Grant) (sent number : ℕ) → IsFilled body → FitsIn t
    → FitsIn (read_done t file block body o sent number)
read-done t file block body o at number filled m =
    let k = takes t file o at m in
    answers-fit (then_caches (takes_optional t file o at) file block body o) _ _
    (then-caches-cases (takes_optional t file o at) file block body o FitsIn (λ e. caches _ file block body filled k) (λ e. k))

write-done : (t : ClientStep) (file block : ℕ) (body : List ℕ) (rev : ℕ) → IsFilled body → FitsIn t → FitsIn (write_done t file block body rev)
write-done t file block body rev filled m =
    answers-fit (knows_revision (caches_write t file block body rev) file rev) _ None
    (known (caches_write t file block body rev) file rev
    (caches-write-cases t file block body rev FitsIn (λ a b. caches t file block body filled m) (purged t file m)))

push-done : (t : ClientStep) (file block : ℕ) (body : List ℕ) (rev : ℕ) → IsFilled body → FitsIn t → FitsIn (push_done t file block body rev)
push-done t file block body rev filled m =
    let k = known (ends_push t) file rev (ended t m) in
    let c = caches-push-cases (knows_revision (ends_push t) file rev) file block body FitsIn (λ e. k) (λ e. caches _ file block body filled k) in
    vacates-if-clean-cases (caches_push (knows_revision (ends_push t) file rev) file block body) file FitsIn c (λ n clean e. vacated _ file n.tag c)

refused-fits : (t : ClientStep) (file : ℕ) → FitsIn t → FitsIn (push_refused t file)
refused-fits t file m = reported _ file (vacated-noticed _ file _ (unleased _ file (lost t file m)))

module _ (c : Client) (number : ℕ) (ticket : Ticket) (r : Reply) (is : c.ticket ≡ Some ticket) (tells : TellsFilled r) (m : FitsIn (begun c)) where
  k : FitsIn (spends (begun c))
  k = spent (begun c) m

  asks-body : (request : Request) → ticket.request ≡ request → AsksFilled request
  asks-body request asks = subst AsksFilled asks (m.asked ticket is)

  tells-body : (a : Reply) → r ≡ a → TellsFilled a
  tells-body a told = subst TellsFilled told tells

  pub replied-fits : fits_job ticket.job ticket.request ≡ true → reply_counts r ticket ≡ true → FitsIn (replied (begun c) number ticket r)
  replied-fits fits counts = replied-cases c number ticket r FitsIn fits counts (record {
    attaching = λ who inc job asks told. attached-fits _ k;
    named = λ answer job n. answers-fit _ answer None k;
    reading =
        λ who q file block want inc rev body grant of told. read-done _ file block body grant ticket.first number
        (tells-body (Reply.Read inc rev body grant) told) k;
    leasing =
        λ who file want inc grant of told. lease-done-cases _ file grant ticket.first FitsIn (λ e. takes _ file grant ticket.first k)
        (λ e. marks true _ (takes _ file grant ticket.first k));
    writing =
        λ who seq file block first last body inc rev of told. write-done _ file block body rev
        (asks-body (Request.Write who seq file block first last None body) of.asks) k;
    resizing = λ who seq q file blocks inc rev of told. answers-fit _ _ None (known _ file rev k);
    removing = λ who seq q file inc of told. answers-fit _ _ None k;
    renewing = λ who file want inc grant job asks told. takes _ file grant ticket.first k;
    pushed =
        λ who seq file block first last base body inc rev job asks told. push-done _ file block body rev
        (asks-body (Request.Write who seq file block first last (Some base) body) asks) k;
    putting_off = λ inc status job told off. paused _ k;
    refusing = λ inc status job told counted final. answers-fit _ (answer_of status) None k;
    renewal_refused = λ inc status job told final. k;
    push_refused = λ who seq file block first last base body inc status job asks told final. refused-fits _ file k;
  })

-- ---- a notice

cancelled-fits : (t : ClientStep) (file : ℕ) → FitsIn t → FitsIn (cancels t file)
unfolding cancels
cancelled-fits t file m =
    record {
      called = m.called;
      asked = λ k e. m.asked k (keeps-or-cancels file t.client.ticket k e).0;
      listed = m.listed;
      pushes = m.pushes;
      cached = m.cached;
      sent = m.sent;
    }

notes : (t : ClientStep) (file : ℕ) (tag : Tag) → FitsIn t → FitsIn (notes_notice t file tag)
unfolding notes_notice
notes t file tag m = m

evicted-fits : (t : ClientStep) (file : ℕ) (tag : Tag) → FitsIn t → FitsIn (evicted (cancels t file) file tag)
evicted-fits t file tag m = evicted-cases (cancels t file) file tag FitsIn (record {
  clean = λ e. vacated (cancels t file) file tag (cancelled-fits t file m);
  waiting = λ e. notes (cancels t file) file tag (cancelled-fits t file m);
})

-- ---- whole steps

goes-on : (in_tick : Bool) (t : ClientStep) → FitsIn t → FitsIn (send_next in_tick (settle t))
goes-on in_tick t m = sends in_tick (settle t) (settled t m)

begins : (c : Client) (op : Call) → HasFilledBodies c → FitsIn (begins_call c op)
unfolding begins_call
begins c op h = record { called = h.called; asked = h.asked; listed = h.dirty; pushes = h.pushed; cached = h.clean; sent = tt }

busy : (c : Client) (op : Call) → HasFilledBodies c → FitsIn (says_busy (begins_call c op))
unfolding says_busy begins_call
busy c op h = record { called = h.called; asked = h.asked; listed = h.dirty; pushes = h.pushed; cached = h.clean; sent = tt }

calls : (c : Client) (op : Call) → BringsFilled op → HasFilledBodies c → FitsIn (is_called (begins_call c op) op)
unfolding is_called begins_call
calls c op brings h =
    record {
      called = λ u e. subst (λ z. BringsFilled z.call) (some-same (record { q = c.calls + 1; call = op; through = false; written = false }) u e)
          brings;
      asked = h.asked;
      listed = h.dirty;
      pushes = h.pushed;
      cached = h.clean;
      sent = tt;
    }

unless-cached : (t : ClientStep) → FitsIn t → FitsIn (sends_unless_cached (settle t))
unless-cached t m = unless-cached-cases (settle t) FitsIn (λ e. settled t m) (λ e. goes-on false t m)

pub call-fits : (c : Client) (op : Call) → BringsFilled op → HasFilledBodies c → FitsIn (client_call c op)
call-fits c op brings h = call-cases c op FitsIn (record {
  busy = λ why. busy c op h;
  telling = λ file loss losses none on of some. named (begins_call c op) _ file (begins c op h);
  going = λ none on unlost. unless-cached (is_called (begins_call c op) op) (calls c op brings h);
})

timed : (c : Client) (now : ℕ) → HasFilledBodies c → FitsIn (begun (at_time c now))
unfolding at_time
timed c now h = begun-fits c h

again : (c : Client) (now : ℕ) (ticket : Ticket) → c.ticket ≡ Some ticket → HasFilledBodies c → FitsIn (sends_again (begun (at_time c now)) ticket)
unfolding sends_again at_time
again c now ticket is h =
    record {
      called = h.called;
      asked = λ k e. subst AsksFilled (ap (λ z. z.request) (some-same _ k e)) (h.asked ticket is);
      listed = h.dirty;
      pushes = h.pushed;
      cached = h.clean;
      sent = (h.asked ticket is, tt);
    }

pub tick-fits : (c : Client) (now : ℕ) → HasFilledBodies c → FitsIn (client_tick c now)
tick-fits c now h = tick-cases c now FitsIn (record {
  again = λ ticket is due. again c now ticket is h;
  quiet = λ ticket is early. timed c now h;
  free = λ free. goes-on true (begun (at_time c now)) (timed c now h);
})

pub hear-fits : (c : Client) (k : ℕ) (m : Message) (t : ClientStep) → Alone c → HasFilledBody m → hear c k m ≡ Some t → HasFilledBodies c → FitsIn t
hear-fits c k m t alone filled hears h = heard-cases c k m t FitsIn hears (record {
  answered =
      λ xid r ticket is has same inc counts. goes-on false (replied (begun c) k ticket r)
      (replied-fits c k ticket r has (subst HasFilledBody is filled) (begun-fits c h) (alone.asking.ticketed ticket has).fits counts);
  noticed = λ xid file tag is early. goes-on false (evicted (cancels (begun c) file) file tag) (evicted-fits (begun c) file tag (begun-fits c h));
})

pub restart-fits : (c : Client) → FitsIn (restart c)
unfolding starts fresh_client
restart-fits c =
    record {
      called = λ u e. none-some u e;
      asked = λ t e. subst AsksFilled (ap (λ z. z.request) (some-same _ t e)) tt;
      listed = tt;
      pushes = λ p e.
          none-some p e;
      cached = tt;
      sent = (tt, tt);
    }
