-- A client that has no delayed writes and no running lease to write gets no delayed writes, unless it is granted a running one.
use Rattle.std.proofs.Common.{◌≡◌, ◌≢◌, ◌≤◌, ◌⊎◌, ℕ, ◌+◌, Bool, true, false, not, ◌&&◌, List, [], Option, Some, None, refl, sym, subst, ap, ◌∙◌}
use Rattle.std.proofs.Common.{arith, inl, inr}
use Rattle.std.specs.Prelude.{is_some}
use Rattle.nq_base.specs.declared.Answer.{Answer}
use Rattle.nq_base.specs.declared.Grant.{Grant}
use Rattle.nq_base.specs.declared.Push.{Push}
use Rattle.nq_base.specs.declared.Refusal.{Refusal}
use Rattle.nq_base.specs.declared.Reply.{Reply}
use Rattle.nq_base.specs.declared.Request.{Request}
use Rattle.nq_base.specs.declared.Tag.{Tag}
use Rattle.nq_model.specs.protocol.Client.{Client, ClientStep, Lease, lease_on, drop_lease, put_lease, used_lease, lets_write, notice_on, first_dirty}
use Rattle.nq_model.specs.protocol.Client.{dirty_at, other_dirty, is_clean, revision_of, is_revision_before, Job, attaching, for_call, renewing, pushing}
use Rattle.nq_model.specs.protocol.Client.{Notice, Ticket, UnderWay, begun}
use Rattle.nq_model.specs.protocol.ClientStep.{client_tick, sends_again, at_time}
use Rattle.nq_model.specs.protocol.Hear.{hear, inc_of, reply_counts, granted_lease, waits_for, breaks, grant_caches, holds_caching, is_put_off, answer_of}
use Rattle.nq_model.specs.protocol.Hear.{answers_call, vacates_lease, vacates_noticed, other_push, loses, reports_to, without_lease, push_refused}
use Rattle.nq_model.specs.protocol.Hear.{breaks_chain, if_broken, holds, takes_grant, takes_optional, answers_call_of, caches_block, purges, knows_revision}
use Rattle.nq_model.specs.protocol.Hear.{then_caches, read_done, marks_through, lease_done, caches_write, write_done, ends_push, caches_push, push_done}
use Rattle.nq_model.specs.protocol.Hear.{spends, attached, pauses, done_for_call, done_renewal, done_push, done, refused_push, refused, replied, cancels}
use Rattle.nq_model.specs.protocol.Hear.{notes_notice, evicted}
use Rattle.nq_model.specs.protocol.Message.{Message, reply}
use Rattle.nq_model.specs.protocol.Send.{sends_request, after_seq, after_number, gives_up, send_next}
use Rattle.nq_model.specs.protocol.Settle.{answers, names_losses, after_read, reads_cached, after_write, marks_written, settle}
use Rattle.nq_model.specs.protocol.Table.{is_writing}
use Rattle.nq_model.specs.laws.LeaseInterval.{grant_in}
use Rattle.nq_model.proofs.ClientLists.{lease-before-drop, lease-after-put, marked-before, marked-mode, marked-expiry}
use Rattle.std.proofs.lemmas.Bool.{and_parts}
use Rattle.walk_steps.proofs.Tests.{is-below}
use Rattle.walk_steps.proofs.ClientMoves.{none-some}
use Rattle.walk_steps.proofs.SendCases.{send-cases}
use Rattle.walk_steps.proofs.SettleCases.{settle-cases}
use Rattle.walk_steps.proofs.StepCases.{tick-cases, evicted-cases, heard-cases}
use Rattle.walk_steps.proofs.Rows.{choice}

-- no lease that lets its holder write runs
abbrev pub Dead : (now : ℕ) → List Lease → Type 0
Dead now leases = (file : ℕ) (l : Lease) → lease_on file leases ≡ Some l → is_writing l.mode ≡ true → l.expiry ≤ now

pub record Asleep (c : Client) : Type 0 where
  pub dirty : c.dirty ≡ []
  pub push : c.push ≡ None
  pub dead : Dead c.now c.leases

dead-dropped : (now file : ℕ) (leases : List Lease) → Dead now leases → Dead now (drop_lease file leases)
dead-dropped now file leases d f l on writes = d f l (lease-before-drop file f leases l on).1 writes

dead-used : (now file : ℕ) (leases : List Lease) → Dead now leases → Dead now (used_lease file leases)
dead-used now file leases d f l on writes =
    let m = marked-before f file leases l on in
    let late = d f m.before m.found (ap is_writing (sym (marked-mode file m.before)) ∙ ap (λ (x : Lease). is_writing x.mode) (sym m.same) ∙ writes) in
    let same : l.expiry ≡ m.before.expiry = ap (λ (x : Lease). x.expiry) m.same ∙ marked-expiry file m.before in
    omega arith

dead-put : (now : ℕ) (lease : Lease) (leases : List Lease) → (is_writing lease.mode ≡ true → lease.expiry ≤ now) → Dead now leases
    → Dead now (put_lease lease leases)
dead-put now lease leases own d f l on writes = by (lease-after-put lease f leases l on)
  where
    by : ((f ≡ lease.file) × (l ≡ lease)) ⊎ ((f ≢ lease.file) × (lease_on f leases ≡ Some l)) → l.expiry ≤ now
    by (inl p) = let late = own (ap (λ (x : Lease). is_writing x.mode) (sym p.1) ∙ writes) in let same : l.expiry ≡ lease.expiry =
        ap (λ (x : Lease). x.expiry) p.1 in omega arith
    by (inr p) = d f l p.1 writes

abbrev pub Rest : ClientStep → Type 0
Rest t = Asleep t.client

same : (t u : ClientStep) → u.client.now ≡ t.client.now → u.client.leases ≡ t.client.leases → u.client.dirty ≡ t.client.dirty → u.client.push
    ≡ t.client.push → Rest t → Rest u
same t u now leases kept going h = record {
  dirty = kept ∙ h.dirty;
  push = going ∙ h.push;
  dead = λ f l on writes. let late = h.dead f l (ap (lease_on f) (sym leases) ∙ on) writes in omega arith;
}

-- ---- what needs no packet, and the next request

pub settles : (t : ClientStep) → Rest t → Rest (settle t)
unfolding answers reads_cached after_read after_write marks_written
settles t h = settle-cases t Rest (record {
  idle = λ none. h;
  asking = λ u called own. h;
  read_out = λ u file block lease is read can out. record { dirty = h.dirty; push = h.push; dead = h.dead };
  reading = λ u file block lease body is read can below has. record {
    dirty = h.dirty;
    push = h.push;
    dead = dead-used t.client.now file
        t.client.leases h.dead;
  };
  read_waits = λ u file block is read waits. h;
  write_out = λ u sync file block body lease is write can out. record { dirty = h.dirty; push = h.push; dead = h.dead };
  write_full = λ u sync file block body lease is write can below full. record { dirty = h.dirty; push = h.push; dead = h.dead };
  writing = λ u file block body lease is write can below room. absurd (no-write file lease can.held can.lets);
  putting = λ u file block body lease is put first can below room. absurd (no-write file lease can.held can.lets);
  write_waits = λ u sync file block body is write waits. h;
  syncing = λ u file is sync clean. record { dirty = h.dirty; push = h.push; dead = h.dead };
  sync_waits = λ u file is sync dirty. h;
  others = λ u is needs. h;
})
  where
    no-write : (file : ℕ) (lease : Lease) → lease_on file t.client.leases ≡ Some lease → lets_write t.client.now lease ≡ true → ⊥
    no-write file lease held lets =
        let p = and_parts _ _ lets in
        let runs = is-below t.client.now lease.expiry p.1 in
        let over = h.dead file lease held p.0 in
        omega arith

requests : (t u : ClientStep) (job : Job) (request : Request) → u.client.now ≡ t.client.now → u.client.leases ≡ t.client.leases → u.client.dirty
    ≡ t.client.dirty → u.client.push ≡ t.client.push → Rest t → Rest (sends_request u job request)
unfolding sends_request
requests t u job request now leases kept going h = record {
  dirty = kept ∙ h.dirty;
  push = going ∙ h.push;
  dead = λ f l on writes. let late = h.dead f l (ap (lease_on f) (sym leases) ∙ on) writes in omega arith;
}

-- a push takes delayed writes from the list; where there are none it is not sent
no-push : (t : ClientStep) (file : ℕ) (p : Push) → first_dirty file t.client.dirty ≡ Some p → Rest t → ⊥
no-push t file p first h = none-some p (subst (λ ps. first_dirty file ps ≡ Some p) h.dirty first)

gives-up : (t : ClientStep) (file : ℕ) (request : Request) → Rest t → Rest (sends_request (after_seq (gives_up t file)) for_call request)
unfolding sends_request after_seq gives_up
gives-up t file request h = record { dirty = h.dirty; push = h.push; dead = dead-dropped t.client.now file t.client.leases h.dead }

pub sends : (in_tick : Bool) (t : ClientStep) → Rest t → Rest (send_next in_tick t)
unfolding after_seq after_number
sends in_tick t h = send-cases in_tick t Rest (record {
  stays_asking = λ ticket asks. h;
  stays = λ free nothing. h;
  pushing = λ file p free first of. absurd (no-push t file p first h);
  creating = λ u name blocks free is. requests t _ for_call _ refl refl refl refl h;
  looking_up = λ u name free is. requests t t for_call _ refl refl refl refl h;
  getting_attributes = λ u file free is. requests t t for_call _ refl refl refl refl h;
  reading = λ u file block free is. requests t t for_call _ refl refl refl refl h;
  fetching = λ u file block free is. requests t t for_call _ refl refl refl refl h;
  writing = λ u file block body free is through. requests t _ for_call _ refl refl refl refl h;
  leasing = λ u file block body free is no alone. requests t t for_call _ refl refl refl refl h;
  putting = λ u file block body free is first. requests t _ for_call _ refl refl refl refl h;
  resizing = λ u file blocks free is clean. gives-up t file _ h;
  removing = λ u file free is clean. gives-up t file _ h;
  renewing = λ file lease tick free nothing unpaused renewed held of clean quiet. requests t t renewing _ refl refl refl refl h;
})

-- ---- what a reply or a notice brings

vacates : (t : ClientStep) (file : ℕ) (tag : Tag) → Rest t → Rest (vacates_lease t file tag)
unfolding vacates_lease
vacates t file tag h = record { dirty = h.dirty; push = h.push; dead = dead-dropped t.client.now file t.client.leases h.dead }

noticed : (t : ClientStep) (file : ℕ) (o : Option Notice) → Rest t → Rest (vacates_noticed t file o)
noticed t file None h = h
noticed t file (Some n) h = vacates t file n.tag h

reported : (t : ClientStep) (file : ℕ) (o : Option UnderWay) → Rest t → Rest (reports_to t file o)
unfolding answers
reported t file None h = h
reported t file (Some u) h = choice Rest (waits_for file u.written u.call) (names_losses t u.q file) t (λ e. record {
  dirty = h.dirty;
  push = h.push;
  dead = h.dead;
}) (λ e. h)

lost-rest : (t : ClientStep) (file : ℕ) → Rest t → Rest (loses t file)
unfolding loses
lost-rest t file h = record { dirty = ap (other_dirty file) h.dirty; push = ap (other_push file) h.push; dead = h.dead }

broken : (t : ClientStep) (file : ℕ) → Rest t → Rest (breaks_chain t file)
broken t file h =
    let gone = vacates_noticed (loses t file) file (notice_on file t.client.notices) in
    reported gone file gone.client.call (noticed (loses t file) file (notice_on file t.client.notices) (lost-rest t file h))

free-rest : (t : ClientStep) (file : ℕ) → Rest t → Rest (without_lease (loses t file) file)
unfolding loses without_lease
free-rest t file h = record {
  dirty = ap (other_dirty file) h.dirty;
  push = ap (other_push file) h.push;
  dead = dead-dropped t.client.now file
      t.client.leases h.dead;
}

refused-push : (t : ClientStep) (file : ℕ) → Rest t → Rest (push_refused t file)
refused-push t file h =
    let free = without_lease (loses t file) file in
    let gone = vacates_noticed free file (notice_on file t.client.notices) in
    reported gone file gone.client.call (noticed free file (notice_on file t.client.notices) (free-rest t file h))

-- a grant that is over, or lets its holder write nothing
abbrev pub Over : (now sent : ℕ) → Grant → Type 0
Over now sent g = is_writing g.mode ≡ true → sent + g.term ≤ now

abbrev pub AllOver : (now sent : ℕ) → Option Grant → Type 0
AllOver now sent o = (g : Grant) → o ≡ Some g → Over now sent g

same-now : (t : ClientStep) (file : ℕ) (g : Grant) → (if_broken t file g).client.now ≡ t.client.now
unfolding loses answers vacates_lease
same-now t file g = choice (λ (u : ClientStep). u.client.now ≡ t.client.now) (breaks g (lease_on file t.client.leases)
    && not (is_clean t.client file)) (breaks_chain t file) t (λ e. chain (notice_on file t.client.notices)) (λ e. refl)
  where
    told : (v : ClientStep) (o : Option UnderWay) → v.client.now ≡ t.client.now → (reports_to v file o).client.now ≡ t.client.now
    told v None e = e
    told v (Some u) e = choice (λ (x : ClientStep). x.client.now ≡ t.client.now) (waits_for file u.written u.call) (names_losses v u.q file) v
        (λ f. e) (λ f. e)

    chain : (o : Option Notice) → (reports_to (vacates_noticed (loses t file) file o) file (vacates_noticed (loses t file) file
        o).client.call).client.now ≡ t.client.now
    chain None = told (loses t file) (loses t file).client.call refl
    chain (Some n) = told (vacates_lease (loses t file) file n.tag) (vacates_lease (loses t file) file n.tag).client.call refl

taken : (t : ClientStep) (file : ℕ) (g : Grant) (sent : ℕ) → Over t.client.now sent g → Rest t → Rest (takes_grant t file g sent)
unfolding holds granted_lease
taken t file g sent over h =
    let u = if_broken t file g in
    let still : Rest u = choice Rest (breaks g (lease_on file t.client.leases) && not (is_clean t.client file)) (breaks_chain t file) t
    (λ e. broken t file h) (λ e. h) in
    record {
      dirty = still.dirty;
      push = still.push;
      dead = dead-put u.client.now (granted_lease file g sent) u.client.leases (λ writes. let late = over writes in let now = same-now t file g in
          omega arith) still.dead;
    }

optional : (t : ClientStep) (file : ℕ) (o : Option Grant) (sent : ℕ) → AllOver t.client.now sent o → Rest t → Rest (takes_optional t file o sent)
optional t file None sent over h = h
optional t file (Some g) sent over h = taken t file g sent (over g refl) h

answered : (t : ClientStep) (answer : Answer) (by : Option ℕ) (o : Option UnderWay) → Rest t → Rest (answers_call_of t answer by o)
unfolding answers
answered t answer by None h = h
answered t answer by (Some u) h = record { dirty = h.dirty; push = h.push; dead = h.dead }

read : (t : ClientStep) (file block : ℕ) (body : List ℕ) (g : Option Grant) (sent number : ℕ) → AllOver t.client.now sent g → Rest t
    → Rest (read_done t file block body g sent number)
unfolding caches_block
read t file block body g sent number over h =
    let u = takes_optional t file g sent in
    let v = then_caches u file block body g in
    let took : Rest u = optional t file g sent over h in
    let kept : Rest v = choice Rest (grant_caches g) (caches_block u file block body) u (λ e. same u (caches_block u file block body) refl refl refl
    refl took) (λ e. took) in
    answered v _ _ v.client.call kept

through : (on : Bool) (t : ClientStep) → Rest t → Rest (marks_through on t)
unfolding marks_through
through on t h = record { dirty = h.dirty; push = h.push; dead = h.dead }

leased : (t : ClientStep) (file : ℕ) (g : Option Grant) (sent : ℕ) → AllOver t.client.now sent g → Rest t → Rest (lease_done t file g sent)
leased t file g sent over h =
    let u = takes_optional t file g sent in
    choice Rest (grant_caches g) u (marks_through true u) (λ e. optional t file g sent over h) (λ e. through true u (optional t file g sent over h))

written : (t : ClientStep) (file block : ℕ) (body : List ℕ) (rev : ℕ) → Rest t → Rest (write_done t file block body rev)
unfolding caches_block purges knows_revision
written t file block body rev h =
    let u = caches_write t file block body rev in
    let v = knows_revision u file rev in
    let kept : Rest u = choice Rest (holds_caching (lease_on file t.client.leases) && is_revision_before rev (revision_of file t.client.revisions))
    (caches_block t file block body) (purges t file) (λ e. same t (caches_block t file block body) refl refl refl refl h)
    (λ e. same t (purges t file) refl refl refl refl h) in
    answered v _ _ v.client.call (same u v refl refl refl refl kept)

pushed : (t : ClientStep) (file block : ℕ) (body : List ℕ) (rev : ℕ) → Rest t → Rest (push_done t file block body rev)
unfolding caches_block knows_revision ends_push
pushed t file block body rev h =
    let known = knows_revision (ends_push t) file rev in
    let u = caches_push known file block body in
    let knew : Rest known = record { dirty = h.dirty; push = refl; dead = h.dead } in
    let kept : Rest u = choice Rest (is_some (dirty_at file block t.client.dirty)) known (caches_block known file block body) (λ e. knew)
    (λ e. same known (caches_block known file block body) refl refl refl refl knew) in
    choice Rest (is_clean u.client file) (vacates_noticed u file (notice_on file u.client.notices)) u
    (λ e. noticed u file (notice_on file u.client.notices) kept) (λ e. kept)

known : (t : ClientStep) (file rev : ℕ) → Rest t → Rest (knows_revision t file rev)
unfolding knows_revision
known t file rev h = same t (knows_revision t file rev) refl refl refl refl h

called : (t : ClientStep) (number sent : ℕ) (request : Request) (r : Reply) → AllOver t.client.now sent (grant_in r) → Rest t
    → Rest (done_for_call t number sent request r)
called t number sent (Request.Lookup who name) (Reply.Lookup inc file blocks) over h = answered t _ _ t.client.call h
called t number sent (Request.Create who seq name blocks) (Reply.Create inc file) over h = answered t _ _ t.client.call h
called t number sent (Request.GetAttr who file) (Reply.GetAttr inc blocks rev) over h = answered t _ _ t.client.call h
called t number sent (Request.Read who q file block want) (Reply.Read inc rev body grant) over h = read t file block body grant sent number over h
called t number sent (Request.GetLease who file want) (Reply.GetLease inc grant) over h = leased t file grant sent over h
called t number sent (Request.Write who seq file block first last push body) (Reply.Write inc rev) over h = written t file block body rev h
called t number sent (Request.Resize who seq q file blocks) (Reply.Resize inc rev) over h =
    answered (knows_revision t file rev) _ _ (knows_revision t file rev).client.call (known t file rev h)
called t number sent (Request.Remove who seq q file) (Reply.Remove inc) over h = answered t _ _ t.client.call h
called t number sent request other over h = h

renewed : (t : ClientStep) (sent : ℕ) (request : Request) (r : Reply) → AllOver t.client.now sent (grant_in r) → Rest t → Rest (done_renewal t sent request r)
renewed t sent (Request.GetLease who file want) (Reply.GetLease inc grant) over h = optional t file grant sent over h
renewed t sent request other over h = h

stored : (t : ClientStep) (request : Request) (r : Reply) → Rest t → Rest (done_push t request r)
stored t (Request.Write who seq file block first last push body) (Reply.Write inc rev) h = pushed t file block body rev h
stored t request other h = h

finished : (t : ClientStep) (number : ℕ) (ticket : Ticket) (job : Job) (r : Reply) → AllOver t.client.now ticket.first (grant_in r) → Rest t
    → Rest (done t number ticket job r)
unfolding attached
finished t number ticket attaching r over h = record { dirty = h.dirty; push = h.push; dead = h.dead }
finished t number ticket for_call r over h = called t number ticket.first ticket.request r over h
finished t number ticket renewing r over h = renewed t ticket.first ticket.request r over h
finished t number ticket pushing r over h = stored t ticket.request r h

refuses-push : (t : ClientStep) (request : Request) → Rest t → Rest (refused_push t request)
refuses-push t (Request.Write who seq file block first last push body) h = refused-push t file h
refuses-push t other h = h

paused : (t : ClientStep) → Rest t → Rest (pauses t)
unfolding pauses marks_through
paused t h = record { dirty = h.dirty; push = h.push; dead = h.dead }

refusal : (t : ClientStep) (status : Refusal) (ticket : Ticket) (job : Job) → Rest t → Rest (refused t status ticket job)
refusal t status ticket attaching h = h
refusal t status ticket for_call h = choice Rest (is_put_off status) (pauses t) (answers_call t (answer_of status) None) (λ e. paused t h)
    (λ e. answered t (answer_of status) None t.client.call h)
refusal t status ticket renewing h = choice Rest (is_put_off status) (pauses t) t (λ e. paused t h) (λ e. h)
refusal t status ticket pushing h = refuses-push t ticket.request h

spent : (t : ClientStep) → Rest t → Rest (spends t)
unfolding spends
spent t h = same t (spends t) refl refl refl refl h

replies : (c : Client) (number : ℕ) (ticket : Ticket) (r : Reply) → AllOver c.now ticket.first (grant_in r) → Asleep c
    → Rest (replied (begun c) number ticket r)
unfolding spends
replies c number ticket (Reply.Refused inc status) over h = refusal (spends (begun c)) status ticket ticket.job (spent (begun c) h)
replies c number ticket other over h = finished (spends (begun c)) number ticket ticket.job other over (spent (begun c) h)

evicts : (t : ClientStep) (file : ℕ) (tag : Tag) → Rest t → Rest (evicted t file tag)
unfolding notes_notice
evicts t file tag h = evicted-cases t file tag Rest (record {
  clean = λ e. vacates t file tag h;
  waiting = λ e. same t (notes_notice t file tag) refl
      refl refl refl h;
})

-- ---- the steps

pub tick-sleeps : (c : Client) → Asleep c → Rest (client_tick c (c.now + 1))
unfolding sends_again at_time
tick-sleeps c h =
    let at : Rest (begun (at_time c (c.now + 1))) = record {
      dirty = h.dirty;
      push = h.push;
      dead = λ f l on writes. let late =
          h.dead f l on writes in omega arith;
    } in
    tick-cases c (c.now + 1) Rest (record {
      again = λ ticket asks long. record { dirty = at.dirty; push = at.push; dead = at.dead };
      quiet = λ ticket asks short. at;
      free = λ free. sends true (settle (begun (at_time c (c.now + 1)))) (settles (begun (at_time c (c.now + 1))) at);
    })

pub hear-sleeps : (c : Client) (k : ℕ) (m : Message) (t : ClientStep) → hear c k m ≡ Some t → ((xid : ℕ) (r : Reply) (ticket : Ticket)
    → m ≡ reply xid r → c.ticket ≡ Some ticket → xid ≡ ticket.xid → inc_of r ≡ c.who.inc → reply_counts r ticket ≡ true → AllOver c.now ticket.first
    (grant_in r)) → Asleep c → Rest t
unfolding cancels
hear-sleeps c k m t hears over h =
    heard-cases c k m t Rest hears (record {
      answered = λ xid r ticket is asks own inc counts. sends false (settle (replied (begun c) k ticket r)) (settles (replied (begun c) k ticket r)
          (replies c k ticket r (over xid r ticket is asks own inc counts) h));
      noticed = λ xid file tag is older.
          let cut : Rest (cancels (begun c) file) = record { dirty = h.dirty; push = h.push; dead = h.dead } in
          let gone = evicted (cancels (begun c) file) file tag in
          sends false (settle gone) (settles gone (evicts (cancels (begun c) file) file tag cut));
    })
