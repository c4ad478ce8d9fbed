-- What each small change of a client's book keeps, each of its steps keeps: a call, a tick, a datagram.
use Rattle.std.proofs.Common.{◌≡◌, ℕ, Bool, true, false, List, [], ◌∷◌, Option, Some, None, if◌then◌else◌, refl, sym, subst, ap, ◌∙◌, append_assoc}
use Rattle.std.specs.Prelude.{reverse, map}
use Rattle.nq_base.specs.Block.{value_of}
use Rattle.nq_base.specs.declared.Answer.{Answer}
use Rattle.nq_base.specs.declared.Call.{Call}
use Rattle.nq_base.specs.declared.Entry.{Entry}
use Rattle.nq_base.specs.declared.Grant.{Grant}
use Rattle.nq_base.specs.declared.Push.{Push}
use Rattle.nq_base.specs.declared.Refusal.{Refusal}
use Rattle.nq_base.specs.declared.Reply.{Reply}
use Rattle.nq_base.specs.declared.Request.{Request}
use Rattle.nq_base.specs.declared.Tag.{Tag}
use Rattle.nq_base.specs.declared.Value.{Value}
use Rattle.walk_steps.proofs.ClientFacts.{fits_job}
use Rattle.walk_steps.proofs.PartCases.{answers-call-cases, if-broken-cases, takes-optional-cases, lease-done-cases, then-caches-cases}
use Rattle.walk_steps.proofs.PartCases.{caches-write-cases, caches-push-cases, vacates-if-clean-cases}
use Rattle.walk_steps.proofs.RepliedCases.{IsNamed, looked_up, created, attributes, replied-cases}
use Rattle.walk_steps.proofs.SendCases.{send-moves, pushed}
use Rattle.walk_steps.proofs.SettleCases.{settle-cases}
use Rattle.walk_steps.proofs.StepCases.{call-cases, unless-cached-cases, tick-cases, evicted-cases, heard-cases}
use Rattle.law_runs.proofs.Books.{Book, book_of, book_at, unsaved_on, after_loss, after_names, after_report, tells_losses, Closed}
use Rattle.nq_model.specs.protocol.Client.{Client, ClientStep, Job, begun, Notice, Ticket, UnderWay, notice_on, first_dirty}
use Rattle.nq_model.specs.protocol.ClientStep.{begins_call, is_called, losses_for, changed_file, says_busy, client_call, at_time, sends_again, client_tick}
use Rattle.nq_model.specs.protocol.Hear.{vacates_lease, vacates_noticed, loses, loss_entry, reports_to, reports, waits_for, without_lease, push_refused}
use Rattle.nq_model.specs.protocol.Hear.{breaks_chain, if_broken, holds, takes_optional, answers_call, caches_block, purges, knows_revision, then_caches}
use Rattle.nq_model.specs.protocol.Hear.{with_through, marks_through, caches_write, ends_push, caches_push, push_done, answer_of, spends, attached, pauses}
use Rattle.nq_model.specs.protocol.Hear.{reply_counts, replied, notes_notice, evicted, cancels, hear}
use Rattle.nq_model.specs.protocol.Message.{Message}
use Rattle.nq_model.specs.protocol.Send.{sends_request, after_seq, after_number, takes_push, gives_up, sends_write, send_next}
use Rattle.nq_model.specs.protocol.Settle.{answers, after_read, reads_cached, after_write, delays, marks_written, names_losses, settle}

module _ {P : Book → Type 0} (closed : Closed P) (j : List Entry) where
  -- what is kept, in the middle of a step
  abbrev K : ClientStep → Type 0
  K t = P (book_of j t)

  -- ---- a call is settled

  answered : (t : ClientStep) (u : UnderWay) (answer : Answer) (by : Option ℕ) → t.client.call ≡ Some u → tells_losses answer ≡ false → K t
      → K (answers t u.q answer by)
  unfolding answers
  answered t u answer by is plain k = closed.answers (book_of j t) u answer by is plain k

  cached : (t : ClientStep) (u : UnderWay) (file block : ℕ) (body : List ℕ) → t.client.call ≡ Some u → K t → K (reads_cached t u file block body)
  unfolding reads_cached answers after_read
  cached t u file block body is k =
      closed.answers (record (book_of j t) { journal = Entry.R t.client.who u.q file block (value_of body) None ∷ (book_of j t).journal }) u
      (Answer.Ok (Value.Body body)) None is refl
      (closed.reads (book_of j t) u.q file block (value_of body) k)

  delayed : (t : ClientStep) (file block : ℕ) (body : List ℕ) → K t → K (delays t file block body)
  unfolding after_write
  delayed t file block body k = closed.writes (book_of j t) file block (value_of body) body k

  delayed-call : (t : ClientStep) (file block : ℕ) (body : List ℕ) → (delays t file block body).client.call ≡ t.client.call
  unfolding after_write
  delayed-call t file block body = refl

  written : (t : ClientStep) (u : UnderWay) → t.client.call ≡ Some u → K t → K (marks_written t u)
  unfolding marks_written
  written t u is k = closed.marks (book_of j t) u (record u { written = true }) is refl refl k

  settle-keeps : (t : ClientStep) → K t → K (settle t)
  settle-keeps t k = settle-cases t K (record {
    idle = λ none. k;
    asking = λ u is own. k;
    read_out = λ u file block lease is read can out. answered t u Answer.Range None is.called refl k;
    reading = λ u file block lease body is read can within has. cached t u file block body is.called k;
    read_waits = λ u file block is read waits. k;
    write_out = λ u sync file block body lease is write can out. answered t u Answer.Range None is.called refl k;
    write_full = λ u sync file block body lease is write can within full. answered t u Answer.DirtyFull None is.called refl k;
    writing =
        λ u file block body lease is write can within room. answered (delays t file block body) u (Answer.Ok Value.Nothing) None
        (delayed-call t file block body ∙ is.called) refl (delayed t file block body k);
    putting =
        λ u file block body lease is write unwritten can within room. written (delays t file block body) u (delayed-call t file block body ∙ is.called)
        (delayed t file block body k);
    write_waits = λ u sync file block body is write waits. k;
    syncing = λ u file is sync clean. answered t u (Answer.Ok Value.Nothing) None is.called refl k;
    sync_waits = λ u file is sync dirty. k;
    others = λ u is needs. k;
  })

  -- ---- the next request

  requested : (t : ClientStep) (job : Job) (request : Request) → K t → K (sends_request t job request)
  unfolding sends_request
  requested t job request k = k

  decided : (t : ClientStep) (job : Job) (request : Request) → K t → K (sends_request (after_seq t) job request)
  unfolding sends_request after_seq
  decided t job request k = k

  pushed-one : (t : ClientStep) (file : ℕ) (p : Push) → first_dirty file t.client.dirty ≡ Some p → K t → K (pushed t p)
  unfolding sends_request after_seq takes_push
  pushed-one t file p is k = closed.takes (book_of j t) file p is k

  write-sent : (t : ClientStep) (file block : ℕ) (body : List ℕ) → K t → K (sends_write t file block body)
  unfolding sends_request after_number
  write-sent t file block body k = closed.numbers (book_of j t) k

  given-up : (t : ClientStep) (file : ℕ) → K t → K (gives_up t file)
  unfolding gives_up
  given-up t file k = k

  send-next-keeps : (in_tick : Bool) (t : ClientStep) → K t → K (send_next in_tick t)
  send-next-keeps in_tick t k = send-moves in_tick t K (record {
    kept = k;
    pushes = λ file p first. pushed-one t file p first k;
    asks = λ job request. requested t job request k;
    decides = λ request. decided t Job.for_call request k;
    writes = λ file block body. write-sent t file block body k;
    changes = λ file request. decided (gives_up t file) Job.for_call request (given-up t file k);
  })

  goes-on-keeps : (in_tick : Bool) (t : ClientStep) → K t → K (send_next in_tick (settle t))
  goes-on-keeps in_tick t k = send-next-keeps in_tick (settle t) (settle-keeps t k)

  -- ---- losses

  lost-book : (t : ClientStep) (file : ℕ) → book_of j (loses t file) ≡ after_loss (book_of j t) file
  unfolding loses
  lost-book t file =
      ap (λ entries. record (after_loss (book_of j t) file) { journal = entries })
      (append_assoc (reverse (map (loss_entry t.client.who) (unsaved_on file t.client.push t.client.dirty))) t.entries j)

  vacated-lease : (t : ClientStep) (file : ℕ) (tag : Tag) → K t → K (vacates_lease t file tag)
  unfolding vacates_lease
  vacated-lease t file tag k = k

  vacated-book : (t : ClientStep) (file : ℕ) (o : Option Notice) → book_of j (vacates_noticed t file o) ≡ book_of j t
  unfolding vacates_lease
  vacated-book t file None = refl
  vacated-book t file (Some n) = refl

  without-book : (t : ClientStep) (file : ℕ) → book_of j (without_lease t file) ≡ book_of j t
  unfolding without_lease
  without-book t file = refl

  told-book : (t : ClientStep) (file : ℕ) (o : Option UnderWay) → book_of j (reports_to t file o) ≡ after_report (book_of j t) file o
  unfolding answers
  told-book t file None = refl
  told-book t file (Some u) = step (waits_for file u.written u.call)
    where
      step : (b : Bool) → book_of j (if b then names_losses t u.q file else t) ≡ (if b then after_names (book_of j t) u.q file else book_of j t)
      step true = refl
      step false = refl

  reported-book : (t : ClientStep) (b : Book) (file : ℕ) → book_of j t ≡ after_loss b file → P b → K (reports t file)
  reported-book t b file same k = subst P (sym (told-book t file t.client.call ∙ ap (λ z. after_report z file z.call) same)) (closed.loses b file k)

  refused-keeps : (t : ClientStep) (file : ℕ) → K t → K (push_refused t file)
  refused-keeps t file k =
      reported-book (vacates_noticed (without_lease (loses t file) file) file (notice_on file t.client.notices)) (book_of j t) file
      (vacated-book (without_lease (loses t file) file) file (notice_on file t.client.notices) ∙ without-book (loses t file) file ∙ lost-book t file) k

  breaks-keeps : (t : ClientStep) (file : ℕ) → K t → K (breaks_chain t file)
  breaks-keeps t file k =
      reported-book (vacates_noticed (loses t file) file (notice_on file t.client.notices)) (book_of j t) file
      (vacated-book (loses t file) file (notice_on file t.client.notices) ∙ lost-book t file) k

  -- ---- a reply

  held : (t : ClientStep) (file : ℕ) (g : Grant) (sent : ℕ) → K t → K (holds t file g sent)
  unfolding holds
  held t file g sent k = k

  taken : (t : ClientStep) (file : ℕ) (o : Option Grant) (sent : ℕ) → K t → K (takes_optional t file o sent)
  taken t file o sent k =
      takes-optional-cases t file o sent K (λ none. k)
      (λ g is. held (if_broken t file g) file g sent (if-broken-cases t file g K (λ whole. k) (λ lease has broken dirty. breaks-keeps t file k)))

  answered-call : (t : ClientStep) (answer : Answer) (by : Option ℕ) → tells_losses answer ≡ false → K t → K (answers_call t answer by)
  answered-call t answer by plain k = answers-call-cases t answer by K (λ none. k) (λ u is. answered t u answer by is plain k)

  block-cached : (t : ClientStep) (file block : ℕ) (body : List ℕ) → K t → K (caches_block t file block body)
  unfolding caches_block
  block-cached t file block body k = k

  purged : (t : ClientStep) (file : ℕ) → K t → K (purges t file)
  unfolding purges
  purged t file k = k

  known : (t : ClientStep) (file rev : ℕ) → K t → K (knows_revision t file rev)
  unfolding knows_revision
  known t file rev k = k

  through-book : (t : ClientStep) (on : Bool) (o : Option UnderWay) → t.client.call ≡ o → K t → P (record (book_of j t) { call = with_through on o })
  through-book t on None is k = subst (λ o. P (record (book_of j t) { call = o })) is k
  through-book t on (Some u) is k = closed.marks (book_of j t) u (record u { through = on }) is refl refl k

  through : (t : ClientStep) (on : Bool) → K t → K (marks_through on t)
  unfolding marks_through
  through t on k = through-book t on t.client.call refl k

  paused : (t : ClientStep) → K t → K (pauses t)
  unfolding pauses marks_through
  paused t k = through-book t false t.client.call refl k

  ended : (t : ClientStep) → K t → K (ends_push t)
  unfolding ends_push
  ended t k = closed.ends (book_of j t) k

  stored : (t : ClientStep) (file block : ℕ) (body : List ℕ) (rev : ℕ) → K t → K (push_done t file block body rev)
  stored t file block body rev k =
      let second : ClientStep = knows_revision (ends_push t) file rev in
      let third : ClientStep = caches_push second file block body in
      let ends : K second = known (ends_push t) file rev (ended t k) in
      let kept : K third = caches-push-cases second file block body K (λ dirty. ends) (λ clean. block-cached second file block body ends) in
      vacates-if-clean-cases third file K kept (λ n clean is. vacated-lease third file n.tag kept)

  attached-keeps : (t : ClientStep) → K t → K (attached t)
  unfolding attached
  attached-keeps t k = k

  spent : (t : ClientStep) → K t → K (spends t)
  unfolding spends
  spent t k = k

  plain-name : {request : Request} {r : Reply} (answer : Answer) → IsNamed request r answer → tells_losses answer ≡ false
  plain-name answer (looked_up who name inc file blocks asks is) = refl
  plain-name answer (created who seq name blocks inc file asks is) = refl
  plain-name answer (attributes who file inc blocks rev asks is) = refl

  plain-refusal : (status : Refusal) → tells_losses (answer_of status) ≡ false
  plain-refusal Refusal.NoEnt = refl
  plain-refusal Refusal.Exist = refl
  plain-refusal Refusal.Inval = refl
  plain-refusal Refusal.NoSpc = refl
  plain-refusal Refusal.Stale = refl
  plain-refusal Refusal.TryLater = refl
  plain-refusal Refusal.Fenced = refl
  plain-refusal Refusal.NotAttached = refl
  plain-refusal Refusal.Old = refl

  replied-keeps : (c : Client) (number : ℕ) (ticket : Ticket) (r : Reply) → fits_job ticket.job ticket.request ≡ true → reply_counts r ticket ≡ true
      → P (book_at j c) → K (replied (begun c) number ticket r)
  replied-keeps c number ticket r fits counts before = replied-cases c number ticket r K fits counts (record {
    attaching = λ who inc job asks is. attached-keeps t k;
    named = λ answer job names. answered-call t answer None (plain-name answer names) k;
    reading = λ who q file block want inc rev body grant of is.
        let takes : K (takes_optional t file grant ticket.first) = taken t file grant ticket.first k in
        answered-call (then_caches (takes_optional t file grant ticket.first) file block body grant) (Answer.Ok (Value.Body body)) (Some number) refl
        (then-caches-cases (takes_optional t file grant ticket.first) file block body grant K
        (λ caches. block-cached (takes_optional t file grant ticket.first) file block body takes) (λ none. takes));
    leasing = λ who file want inc grant of is.
        let takes : K (takes_optional t file grant ticket.first) = taken t file grant ticket.first k in
        lease-done-cases t file grant ticket.first K (λ caches. takes) (λ none. through (takes_optional t file grant ticket.first) true takes);
    writing = λ who seq file block first last body inc rev of is.
        answered-call (knows_revision (caches_write t file block body rev) file rev) (Answer.Ok Value.Nothing) None refl
        (known (caches_write t file block body rev) file rev
        (caches-write-cases t file block body rev K (λ holds next. block-cached t file block body k) (purged t file k)));
    resizing = λ who seq q file blocks inc rev of is. answered-call (knows_revision t file rev) (Answer.Ok Value.Nothing) None refl (known t file rev k);
    removing = λ who seq q file inc of is. answered-call t (Answer.Ok Value.Nothing) None refl k;
    renewing = λ who file want inc grant job asks is. taken t file grant ticket.first k;
    pushed = λ who seq file block first last base body inc rev job asks is. stored t file block body rev k;
    putting_off = λ inc status job is later. paused t k;
    refusing = λ inc status job is of not_later. answered-call t (answer_of status) None (plain-refusal status) k;
    renewal_refused = λ inc status job is not_later. k;
    push_refused = λ who seq file block first last base body inc status job asks is not_later. refused-keeps t file k;
  })
    where
      t : ClientStep
      t = spends (begun c)

      k : K t
      k = spent (begun c) before

  -- ---- a notice

  cancelled : (t : ClientStep) (file : ℕ) → K t → K (cancels t file)
  unfolding cancels
  cancelled t file k = k

  noted : (t : ClientStep) (file : ℕ) (tag : Tag) → K t → K (notes_notice t file tag)
  unfolding notes_notice
  noted t file tag k = k

  -- ---- a step

  pub hear-keeps : (c : Client) (number : ℕ) (m : Message) (t : ClientStep)
      → ((ticket : Ticket) → c.ticket ≡ Some ticket → fits_job ticket.job ticket.request ≡ true) → hear c number m ≡ Some t → P (book_at j c) → K t
  hear-keeps c number m t fits hears k = heard-cases c number m t K hears (record {
    answered =
        λ xid r ticket is has same inc counts. goes-on-keeps false (replied (begun c) number ticket r)
        (replied-keeps c number ticket r (fits ticket has) counts k);
    noticed = λ xid file tag is held.
        let other : K (cancels (begun c) file) = cancelled (begun c) file k in
        goes-on-keeps false (evicted (cancels (begun c) file) file tag)
        (evicted-cases (cancels (begun c) file) file tag K
        (record {
          clean = λ clean. vacated-lease (cancels (begun c) file) file tag other;
          waiting = λ dirty. noted (cancels (begun c) file) file tag
              other;
        }));
  })

  timed : (c : Client) (now : ℕ) → P (book_at j c) → K (begun (at_time c now))
  unfolding at_time
  timed c now k = k

  again : (t : ClientStep) (ticket : Ticket) → K t → K (sends_again t ticket)
  unfolding sends_again
  again t ticket k = k

  pub tick-keeps : (c : Client) (now : ℕ) → P (book_at j c) → K (client_tick c now)
  tick-keeps c now k = tick-cases c now K (record {
    again = λ ticket is late. again (begun (at_time c now)) ticket (timed c now k);
    quiet = λ ticket is early. timed c now k;
    free = λ none. goes-on-keeps true (begun (at_time c now)) (timed c now k);
  })

  busy : (c : Client) (op : Call) → P (book_at j c) → K (says_busy (begins_call c op))
  unfolding says_busy begins_call
  busy c op k = closed.busy (book_at j c) op k

  told : (c : Client) (op : Call) (file : ℕ) → changed_file op ≡ Some file → P (book_at j c)
      → K (names_losses (begins_call c op) (begins_call c op).client.calls file)
  unfolding begins_call answers
  told c op file is k = closed.names (book_at j c) op file is k

  called : (c : Client) (op : Call) → losses_for (changed_file op) c.losses ≡ [] → P (book_at j c) → K (is_called (begins_call c op) op)
  unfolding is_called begins_call
  called c op none k = closed.begins (book_at j c) op none k

  pub call-keeps : (c : Client) (op : Call) → P (book_at j c) → K (client_call c op)
  call-keeps c op k = call-cases c op K (record {
    busy = λ why. busy c op k;
    telling = λ file loss losses none on is some. told c op file is k;
    going = λ none on free.
        let t : ClientStep = settle (is_called (begins_call c op) op) in
        let settled : K t = settle-keeps (is_called (begins_call c op) op) (called c op free k) in
        unless-cached-cases t K (λ from_cache. settled) (λ other. send-next-keeps false t settled);
  })
