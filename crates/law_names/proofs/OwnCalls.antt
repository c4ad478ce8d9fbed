-- A CREATE or a REMOVE under way is that of the call under way, and a client's step begins no other call than it is told.
use Rattle.std.proofs.Common.{◌≡◌, ◌⊎◌, ℕ, Bool, true, false, List, Option, Some, None, if◌then◌else◌, refl, sym, subst, ap, ◌∙◌, inl, inr}
use Rattle.nq_base.specs.declared.Answer.{Answer}
use Rattle.nq_base.specs.declared.Call.{Call}
use Rattle.nq_base.specs.declared.Grant.{Grant}
use Rattle.nq_base.specs.declared.Reply.{Reply}
use Rattle.nq_base.specs.declared.Request.{Request}
use Rattle.nq_base.specs.declared.Tag.{Tag}
use Rattle.nq_base.specs.declared.Value.{Value}
use Rattle.walk_steps.proofs.PartCases.{answers-call-cases, vacates-noticed-cases, reports-cases, if-broken-cases, takes-optional-cases}
use Rattle.walk_steps.proofs.PartCases.{lease-done-cases, then-caches-cases, caches-write-cases, caches-push-cases, vacates-if-clean-cases}
use Rattle.walk_steps.proofs.RepliedCases.{replied-cases}
use Rattle.walk_steps.proofs.SendCases.{send-cases}
use Rattle.walk_steps.proofs.SettleCases.{settle-cases, IsSettling}
use Rattle.walk_steps.proofs.StepCases.{call-cases, unless-cached-cases, tick-cases, evicted-cases, heard-cases}
use Rattle.walk_steps.proofs.ClientFacts.{Alone, fits_job}
use Rattle.walk_steps.proofs.ClientMoves.{none-some, some-same}
use Rattle.nq_model.specs.protocol.Client.{Client, ClientStep, Job, for_call, renewing, pushing, Ticket, UnderWay, begun, notice_on}
use Rattle.nq_model.specs.protocol.ClientStep.{begins_call, is_called, says_busy, client_call, client_tick, at_time, sends_again}
use Rattle.nq_model.specs.protocol.Hear.{vacates_lease, notes_notice, evicted, cancels, cancelled, wants_of, replied, reply_counts, hear, spends, attached}
use Rattle.nq_model.specs.protocol.Hear.{pauses, marks_through, loses, reports, without_lease, push_refused, breaks_chain, if_broken, holds, takes_grant}
use Rattle.nq_model.specs.protocol.Hear.{takes_optional, answers_call, answer_of, caches_block, purges, knows_revision, then_caches, read_done, lease_done}
use Rattle.nq_model.specs.protocol.Hear.{write_done, ends_push, caches_push, push_done, with_through}
use Rattle.nq_model.specs.protocol.Message.{Message}
use Rattle.nq_model.specs.protocol.Send.{sends_request, after_seq, after_number, takes_push, gives_up, send_next}
use Rattle.nq_model.specs.protocol.Settle.{answers, names_losses, reads_cached, after_read, after_write, delays, marks_written, settle, ticket_is_for_call}
use Rattle.nq_model.specs.protocol.Settle.{is_for_call}

-- ---- what is kept

-- a call is the one that was under way, or the one that begins
abbrev pub IsKnown : Client → Option Call → UnderWay → Type 0
IsKnown c op u = ((v : UnderWay) × (c.call ≡ Some v) × (v.call ≡ u.call)) ⊎ (op ≡ Some u.call)

abbrev pub AllKnown : Client → Option Call → Option UnderWay → Type 0
AllKnown c op under = (u : UnderWay) → under ≡ Some u → IsKnown c op u

-- a request that changes a directory is that of the call under way
abbrev pub IsOfCall : Request → Option UnderWay → Type 0
IsOfCall (Request.Create who seq name blocks) under = (u : UnderWay) × (under ≡ Some u) × (u.call ≡ Call.Create name blocks)
IsOfCall (Request.Remove who seq q file) under = (u : UnderWay) × (under ≡ Some u) × (u.call ≡ Call.Remove file)
IsOfCall other under = Unit {0}

abbrev pub TicketIsOfCall : Option Ticket → Option UnderWay → Type 0
TicketIsOfCall ticket under = (t : Ticket) → ticket ≡ Some t → t.job ≡ for_call → IsOfCall t.request under

-- what a reply's parts keep: no request is under way between them
record Made (c : Client) (op : Option Call) (under : Option UnderWay) (ticket : Option Ticket) : Type 0 where
  called : AllKnown c op under
  free : ticket ≡ None

-- what the other parts keep
record Fits (c : Client) (op : Option Call) (under : Option UnderWay) (ticket : Option Ticket) : Type 0 where
  called : AllKnown c op under
  asks : TicketIsOfCall ticket under

abbrev pub FitsOf : Client → Option Call → ClientStep → Type 0
FitsOf c op t = AllKnown c op t.client.call × TicketIsOfCall t.client.ticket t.client.call

module _ (c : Client) (op : Option Call) where
  abbrev P : ClientStep → Type 0
  P t = Made c op t.client.call t.client.ticket

  abbrev T : ClientStep → Type 0
  T t = Fits c op t.client.call t.client.ticket

  from-made : (t : ClientStep) → P t → T t
  from-made t h = record { called = h.called; asks = λ k is. none-some k (sym h.free ∙ is) }

  -- ---- the parts of a reply

  made-answers : (t : ClientStep) (q : ℕ) (a : Answer) (by : Option ℕ) → P t → P (answers t q a by)
  unfolding answers
  made-answers t q a by h = record { called = λ u is. none-some u is; free = h.free }

  made-names : (t : ClientStep) (q file : ℕ) → P t → P (names_losses t q file)
  unfolding answers
  made-names t q file h = record { called = λ u is. none-some u is; free = h.free }

  made-loses : (t : ClientStep) (file : ℕ) → P t → P (loses t file)
  unfolding loses
  made-loses t file h = h

  made-without : (t : ClientStep) (file : ℕ) → P t → P (without_lease t file)
  unfolding without_lease
  made-without t file h = h

  made-vacates : (t : ClientStep) (file : ℕ) (tag : Tag) → P t → P (vacates_lease t file tag)
  unfolding vacates_lease
  made-vacates t file tag h = h

  made-reports : (t : ClientStep) (file : ℕ) → P t → P (reports t file)
  made-reports t file h = reports-cases t file P (λ e. h) (λ u e f. h) (λ u e f. made-names t u.q file h)

  made-refused : (t : ClientStep) (file : ℕ) → P t → P (push_refused t file)
  unfolding without_lease vacates_lease loses
  made-refused t file h =
      let a : P (without_lease (loses t file) file) = made-without (loses t file) file (made-loses t file h) in
      made-reports _ file (vacates-noticed-cases (without_lease (loses t file) file) file (notice_on file t.client.notices) P (λ e. a)
      (λ n e. made-vacates (without_lease (loses t file) file) file n.tag a))

  made-breaks : (t : ClientStep) (file : ℕ) → P t → P (breaks_chain t file)
  made-breaks t file h =
      let a : P (loses t file) = made-loses t file h in
      made-reports _ file (vacates-noticed-cases (loses t file) file (notice_on file t.client.notices) P (λ e. a) (λ n e. made-vacates _ file n.tag a))

  made-holds : (t : ClientStep) (file : ℕ) (g : Grant) (sent : ℕ) → P t → P (holds t file g sent)
  unfolding holds
  made-holds t file g sent h = h

  made-takes : (t : ClientStep) (file : ℕ) (g : Grant) (sent : ℕ) → P t → P (takes_grant t file g sent)
  made-takes t file g sent h = made-holds (if_broken t file g) file g sent (if-broken-cases t file g P (λ e. h) (λ lease e f d. made-breaks t file h))

  made-optional : (t : ClientStep) (file : ℕ) (g : Option Grant) (sent : ℕ) → P t → P (takes_optional t file g sent)
  made-optional t file o sent h = takes-optional-cases t file o sent P (λ e. h) (λ g e. made-takes t file g sent h)

  made-call : (t : ClientStep) (a : Answer) (by : Option ℕ) → P t → P (answers_call t a by)
  made-call t a by h = answers-call-cases t a by P (λ e. h) (λ u e. made-answers t u.q a by h)

  made-caches : (t : ClientStep) (file block : ℕ) (body : List ℕ) → P t → P (caches_block t file block body)
  unfolding caches_block
  made-caches t file block body h = h

  made-purges : (t : ClientStep) (file : ℕ) → P t → P (purges t file)
  unfolding purges
  made-purges t file h = h

  made-knows : (t : ClientStep) (file rev : ℕ) → P t → P (knows_revision t file rev)
  unfolding knows_revision
  made-knows t file rev h = h

  marked-known : (on : Bool) (o : Option UnderWay) → AllKnown c op o → AllKnown c op (with_through on o)
  marked-known on None h u e = none-some u e
  marked-known on (Some v) h u e =
      let one = some-same (record v { through = on }) u e in
      again (ap (λ z. z.call) one) (h v refl)
    where
      again : v.call ≡ u.call → IsKnown c op v → IsKnown c op u
      again same (inl k) = inl (k.0, k.1, k.2 ∙ same)
      again same (inr k) = inr (k ∙ ap (λ z. Some z) same)

  made-marks : (on : Bool) (t : ClientStep) → P t → P (marks_through on t)
  unfolding marks_through
  made-marks on t h = record { called = marked-known on t.client.call h.called; free = h.free }

  made-pauses : (t : ClientStep) → P t → P (pauses t)
  unfolding pauses marks_through
  made-pauses t h = record { called = marked-known false t.client.call h.called; free = h.free }

  made-attached : (t : ClientStep) → P t → P (attached t)
  unfolding attached
  made-attached t h = h

  made-ends : (t : ClientStep) → P t → P (ends_push t)
  unfolding ends_push
  made-ends t h = h

  made-spends : P (spends (begun c))
  unfolding spends
  made-spends = record { called = λ u is. inl (u, is, refl); free = refl }

  made-read : (t : ClientStep) (file block : ℕ) (body : List ℕ) (g : Option Grant) (sent number : ℕ) → P t → P (read_done t file block body g sent number)
  made-read t file block body g sent number h =
      let a : P (takes_optional t file g sent) = made-optional t file g sent h in
      let b : P (then_caches (takes_optional t file g sent) file block body g) = then-caches-cases (takes_optional t file g sent) file block body g P
      (λ e. made-caches _ file block body a) (λ e. a) in
      made-call (then_caches (takes_optional t file g sent) file block body g) (Answer.Ok (Value.Body body)) (Some number) b

  made-leased : (t : ClientStep) (file : ℕ) (g : Option Grant) (sent : ℕ) → P t → P (lease_done t file g sent)
  made-leased t file g sent h =
      let a : P (takes_optional t file g sent) = made-optional t file g sent h in
      lease-done-cases t file g sent P (λ e. a) (λ e. made-marks true _ a)

  made-written : (t : ClientStep) (file block : ℕ) (body : List ℕ) (rev : ℕ) → P t → P (write_done t file block body rev)
  made-written t file block body rev h =
      made-call _ (Answer.Ok Value.Nothing) None
      (made-knows _ file rev (caches-write-cases t file block body rev P (λ e f. made-caches t file block body h) (made-purges t file h)))

  made-pushed : (t : ClientStep) (file block : ℕ) (body : List ℕ) (rev : ℕ) → P t → P (push_done t file block body rev)
  made-pushed t file block body rev h =
      let a : P (knows_revision (ends_push t) file rev) = made-knows (ends_push t) file rev (made-ends t h) in
      let b : P (caches_push (knows_revision (ends_push t) file rev) file block body) = caches-push-cases (knows_revision (ends_push t) file rev) file
      block body P (λ e. a) (λ e. made-caches _ file block body a) in
      vacates-if-clean-cases (caches_push (knows_revision (ends_push t) file rev) file block body) file P b
      (λ n e f. made-vacates (caches_push (knows_revision (ends_push t) file rev) file block body) file n.tag b)

  replied-made : (k : ℕ) (ticket : Ticket) (r : Reply) → fits_job ticket.job ticket.request ≡ true → reply_counts r ticket ≡ true
      → P (replied (begun c) k ticket r)
  replied-made k ticket r fits counts = replied-cases c k ticket r P fits counts (record {
    attaching = λ who inc job a b. made-attached _ made-spends;
    named = λ answer job a. made-call _ answer None made-spends;
    reading = λ who q file block want inc rev body grant of b. made-read _ file block body grant ticket.first k made-spends;
    leasing = λ who file want inc grant of b. made-leased _ file grant ticket.first made-spends;
    writing = λ who seq file block first last body inc rev of b. made-written _ file block body rev made-spends;
    resizing = λ who seq q file blocks inc rev of b. made-call _ (Answer.Ok Value.Nothing) None (made-knows _ file rev made-spends);
    removing = λ who seq q file inc of b. made-call _ (Answer.Ok Value.Nothing) None made-spends;
    renewing = λ who file want inc grant job a b. made-optional _ file grant ticket.first made-spends;
    pushed = λ who seq file block first last base body inc rev job a b. made-pushed _ file block body rev made-spends;
    putting_off = λ inc status job b puts. made-pauses _ made-spends;
    refusing = λ inc status job b counted final. made-call _ (answer_of status) None made-spends;
    renewal_refused = λ inc status job b final. made-spends;
    push_refused = λ who seq file block first last base body inc status job a b final. made-refused _ file made-spends;
  })

  -- ---- settling

  no-call-ticket : (ticket : Option Ticket) (under : Option UnderWay) → ticket_is_for_call ticket ≡ false → TicketIsOfCall ticket under
  no-call-ticket ticket under other t is job = bad t.job job (sym (ap ticket_is_for_call is) ∙ other)
    where
      bad : (j : Job) → j ≡ for_call → is_for_call j ≡ false → IsOfCall t.request under
      bad j same e = let yes : is_for_call j ≡ true = ap is_for_call same in absurd (cc)

  settled-answer : (t : ClientStep) (u : UnderWay) (a : Answer) → IsSettling t u → T t → T (answers t u.q a None)
  unfolding answers
  settled-answer t u a is h = record { called = λ v e. none-some v e; asks = no-call-ticket t.client.ticket None is.idle }

  settled-read : (t : ClientStep) (u : UnderWay) (file block : ℕ) (body : List ℕ) → IsSettling t u → T t → T (reads_cached t u file block body)
  unfolding reads_cached answers after_read
  settled-read t u file block body is h = record { called = λ v e. none-some v e; asks = no-call-ticket t.client.ticket None is.idle }

  settled-write : (t : ClientStep) (u : UnderWay) (file block : ℕ) (body : List ℕ) → IsSettling t u → T t
      → T (answers (delays t file block body) u.q (Answer.Ok Value.Nothing) None)
  unfolding answers after_write
  settled-write t u file block body is h = record { called = λ v e. none-some v e; asks = no-call-ticket t.client.ticket None is.idle }

  settled-put : (t : ClientStep) (u : UnderWay) (file block : ℕ) (body : List ℕ) → IsSettling t u → T t → T (marks_written (delays t file block body) u)
  unfolding marks_written after_write
  settled-put t u file block body is h = record {
    called = λ v e. known v (ap (λ z. z.call) (some-same (record u { written = true }) v e)) (h.called u is.called);
    asks = no-call-ticket t.client.ticket _ is.idle;
  } where
    known : (v : UnderWay) → u.call ≡ v.call → IsKnown c op u → IsKnown c op v
    known v same (inl k) = inl (k.0, k.1, k.2 ∙ same)
    known v same (inr k) = inr (k ∙ ap (λ z. Some z) same)

  settles : (t : ClientStep) → T t → T (settle t)
  settles t h = settle-cases t T (record {
    idle = λ e. h;
    asking = λ u e f. h;
    read_out = λ u file block lease is r can out. settled-answer t u Answer.Range is h;
    reading = λ u file block lease body is r can within has. settled-read t u file block body is h;
    read_waits = λ u file block is r waits. h;
    write_out = λ u sync file block body lease is w can out. settled-answer t u Answer.Range is h;
    write_full = λ u sync file block body lease is w can within full. settled-answer t u Answer.DirtyFull is h;
    writing = λ u file block body lease is w can within room. settled-write t u file block body is h;
    putting = λ u file block body lease is w unwritten can within room. settled-put t u file block body is h;
    write_waits = λ u sync file block body is w waits. h;
    syncing = λ u file is s clean. settled-answer t u (Answer.Ok Value.Nothing) is h;
    sync_waits = λ u file is s dirty. h;
    others = λ u is n. h;
  })

  -- ---- sending

  sends : (t : ClientStep) (job : Job) (r : Request) → T t → (job ≡ for_call → IsOfCall r t.client.call) → T (sends_request t job r)
  unfolding sends_request
  sends t job r h made = record {
    called = h.called;
    asks = λ k is same.
        let one = some-same (record { xid = t.client.xid; first = t.client.now; last = t.client.now; request = r; job = job }) k is in
        subst (λ q. IsOfCall q t.client.call) (ap (λ z. z.request) one) (made (ap (λ z. z.job) one ∙ same));
  }

  sends-seq : (t : ClientStep) → T t → T (after_seq t)
  unfolding after_seq
  sends-seq t h = h

  sends-number : (t : ClientStep) → T t → T (after_number t)
  unfolding after_number
  sends-number t h = h

  sends-takes : (t : ClientStep) (p : _) → T t → T (after_seq (takes_push t p))
  unfolding after_seq takes_push
  sends-takes t p h = h

  sends-gives : (t : ClientStep) (file : ℕ) → T t → T (after_seq (gives_up t file))
  unfolding after_seq gives_up
  sends-gives t file h = h

  called-seq : (t : ClientStep) (u : UnderWay) → t.client.call ≡ Some u → (after_seq t).client.call ≡ Some u
  unfolding after_seq
  called-seq t u h = h

  called-gives : (t : ClientStep) (file : ℕ) (u : UnderWay) → t.client.call ≡ Some u → (after_seq (gives_up t file)).client.call ≡ Some u
  unfolding after_seq gives_up
  called-gives t file u h = h

  sends-next : (in_tick : Bool) (t : ClientStep) → T t → T (send_next in_tick t)
  sends-next in_tick t h = send-cases in_tick t T (record {
    stays_asking = λ ticket e. h;
    stays = λ free nothing. h;
    pushing = λ file p free first of. sends (after_seq (takes_push t p)) pushing _ (sends-takes t p h) (λ e. absurd (cc));
    creating = λ u name blocks is e. sends (after_seq t) for_call _ (sends-seq t h) (λ j. (u, called-seq t u is.called, e));
    looking_up = λ u name is e. sends t for_call _ h (λ j. tt);
    getting_attributes = λ u file is e. sends t for_call _ h (λ j. tt);
    reading = λ u file block is e. sends t for_call _ h (λ j. tt);
    fetching = λ u file block is e. sends t for_call _ h (λ j. tt);
    writing = λ u file block body is e f. sends (after_number t) for_call _ (sends-number t h) (λ j. tt);
    leasing = λ u file block body is e f g. sends t for_call _ h (λ j. tt);
    putting = λ u file block body is e f. sends (after_number t) for_call _ (sends-number t h) (λ j. tt);
    resizing = λ u file blocks is e clean. sends (after_seq (gives_up t file)) for_call _ (sends-gives t file h) (λ j. tt);
    removing = λ u file is e clean. sends (after_seq (gives_up t file)) for_call _ (sends-gives t file h) (λ j. (u, called-gives t file u is.called, e));
    renewing = λ file lease tick free nothing unpaused due held of clean unnoticed. sends t renewing _ h (λ e. absurd (cc));
  })

-- ---- whole steps

module _ (c : Client) (asks : TicketIsOfCall c.ticket c.call) where
  none-called : c.call ≡ None → (under : Option UnderWay) → (t : Ticket) → c.ticket ≡ Some t → t.job ≡ for_call → IsOfCall t.request under
  none-called none under t is job = lost t.request (asks t is job)
    where
      lost : (r : Request) → IsOfCall r c.call → IsOfCall r under
      lost (Request.Create who seq name blocks) k = none-some k.0 (sym none ∙ k.1)
      lost (Request.Remove who seq q file) k = none-some k.0 (sym none ∙ k.1)
      lost other k = tt

  own-known : (op : Option Call) → AllKnown c op c.call
  own-known op u is = inl (u, is, refl)

  call-busy : (op : Call) → T c (Some op) (says_busy (begins_call c op))
  unfolding says_busy begins_call
  call-busy op = record { called = own-known (Some op); asks = asks }

  call-names : (op : Call) (file : ℕ) → c.call ≡ None → T c (Some op) (names_losses (begins_call c op) (begins_call c op).client.calls file)
  unfolding begins_call answers
  call-names op file none = record { called = λ u is. none-some u is; asks = none-called none None }

  call-goes : (op : Call) → c.call ≡ None → T c (Some op) (is_called (begins_call c op) op)
  unfolding begins_call is_called
  call-goes op none = record {
    called = λ u is. inr (ap (λ z. Some z) (ap (λ z. z.call) (some-same _ u is)));
    asks = none-called none _;
  }

  pub call-fits : (op : Call) → FitsOf c (Some op) (client_call c op)
  call-fits op =
      let h = call-cases c op (T c (Some op)) (record {
        busy = λ why. call-busy op;
        telling = λ file loss losses none on changed some. call-names op file none;
        going = λ none on nothing.
            let h : T c (Some op) (settle (is_called (begins_call c op) op)) = settles c (Some op) (is_called (begins_call c op) op) (call-goes op none) in
            unless-cached-cases (settle (is_called (begins_call c op) op)) (T c (Some op)) (λ e. h) (λ e. sends-next c (Some op) false _ h);
      }) in
      (h.called, h.asks)

  tick-begins : (now : ℕ) → T c None (begun (at_time c now))
  unfolding at_time
  tick-begins now = record { called = own-known None; asks = asks }

  tick-again : (now : ℕ) (ticket : Ticket) → c.ticket ≡ Some ticket → T c None (sends_again (begun (at_time c now)) ticket)
  unfolding at_time sends_again
  tick-again now ticket has = record {
    called = own-known None;
    asks = λ k is job.
        let one = some-same (record ticket { last = now }) k is in
        subst (λ q. IsOfCall q c.call) (ap (λ z. z.request) one) (asks ticket has (ap (λ z. z.job) one ∙ job));
  }

  pub tick-fits : (now : ℕ) → FitsOf c None (client_tick c now)
  tick-fits now =
      let h = tick-cases c now (T c None) (record {
        again = λ ticket has late. tick-again now ticket has;
        quiet = λ ticket has short. tick-begins now;
        free = λ none. sends-next c None true _ (settles c None (begun (at_time c now)) (tick-begins now));
      }) in
      (h.called, h.asks)

  cancelled-asks : (file : ℕ) (o : Option Ticket) → TicketIsOfCall o c.call → TicketIsOfCall (cancelled file o) c.call
  cancelled-asks file None h t is job = none-some t is
  cancelled-asks file (Some u) h t is job = step (wants_of file u.request) is
    where
      step : (b : Bool) → (if b then None else Some u) ≡ Some t → IsOfCall t.request c.call
      step true e = none-some t e
      step false e = h t e job

  evicted-fits : (file : ℕ) (tag : Tag) → T c None (evicted (cancels (begun c) file) file tag)
  unfolding cancels vacates_lease notes_notice
  evicted-fits file tag = evicted-cases (cancels (begun c) file) file tag (T c None) (record {
    clean = λ e. record { called = own-known None; asks = cancelled-asks file c.ticket asks };
    waiting = λ e. record { called = own-known None; asks = cancelled-asks file c.ticket asks };
  })

  pub hear-fits : (k : ℕ) (m : Message) (t : ClientStep) → Alone c → hear c k m ≡ Some t → FitsOf c None t
  hear-fits k m t alone hears =
      let h = heard-cases c k m t (T c None) hears (record {
        answered = λ xid r ticket is has same inc counts.
            sends-next c None false _ (settles c None _ (from-made c None (replied (begun c) k ticket r)
            (replied-made c None k ticket r ((alone.asking.ticketed ticket has).fits) counts)));
        noticed = λ xid file tag is later. sends-next c None false _ (settles c None _ (evicted-fits file tag));
      }) in
      (h.called, h.asks)
