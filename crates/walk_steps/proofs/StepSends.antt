-- What a client sends in one step: some VACATED and then at most one request, and that one is its request under way.
use Rattle.std.proofs.Common.{◌≡◌, ℕ, ◌+◌, ◌&&◌, not, Bool, true, false, List, [], ◌∷◌, ◌++◌, Option, Some, None, length, refl, sym, subst, ap, ◌∙◌, arith}
use Rattle.std.specs.Prelude.{⊤, is_some}
use Rattle.nq_base.specs.declared.Answer.{Answer}
use Rattle.nq_base.specs.declared.Grant.{Grant}
use Rattle.nq_base.specs.declared.Reply.{Reply}
use Rattle.nq_base.specs.declared.Request.{Request}
use Rattle.nq_base.specs.declared.Tag.{Tag}
use Rattle.nq_base.specs.declared.Value.{Value}
use Rattle.nq_base.specs.declared.Who.{Who}
use Rattle.nq_model.specs.protocol.Client.{Client, ClientStep, Job, for_call, renewing, pushing, Notice, Ticket, UnderWay, begun, lease_on, notice_on}
use Rattle.nq_model.specs.protocol.Client.{dirty_at, is_clean, revision_of, is_revision_before}
use Rattle.nq_model.specs.protocol.ClientStep.{client_tick, at_time, sends_again}
use Rattle.nq_model.specs.protocol.Hear.{hear, inc_of, reply_counts, spends, attached, pauses, marks_through, cancels, cancelled, vacates_lease}
use Rattle.nq_model.specs.protocol.Hear.{vacates_noticed, notes_notice, evicted, loses, without_lease, holds, breaks, breaks_chain, if_broken, takes_grant}
use Rattle.nq_model.specs.protocol.Hear.{takes_optional, answers_call, reports_to, waits_for, caches_block, then_caches, caches_write, caches_push, purges}
use Rattle.nq_model.specs.protocol.Hear.{knows_revision, ends_push, push_done, push_refused, read_done, lease_done, write_done, replied, grant_caches}
use Rattle.nq_model.specs.protocol.Hear.{holds_caching}
use Rattle.nq_model.specs.protocol.Message.{Message, call, reply, asker}
use Rattle.nq_model.specs.protocol.Send.{sends_request, after_seq, after_number, takes_push, gives_up, send_next}
use Rattle.nq_model.specs.protocol.Settle.{answers, names_losses, reads_cached, after_read, after_write, marks_written, settle}
use Rattle.walk_steps.proofs.ClientFacts.{Alone, fits_job}
use Rattle.walk_steps.proofs.PartCases.{answers-call-cases, vacates-if-clean-cases, lease-done-cases}
use Rattle.walk_steps.proofs.RepliedCases.{replied-cases}
use Rattle.walk_steps.proofs.SendCases.{send-cases}
use Rattle.walk_steps.proofs.SettleCases.{settle-cases}
use Rattle.walk_steps.proofs.StepCases.{tick-cases, evicted-cases, heard-cases}
use Rattle.walk_steps.proofs.Rows.{choice}

-- ---- VACATED alone

-- the messages are VACATED of this incarnation, with the numbers from this one on
abbrev pub VacatedFrom : Who → (first : ℕ) → List Message → Type 0
VacatedFrom who first [] = ⊤
VacatedFrom who first (m ∷ ms) = ((file : ℕ) × (tag : Tag) × (m ≡ call first (Request.Vacated who file tag))) × VacatedFrom who (first + 1) ms

pub vacated-last : (who : Who) (first next : ℕ) (ms : List Message) (file : ℕ) (tag : Tag) → next ≡ first + length ms → VacatedFrom who first ms
    → VacatedFrom who first (ms ++ call next (Request.Vacated who file tag) ∷ [])
vacated-last who first next [] file tag e h = let same : next ≡ first = omega arith in ((file, tag, ap (λ n. call n (Request.Vacated who file tag)) same), tt)
vacated-last who first next (m ∷ ms) file tag e h = (h.0, vacated-last who (first + 1) next ms file tag (omega arith) h.1)

one-longer : {A : Type 0} (xs : List A) (x : A) → length (xs ++ x ∷ []) ≡ length xs + 1
one-longer [] x = refl
one-longer (y ∷ xs) x = let rest = one-longer xs x in omega arith

-- ---- the next request

-- where no request is under way, at most one is sent, with the next number
pub data NextSends (in_tick : Bool) (t u : ClientStep) : Type 0 where
  nothing : u ≡ t → NextSends in_tick t u
  asks :
      (ticket : Ticket)
      → t.client.ticket ≡ None
      → u.client.ticket ≡ Some ticket
      → u.sends ≡ t.sends ++ call ticket.xid ticket.request ∷ []
      → ticket.xid ≡ t.client.xid
      → u.client.xid ≡ t.client.xid + 1
      → u.client.who ≡ t.client.who
      → u.client.now ≡ t.client.now
      → ticket.first ≡ t.client.now
      → ticket.last ≡ t.client.now
      → asker ticket.request ≡ Some t.client.who
      → fits_job ticket.job ticket.request ≡ true
      → (ticket.job ≡ renewing → in_tick ≡ true)
      → NextSends in_tick t u

sent : (in_tick : Bool) (t u : ClientStep) (job : Job) (request : Request) → t.client.ticket ≡ None → u.client.who ≡ t.client.who
    → u.client.now ≡ t.client.now → u.client.xid ≡ t.client.xid → u.sends ≡ t.sends → asker request ≡ Some t.client.who → fits_job job request ≡ true
    → (job ≡ renewing → in_tick ≡ true) → NextSends in_tick t (sends_request u job request)
unfolding sends_request
sent in_tick t u job request free who now xid sends by fits renews =
    asks (record { xid = u.client.xid; first = u.client.now; last = u.client.now; request = request; job = job }) free refl
    (ap (λ ms. ms ++ call u.client.xid request ∷ []) sends) xid (ap (λ n. n + 1) xid) who now now now by fits renews

pub next-sends : (in_tick : Bool) (t : ClientStep) → NextSends in_tick t (send_next in_tick t)
unfolding after_seq after_number takes_push gives_up
next-sends in_tick t = send-cases in_tick t (NextSends in_tick t) (record {
  stays_asking = λ ticket asks. nothing refl;
  stays = λ free nothing_due. nothing refl;
  pushing = λ file p free first of. sent in_tick t _ pushing _ free refl refl refl refl refl refl (λ e. absurd (cc));
  creating = λ u name blocks free is. sent in_tick t _ for_call _ free.free refl refl refl refl refl refl (λ e. absurd (cc));
  looking_up = λ u name free is. sent in_tick t t for_call _ free.free refl refl refl refl refl refl (λ e. absurd (cc));
  getting_attributes = λ u file free is. sent in_tick t t for_call _ free.free refl refl refl refl refl refl (λ e. absurd (cc));
  reading = λ u file block free is. sent in_tick t t for_call _ free.free refl refl refl refl refl refl (λ e. absurd (cc));
  fetching = λ u file block free is. sent in_tick t t for_call _ free.free refl refl refl refl refl refl (λ e. absurd (cc));
  writing = λ u file block body free is through. sent in_tick t _ for_call _ free.free refl refl refl refl refl refl (λ e. absurd (cc));
  leasing = λ u file block body free is no alone. sent in_tick t t for_call _ free.free refl refl refl refl refl refl (λ e. absurd (cc));
  putting = λ u file block body free is first. sent in_tick t _ for_call _ free.free refl refl refl refl refl refl (λ e. absurd (cc));
  resizing = λ u file blocks free is clean. sent in_tick t _ for_call _ free.free refl refl refl refl refl refl (λ e. absurd (cc));
  removing = λ u file free is clean. sent in_tick t _ for_call _ free.free refl refl refl refl refl refl (λ e. absurd (cc));
  renewing = λ file lease tick free nothing_due unpaused renewed held of clean quiet. sent in_tick t t renewing _ free refl refl refl refl refl refl
      (λ e. tick);
})

-- ---- what comes before it

-- in the middle of a step nothing but VACATED was sent, and this is the request under way
pub record Gives (who : Who) (first now : ℕ) (ticket : Option Ticket) (t : ClientStep) : Type 0 where
  pub same : t.client.who ≡ who
  pub time : t.client.now ≡ now
  pub asking : t.client.ticket ≡ ticket
  pub vacated : VacatedFrom who first t.sends
  pub next : t.client.xid ≡ first + length t.sends

module _ (who : Who) (first now : ℕ) (ticket : Option Ticket) where
  like : (t u : ClientStep) → u.client.who ≡ t.client.who → u.client.now ≡ t.client.now → u.client.ticket ≡ t.client.ticket → u.client.xid ≡ t.client.xid
      → u.sends ≡ t.sends → Gives who first now ticket t → Gives who first now ticket u
  like t u same time asking xid sends g = record {
    same = same ∙ g.same;
    time = time ∙ g.time;
    asking = asking ∙ g.asking;
    vacated = subst (VacatedFrom who first) (sym sends) g.vacated;
    next = xid ∙ g.next ∙ ap (λ (ms : List Message). first + length ms) (sym sends);
  }

  pub settles : (t : ClientStep) → Gives who first now ticket t → Gives who first now ticket (settle t)
  unfolding answers reads_cached after_read after_write marks_written
  settles t g = settle-cases t (Gives who first now ticket) (record {
    idle = λ none. g;
    asking = λ u called own. g;
    read_out = λ u file block lease is read can out. like t _ refl refl refl refl refl g;
    reading = λ u file block lease body is read can below has. like t _ refl refl refl refl refl g;
    read_waits = λ u file block is read waits. g;
    write_out = λ u sync file block body lease is write can out. like t _ refl refl refl refl refl g;
    write_full = λ u sync file block body lease is write can below full. like t _ refl refl refl refl refl g;
    writing = λ u file block body lease is write can below room. like t _ refl refl refl refl refl g;
    putting = λ u file block body lease is put first_one can below room. like t _ refl refl refl refl refl g;
    write_waits = λ u sync file block body is write waits. g;
    syncing = λ u file is sync clean. like t _ refl refl refl refl refl g;
    sync_waits = λ u file is sync dirty. g;
    others = λ u is needs. g;
  })

  vacating : (t : ClientStep) (file : ℕ) (tag : Tag) → Gives who first now ticket t → Gives who first now ticket (vacates_lease t file tag)
  unfolding vacates_lease
  vacating t file tag g = record {
    same = g.same;
    time = g.time;
    asking = g.asking;
    vacated = subst (λ w. VacatedFrom who first (t.sends ++ call t.client.xid (Request.Vacated w file tag) ∷ [])) (sym g.same)
        (vacated-last who first t.client.xid t.sends file tag g.next g.vacated);
    next = let more = one-longer t.sends (call t.client.xid (Request.Vacated t.client.who file tag)) in let n = g.next in omega arith;
  }

  noticing : (t : ClientStep) (file : ℕ) (o : Option Notice) → Gives who first now ticket t → Gives who first now ticket (vacates_noticed t file o)
  noticing t file None g = g
  noticing t file (Some n) g = vacating t file n.tag g

  reporting : (t : ClientStep) (file : ℕ) (o : Option UnderWay) → Gives who first now ticket t → Gives who first now ticket (reports_to t file o)
  unfolding answers
  reporting t file None g = g
  reporting t file (Some u) g = choice (Gives who first now ticket) (waits_for file u.written u.call) (names_losses t u.q file) t
      (λ e. like t _ refl refl refl refl refl g) (λ e. g)

  losing : (t : ClientStep) (file : ℕ) → Gives who first now ticket t → Gives who first now ticket (loses t file)
  unfolding loses
  losing t file g = like t _ refl refl refl refl refl g

  breaking : (t : ClientStep) (file : ℕ) → Gives who first now ticket t → Gives who first now ticket (breaks_chain t file)
  breaking t file g =
      let gone = vacates_noticed (loses t file) file (notice_on file t.client.notices) in
      reporting gone file gone.client.call (noticing (loses t file) file (notice_on file t.client.notices) (losing t file g))

  refusing-push : (t : ClientStep) (file : ℕ) → Gives who first now ticket t → Gives who first now ticket (push_refused t file)
  unfolding without_lease
  refusing-push t file g =
      let free = without_lease (loses t file) file in
      let gone = vacates_noticed free file (notice_on file t.client.notices) in
      reporting gone file gone.client.call
      (noticing free file (notice_on file t.client.notices) (like (loses t file) free refl refl refl refl refl (losing t file g)))

  taking : (t : ClientStep) (file : ℕ) (g : Grant) (at : ℕ) → Gives who first now ticket t → Gives who first now ticket (takes_grant t file g at)
  unfolding holds
  taking t file g at h =
      like (if_broken t file g) _ refl refl refl refl refl
      (choice (Gives who first now ticket) (breaks g (lease_on file t.client.leases) && not (is_clean t.client file)) (breaks_chain t file) t
      (λ e. breaking t file h) (λ e. h))

  taking-optional : (t : ClientStep) (file : ℕ) (o : Option Grant) (at : ℕ) → Gives who first now ticket t
      → Gives who first now ticket (takes_optional t file o at)
  taking-optional t file None at g = g
  taking-optional t file (Some grant) at g = taking t file grant at g

  answering : (t : ClientStep) (answer : Answer) (by : Option ℕ) → Gives who first now ticket t → Gives who first now ticket (answers_call t answer by)
  unfolding answers
  answering t answer by g = answers-call-cases t answer by (Gives who first now ticket) (λ none. g) (λ u is. like t _ refl refl refl refl refl g)

  caching : (t : ClientStep) (file block : ℕ) (body : List ℕ) → Gives who first now ticket t → Gives who first now ticket (caches_block t file block body)
  unfolding caches_block
  caching t file block body g = like t _ refl refl refl refl refl g

  knowing : (t : ClientStep) (file rev : ℕ) → Gives who first now ticket t → Gives who first now ticket (knows_revision t file rev)
  unfolding knows_revision
  knowing t file rev g = like t _ refl refl refl refl refl g

  reading-done : (t : ClientStep) (file block : ℕ) (body : List ℕ) (o : Option Grant) (at number : ℕ) → Gives who first now ticket t
      → Gives who first now ticket (read_done t file block body o at number)
  reading-done t file block body o at number g =
      let taken = takes_optional t file o at in
      let h = taking-optional t file o at g in
      answering (then_caches taken file block body o) (Answer.Ok (Value.Body body)) (Some number)
      (choice (Gives who first now ticket) (grant_caches o) (caches_block taken file block body) taken (λ e. caching taken file block body h) (λ e. h))

  leasing-done : (t : ClientStep) (file : ℕ) (o : Option Grant) (at : ℕ) → Gives who first now ticket t → Gives who first now ticket (lease_done t file o at)
  unfolding marks_through
  leasing-done t file o at g = lease-done-cases t file o at (Gives who first now ticket) (λ e. taking-optional t file o at g)
      (λ e. like (takes_optional t file o at) _ refl refl refl refl refl (taking-optional t file o at g))

  writing-done : (t : ClientStep) (file block : ℕ) (body : List ℕ) (rev : ℕ) → Gives who first now ticket t
      → Gives who first now ticket (write_done t file block body rev)
  unfolding purges
  writing-done t file block body rev g =
      let kept = caches_write t file block body rev in
      answering (knows_revision kept file rev) (Answer.Ok Value.Nothing) None
      (knowing kept file rev (choice (Gives who first now ticket)
      (holds_caching (lease_on file t.client.leases) && is_revision_before rev (revision_of file t.client.revisions)) (caches_block t file block body)
      (purges t file) (λ e. caching t file block body g) (λ e. like t _ refl refl refl refl refl g)))

  pushing-done : (t : ClientStep) (file block : ℕ) (body : List ℕ) (rev : ℕ) → Gives who first now ticket t
      → Gives who first now ticket (push_done t file block body rev)
  unfolding ends_push
  pushing-done t file block body rev g =
      let known = knows_revision (ends_push t) file rev in
      let h = knowing (ends_push t) file rev (like t (ends_push t) refl refl refl refl refl g) in
      let kept = caches_push known file block body in
      let k : Gives who first now ticket (caches_push known file block body) =
      choice (Gives who first now ticket) (is_some (dirty_at file block known.client.dirty)) known (caches_block known file block body) (λ e. h)
      (λ e. caching known file block body h) in
      vacates-if-clean-cases kept file (Gives who first now ticket) k (λ n clean is. vacating kept file n.tag k)

-- ---- a whole step

-- a step that begins with this request under way, or with none
pub data StepSends (who : Who) (first now : ℕ) (in_tick : Bool) (old : Option Ticket) (t : ClientStep) : Type 0 where
  only_gives : Gives who first now old t → StepSends who first now in_tick old t
  then_asks :
      (given : List Message) (ticket : Ticket)
      → VacatedFrom who first given
      → old ≡ None
      → t.client.ticket ≡ Some ticket
      → t.sends ≡ given ++ call ticket.xid ticket.request ∷ []
      → ticket.xid ≡ first + length given
      → t.client.xid ≡ ticket.xid + 1
      → t.client.who ≡ who
      → t.client.now ≡ now
      → ticket.first ≡ now
      → ticket.last ≡ now
      → asker ticket.request ≡ Some who
      → fits_job ticket.job ticket.request ≡ true
      → (ticket.job ≡ renewing → in_tick ≡ true)
      → StepSends who first now in_tick old t

sends-then : (who : Who) (first now : ℕ) (in_tick : Bool) (old : Option Ticket) (t u : ClientStep) → Gives who first now old t → NextSends in_tick t u
    → StepSends who first now in_tick old u
sends-then who first now in_tick old t u g (nothing same) = only_gives (subst (Gives who first now old) (sym same) g)
sends-then who first now in_tick old t u g (asks ticket free has sends xid after same time at last by fits renews) =
    then_asks t.sends ticket g.vacated (sym g.asking ∙ free) has sends (xid ∙ g.next) (after ∙ ap (λ n. n + 1) (sym xid)) (same ∙ g.same) (time ∙ g.time)
    (at ∙ g.time) (last ∙ g.time) (by ∙ ap Some g.same) fits renews

pub goes-on-sends : (who : Who) (first now : ℕ) (in_tick : Bool) (old : Option Ticket) (t : ClientStep) → Gives who first now old t
    → StepSends who first now in_tick old (send_next in_tick (settle t))
goes-on-sends who first now in_tick old t g =
    sends-then who first now in_tick old (settle t) (send_next in_tick (settle t)) (settles who first now old t g) (next-sends in_tick (settle t))

spent-gives : (c : Client) → Gives c.who c.xid c.now None (spends (begun c))
unfolding spends
spent-gives c = record { same = refl; time = refl; asking = refl; vacated = tt; next = omega arith }

-- before settle and the next request: what a reply makes of the client that heard it
pub replied-gives : (c : Client) (k : ℕ) (ticket : Ticket) (r : Reply) → Alone c → c.ticket ≡ Some ticket → reply_counts r ticket ≡ true
    → Gives c.who c.xid c.now None (replied (begun c) k ticket r)
unfolding attached pauses marks_through
replied-gives c k ticket r alone has counts =
    let s = spends (begun c) in
    let g = spent-gives c in
    replied-cases c k ticket r (Gives c.who c.xid c.now None) (alone.asking.ticketed ticket has).fits counts (record {
      attaching = λ who inc job is own. like c.who c.xid c.now None s _ refl refl refl refl refl g;
      named = λ answer job is. answering c.who c.xid c.now None s answer None g;
      reading = λ who q file block want inc rev body grant of is. reading-done c.who c.xid c.now None s file block body grant ticket.first k g;
      leasing = λ who file want inc grant of is. leasing-done c.who c.xid c.now None s file grant ticket.first g;
      writing = λ who seq file block first last body inc rev of is. writing-done c.who c.xid c.now None s file block body rev g;
      resizing = λ who seq q file blocks inc rev of is. answering c.who c.xid c.now None (knows_revision s file rev) (Answer.Ok Value.Nothing) None
          (knowing c.who c.xid c.now None s file rev g);
      removing = λ who seq q file inc of is. answering c.who c.xid c.now None s (Answer.Ok Value.Nothing) None g;
      renewing = λ who file want inc grant job is own. taking-optional c.who c.xid c.now None s file grant ticket.first g;
      pushed = λ who seq file block first last base body inc rev job is own. pushing-done c.who c.xid c.now None s file block body rev g;
      putting_off = λ inc status job is off. like c.who c.xid c.now None s _ refl refl refl refl refl g;
      refusing = λ inc status job is counted final. answering c.who c.xid c.now None s _ None g;
      renewal_refused = λ inc status job is final. g;
      push_refused = λ who seq file block first last base body inc status job is own final. refusing-push c.who c.xid c.now None s file g;
    })

-- what is heard: the reply to the request under way, which is spent; or a notice, which cancels a request that wants the file
pub data HearSends (c : Client) (m : Message) (t : ClientStep) : Type 0 where
  told : (r : Reply) (ticket : Ticket) → m ≡ reply ticket.xid r → c.ticket ≡ Some ticket → inc_of r ≡ c.who.inc → reply_counts r ticket ≡ true
      → StepSends c.who c.xid c.now false None t → HearSends c m t
  noticed : (xid file : ℕ) (tag : Tag) → m ≡ call xid (Request.Evicted c.who file tag) → StepSends c.who c.xid c.now false (cancelled file c.ticket) t
      → HearSends c m t

pub hear-sends : (c : Client) (k : ℕ) (m : Message) (t : ClientStep) → Alone c → hear c k m ≡ Some t → HearSends c m t
unfolding cancels notes_notice
hear-sends c k m t alone hears = heard-cases c k m t (HearSends c m) hears (record {
  answered = λ xid r ticket is has own inc counts. told r ticket (is ∙ ap (λ n. reply n r) own) has inc counts
      (goes-on-sends c.who c.xid c.now false None (replied (begun c) k ticket r) (replied-gives c k ticket r alone has counts));
  noticed = λ xid file tag is older.
      let cut : Gives c.who c.xid c.now (cancelled file c.ticket) (cancels (begun c) file) =
      record { same = refl; time = refl; asking = refl; vacated = tt; next = omega arith } in
      noticed xid file tag is (goes-on-sends c.who c.xid c.now false (cancelled file c.ticket) (evicted (cancels (begun c) file) file tag)
      (evicted-cases (cancels (begun c) file) file tag (Gives c.who c.xid c.now (cancelled file c.ticket)) (record {
        clean = λ e. vacating c.who c.xid c.now (cancelled file c.ticket) (cancels (begun c) file) file tag cut;
        waiting = λ e. like c.who c.xid c.now (cancelled file c.ticket) (cancels (begun c) file) _ refl refl refl refl refl cut;
      })));
})

-- a tick sends nothing, or the request under way again, or a new one, and no VACATED
pub data TickSends (c : Client) (t : ClientStep) : Type 0 where
  rests : t.sends ≡ [] → t.client.ticket ≡ c.ticket → t.client.xid ≡ c.xid → TickSends c t
  again : (ticket : Ticket) → c.ticket ≡ Some ticket → t.client.ticket ≡ Some (record ticket { last = c.now + 1 })
      → t.sends ≡ call ticket.xid ticket.request ∷ [] → t.client.xid ≡ c.xid → TickSends c t
  asks_now :
      (ticket : Ticket)
      → c.ticket ≡ None
      → t.client.ticket ≡ Some ticket
      → t.sends ≡ call ticket.xid ticket.request ∷ []
      → ticket.xid ≡ c.xid
      → t.client.xid ≡ c.xid + 1
      → ticket.first ≡ c.now + 1
      → asker ticket.request ≡ Some c.who
      → fits_job ticket.job ticket.request ≡ true
      → TickSends c t

settled-sends : (t : ClientStep) → (settle t).sends ≡ t.sends
unfolding answers reads_cached after_read after_write marks_written
settled-sends t = settle-cases t (λ (u : ClientStep). u.sends ≡ t.sends) (record {
  idle = λ none. refl;
  asking = λ u called own. refl;
  read_out = λ u file block lease is read can out. refl;
  reading = λ u file block lease body is read can below has. refl;
  read_waits = λ u file block is read waits. refl;
  write_out = λ u sync file block body lease is write can out. refl;
  write_full = λ u sync file block body lease is write can below full. refl;
  writing = λ u file block body lease is write can below room. refl;
  putting = λ u file block body lease is put first_one can below room. refl;
  write_waits = λ u sync file block body is write waits. refl;
  syncing = λ u file is sync clean. refl;
  sync_waits = λ u file is sync dirty. refl;
  others = λ u is needs. refl;
})

pub tick-sends : (c : Client) → TickSends c (client_tick c (c.now + 1))
unfolding at_time sends_again
tick-sends c = tick-cases c (c.now + 1) (TickSends c) (record {
  again = λ ticket has long. again ticket has refl refl refl;
  quiet = λ ticket has short. rests refl refl refl;
  free = λ none. by none (next-sends true (settle (begun (at_time c (c.now + 1)))));
})
  where
    g : Gives c.who c.xid (c.now + 1) c.ticket (settle (begun (at_time c (c.now + 1))))
    g = settles c.who c.xid (c.now + 1) c.ticket (begun (at_time c (c.now + 1)))
        (record { same = refl; time = refl; asking = refl; vacated = tt; next = omega arith })

    empty : (settle (begun (at_time c (c.now + 1)))).sends ≡ []
    empty = settled-sends (begun (at_time c (c.now + 1)))

    xid_is : (settle (begun (at_time c (c.now + 1)))).client.xid ≡ c.xid
    xid_is = let n = g.next in let none : length (settle (begun (at_time c (c.now + 1)))).sends ≡ 0 = ap (λ (ms : List Message). length ms) empty in
        omega arith

    by : c.ticket ≡ None → NextSends true (settle (begun (at_time c (c.now + 1)))) (send_next true (settle (begun (at_time c (c.now + 1)))))
        → TickSends c (send_next true (settle (begun (at_time c (c.now + 1)))))
    by none (nothing same) = subst (TickSends c) (sym same) (rests empty g.asking xid_is)
    by none (asks ticket free has sends xid after same time at last by_who fits renews) =
        asks_now ticket none has (sends ∙ ap (λ ms. ms ++ call ticket.xid ticket.request ∷ []) empty) (xid ∙ xid_is) (after ∙ ap (λ n. n + 1) xid_is)
        (at ∙ g.time) (by_who ∙ ap Some g.same) fits
