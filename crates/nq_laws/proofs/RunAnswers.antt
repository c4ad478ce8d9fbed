-- In every run what an answer says was so at the server between the call and the answer: what it tells of files, and its cause where
-- it refuses.
use Rattle.std.proofs.Common.{◌≡◌, ℕ, ◌+◌, List, [], ◌∷◌, ◌++◌, Option, Some, None, length, refl, sym, subst, inl, inr, arith}
use Rattle.std.specs.Prelude.{slice_get}
use Rattle.nq_base.specs.declared.Answer.{Answer}
use Rattle.nq_base.specs.declared.Entry.{Entry}
use Rattle.nq_base.specs.declared.Event.{Event}
use Rattle.nq_base.specs.declared.Party.{Party}
use Rattle.nq_base.specs.declared.Reply.{Reply}
use Rattle.nq_base.specs.declared.Request.{Request}
use Rattle.nq_base.specs.declared.Said.{Said}
use Rattle.nq_base.specs.declared.Told.{Told}
use Rattle.nq_base.specs.declared.Who.{Who}
use Rattle.nq_model.proofs.Lists.{exists-right}
use Rattle.nq_model.specs.protocol.Client.{Client, ClientStep, for_call, Ticket, UnderWay}
use Rattle.nq_model.specs.protocol.ClientStep.{client_call, client_tick, restart}
use Rattle.nq_base.specs.Calls.{told}
use Rattle.nq_model.specs.protocol.Hear.{hear, inc_of}
use Rattle.nq_model.specs.laws.Journal.{Exists, Throughout, IsCall, IsAnswer, call_of}
use Rattle.nq_model.specs.protocol.Kept.{host_row}
use Rattle.nq_model.specs.protocol.Message.{Packet, reply, datagram_of}
use Rattle.nq_model.specs.laws.OfTheirCall.{Reads}
use Rattle.nq_model.specs.protocol.Server.{ServerStep}
use Rattle.nq_model.specs.protocol.ServerStep.{receive, tick, crash}
use Rattle.nq_model.specs.protocol.Settle.{said}
use Rattle.nq_model.specs.protocol.Skew.{IsWithinSkew}
use Rattle.nq_model.specs.protocol.World.{Head, World, after_server, after_client, at_client, after_hearing, sending_host, deliver_to_client, deliver_to}
use Rattle.nq_model.specs.protocol.World.{deliver, start, run}
use Rattle.nq_model.specs.laws.AnswersHaveCauses.{LacksBlock, IsAnsweredSo, HasCauseAt, AnswersHaveCauses}
use Rattle.nq_model.specs.laws.AnswersAreOfTheirCalls.{IsAnswerOfCall}
use Rattle.nq_model.specs.laws.AnswersTellWhatWas.{HasLength, ToldSo, TellsSoAt, AnswersTellWhatWas}
use Rattle.nq_model.specs.laws.Bounds.{KeepsBounds, InEveryRun}
use Rattle.nq_model.specs.laws.RefusalsAreOfTheirCalls.{IsRefusalOf, IsRefusalAt, RefusalsAreOfTheirCallsInEveryRun}
use Rattle.nq_model.specs.laws.RepliesTellWhatWas.{Once}
use Rattle.walk_files.proofs.CallFacts.{CallsAt}
use Rattle.walk_files.proofs.Placed.{Placed, call-told, call-later}
use Rattle.walk_steps.proofs.ClientEntries.{IsTelling}
use Rattle.walk_steps.proofs.Clocks.{within-before}
use Rattle.walk_steps.proofs.NoCrash.{bounds-before}
use Rattle.walk_steps.proofs.Packets.{In, in-get, Asked, Told as ToldTo}
use Rattle.walk_steps.proofs.RunCases.{client_at}
use Rattle.walk_steps.proofs.RunningLeases.{Lent}
use Rattle.walk_steps.proofs.Worlds.{Holds, to-told, run-holds}
use Rattle.law_rounds.proofs.Meant.{requests-are-meant}
use Rattle.law_runs.proofs.RunCalls.{calls-known}
use Rattle.law_runs.proofs.OkFacts.{KeepsOf}
use Rattle.law_runs.proofs.Standings.{answers-in-every-run, oks-in-every-run}
use Rattle.nq_laws.proofs.Anchors.{asked-while-open, then-meanwhile}
use Rattle.nq_laws.proofs.AnswerCauses.{Says, SaysAt, Leases, later-says, range-of-block, telling-says}
use Rattle.nq_laws.proofs.ClientRests.{IsCachedNext, IsOutside, Rests, AllRest, call-rests, tick-rests, hear-rests, restart-rests}
use Rattle.nq_laws.proofs.LeaseLengths.{grant-lent, leases-lent, own-reply}
use Rattle.nq_laws.proofs.RunTells.{HadSo}
use Rattle.nq_laws.proofs.ServerEntries.{IsNoAnswer, NoneAnswers, receive-answers-none, tick-answers-none, crash-answers-none}

-- ---- facts of later schedules

later-at : (head : Head) (event : Event) (earlier : List Event) (e : Entry) (before : List Entry) → SaysAt head earlier e before
    → SaysAt head (event ∷ earlier) e before
later-at head event earlier (Entry.A who q answer) before so = later-says head event earlier who q answer (call_of before who q) so
later-at head event earlier other before so = tt

later-all : (head : Head) (event : Event) (earlier : List Event) (journal : List Entry) → Throughout (SaysAt head earlier) journal
    → Throughout (SaysAt head (event ∷ earlier)) journal
later-all head event earlier [] all = tt
later-all head event earlier (e ∷ before) all = (later-at head event earlier e before all.0, later-all head event earlier before all.1)

-- ---- entries of a step

no-answer-so : (head : Head) (events : List Event) (e : Entry) (before : List Entry) → IsNoAnswer e → SaysAt head events e before
no-answer-so head events (Entry.A who q said) before none = absurd none
no-answer-so head events other before none = tt

server-so : (head : Head) (events : List Event) (entries journal : List Entry) → NoneAnswers entries → Throughout (SaysAt head events) journal
    → Throughout (SaysAt head events) (entries ++ journal)
server-so head events [] journal none all = all
server-so head events (e ∷ entries) journal none all =
    (no-answer-so head events e (entries ++ journal) none.0, server-so head events entries journal none.1 all)

-- a call that read tells of no file
reads-so : (head : Head) (events : List Event) (who : Who) (q value file block : ℕ) (o : Option Told) → Reads file block o
    → ToldSo head events who q value o
reads-so head events who q value file block (Some (Told.Read f b)) reads = tt
reads-so head events who q value file block (Some (Told.Fetch f b)) reads = tt
reads-so head events who q value file block other reads = absurd reads

reads-more : (file block : ℕ) (e : Entry) (before : List Entry) (who : Who) (q : ℕ) → Reads file block (call_of before who q)
    → Reads file block (call_of (e ∷ before) who q)
reads-more file block e before who q reads = case (call_of before who q) refl reads
  where
    case : (o : Option Told) → call_of before who q ≡ o → Reads file block o → Reads file block (call_of (e ∷ before) who q)
    case None is r = absurd r
    case (Some told) is r = subst (Reads file block) (sym (call-told e before who q told is)) r

-- what an answer of a step rests on, beside a cached read: its call was told, and what it says was so
record TellsOf (head : Head) (events : List Event) (journal : List Entry) (who : Who) (q : ℕ) (answer : Said) : Type 0 where
  asks : Told
  call : call_of journal who q ≡ Some asks
  so : Says head events who q answer (Some asks)

cached-so : (head : Head) (events : List Event) (who : Who) (q value : ℕ) (entries journal : List Entry) → IsCachedNext who q entries
    → Throughout Placed (entries ++ journal) → ToldSo head events who q value (call_of (entries ++ journal) who q)
cached-so head events who q value (Entry.R by n file block v None ∷ before) journal next placed =
    let reads = placed.0.reads in
    let mine : Reads file block (call_of (before ++ journal) who q) = subst (λ m. Reads file block (call_of (before ++ journal) who m)) next.1
    (subst (λ w. Reads file block (call_of (before ++ journal) w n)) next.0 reads) in
    reads-so head events who q value file block (call_of (Entry.R by n file block v None ∷ (before ++ journal)) who q)
    (reads-more file block (Entry.R by n file block v None) (before ++ journal) who q mine)
cached-so head events who q value other journal next placed = absurd next

caused-so : (head : Head) (events : List Event) (who : Who) (q : ℕ) (answer : Said) (entries journal : List Entry) → TellsOf head events journal who q answer
    → Says head events who q answer (call_of (entries ++ journal) who q)
caused-so head events who q answer entries journal cause =
    subst (Says head events who q answer) (sym (call-later entries journal who q cause.asks cause.call)) cause.so

-- ---- entries of a client's step, before which this is the journal of the run

module _ (head : Head) (event : Event) (earlier : List Event) where
  abbrev journal : List Entry
  journal = (run head earlier).journal

  abbrev later : List Event
  later = event ∷ earlier

  -- a file has this length before the step
  abbrev Has : (file blocks : ℕ) → Type 0
  Has file blocks = HasLength file blocks (run head earlier)

  -- the calls that stand in a journal stand in that after the step
  abbrev StandAfter : List Entry → Type 0
  StandAfter entries = (who : Who) (q : ℕ) → Exists (IsCall who q) entries → Exists (IsCall who q) (run head (event ∷ earlier)).journal

  -- the file of a call that is past the end on its client's lease had no such block before the step, and the call was made and had no answer
  outside-so : (who : Who) (q : ℕ) (entries : List Entry) → IsOutside Has who q (entries ++ journal)
      → IsAnswerOfCall (Entry.A who q Said.Range) (entries ++ journal) → StandAfter (entries ++ journal)
      → Says head later who q Said.Range (call_of (entries ++ journal) who q)
  outside-so who q entries out answered after =
      let p = out.past in
      let same = p.had.1.has_length in
      let beyond = p.beyond in
      let lacks : LacksBlock (run head earlier).server.kept.files p.file p.block = record {
        file = p.had.1.file;
        found = p.had.1.found;
        beyond = omega arith;
      } in
      subst (Says head later who q Said.Range) (sym out.tells)
      (range-of-block head later who q p.file p.block out.op p.of_block
      (inl (lacks, after who q answered.0.0, λ a. answered.0.1 (exists-right (IsAnswer who q) entries journal a))))

  rests-so : (e : Entry) (entries : List Entry) → Rests Has (TellsOf head later journal) journal e entries → Throughout Placed (entries ++ journal)
      → IsAnswerOfCall e (entries ++ journal) → StandAfter (entries ++ journal) → SaysAt head later e (entries ++ journal)
  rests-so (Entry.A who q (Said.OkValue value)) entries (inl next) placed of after = cached-so head later who q value entries journal next placed
  rests-so (Entry.A who q (Said.OkValue value)) entries (inr cause) placed of after = caused-so head later who q (Said.OkValue value) entries journal cause
  rests-so (Entry.A who q Said.NoEntry) entries rests placed of after = caused-so head later who q Said.NoEntry entries journal (rests refl)
  rests-so (Entry.A who q Said.Stale) entries rests placed of after = caused-so head later who q Said.Stale entries journal (rests refl)
  rests-so (Entry.A who q Said.Exists) entries rests placed of after = caused-so head later who q Said.Exists entries journal (rests refl)
  rests-so (Entry.A who q Said.NoSpace) entries rests placed of after = caused-so head later who q Said.NoSpace entries journal (rests refl)
  rests-so (Entry.A who q Said.Range) entries (inl out) placed of after = outside-so who q entries out of after
  rests-so (Entry.A who q Said.Range) entries (inr cause) placed of after = caused-so head later who q Said.Range entries journal cause
  rests-so other entries rests placed of after = tt

  client-so : (entries : List Entry) → AllRest Has (TellsOf head later journal) journal entries → Throughout Placed (entries ++ journal)
      → Throughout IsAnswerOfCall (entries ++ journal) → StandAfter (entries ++ journal) → Throughout (SaysAt head later) journal
      → Throughout (SaysAt head later) (entries ++ journal)
  client-so [] rest placed of after all = all
  client-so (e ∷ entries) rest placed of after all = (
    rests-so e entries rest.0 placed.1 of.0 (λ who q h. after who q (inr h)),
    client-so entries rest.1 placed.1 of.1 (λ who q h. after who q (inr h)) all,
  )

-- ---- the reply that is answered with

module _ (most : ℕ) (head : Head) (event : Event) (earlier : List Event) (bounds : KeepsBounds most head earlier)
    (within : IsWithinSkew head.hosts most earlier) (placed : Throughout Placed (run head (event ∷ earlier)).journal)
    (of_calls : Throughout IsAnswerOfCall (run head (event ∷ earlier)).journal)
    (all : Throughout (SaysAt head earlier) (run head earlier).journal) where
  abbrev w : World
  w = run head earlier

  before : Throughout (SaysAt head (event ∷ earlier)) w.journal
  before = later-all head event earlier w.journal all

  unmoved : run head (event ∷ earlier) ≡ w → Throughout (SaysAt head (event ∷ earlier)) (run head (event ∷ earlier)).journal
  unmoved is = subst (λ v. Throughout (SaysAt head (event ∷ earlier)) v.journal) (sym is) before

  -- a step of a client
  stepped : (host : ℕ) (t : ClientStep) → run head (event ∷ earlier) ≡ after_client w host t
      → AllRest (Has head event earlier) (TellsOf head (event ∷ earlier) w.journal) w.journal t.entries
      → Throughout (SaysAt head (event ∷ earlier)) (run head (event ∷ earlier)).journal
  unfolding after_client
  stepped host t is rest =
      subst (λ v. Throughout (SaysAt head (event ∷ earlier)) v.journal) (sym is)
      (client-so head event earlier t.entries rest (subst (λ v. Throughout Placed v.journal) is placed)
      (subst (λ v. Throughout IsAnswerOfCall v.journal) is of_calls) (λ who q h. subst (λ v. Exists (IsCall who q) v.journal) (sym is) h) before)

  -- a step of the server
  served : (t : ServerStep) → run head (event ∷ earlier) ≡ after_server w t → NoneAnswers t.entries
      → Throughout (SaysAt head (event ∷ earlier)) (run head (event ∷ earlier)).journal
  unfolding after_server
  served t is none =
      subst (λ v. Throughout (SaysAt head (event ∷ earlier)) v.journal) (sym is)
      (server-so head (event ∷ earlier) t.entries w.journal none before)

  -- the answer to a call is what its reply tells
  module _ (host : ℕ) (c : Client) (is : client_at head earlier host ≡ Some c) where
    told-so : (xid : ℕ) (r : Reply) (ticket : Ticket) (u : UnderWay) (answer : Answer) → ToldTo w.packets host (reply xid r)
        → c.ticket ≡ Some ticket → xid ≡ ticket.xid → inc_of r ≡ c.who.inc → c.call ≡ Some u → ticket.job ≡ for_call → IsTelling ticket.request r answer
        → TellsOf head (event ∷ earlier) w.journal c.who u.q (said answer None)
    told-so xid r ticket u answer sent has same inc call job telling = record {
      asks = told u.call;
      call = (keeps.is_open u call).tells;
      so =
          telling-says head (event ∷ earlier) c.who u.q host xid c.who.inc u c.dirty c.push ticket.request r answer telling inc
          (keeps.fits ticket u has job call) (leases ticket.request refl)
          (then-meanwhile (HadSo host xid r ticket.request) host ticket.xid ticket.request c.who u.q head event earlier
          (λ v so. subst (λ n. Asked v.packets host n ticket.request) same so.0)
          (asked-while-open most head earlier bounds within host c is ticket u has job call) was);
    } where
      keeps : KeepsOf (host_row w.server.kept host) c w.journal
      keeps = (oks-in-every-run most head earlier bounds within).clients host c is

      was : Once (HadSo host xid r ticket.request) head earlier
      was = own-reply head earlier host xid c r ticket is sent has same inc

      leases : (q : Request) → ticket.request ≡ q → Leases head (event ∷ earlier) c.who u.q host xid c.who.inc u c.dirty c.push q
      leases (Request.GetLease who file want) asks = ((requests-are-meant head earlier host c ticket u is has job call).leases who file want asks).0
      leases other asks = tt

  -- ---- each event

  called-at : (host : ℕ) (c : Client) → client_at head earlier host ≡ Some c → CallsAt c.who c.calls c.number c.call w.journal
  called-at host c there = ((calls-known most head earlier bounds within).clients host c there).calls_fit

  lent-at : (host : ℕ) (c : Client) → client_at head earlier host ≡ Some c → Lent (Has head event earlier) c.now c.leases
  lent-at host c there = leases-lent most head earlier bounds within host c there

  abbrev Resting : List Entry → Type 0
  Resting entries = AllRest (Has head event earlier) (TellsOf head (event ∷ earlier) w.journal) w.journal entries

  at-host : (host : ℕ) (f : Client → ClientStep)
      → ((c : Client) → CallsAt c.who c.calls c.number c.call w.journal → Lent (Has head event earlier) c.now c.leases → Resting (f c).entries)
      → (o : Option Client) → client_at head earlier host ≡ o → run head (event ∷ earlier) ≡ at_client w host f o
      → Throughout (SaysAt head (event ∷ earlier)) (run head (event ∷ earlier)).journal
  at-host host f rest None there is = unmoved is
  at-host host f rest (Some c) there is = stepped host (f c) is (rest c (called-at host c there) (lent-at host c there))

  hearing : (k : ℕ) (p : Packet) (host : ℕ) (c : Client) → In w.packets p → p.to ≡ Party.Client host → client_at head earlier host ≡ Some c
      → (o : Option ClientStep) → hear c k p.message ≡ o → run head (event ∷ earlier) ≡ after_hearing w host o
      → Throughout (SaysAt head (event ∷ earlier)) (run head (event ∷ earlier)).journal
  hearing k p host c i to there None hears is = unmoved is
  hearing k p host c i to there (Some t) hears is =
      let held : Holds w = run-holds head earlier in
      let sent : ToldTo w.packets host p.message = to-told w.packets p host (held.sent p i) to i in
      stepped host t is
      (hear-rests (Has head event earlier) (TellsOf head (event ∷ earlier) w.journal) c w.journal (called-at host c there)
      (lent-at host c there) k p.message t hears
      (λ ticket has. ((held.clients host c there).alone.asking.ticketed ticket has).fits)
      (λ xid r ticket file g m has same inc lends.
      grant-lent most head earlier bounds within host xid c r ticket file g there (subst (ToldTo w.packets host) m sent) has same inc lends)
      (λ xid r ticket u answer m has same inc call job telling. told-so host c there xid r ticket u answer
      (subst (ToldTo w.packets host) m sent) has same inc call job telling))

  to-client : (k : ℕ) (p : Packet) (host : ℕ) → In w.packets p → p.to ≡ Party.Client host → (o : Option Client) → client_at head earlier host ≡ o
      → run head (event ∷ earlier) ≡ deliver_to_client w k host p.message o
      → Throughout (SaysAt head (event ∷ earlier)) (run head (event ∷ earlier)).journal
  to-client k p host i to None there is = unmoved is
  to-client k p host i to (Some c) there is = hearing k p host c i to there (hear c k p.message) refl is

  to-party : (k : ℕ) (p : Packet) (party : Party) → In w.packets p → p.to ≡ party → run head (event ∷ earlier) ≡ deliver_to w k p party
      → Throughout (SaysAt head (event ∷ earlier)) (run head (event ∷ earlier)).journal
  to-party k p Party.Server i to is =
      served (receive w.server (sending_host p.sender) (length w.packets) (datagram_of p.message)) is
      (receive-answers-none w.server (sending_host p.sender) (length w.packets) (datagram_of p.message))
  to-party k p (Party.Client host) i to is = to-client k p host i to (client_at head earlier host) refl is

  delivered : (k : ℕ) (o : Option Packet) → slice_get w.packets k ≡ o → run head (event ∷ earlier) ≡ deliver w k o
      → Throughout (SaysAt head (event ∷ earlier)) (run head (event ∷ earlier)).journal
  delivered k None there is = unmoved is
  delivered k (Some p) there is = to-party k p p.to (in-get w.packets k p there) refl is

by-event : (most : ℕ) (head : Head) (event : Event) (earlier : List Event) → KeepsBounds most head earlier → IsWithinSkew head.hosts most earlier
    → Throughout Placed (run head (event ∷ earlier)).journal → Throughout IsAnswerOfCall (run head (event ∷ earlier)).journal
    → Throughout (SaysAt head earlier) (run head earlier).journal → Throughout (SaysAt head (event ∷ earlier)) (run head (event ∷ earlier)).journal
by-event most head (Event.Call host op) earlier bounds within placed of all =
    at-host most head (Event.Call host op) earlier bounds within placed of all host (λ c. client_call c op)
    (λ c known lent. call-rests (Has head (Event.Call host op) earlier)
    (TellsOf head (Event.Call host op ∷ earlier) (run head earlier).journal) c (run head earlier).journal known lent op)
    (slice_get (run head earlier).clients host) refl refl
by-event most head (Event.Deliver k) earlier bounds within placed of all =
    delivered most head (Event.Deliver k) earlier bounds within placed of all k (slice_get (run head earlier).packets k) refl refl
by-event most head Event.ServerTick earlier bounds within placed of all =
    served most head Event.ServerTick earlier bounds within placed of all (tick (run head earlier).server ((run head earlier).server.now + 1)) refl
    (tick-answers-none (run head earlier).server ((run head earlier).server.now + 1))
by-event most head (Event.ClientTick host) earlier bounds within placed of all =
    at-host most head (Event.ClientTick host) earlier bounds within placed of all host (λ c. client_tick c (c.now + 1))
    (λ c known lent. tick-rests (Has head (Event.ClientTick host) earlier)
    (TellsOf head (Event.ClientTick host ∷ earlier) (run head earlier).journal) c (run head earlier).journal known lent (c.now + 1) (omega arith))
    (slice_get (run head earlier).clients host) refl refl
by-event most head (Event.Restart host) earlier bounds within placed of all =
    at-host most head (Event.Restart host) earlier bounds within placed of all host restart
    (λ c known lent. restart-rests (Has head (Event.Restart host) earlier)
    (TellsOf head (Event.Restart host ∷ earlier) (run head earlier).journal) c (run head earlier).journal)
    (slice_get (run head earlier).clients host) refl refl
by-event most head (Event.Crash longest) earlier bounds within placed of all =
    served most head (Event.Crash longest) earlier bounds within placed of all (crash (run head earlier).server longest) refl
    (crash-answers-none (run head earlier).server longest)

starts-so : (head : Head) → Throughout (SaysAt head []) (start head).journal
unfolding start
starts-so head = tt

answers-say-what-was : InEveryRun (λ head events. Throughout (SaysAt head events) (run head events).journal)
answers-say-what-was most head [] bounds within = starts-so head
answers-say-what-was most head (event ∷ earlier) bounds within =
    let bounded : KeepsBounds most head earlier = bounds-before most head event earlier bounds in
    let skewed : IsWithinSkew head.hosts most earlier = within-before head.hosts most event earlier within in
    by-event most head event earlier bounded skewed
    (calls-known most head (event ∷ earlier) bounds within).journal.placed (answers-in-every-run most head (event ∷ earlier) bounds within)
    (answers-say-what-was most head earlier bounded skewed)

-- ---- the laws

says-all : (P : Entry → List Entry → Type 0) (head : Head) (events : List Event)
    → ((e : Entry) (before : List Entry) → SaysAt head events e before → P e before) → (journal : List Entry)
    → Throughout (SaysAt head events) journal → Throughout P journal
says-all P head events f [] all = tt
says-all P head events f (e ∷ before) all = (f e before all.0, says-all P head events f before all.1)

tells-at : (head : Head) (events : List Event) (e : Entry) (place : List Entry) → SaysAt head events e place → TellsSoAt head events e place
tells-at head events (Entry.A who q (Said.OkValue value)) place so = so
tells-at head events other place so = tt

cause-at : (head : Head) (events : List Event) (e : Entry) (place : List Entry) → SaysAt head events e place → HasCauseAt head events e place
cause-at head events (Entry.A who q (Said.OkValue value)) place so = tt
cause-at head events (Entry.A who q answer) place so = so
cause-at head events other place so = tt

-- the form of a refusal, from its cause
forms-of : (head : Head) (events : List Event) (who : Who) (q : ℕ) (answer : Said) (o : Option Told) → IsAnsweredSo head events who q answer o
    → IsRefusalOf answer o
forms-of head events who q Said.NoEntry (Some (Told.Lookup name)) so = tt
forms-of head events who q Said.NoEntry other so = absurd so
forms-of head events who q Said.Stale o so = (so.0, so.1)
forms-of head events who q Said.Exists (Some (Told.Create name blocks)) so = tt
forms-of head events who q Said.Exists other so = absurd so
forms-of head events who q Said.NoSpace (Some (Told.Create name blocks)) so = tt
forms-of head events who q Said.NoSpace (Some (Told.Resize file blocks)) so = tt
forms-of head events who q Said.NoSpace other so = absurd so
forms-of head events who q Said.Range (Some (Told.Create name blocks)) so = inl tt
forms-of head events who q Said.Range (Some (Told.Resize file blocks)) so = inl tt
forms-of head events who q Said.Range (Some (Told.Read file block)) so = inr (inl tt)
forms-of head events who q Said.Range (Some (Told.Fetch file block)) so = inr (inl tt)
forms-of head events who q Said.Range (Some (Told.Write file block value)) so = inr (inr tt)
forms-of head events who q Said.Range (Some (Told.Put file block value)) so = inr (inr tt)
forms-of head events who q Said.Range other so = absurd so
forms-of head events who q answer o so = tt

form-at : (head : Head) (events : List Event) (e : Entry) (place : List Entry) → SaysAt head events e place → IsRefusalAt e place
form-at head events (Entry.A who q (Said.OkValue value)) place so = tt
form-at head events (Entry.A who q answer) place so = forms-of head events who q answer (call_of place who q) so
form-at head events other place so = tt

pub refusals-are-of-their-calls : RefusalsAreOfTheirCallsInEveryRun
refusals-are-of-their-calls most head events bounds within =
    says-all IsRefusalAt head events (form-at head events) (run head events).journal (answers-say-what-was most head events bounds within)

pub answers-tell-what-was : AnswersTellWhatWas
answers-tell-what-was most head events bounds within =
    says-all (TellsSoAt head events) head events (tells-at head events) (run head events).journal (answers-say-what-was most head events bounds within)

pub answers-have-causes : AnswersHaveCauses
answers-have-causes most head events bounds within =
    says-all (HasCauseAt head events) head events (cause-at head events) (run head events).journal (answers-say-what-was most head events bounds within)
