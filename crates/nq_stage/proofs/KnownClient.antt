-- A client's delayed writes and pushes carry the bodies of their writes, over each of its steps. The number of a write is given
use Rattle.std.proofs.Common.{◌≡◌, ◌<◌, ◌^◌, ℕ, ◌+◌, Bool, true, false, List, [], ◌∷◌, ◌++◌, Option, Some, None, if◌then◌else◌, length}
use Rattle.std.proofs.Common.{refl, subst, ap, inr, arith}
use Rattle.nq_base.specs.declared.Answer.{Answer}
use Rattle.nq_base.specs.declared.Call.{Call}
use Rattle.nq_base.specs.declared.Grant.{Grant}
use Rattle.nq_base.specs.declared.Push.{Push}
use Rattle.nq_base.specs.declared.Reply.{Reply}
use Rattle.nq_base.specs.declared.Request.{Request}
use Rattle.nq_base.specs.declared.Tag.{Tag}
use Rattle.nq_base.specs.declared.Who.{Who}
use Rattle.law_runs.proofs.EachOf.{each-find, each-filter}
use Rattle.nq_stage.proofs.Apart.{AreApart, apart-filter, write-apart}
use Rattle.nq_model.proofs.Lists.{each-append, each-map}
use Rattle.nq_model.specs.protocol.Client.{Client, ClientStep, Job, Notice, Ticket, UnderWay, begun, dirty_at, is_push_of, first_dirty, notice_on}
use Rattle.nq_model.specs.protocol.ClientStep.{begins_call, is_called, says_busy, at_time, sends_again}
use Rattle.nq_model.specs.protocol.Hear.{vacates_lease, vacates_noticed, loses, reports, without_lease, push_refused, breaks_chain, if_broken, holds}
use Rattle.nq_model.specs.protocol.Hear.{takes_grant, takes_optional, answers_call, caches_block, purges, knows_revision, then_caches, read_done}
use Rattle.nq_model.specs.protocol.Hear.{marks_through, caches_write, write_done, ends_push, caches_push, push_done, answer_of, spends, attached, pauses}
use Rattle.nq_model.specs.protocol.Hear.{replied, reply_counts, with_through, cancels, notes_notice, evicted, other_push}
use Rattle.nq_model.specs.laws.Journal.{Each}
use Rattle.nq_model.specs.protocol.Message.{Message, call}
use Rattle.nq_model.specs.protocol.Send.{sends_request, after_seq, after_number, takes_push, sends_write, gives_up}
use Rattle.nq_model.specs.protocol.Settle.{answers, names_losses, reads_cached, after_read, delays, after_write}
use Rattle.nq_model.specs.protocol.Settle.{marks_written}
use Rattle.nq_stage.specs.Theorem.{BringsBlock}
use Rattle.walk_steps.proofs.ClientFacts.{fits_job}
use Rattle.walk_steps.proofs.ClientMoves.{some-same, none-some, keeps-or-cancels}
use Rattle.walk_steps.proofs.PartCases.{answers-call-cases, vacates-noticed-cases, reports-cases, if-broken-cases, takes-optional-cases}
use Rattle.walk_steps.proofs.PartCases.{lease-done-cases, then-caches-cases, caches-write-cases, caches-push-cases, vacates-if-clean-cases}
use Rattle.walk_steps.proofs.RepliedCases.{replied-cases}
use Rattle.walk_steps.proofs.SendCases.{pushed}
use Rattle.walk_steps.proofs.StepCases.{evicted-cases}
use Rattle.nq_stage.proofs.KnownBodies.{Asks, Bodies, Carries, IsBody, Knows, KnowsIn, Says, grown, grown-fit, grown-fresh, grown-one, later-fresh, more-asks, more-says, others-known, write-carries, written-at}

-- ---- parts of a step

module _ (g : Bodies) (old : Who) (most : ℕ) where
  -- what is known where other things changed: the call under way, the request, what is delayed, and what was sent
  pub with-call : (t : ClientStep) (call : Option UnderWay) → ((u : UnderWay) → call ≡ Some u → BringsBlock u.call) → (m : KnowsIn g old most t)
      → Knows g old most t.client.who t.client.number call t.client.ticket t.client.dirty t.client.push t.sends
  with-call t u new m = record {
    kept = m.kept;
    host = m.host;
    inc = m.inc;
    few = m.few;
    now = m.now;
    more = m.more;
    others = m.others;
    one = m.one;
    fit = m.fit;
    fresh = m.fresh;
    called = new;
    listed = m.listed;
    apart = m.apart;
    pushes = m.pushes;
    asked = m.asked;
    sent = m.sent;
  }

  pub with-ticket : (t : ClientStep) (ticket : Option Ticket) (sends : List Message) → (m : KnowsIn g old most t) → ((k : Ticket) → ticket ≡ Some k
      → Asks m.now k.request) → Each (Says m.now) sends → Knows g old most t.client.who t.client.number t.client.call ticket t.client.dirty t.client.push sends
  with-ticket t ticket sends m asked sent = record {
    kept = m.kept;
    host = m.host;
    inc = m.inc;
    few = m.few;
    now = m.now;
    more = m.more;
    others =
        m.others;
    one = m.one;
    fit = m.fit;
    fresh = m.fresh;
    called = m.called;
    listed = m.listed;
    apart = m.apart;
    pushes = m.pushes;
    asked = asked;
    sent = sent;
  }

  pub with-dirty : (t : ClientStep) (dirty : List Push) (push : Option Push) → (m : KnowsIn g old most t) → Each (Carries m.now t.client.who) dirty
      → AreApart dirty → ((p : Push) → push ≡ Some p → Carries m.now t.client.who p) → Knows g old most t.client.who t.client.number t.client.call
      t.client.ticket dirty push t.sends
  with-dirty t dirty push m listed apart pushes = record {
    kept = m.kept;
    host = m.host;
    inc = m.inc;
    few = m.few;
    now = m.now;
    more = m.more;
    others = m.others;
    one = m.one;
    fit = m.fit;
    fresh = m.fresh;
    called = m.called;
    listed = listed;
    apart = apart;
    pushes = pushes;
    asked =
        m.asked;
    sent = m.sent;
  }

  pub with-sends : (t : ClientStep) (message : Message) → (m : KnowsIn g old most t) → Says m.now message → Knows g old most t.client.who
      t.client.number t.client.call t.client.ticket t.client.dirty t.client.push (t.sends ++ message ∷ [])
  with-sends t message m says = with-ticket t t.client.ticket (t.sends ++ message ∷ []) m m.asked (each-append (Says m.now) t.sends (message ∷ [])
      m.sent (says, tt))

  -- a number was given, or may be
  pub later : (t : ClientStep) → KnowsIn g old most t → KnowsIn g old (most + 1) t
  later t m = record {
    kept = m.kept;
    host = m.host;
    inc = let i = m.inc in omega arith;
    few = let i = m.few in omega arith;
    now = m.now;
    more =
        m.more;
    others = m.others;
    one = m.one;
    fit = m.fit;
    fresh = m.fresh;
    called = m.called;
    listed = m.listed;
    apart = m.apart;
    pushes = m.pushes;
    asked = m.asked;
    sent = m.sent;
  }

  pub counted : (t : ClientStep) → (m : KnowsIn g old most t) → Knows g old (most + 1) t.client.who (t.client.number + 1) t.client.call
      t.client.ticket t.client.dirty t.client.push t.sends
  counted t m = record {
    kept = m.kept;
    host = m.host;
    inc = let i = m.inc in omega arith;
    few = let i = m.few in omega arith;
    now = m.now;
    more =
        m.more;
    others = m.others;
    one = m.one;
    fit = m.fit;
    fresh = later-fresh m.now t.client.who t.client.number m.fresh;
    called = m.called;
    listed =
        m.listed;
    apart = m.apart;
    pushes = m.pushes;
    asked = m.asked;
    sent = m.sent;
  }

  pub answered : (t : ClientStep) (q : ℕ) (a : Answer) (by : Option ℕ) → KnowsIn g old most t → KnowsIn g old most (answers t q a by)
  unfolding answers
  answered t q a by m = with-call t None (λ u e. none-some u e) m

  pub named : (t : ClientStep) (q file : ℕ) → KnowsIn g old most t → KnowsIn g old most (names_losses t q file)
  unfolding answers
  named t q file m = with-call t None (λ u e. none-some u e) m

  pub read-knows : (t : ClientStep) (u : UnderWay) (file block : ℕ) (body : List ℕ) → KnowsIn g old most t
      → KnowsIn g old most (reads_cached t u file block body)
  unfolding reads_cached answers after_read
  read-knows t u file block body m = with-call t None (λ u e. none-some u e) m

  pub delayed : (t : ClientStep) (file block : ℕ) (body : List ℕ) → most < 2 ^ 32 → (file < 2 ^ 32) × (block < 2 ^ 32) × (length body ≡ 4096)
      → KnowsIn g old most t → KnowsIn g old (most + 1) (delays t file block body)
  unfolding after_write
  delayed t file block body small brings m =
      let who = t.client.who in
      let number = t.client.number in
      let new : IsBody (written-at who file block number) body = record {
        written = record { host = m.host; inc = let i = m.inc in omega arith; file = brings.0; block = brings.1; last = let i = m.few in omega arith };
        size = brings.2;
      } in
      record {
        kept = m.kept;
        host = m.host;
        inc = let i = m.inc in omega arith;
        few = let i = m.few in omega arith;
        now = grown m.now who file block number body;
        more = λ v b i. inr (m.more v b i);
        others = others-known g m.now who file block number body m.others;
        one = grown-one m.now who file block number body m.fresh m.one;
        fit = grown-fit m.now who file block number body new m.fit;
        fresh = grown-fresh m.now who file block number body m.fresh;
        called = m.called;
        listed = write-carries m.now who file block number body t.client.dirty (dirty_at file block t.client.dirty) m.listed;
        apart = write-apart file block number body t.client.dirty (dirty_at file block t.client.dirty) refl m.apart;
        pushes = λ p e. inr (m.pushes p e);
        asked = λ k e. more-asks m.now (grown m.now who file block number body) (λ v b i. inr i) k.request (m.asked k e);
        sent = each-map (Says m.now) (Says (grown m.now who file block number body)) t.sends (more-says m.now (grown m.now who file block number body)
            (λ v b i. inr i)) m.sent;
      }

  pub marked : (t : ClientStep) (u : UnderWay) → BringsBlock u.call → KnowsIn g old most t → KnowsIn g old most (marks_written t u)
  unfolding marks_written
  marked t u brings m = with-call t (Some (record u { written = true })) (λ v e. subst (λ z. BringsBlock z.call) (some-same _ v e) brings) m

  -- ---- a reply

  pub spent : (t : ClientStep) → KnowsIn g old most t → KnowsIn g old most (spends t)
  unfolding spends
  spent t m = with-ticket t None t.sends m (λ k e. none-some k e) m.sent

  pub attached-knows : (t : ClientStep) → KnowsIn g old most t → KnowsIn g old most (attached t)
  unfolding attached
  attached-knows t m = m

  pub vacated : (t : ClientStep) (file : ℕ) (tag : Tag) → KnowsIn g old most t → KnowsIn g old most (vacates_lease t file tag)
  unfolding vacates_lease
  vacated t file tag m = with-sends t (call t.client.xid (Request.Vacated t.client.who file tag)) m tt

  pub vacated-noticed : (t : ClientStep) (file : ℕ) (o : Option Notice) → KnowsIn g old most t → KnowsIn g old most (vacates_noticed t file o)
  vacated-noticed t file o m = vacates-noticed-cases t file o (KnowsIn g old most) (λ e. m) (λ n e. vacated t file n.tag m)

  pub other-pushes : (now : Bodies) (who : Who) (file : ℕ) (o : Option Push) → ((p : Push) → o ≡ Some p → Carries now who p) → (p : Push)
      → other_push file o ≡ Some p → Carries now who p
  other-pushes now who file None h p e = none-some p e
  other-pushes now who file (Some x) h p e = step (is_push_of file x) e
    where
      step : (b : Bool) → (if b then None else Some x) ≡ Some p → Carries now who p
      step true e = none-some p e
      step false e = h p e

  pub lost : (t : ClientStep) (file : ℕ) → KnowsIn g old most t → KnowsIn g old most (loses t file)
  unfolding loses
  lost t file m = with-dirty t _ (other_push file t.client.push) m (each-filter (Carries m.now t.client.who) _ t.client.dirty m.listed)
      (apart-filter _ t.client.dirty m.apart) (other-pushes m.now t.client.who file t.client.push m.pushes)

  pub reported : (t : ClientStep) (file : ℕ) → KnowsIn g old most t → KnowsIn g old most (reports t file)
  reported t file m = reports-cases t file (KnowsIn g old most) (λ none. m) (λ u is waits. m) (λ u is waits. named t u.q file m)

  pub held : (t : ClientStep) (file : ℕ) (grant : Grant) (at : ℕ) → KnowsIn g old most t → KnowsIn g old most (holds t file grant at)
  unfolding holds
  held t file grant at m = m

  pub broken : (t : ClientStep) (file : ℕ) → KnowsIn g old most t → KnowsIn g old most (breaks_chain t file)
  broken t file m = reported (vacates_noticed (loses t file) file (notice_on file t.client.notices)) file (vacated-noticed (loses t file) file
      (notice_on file t.client.notices) (lost t file m))

  pub granted : (t : ClientStep) (file : ℕ) (grant : Grant) (at : ℕ) → KnowsIn g old most t → KnowsIn g old most (takes_grant t file grant at)
  granted t file grant at m = held (if_broken t file grant) file grant at (if-broken-cases t file grant (KnowsIn g old most) (λ e. m)
      (λ lease has breaks dirty. broken t file m))

  pub takes : (t : ClientStep) (file : ℕ) (o : Option Grant) (at : ℕ) → KnowsIn g old most t → KnowsIn g old most (takes_optional t file o at)
  takes t file o at m = takes-optional-cases t file o at (KnowsIn g old most) (λ e. m) (λ grant e. granted t file grant at m)

  pub caches : (t : ClientStep) (file block : ℕ) (body : List ℕ) → KnowsIn g old most t → KnowsIn g old most (caches_block t file block body)
  unfolding caches_block
  caches t file block body m = m

  pub purged : (t : ClientStep) (file : ℕ) → KnowsIn g old most t → KnowsIn g old most (purges t file)
  unfolding purges
  purged t file m = m

  pub known : (t : ClientStep) (file rev : ℕ) → KnowsIn g old most t → KnowsIn g old most (knows_revision t file rev)
  unfolding knows_revision
  known t file rev m = m

  pub unleased : (t : ClientStep) (file : ℕ) → KnowsIn g old most t → KnowsIn g old most (without_lease t file)
  unfolding without_lease
  unleased t file m = m

  pub ended : (t : ClientStep) → KnowsIn g old most t → KnowsIn g old most (ends_push t)
  unfolding ends_push
  ended t m = with-dirty t t.client.dirty None m m.listed m.apart (λ p e. none-some p e)

  pub through-brings : (on : Bool) (o : Option UnderWay) → ((u : UnderWay) → o ≡ Some u → BringsBlock u.call) → (u : UnderWay) → with_through on o
      ≡ Some u → BringsBlock u.call
  through-brings on None h u e = none-some u e
  through-brings on (Some v) h u e = subst (λ z. BringsBlock z.call) (some-same _ u e) (h v refl)

  pub marks : (on : Bool) (t : ClientStep) → KnowsIn g old most t → KnowsIn g old most (marks_through on t)
  unfolding marks_through
  marks on t m = with-call t (with_through on t.client.call) (through-brings on t.client.call m.called) m

  pub paused : (t : ClientStep) → KnowsIn g old most t → KnowsIn g old most (pauses t)
  unfolding pauses marks_through
  paused t m = with-call t (with_through false t.client.call) (through-brings false t.client.call m.called) m

  pub answers-know : (t : ClientStep) (a : Answer) (by : Option ℕ) → KnowsIn g old most t → KnowsIn g old most (answers_call t a by)
  answers-know t a by m = answers-call-cases t a by (KnowsIn g old most) (λ e. m) (λ u e. answered t u.q a by m)

  pub read-done : (t : ClientStep) (file block : ℕ) (body : List ℕ) (o : Option Grant) (at number : ℕ) → KnowsIn g old most t
      → KnowsIn g old most (read_done t file block body o at number)
  read-done t file block body o at number m =
      let k = takes t file o at m in
      answers-know (then_caches (takes_optional t file o at) file block body o) _ _ (then-caches-cases (takes_optional t file o at) file block body o
      (KnowsIn g old most) (λ e. caches _ file block body k) (λ e. k))

  pub write-done : (t : ClientStep) (file block : ℕ) (body : List ℕ) (rev : ℕ) → KnowsIn g old most t → KnowsIn g old most (write_done t file block body rev)
  write-done t file block body rev m =
      answers-know (knows_revision (caches_write t file block body rev) file rev) _ None (known (caches_write t file block body rev) file rev
      (caches-write-cases t file block body rev (KnowsIn g old most) (λ a b. caches t file block body m) (purged t file m)))

  pub push-done : (t : ClientStep) (file block : ℕ) (body : List ℕ) (rev : ℕ) → KnowsIn g old most t → KnowsIn g old most (push_done t file block body rev)
  push-done t file block body rev m =
      let k = known (ends_push t) file rev (ended t m) in
      let c = caches-push-cases (knows_revision (ends_push t) file rev) file block body (KnowsIn g old most) (λ e. k) (λ e. caches _ file block body k) in
      vacates-if-clean-cases (caches_push (knows_revision (ends_push t) file rev) file block body) file (KnowsIn g old most) c
      (λ n clean e. vacated _ file n.tag c)

  pub refused-knows : (t : ClientStep) (file : ℕ) → KnowsIn g old most t → KnowsIn g old most (push_refused t file)
  refused-knows t file m = reported _ file (vacated-noticed _ file _ (unleased _ file (lost t file m)))

  pub replied-knows : (c : Client) (number : ℕ) (ticket : Ticket) (r : Reply) → fits_job ticket.job ticket.request ≡ true → reply_counts r ticket
      ≡ true → KnowsIn g old most (begun c) → KnowsIn g old most (replied (begun c) number ticket r)
  replied-knows c number ticket r fits counts m =
      let k = spent (begun c) m in
      replied-cases c number ticket r (KnowsIn g old most) fits counts (record {
        attaching = λ who inc job asks told. attached-knows _ k;
        named = λ answer job n. answers-know _ answer None k;
        reading = λ who q file block want inc rev body grant of told. read-done _ file block body grant ticket.first number k;
        leasing = λ who file want inc grant of told. lease-done-cases _ file grant ticket.first (KnowsIn g old most)
            (λ e. takes _ file grant ticket.first k) (λ e. marks true _ (takes _ file grant ticket.first k));
        writing = λ who seq file block first last body inc rev of told. write-done _ file block body rev k;
        resizing = λ who seq q file blocks inc rev of told. answers-know _ _ None (known _ file rev k);
        removing = λ who seq q file inc of told. answers-know _ _ None k;
        renewing = λ who file want inc grant job asks told. takes _ file grant ticket.first k;
        pushed = λ who seq file block first last base body inc rev job asks told. push-done _ file block body rev k;
        putting_off = λ inc status job told off. paused _ k;
        refusing = λ inc status job told counted final. answers-know _ (answer_of status) None k;
        renewal_refused = λ inc status job told final. k;
        push_refused = λ who seq file block first last base body inc status job asks told final. refused-knows _ file k;
      })

  -- ---- a notice

  pub cancelled-knows : (t : ClientStep) (file : ℕ) → KnowsIn g old most t → KnowsIn g old most (cancels t file)
  unfolding cancels
  cancelled-knows t file m = with-ticket t _ t.sends m (λ k e. m.asked k (keeps-or-cancels file t.client.ticket k e).0) m.sent

  pub notes : (t : ClientStep) (file : ℕ) (tag : Tag) → KnowsIn g old most t → KnowsIn g old most (notes_notice t file tag)
  unfolding notes_notice
  notes t file tag m = m

  pub evicted-knows : (t : ClientStep) (file : ℕ) (tag : Tag) → KnowsIn g old most t → KnowsIn g old most (evicted (cancels t file) file tag)
  evicted-knows t file tag m = evicted-cases (cancels t file) file tag (KnowsIn g old most) (record {
    clean = λ e. vacated (cancels t file) file tag (cancelled-knows t file m);
    waiting = λ e. notes (cancels t file) file tag (cancelled-knows t file m);
  })

  -- ---- a call, and a tick that only sends again

  pub begins : (c : Client) (op : Call) → KnowsIn g old most (begun c) → KnowsIn g old most (begins_call c op)
  unfolding begins_call
  begins c op m = m

  pub busy : (c : Client) (op : Call) → KnowsIn g old most (begun c) → KnowsIn g old most (says_busy (begins_call c op))
  unfolding says_busy begins_call
  busy c op m = m

  pub calls : (c : Client) (op : Call) → BringsBlock op → KnowsIn g old most (begun c) → KnowsIn g old most (is_called (begins_call c op) op)
  unfolding is_called begins_call
  calls c op brings m = with-call (begun c) _ (λ u e. subst (λ z. BringsBlock z.call) (some-same _ u e) brings) m

  pub timed : (c : Client) (now : ℕ) → KnowsIn g old most (begun c) → KnowsIn g old most (begun (at_time c now))
  unfolding at_time
  timed c now m = m

  pub again : (c : Client) (now : ℕ) (ticket : Ticket) → c.ticket ≡ Some ticket → KnowsIn g old most (begun c)
      → KnowsIn g old most (sends_again (begun (at_time c now)) ticket)
  unfolding sends_again at_time
  again c now ticket is m =
      let asks = m.asked ticket is in
      with-ticket (begun c) _ _ m (λ k e. subst (Asks m.now) (ap (λ z. z.request) (some-same _ k e)) asks) (asks, tt)

  -- ---- the next request

  pub sends-know : (t : ClientStep) (job : Job) (r : Request) (m : KnowsIn g old most t) → Asks m.now r → KnowsIn g old most (sends_request t job r)
  unfolding sends_request
  sends-know t job r m asks =
      with-ticket t _ (t.sends ++ call t.client.xid r ∷ []) m
      (λ k e. subst (λ z. Asks m.now z.request) (some-same _ k e) asks)
      (each-append (Says m.now) t.sends (call t.client.xid r ∷ []) m.sent (asks, tt))

  pub seq-knows : (t : ClientStep) → KnowsIn g old most t → KnowsIn g old most (after_seq t)
  unfolding after_seq
  seq-knows t m = m

  pub gives-knows : (t : ClientStep) (file : ℕ) → KnowsIn g old most t → KnowsIn g old most (gives_up t file)
  unfolding gives_up
  gives-knows t file m = m

  pub push-knows : (t : ClientStep) (file : ℕ) (p : Push) → first_dirty file t.client.dirty ≡ Some p → KnowsIn g old most t → KnowsIn g old most (pushed t p)
  unfolding takes_push after_seq sends_request
  push-knows t file p first m =
      let carries = each-find (Carries m.now t.client.who) (is_push_of file) t.client.dirty p first m.listed in
      record {
        kept = m.kept;
        host = m.host;
        inc = m.inc;
        few = m.few;
        now = m.now;
        more = m.more;
        others = m.others;
        one = m.one;
        fit = m.fit;
        fresh = m.fresh;
        called = m.called;
        listed = each-filter (Carries m.now t.client.who) _ t.client.dirty m.listed;
        apart = apart-filter _ t.client.dirty m.apart;
        pushes = λ x e. subst (Carries m.now t.client.who) (some-same p x e) carries;
        asked = λ k e. subst (λ z. Asks m.now z.request) (some-same _ k e) carries;
        sent = each-append (Says m.now) t.sends _ m.sent (carries, tt);
      }

  pub through-knows : (t : ClientStep) (file block : ℕ) (body : List ℕ) → KnowsIn g old most t → KnowsIn g old (most + 1) (sends_write t file block body)
  unfolding after_number sends_request
  through-knows t file block body m =
      let k = counted t m in
      record {
        kept = k.kept;
        host = k.host;
        inc = k.inc;
        few = k.few;
        now = k.now;
        more = k.more;
        others = k.others;
        one = k.one;
        fit = k.fit;
        fresh = k.fresh;
        called = k.called;
        listed = k.listed;
        apart = k.apart;
        pushes = k.pushes;
        asked = λ x e. subst (λ z. Asks k.now z.request) (some-same _ x e) tt;
        sent = each-append (Says k.now) t.sends _ k.sent (tt, tt);
      }
