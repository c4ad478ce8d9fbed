-- What is used of each run holds.
use Rattle.std.proofs.Common.{◌≡◌, ◌⊎◌, ℕ, ◌&&◌, Bool, true, false, suc, List, [], ◌∷◌, Option, Some, None, if◌then◌else◌, length, refl, sym, ap}
use Rattle.std.proofs.Common.{subst, ◌∙◌, inl, inr}
use Rattle.std.specs.List.{find}
use Rattle.std.specs.Prelude.{slice_get}
use Rattle.std.proofs.lemmas.Bool.{and_parts}
use Rattle.nq_base.specs.declared.Event.{Event}
use Rattle.nq_base.specs.declared.Grant.{Grant}
use Rattle.nq_base.specs.declared.Mode.{Mode}
use Rattle.nq_base.specs.declared.Party.{Party}
use Rattle.nq_base.specs.declared.Reply.{Reply}
use Rattle.nq_base.specs.declared.Request.{Request}
use Rattle.nq_base.specs.declared.Row.{Row}
use Rattle.nq_base.specs.declared.Tag.{Tag}
use Rattle.nq_base.specs.declared.Want.{Want}
use Rattle.nq_base.specs.declared.Who.{Who}
use Rattle.nq_model.specs.protocol.Client.{Client, ClientStep, Job, attaching, for_call, renewing, pushing, Ticket}
use Rattle.nq_model.specs.protocol.Hear.{hear, reply_counts, is_of_procedure, wants_of, inc_of}
use Rattle.nq_model.specs.protocol.Message.{Message, Packet, call, reply, error, datagram_of}
use Rattle.nq_model.specs.protocol.Server.{to_host}
use Rattle.nq_model.specs.protocol.ServerStep.{receive}
use Rattle.nq_model.specs.protocol.Settle.{is_for_call}
use Rattle.nq_model.specs.protocol.Skew.{IsWithinSkew}
use Rattle.nq_model.specs.protocol.Stepped.{most_sends}
use Rattle.nq_model.specs.protocol.Table.{is_writing, find_row}
use Rattle.nq_model.specs.protocol.World.{Head, from_host, sending_host, run}
use Rattle.nq_model.specs.laws.Bounds.{KeepsBounds}
use Rattle.walk_steps.proofs.WorldSends.{events-send-few}
use Rattle.walk_steps.proofs.ClientMoves.{some-same, none-some}
use Rattle.walk_steps.proofs.StepCases.{heard-cases}
use Rattle.walk_steps.proofs.Packets.{In, in-get, told-same, Asked}
use Rattle.walk_steps.proofs.ServerSays.{IsSaid, said_reply, said_error, said_notice}
use Rattle.walk_steps.proofs.Worlds.{IsAt, run-holds, received-said}
use Rattle.walk_steps.proofs.RowChanges.{own-key}
use Rattle.walk_steps.proofs.Tests.{there-is}
use Rattle.law_rounds.specs.Efforts.{is_idle}
use Rattle.law_rounds.specs.NamedRows.{by_notice, by_vacated}
use Rattle.law_rounds.specs.SendsAgain.{is_cancelled}
use Rattle.law_rounds.specs.Turns.{turns_left, IsOfUseTo, TakesTurn}
use Rattle.law_rounds.proofs.ClientCount.{client-count}
use Rattle.law_rounds.proofs.HostsBelow.{stands-apart}
use Rattle.law_rounds.proofs.Meant.{requests-are-meant}
use Rattle.law_rounds.proofs.NamedRows.{named-rows}
use Rattle.law_rounds.proofs.NoticeRows.{member-found, notices-mark}
use Rattle.law_rounds.proofs.SharedRows.{asks-has-row}
use Rattle.law_rounds.proofs.SharingRows.{rows-to-go}
use Rattle.law_rounds.proofs.Turns.{turns-fall}
use Rattle.law_rounds.proofs.Facts.{asked_by, asked_for, wants_in, Takes, IsNamed, Facts, AskersHaveRows}
use Rattle.law_rounds.proofs.RowCount.{few-rows}
use Rattle.law_rounds.proofs.UsefulReplies.{NoWriter, kind}
use Rattle.walk_steps.proofs.ReplyRuns.{each-answers}

-- ---- lists

find-in : {A : Type 0} (test : A → Bool) (xs : List A) (x : A) → find test xs ≡ Some x → In xs x
find-in test [] x e = none-some x e
find-in test (y ∷ xs) x e = by (find-in test xs x) (test y) e
  where
    by : (find test xs ≡ Some x → In xs x) → (b : Bool) → (if b then Some y else find test xs) ≡ Some x → (y ≡ x) ⊎ In xs x
    by again true f = inl (some-same y x f)
    by again false f = inr (again f)

at-place : {A : Type 0} (xs : List A) (x : A) → In xs x → (i : ℕ) × (slice_get xs i ≡ Some x)
at-place [] x h = absurd h
at-place (y ∷ xs) x (inl e) = (0, ap Some e)
at-place (y ∷ xs) x (inr h) = let rest = at-place xs x h in (suc rest.0, rest.1)

-- ---- what a client asks for its call

cancelled-is : (file : ℕ) (o : Option Ticket) → is_cancelled file o ≡ wants_in file (asked_for o)
cancelled-is file None = refl
cancelled-is file (Some t) = by t.job
  where
    by : (job : Job) → (is_for_call job && wants_of file t.request) ≡ wants_in file (asked_by job t.request)
    by for_call = refl
    by attaching = refl
    by renewing = refl
    by pushing = refl

asked-is : (t : Ticket) → is_for_call t.job ≡ true → asked_by t.job t.request ≡ Some t.request
asked-is t e = by t.job e
  where
    by : (job : Job) → is_for_call job ≡ true → asked_by job t.request ≡ Some t.request
    by for_call f = refl
    by attaching f = absurd (cc)
    by renewing f = absurd (cc)
    by pushing f = absurd (cc)

takes-of : (c : Client) (m : Message) (t : ClientStep) → TakesTurn c m t → Takes turns_left c m t
takes-of c m t (TakesTurn.fewer less) = Takes.fewer less
takes-of c m t (TakesTurn.again x file tag ticket is asks cut sends kept no_more) =
    let k = and_parts (is_for_call ticket.job) (wants_of file ticket.request) cut in
    Takes.again x file tag ticket.request is (ap asked_for asks ∙ asked-is ticket k.0) k.1 sends (ap asked_for kept) no_more
takes-of c m t (TakesTurn.silent x file tag is same off shape no_more) = Takes.silent x file tag is (sym (cancelled-is file c.ticket) ∙ off)
    (ap asked_for same) shape no_more

-- ---- leases that a client hears of for its call are of use

lease-for : (inc : ℕ) (grant : Option Grant) (r : Request) → is_of_procedure (Reply.GetLease inc grant) r ≡ true → (who : Who) × (file : ℕ)
    × (want : Want) × (r ≡ Request.GetLease who file want)
lease-for inc grant (Request.GetLease who file want) e = (who, file, want, refl)
lease-for inc grant other e = absurd (cc)

module _ (head : Head) (events : List Event) where
  no-idle : (host : ℕ) (c : Client) (xid : ℕ) (ticket : Ticket) (inc : ℕ) (grant : Option Grant) → slice_get (run head events).clients host ≡ Some c
      → In (run head events).packets (to_host host (reply xid (Reply.GetLease inc grant))) → c.ticket ≡ Some ticket → ticket.job ≡ for_call
      → xid ≡ ticket.xid → inc ≡ c.who.inc → reply_counts (Reply.GetLease inc grant) ticket ≡ true → is_idle grant ≡ false
  no-idle host c xid ticket inc grant at told asks job own same counts = by (is_idle grant) refl
    where
      is_at : IsAt host c (run head events).packets
      is_at = (run-holds head events).clients host c at

      no : is_idle grant ≡ true → ⊥
      no idle =
          let k = each-answers kind head events host xid (Reply.GetLease inc grant) told in
          let asked = is_at.mail.asked xid k.asks k.who (subst (λ n. Asked (run head events).packets n xid k.asks) (sym is_at.here) k.sent) k.by in
          let mine : ticket.request ≡ k.asks = asked.same (sym k.inc ∙ same) ticket asks (sym own) in
          let lease = lease-for inc grant ticket.request counts in
          let u = there-is c.call (is_at.alone.asking.called ticket asks job) in
          let meant = (requests-are-meant head events host c ticket u.0 at asks job u.1).leases lease.0 lease.1 lease.2 lease.3 in
          let both : Request.GetLease lease.0 lease.1 lease.2 ≡ Request.GetLease c.who lease.1 (record { mode = Mode.Writing; term = c.term }) =
          sym lease.3 ∙ meant.1 in
          let wants_writing : is_writing lease.2.mode ≡ true = ap is_writing (mode-same lease.0 c.who lease.1 lease.1 lease.2
          (record { mode = Mode.Writing; term = c.term }) both) in
          let reads : NoWriter (Request.GetLease lease.0 lease.1 lease.2) = subst NoWriter (sym mine ∙ lease.3) (k.of idle) in
          let bad : true ≡ false = sym wants_writing ∙ reads in
          cc
        where
          mode-same : (a b : Who) (f g : ℕ) (v x : Want) → Request.GetLease a f v ≡ Request.GetLease b g x → v.mode ≡ x.mode
          mode-same a b f g v x e = let one : v ≡ x = cc in ap (λ (z : Want). z.mode) one

      by : (b : Bool) → is_idle grant ≡ b → is_idle grant ≡ false
      by false e = e
      by true e = absurd (no e)

  of-use : (host k : ℕ) (c : Client) (m : Message) (t : ClientStep) → slice_get (run head events).clients host ≡ Some c → In (run head events).packets
      (to_host host m) → hear c k m ≡ Some t → IsOfUseTo c m
  of-use host k c m t at told hears = heard-cases c k m t (λ v. IsOfUseTo c m) hears (record {
    answered = λ xid r ticket is asks own inc counts. λ mine has job x i grant e.
        let same : reply xid r ≡ reply x (Reply.GetLease i grant) = sym is ∙ e in
        let one_x : xid ≡ x = cc in
        let one_r : r ≡ Reply.GetLease i grant = cc in
        let one_ticket : mine ≡ ticket = some-same mine ticket (sym has ∙ asks) in
        no-idle host c x ticket i grant at (subst (λ z. In (run head events).packets (to_host host z)) e told) asks (ap (λ (z : Ticket). z.job)
        (sym one_ticket) ∙ job) (sym one_x ∙ own) (ap inc_of (sym one_r) ∙ inc) (subst (λ z. reply_counts z ticket ≡ true) one_r counts);
    noticed = λ xid file tag is older. λ mine has job x i grant e. absurd (let bad : call xid (Request.Evicted c.who file tag)
        ≡ reply x (Reply.GetLease i grant) = sym is ∙ e in cc);
  })

  -- ---- notices

  marked-rows : (k : ℕ) (p q : Packet) → slice_get (run head events).packets k ≡ Some p → p.to ≡ Party.Server
      → In (receive (run head events).server (sending_host p.sender) (length (run head events).packets) (datagram_of p.message)).sends q
      → (host x file : ℕ) (who : Who) (tag : Tag) → q ≡ to_host host (call x (Request.Evicted who file tag))
      → IsNamed (receive (run head events).server (sending_host p.sender) (length (run head events).packets)
      (datagram_of p.message)).server.table.rows host file who tag
  marked-rows k p q sent to i host x file who tag e = by (received-said (run head events) p (in-get (run head events).packets k p sent) to
      (run-holds head events) q i)
    where
      rows : List Row
      rows = (receive (run head events).server (sending_host p.sender) (length (run head events).packets) (datagram_of p.message)).server.table.rows

      place : (n : ℕ) × (slice_get (receive (run head events).server (sending_host p.sender) (length (run head events).packets)
          (datagram_of p.message)).sends n ≡ Some q)
      place = at-place _ q i

      go : host ≡ who.host → IsNamed (receive (run head events).server (sending_host p.sender) (length (run head events).packets)
          (datagram_of p.message)).server.table.rows host file who tag
      go at =
          let g = notices-mark (run head events).server (sending_host p.sender) (length (run head events).packets) (datagram_of p.message)
          (stands-apart head events).one_each place.0 host x file who tag (place.1 ∙ ap Some e) in
          record {
            row = g.row;
            there = ap (λ h. find_row file h (receive (run head events).server (sending_host p.sender)
                (length (run head events).packets) (datagram_of p.message)).server.table.rows) at ∙ g.there;
            holder = g.holder;
            latest = g.latest;
          }

      by : IsSaid (run head events).packets q → IsNamed (receive (run head events).server (sending_host p.sender) (length (run head events).packets)
          (datagram_of p.message)).server.table.rows host file who tag
      by (said_reply h n a is k2) = let parts = told-same h host (reply n a) (call x (Request.Evicted who file tag)) (sym is ∙ e) in
          absurd (let bad : reply n a ≡ call x (Request.Evicted who file tag) = parts.1 in cc)
      by (said_error h n er is) = let parts = told-same h host (error n er) (call x (Request.Evicted who file tag)) (sym is ∙ e) in
          absurd (let bad : error n er ≡ call x (Request.Evicted who file tag) = parts.1 in cc)
      by (said_notice n row is) =
          let parts = told-same row.who.host host (call n (Request.Evicted row.who row.file row.tag)) (call x (Request.Evicted who file tag)) (sym is ∙ e) in
          let one_who : row.who ≡ who = who-same n x row.who who row.file file row.tag tag parts.1 in
          go (sym parts.0 ∙ ap (λ (z : Who). z.host) one_who)
        where
          who-same : (a b : ℕ) (u v : Who) (f g : ℕ) (s t : Tag) → call a (Request.Evicted u f s) ≡ call b (Request.Evicted v g t) → u ≡ v
          who-same a b u v f g s t z = cc

-- ---- all of it

pub run-facts : (most : ℕ) (head : Head) (events : List Event) → KeepsBounds most head events → IsWithinSkew head.hosts most events
    → Facts head.hosts most_sends turns_left (run head events)
run-facts most head events bounds within = record {
  holds = run-holds head events;
  count = client-count head events;
  hosts_most = bounds.hosts;
  noticed = λ k host x file who tag row sent there latest. named-rows most head events bounds within file host row
      (by_notice k x who (subst (λ g. slice_get (run head events).packets k ≡ Some (to_host host (call x (Request.Evicted who file g)))) (sym latest)
      sent)) there;
  vacated = λ k host x file who tag row sent there latest. named-rows most head events bounds within file host row
      (by_vacated k x who (subst (λ g. slice_get (run head events).packets k ≡ Some (from_host host (call x (Request.Vacated who file g))))
      (sym latest) sent)) there;
  going = λ file host row there evicting. rows-to-go most head events bounds within file host row there evicting;
  current = (stands-apart head events).current;
  alone = (stands-apart head events).alone;
  members = λ test row found. member-found row.file row.who.host row (run head events).server.table.rows (own-key row)
      ((stands-apart head events).one_each row.file row.who.host) (find-in test (run head events).server.table.rows row found);
  few_rows = few-rows head events;
  few_sent = λ k. events-send-few head events (Event.Deliver k);
  takes = λ host k c m t at sent hears. takes-of c m t (turns-fall head events host c k m t at hears (of-use head events host k c m t at
      (in-get (run head events).packets k (to_host host m) sent) hears));
  marks = λ k p q sent to i host x file who tag e. marked-rows head events k p q sent to i host x file who tag e;
}

pub askers-have-rows : AskersHaveRows
askers-have-rows table q want wants room = let has = asks-has-row table q want wants room in (has.row, has.there)
