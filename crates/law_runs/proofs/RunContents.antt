-- In every run a revision of a file has one content.
use Rattle.std.proofs.Common.{◌≡◌, ◌<◌, ◌⊎◌, ℕ, zero, suc, ◌+◌, ◌==◌, Bool, true, false, List, [], ◌∷◌, ◌++◌, Option, Some, None, if◌then◌else◌}
use Rattle.std.proofs.Common.{nat_lt, map, replicate, length, refl, sym, subst, ap, ◌∙◌, arith, inl, inr}
use Rattle.std.specs.Prelude.{slice_get, unwrap_or, ◌-◌}
use Rattle.std.proofs.lemmas.Bool.Decides.{nat_tests}
use Rattle.std.proofs.lemmas.List.{length-replicate}
use Rattle.nq_base.specs.Block.{value_of, zeros}
use Rattle.nq_base.specs.declared.Entry.{Entry}
use Rattle.nq_base.specs.declared.Event.{Event}
use Rattle.nq_base.specs.declared.Party.{Party}
use Rattle.nq_base.specs.declared.Request.{Request}
use Rattle.nq_base.specs.declared.Who.{Who}
use Rattle.walk_steps.proofs.ClientMoves.{some-same, none-some}
use Rattle.walk_files.proofs.ContentsSent.{call-mid, tick-mid}
use Rattle.walk_files.proofs.ClientHears.{hear-mid}
use Rattle.walk_files.proofs.KnownContents.{part_of, IsOverKnown, IsFair, Mid}
use Rattle.walk_files.proofs.Facts.{Follows, follows, line-follows}
use Rattle.walk_files.proofs.FileMoves.{files-idle, unused-idle, map-replicate, zeros-value}
use Rattle.walk_files.proofs.ServerContents.{hears}
use Rattle.walk_files.proofs.UnchangedContents.{IsFirst, Hearing}
use Rattle.walk_files.proofs.ServerDelays.{receive-never, tick-never, crash-never}
use Rattle.walk_files.proofs.ServerTimes.{Standing, ticks, crashes}
use Rattle.law_runs.proofs.WorldFacts.{ClientFits, begun-mid, fits-follows, history_now, Fits, client-fits, server-fits}
use Rattle.nq_model.specs.laws.RevisionsHaveOneContent.{length_of, first_length}
use Rattle.walk_steps.proofs.Runs.{Runs}
use Rattle.walk_steps.proofs.LeaseIntervals.{run-runs}
use Rattle.walk_steps.proofs.NoCrash.{bounds-before}
use Rattle.nq_model.specs.laws.Bounds.{KeepsBounds}
use Rattle.nq_model.specs.protocol.Client.{Client, ClientStep, attaching, Ticket, begun}
use Rattle.nq_model.specs.protocol.ClientStep.{client_call, client_tick, restart, starts, fresh_client, attached_client, next_incarnation}
use Rattle.nq_model.specs.protocol.Hear.{hear}
use Rattle.nq_model.specs.protocol.Kept.{File, blocks_of, find_file, host_row, fresh_row, new_file}
use Rattle.nq_model.specs.protocol.Message.{Message, Packet, Datagram, call, datagram_of, asker, sequence_of}
use Rattle.nq_model.specs.protocol.Profile.{most_hosts}
use Rattle.nq_model.specs.protocol.ServerStep.{receive, tick, crash, boot}
use Rattle.nq_model.specs.protocol.Skew.{IsWithinSkew}
use Rattle.nq_model.specs.protocol.World.{Head, World, after_server, after_client, at_client, after_hearing, sending_host, deliver_to_client, deliver_to}
use Rattle.nq_model.specs.protocol.World.{deliver, step, first_files, first_row, start, run}
use Rattle.walk_steps.proofs.WorldSequences.{Draws, run-draws}
use Rattle.walk_steps.proofs.Clocks.{within-before}
use Rattle.walk_steps.proofs.Packets.{In, in-get, Asked, Told, call-same, Mail}
use Rattle.walk_steps.proofs.Worlds.{Holds, first-client, to-server, to-told, received-said, tick-said, crash-said, run-holds, set-there}
use Rattle.walk_steps.proofs.Rows.{same-number}

-- ---- first lengths

pub lengths-first : (head : Head) (e : Event) (earlier : List Event)
    → IsFirst (first_length head earlier) (first_length head (e ∷ earlier)) (run head earlier).server.kept.next (run head (e ∷ earlier)).server.kept.files
lengths-first head e earlier = record {
  same = λ id below. let yes : nat_lt id (run head earlier).server.kept.next ≡ true = grind (arith, nat_tests) in rw yes refl;
  made = λ id f past found. let no : nat_lt id (run head earlier).server.kept.next ≡ false = grind (arith, nat_tests) in rw no (ap length_of found);
}

-- other lengths of files that were not made yet
renamed : (first after : ℕ → ℕ) (w : World) → ((id : ℕ) → id < w.server.kept.next → after id ≡ first id) → Fits first w → Fits after w
renamed first after w same h = record {
  files = files-idle (history_now first w) [] after tt same w.server.kept.files h.files;
  unused = unused-idle (history_now first w) [] after w.server.kept.next tt (omega arith) h.unused;
  lines = λ host. line-follows w.packets w.packets host (host_row w.server.kept host) follow (λ x r a. a) (h.lines host);
  fair = h.fair;
  clients = λ host c is. fits-follows c w.packets w.packets follow (λ v file block n e. refl) (λ t a has sent inc. inl sent) (h.clients host c is);
} where
  follow : Follows (history_now first w) (history_now after w)
  follow = follows (history_now first w) [] after w.server.kept.next (omega arith) same

-- ---- a restart

restart-mid : (journal : List Entry) (first : ℕ → ℕ) (next : ℕ) (c : Client) (ps : List Packet) → Mail c.who c.xid c.ticket ps
    → ClientFits (record { journal = journal; first = first; next = next }) c ps → Mid journal first next ps (part_of (restart c))
unfolding starts fresh_client
restart-mid journal first next c ps m h = record {
  known = λ file r e. none-some r e;
  clean = λ file block k e. none-some k e;
  base = λ t e. over t (some-same new t e);
  again = λ t q e at some. refl;
  changing = λ t file block e at. refl;
  told = λ t a e sent inc. let past = m.past t.xid a sent in absurd (omega arith);
  numbers = λ x a sent inc. let past = m.past x a sent in absurd (omega arith);
  dirty = λ q bad. absurd bad;
  fresh = λ file block n above. rw (h.later who refl (omega arith) file block n (omega arith)) refl;
  idle = ((λ file. refl), tt);
  own = ((λ w file block n apart. refl), tt);
  later = λ w home above file block n zero. rw (h.later w home (omega arith) file block n zero) refl;
  counted = omega arith;
  pushes = λ x r i. fair x r i;
} where
  who : Who
  who = next_incarnation c.who

  new : Ticket
  new = record { xid = 1; first = c.now; last = c.now; request = Request.Attach who; job = attaching }

  over : (t : Ticket) → new ≡ t → IsOverKnown [] t.request
  over t e = subst (λ z. IsOverKnown [] z.request) e tt

  no-sequence : let none : Option ℕ = None in none ≡ Some 0 → ⊥
  no-sequence e = absurd (cc)

  fair : (x : ℕ) (r : Request) → (call 1 (Request.Attach who) ≡ call x r) ⊎ ⊥ → IsFair (Entry.B who ∷ journal) r
  fair x r (inl e) = subst (IsFair (Entry.B who ∷ journal)) (call-same 1 x (Request.Attach who) r e).1 (tt, no-sequence)
  fair x r (inr bad) = absurd bad

-- ---- a step of a client

client-here : (w : World) (host : ℕ) (c : Client) (t : ClientStep) → slice_get w.clients host ≡ Some c → Holds (after_client w host t)
    → t.client.who.host ≡ host
unfolding after_client
client-here w host c t is held = (held.clients host t.client (set-there w.clients host t.client c is)).here

client-step : (first after : ℕ → ℕ) (w : World) (host : ℕ) (c : Client) (t : ClientStep) → ((id : ℕ) → id < w.server.kept.next → after id ≡ first id)
    → slice_get w.clients host ≡ Some c → Holds w → Holds (after_client w host t) → Mid w.journal first w.server.kept.next w.packets (part_of t)
    → Fits first w → Fits after (after_client w host t)
client-step first after w host c t same is before held m h =
    client-fits first after w host t same (client-here w host c t is held) (λ other d there. (before.clients other d there).here) m h

at-client-fits : (first after : ℕ → ℕ) (w : World) (host : ℕ) (f : Client → ClientStep) (o : Option Client) → slice_get w.clients host ≡ o
    → ((id : ℕ) → id < w.server.kept.next → after id ≡ first id)
    → ((c : Client) → slice_get w.clients host ≡ Some c → Mid w.journal first w.server.kept.next w.packets (part_of (f c))) → Holds w
    → Holds (at_client w host f o) → Fits first w → Fits after (at_client w host f o)
at-client-fits first after w host f None is same goes before held h = renamed first after w same h
at-client-fits first after w host f (Some c) is same goes before held h = client-step first after w host c (f c) same is before held (goes c is) h

module _ (first after : ℕ → ℕ) (w : World) (before : Holds w) (h : Fits first w) where
  begun-at : (host : ℕ) (c : Client) → slice_get w.clients host ≡ Some c → Mid w.journal first w.server.kept.next w.packets (part_of (begun c))
  begun-at host c is = begun-mid w.journal first w.server.kept.next c w.packets (before.clients host c is).mail (h.clients host c is)

  fair-ticket : (host : ℕ) (c : Client) → slice_get w.clients host ≡ Some c → (t : Ticket) → c.ticket ≡ Some t → IsFair w.journal t.request
  fair-ticket host c is t has = h.fair c.who.host t.xid t.request ((before.clients host c is).mail.own t has).sent

  hearing-fits : (host : ℕ) (c : Client) (k : ℕ) (m : Message) (o : Option ClientStep) → hear c k m ≡ o
      → ((id : ℕ) → id < w.server.kept.next → after id ≡ first id) → slice_get w.clients host ≡ Some c → Told w.packets host m
      → Holds (after_hearing w host o) → Fits after (after_hearing w host o)
  hearing-fits host c k m None hears same is sent held = renamed first after w same h
  hearing-fits host c k m (Some t) hears same is sent held =
      client-step first after w host c t same is before held
      (hear-mid w.journal first w.server.kept.next w.packets c k m t (before.clients host c is).alone
      (subst (λ n. Told w.packets n m) (sym (before.clients host c is).here) sent) hears (begun-at host c is)) h

  to-client-fits : (k host : ℕ) (m : Message) (o : Option Client) → slice_get w.clients host ≡ o
      → ((id : ℕ) → id < w.server.kept.next → after id ≡ first id) → Told w.packets host m → Holds (deliver_to_client w k host m o)
      → Fits after (deliver_to_client w k host m o)
  to-client-fits k host m None is same sent held = renamed first after w same h
  to-client-fits k host m (Some c) is same sent held = hearing-fits host c k m (hear c k m) refl same is sent held

  -- ---- a step of the server

  standing : Standing w.journal first w.packets w.server
  standing = record { files = h.files; unused = h.unused; lines = h.lines }

  mails : (other : ℕ) (c : Client) → slice_get w.clients other ≡ Some c → Mail c.who c.xid c.ticket w.packets
  mails other c is = (before.clients other c is).mail

  one-host : (sender : ℕ) → Draws w → (o : Option Client) → slice_get w.clients sender ≡ o → (x y : ℕ) (r t : Request) (v : Who) (n : ℕ)
      → Asked w.packets sender x r → Asked w.packets sender y t → asker r ≡ Some v → asker t ≡ Some v → sequence_of r ≡ Some n → sequence_of t ≡ Some n
      → r ≡ t
  one-host sender draws None there x y r t v n a b by also sq same = absurd (draws.lone sender x r a there)
  one-host sender draws (Some c) there x y r t v n a b by also sq same =
      let here = (before.clients sender c there).here in
      ((draws.clients sender c there).once x y r t v n (subst (λ k. Asked w.packets k x r) (sym here) a)
      (subst (λ k. Asked w.packets k y t) (sym here) b) by also sq same).1

  received-fits : (p : Packet) → In w.packets p → p.to ≡ Party.Server → Draws w
      → IsFirst first after w.server.kept.next (receive w.server (sending_host p.sender) (length w.packets) (datagram_of p.message)).server.kept.files
      → Fits after (after_server w (receive w.server (sending_host p.sender) (length w.packets) (datagram_of p.message)))
  received-fits p i to draws is =
      server-fits first after w (receive w.server sender (length w.packets) d) (received-said w p i to before)
      (receive-never w.server sender (length w.packets) d) mails
      (hears w.journal first after w.packets w.server sender (length w.packets) d hearing is) h
    where
      sender : ℕ
      sender = sending_host p.sender

      d : Datagram
      d = datagram_of p.message

      hearing : Hearing w.journal first w.packets w.server sender d
      hearing = record {
        files = h.files;
        unused = h.unused;
        lines = h.lines;
        sent = λ xid r e. (to-server w.packets p (before.sent p i) to i xid r e).0;
        no_null = λ xid e. let some = (to-server w.packets p (before.sent p i) to i xid Request.Null e).1 in absurd (cc);
        once = one-host sender draws (slice_get w.clients sender) refl;
        positive = λ x r a. (h.fair sender x r a).1;
        pushed = λ x who seq file block f l base body a. (h.fair sender x (Request.Write who seq file block f l (Some base) body) a).0;
      }

  delivered-fits : (k : ℕ) (p : Packet) (to : Party) → p.to ≡ to → In w.packets p → Draws w
      → IsFirst first after w.server.kept.next (deliver_to w k p to).server.kept.files → Holds (deliver_to w k p to) → Fits after (deliver_to w k p to)
  unfolding after_server
  delivered-fits k p Party.Server to i draws is held = received-fits p i to draws (record { same = is.same; made = is.made })
  delivered-fits k p (Party.Client host) to i draws is held =
      to-client-fits k host p.message (slice_get w.clients host) refl is.same (to-told w.packets p host (before.sent p i) to i) held

  deliver-fits : (k : ℕ) (o : Option Packet) → slice_get w.packets k ≡ o → Draws w
      → IsFirst first after w.server.kept.next (deliver w k o).server.kept.files → Holds (deliver w k o) → Fits after (deliver w k o)
  deliver-fits k None is draws lengths held = renamed first after w lengths.same h
  deliver-fits k (Some p) is draws lengths held = delivered-fits k p p.to refl (in-get w.packets k p is) draws lengths held

  step-fits : (hosts most : ℕ) (events : List Event) (e : Event) → Runs hosts most w events → Draws w → Holds (step w e)
      → IsFirst first after w.server.kept.next (step w e).server.kept.files → Fits after (step w e)
  unfolding after_server
  step-fits hosts most events (Event.Call host op) runs draws held is =
      at-client-fits first after w host (λ c. client_call c op) (slice_get w.clients host) refl is.same
      (λ c there. call-mid w.journal first w.server.kept.next w.packets c op (begun-at host c there)) before held h
  step-fits hosts most events (Event.Deliver k) runs draws held is = deliver-fits k (slice_get w.packets k) refl draws is held
  step-fits hosts most events Event.ServerTick runs draws held is =
      server-fits first after w (tick w.server (w.server.now + 1)) (tick-said w.packets w.server (w.server.now + 1))
      (tick-never w.server (w.server.now + 1)) mails
      (ticks w.journal first after w.packets w.server standing (w.server.now + 1) runs.served.stood (record { same = is.same; made = is.made })) h
  step-fits hosts most events (Event.ClientTick host) runs draws held is =
      at-client-fits first after w host (λ c. client_tick c (c.now + 1)) (slice_get w.clients host) refl is.same
      (λ c there. tick-mid w.journal first w.server.kept.next w.packets c (c.now + 1) (fair-ticket host c there) (begun-at host c there)) before held h
  step-fits hosts most events (Event.Restart host) runs draws held is =
      at-client-fits first after w host restart (slice_get w.clients host) refl is.same
      (λ c there. restart-mid w.journal first w.server.kept.next c w.packets (before.clients host c there).mail (h.clients host c there)) before held h
  step-fits hosts most events (Event.Crash longest) runs draws held is =
      server-fits first after w (crash w.server longest) (crash-said w.packets w.server longest) (crash-never w.server longest) mails
      (crashes w.journal first after w.packets w.server standing longest (record { same = is.same; made = is.made })) h

-- ---- the start

-- a file that stands at the start is as it was made
of-first : (id : ℕ) (files : List (List ℕ × ℕ)) (i : ℕ) (f : File) → find_file i (first_files id files) ≡ Some f
    → (name : List ℕ) × (blocks : ℕ) × (f ≡ record { id = i; name = name; rev = 0; bodies = replicate blocks zeros })
unfolding new_file
of-first id [] i f found = none-some f found
of-first id (x ∷ files) i f found = by (id == i) refl (of-first (id + 1) files i f) found
  where
    by : (b : Bool) → (id == i) ≡ b →
        (find_file i (first_files (id + 1) files) ≡ Some f
        → (name : List ℕ) × (blocks : ℕ) × (f ≡ record { id = i; name = name; rev = 0; bodies = replicate blocks zeros }))
        → (if b then Some (record { id = id; name = x.0; rev = 0; bodies = replicate x.1 zeros }) else find_file i (first_files (id + 1) files)) ≡ Some
        f → (name : List ℕ) × (blocks : ℕ) × (f ≡ record { id = i; name = name; rev = 0; bodies = replicate blocks zeros })
    by true same rest e =
        (x.0, x.1, sym (some-same _ f e) ∙ ap (λ n. record { id = n; name = x.0; rev = 0; bodies = replicate x.1 zeros }) (same-number id i same))
    by false other rest e = rest e

first-drawn : (id : ℕ) (files : List (List ℕ × ℕ)) (i : ℕ) (f : File) → find_file i (first_files id files) ≡ Some f → i < id + length files
unfolding new_file
first-drawn id [] i f found = none-some f found
first-drawn id (x ∷ files) i f found = by (id == i) refl (first-drawn (id + 1) files i f) found
  where
    by : (b : Bool) → (id == i) ≡ b → (find_file i (first_files (id + 1) files) ≡ Some f → i < id + 1 + length files)
        → (if b then Some (record { id = id; name = x.0; rev = 0; bodies = replicate x.1 zeros }) else find_file i (first_files (id + 1) files)) ≡ Some
        f → i < id + length (x ∷ files)
    by true same rest e = let one : id ≡ i = same-number id i same in omega arith
    by false other rest e = let below = rest e in omega arith

zero-seq : (m n i : ℕ) → (unwrap_or (slice_get (replicate m first_row ++ replicate n fresh_row) i) fresh_row).seq ≡ 0
zero-seq zero zero i = refl
zero-seq zero (suc n) zero = refl
zero-seq zero (suc n) (suc i) = zero-seq zero n i
zero-seq (suc m) n zero = refl
zero-seq (suc m) n (suc i) = zero-seq m n i

first-seq : (head : Head) (host : ℕ) → (host_row (start head).server.kept host).seq ≡ 0
unfolding start boot
first-seq head host = zero-seq head.hosts (most_hosts - head.hosts) host

first-fits : (host : ℕ) (head : Head)
    → ClientFits (history_now (first_length head []) (start head)) (attached_client (record { host = host; inc = 1 }) head.term 0) []
unfolding start boot attached_client fresh_client
first-fits host head = record {
  known = λ file r e. none-some r e;
  clean = λ file block k e. none-some k e;
  base = λ t e. none-some t e;
  again = λ t q e at some. refl;
  changing = λ t file block e at. refl;
  told = λ t a e sent inc. none-some t e;
  dirty = λ q bad. absurd bad;
  fresh = λ file block n above. refl;
  later = λ w home above file block n zero. refl;
  counted = omega arith;
}

start-fits : (head : Head) → Fits (first_length head []) (start head)
unfolding start boot
start-fits head = record {
  files = λ id f found. let n = of-first 1 head.files id f found in record {
    drawn = let below = first-drawn 1 head.files id f found in omega arith;
    revision = ap (λ z. z.rev) n.2;
    content =
        ap (λ z. map value_of z.bodies) n.2
        ∙ map-replicate value_of n.1 zeros
        ∙ ap (replicate n.1) zeros-value
        ∙ ap (λ k. replicate k 0) (sym (ap length_of found ∙ ap blocks_of n.2 ∙ length-replicate {A = List ℕ} n.1 zeros));
  };
  unused = λ id past. refl;
  lines = λ host. inl (first-seq head host);
  fair = λ host x r bad. absurd bad;
  clients =
      λ host c is. subst (λ z. ClientFits (history_now (first_length head []) (start head)) z []) (sym (first-client head.term 0 head.hosts host c is))
      (first-fits (0 + host) head);
}

-- in every run within skew
pub run-fits : (most : ℕ) (head : Head) (events : List Event) → KeepsBounds most head events → IsWithinSkew head.hosts most events
    → Fits (first_length head events) (run head events)
run-fits most head [] bounds within = start-fits head
run-fits most head (e ∷ earlier) bounds within =
    let bounded : KeepsBounds most head earlier = bounds-before most head e earlier bounds in
    let skewed : IsWithinSkew head.hosts most earlier = within-before head.hosts most e earlier within in
    step-fits (first_length head earlier) (first_length head (e ∷ earlier)) (run head earlier) (run-holds head earlier)
    (run-fits most head earlier bounded skewed) head.hosts most earlier e
    (run-runs most head earlier bounded skewed) (run-draws head earlier) (run-holds head (e ∷ earlier)) (lengths-first head e earlier)
