-- In whole rounds each request under way is answered in the delivery in which it comes, so after the third delivery there is none.
use Rattle.std.proofs.Common.{◌≡◌, ◌≢◌, ◌≤◌, ◌<◌, ◌⊎◌, ℕ, ◌+◌, ◌==◌, Bool, true, false, zero, suc, List, [], ◌∷◌, Option, Some, None, length, refl}
use Rattle.std.proofs.Common.{sym, subst, ap, ◌∙◌, arith, inl, inr}
use Rattle.std.specs.Prelude.{map, slice_get}
use Rattle.std.proofs.lemmas.List.{length-append}
use Rattle.nq_base.specs.declared.Event.{Event}
use Rattle.nq_base.specs.declared.Party.{Party}
use Rattle.nq_base.specs.declared.Reply.{Reply}
use Rattle.nq_base.specs.declared.Request.{Request}
use Rattle.nq_base.specs.declared.Tag.{Tag}
use Rattle.nq_model.specs.protocol.Client.{Client, ClientStep, Ticket, begun}
use Rattle.nq_model.specs.protocol.ClientStep.{client_tick}
use Rattle.nq_model.specs.protocol.Hear.{inc_of, reply_counts, hear, goes_on, replied, evicted, cancels}
use Rattle.nq_model.specs.protocol.Lines.{Play, play, play_hosts, delivered}
use Rattle.nq_model.specs.protocol.Message.{Message, Packet, call, reply, datagram_of}
use Rattle.nq_model.specs.protocol.Profile.{patience}
use Rattle.nq_model.specs.protocol.Server.{to_host}
use Rattle.nq_model.specs.protocol.ServerStep.{receive}
use Rattle.nq_model.specs.protocol.Stepped.{most_sent}
use Rattle.nq_model.specs.protocol.World.{Head, World, from_host, after_client, after_server, at_client, sending_host, step, run}
use Rattle.law_rounds.proofs.GoingOn.{calls-go-on}
use Rattle.law_rounds.proofs.ClientCount.{client-count}
use Rattle.law_rounds.specs.CalmRoundsAreLawful.{IsLawful}
use Rattle.law_rounds.proofs.PacketsCome.{Comes}
use Rattle.law_rounds.proofs.CalmIsLawful.{played-quiet}
use Rattle.law_rounds.proofs.QuietFlows.{grown}
use Rattle.walk_steps.proofs.ClientMoves.{some-same, none-some}
use Rattle.walk_steps.proofs.StepCases.{heard-cases}
use Rattle.walk_steps.proofs.Packets.{In, in-get, Told}
use Rattle.walk_steps.proofs.Steps.{step-changes}
use Rattle.walk_steps.proofs.Worlds.{IsAt, Holds, get-set-other, set-there, to-told, run-holds}
use Rattle.walk_steps.proofs.Rows.{same-number, number-same}
use Rattle.law_rounds.specs.RoundsEndQuiet.{IsSmall}
use Rattle.law_rounds.specs.WholeRounds.{play_order, whole_round, whole_rounds}
use Rattle.law_rounds.proofs.Asking.{AnswersTicket, asks-answered}
use Rattle.law_rounds.proofs.ClientTickets.{TicketIs, kept, resent, fresh, LastDrawn, Renewed, tick-renews, reply-renews, notice-renews}
use Rattle.law_rounds.proofs.Coming.{in-map, keeps-coming, adds-coming, which-comes, Delivery, no_packet, at_server, at_host, ignored, no_client, delivery}
use Rattle.law_rounds.proofs.Lines.{run-lined}
use Rattle.law_rounds.proofs.Orders.{order-lawful, whole-lawful}

-- ---- few events

pub small-before : (p : Play) (e : Event) → IsSmall (play p e) → IsSmall p
small-before p e s =
    let g = grown p.world (step p.world e) (step-changes p.world e) in
    let longer : length (step p.world e).packets ≡ length p.world.packets + length g.more = ap (λ (ps : List Packet). length ps) g.is
    ∙ length-append p.world.packets g.more in
    record { events = let few = s.events in omega arith; packets = let few = s.packets in omega arith }

pub hosts-small : (count h : ℕ) (p : Play) → IsSmall (play_hosts count h p) → IsSmall p
hosts-small zero h p s = s
hosts-small (suc count) h p s = small-before p (Event.ClientTick h) (hosts-small count (h + 1) (play p (Event.ClientTick h)) s)

pub order-small : (order : List ℕ) (p : Play) → IsSmall (play_order order p) → IsSmall p
order-small [] p s = s
order-small (k ∷ order) p s = small-before p (Event.Deliver k) (order-small order (play p (Event.Deliver k)) s)

pub whole-small : (order : List ℕ) (p : Play) → IsSmall (whole_round order p) → IsSmall (play_order order p)
unfolding whole_round
whole-small order p s =
    let q = play_order order p in
    hosts-small (length q.world.clients) 0 q (small-before (play_hosts (length q.world.clients) 0 q) Event.ServerTick s)

pub wholes-small : (orders : List (List ℕ)) (p : Play) → IsSmall (whole_rounds orders p) → IsSmall p
wholes-small [] p s = s
wholes-small (order ∷ orders) p s = order-small order p (whole-small order p (wholes-small orders (whole_round order p) s))

-- ---- a reply that counts is heard

hears-reply : (c : Client) (k : ℕ) (r : Reply) (t : Ticket) → c.ticket ≡ Some t → inc_of r ≡ c.who.inc → reply_counts r t ≡ true
    → hear c k (reply t.xid r) ≡ Some (goes_on (replied (begun c) k t r))
hears-reply c k r t asks inc counts = rw (asks, same_number, same_inc, counts) refl
  where
    same_number : (t.xid == t.xid) ≡ true
    same_number = number-same t.xid t.xid refl

    same_inc : (inc_of r == c.who.inc) ≡ true
    same_inc = number-same (inc_of r) c.who.inc inc

-- a request that was under way before, where no reply was heard
record IsUnsent (c : Client) (m : Message) (u : ClientStep) (t : Ticket) : Type 0 where
  was : c.ticket ≡ Some t
  time : u.client.now ≡ c.now
  other : (xid : ℕ) (r : Reply) → m ≡ reply xid r → ⊥
  who : u.client.who ≡ c.who

-- whatever a client hears, its request under way then was sent in the step, or is such a one
abbrev HeardAs : Client → Message → ClientStep → Type 0
HeardAs c m u = (t : Ticket) → u.client.ticket ≡ Some t → In u.sends (call t.xid t.request) ⊎ IsUnsent c m u t

hear-tickets : (host : ℕ) (c : Client) (ps : List Packet) (k : ℕ) (m : Message) (u : ClientStep) → IsAt host c ps → Told ps host m → LastDrawn c
    → hear c k m ≡ Some u → HeardAs c m u
hear-tickets host c ps k m u a mail drawn hears = heard-cases c k m u (HeardAs c m) hears (record {
  answered = λ xid r ticket is asks own inc counts t has.
      answered-sends (goes_on (replied (begun c) k ticket r)) t
      ((reply-renews host c ps k r ticket a (subst (λ n. Told ps host n) (is ∙ ap (λ n. reply n r) own) mail) asks inc counts).ticket t has);
  noticed = λ xid file tag is older t has.
      let g = notice-renews c file tag a.alone drawn in
      noticed-sends xid file tag is (goes_on (evicted (cancels (begun c) file) file tag)) g t (g.ticket t has);
})
  where
    answered-sends : (v : ClientStep) (t : Ticket) → TicketIs None c.seq v.sends t → In v.sends (call t.xid t.request) ⊎ IsUnsent c m v t
    answered-sends v t (kept was) = none-some t was
    answered-sends v t (resent w was xid of i) = none-some w was
    answered-sends v t (fresh i above) = inl i

    noticed-sends : (xid file : ℕ) (tag : Tag) → m ≡ call xid (Request.Evicted c.who file tag) → (v : ClientStep) → Renewed c c.now c.ticket v
        → (t : Ticket) → TicketIs c.ticket c.seq v.sends t → In v.sends (call t.xid t.request) ⊎ IsUnsent c m v t
    noticed-sends xid file tag is v g t (kept was) = inr (record {
      was = was;
      time = g.time;
      other = λ x r e. let two : call xid
          (Request.Evicted c.who file tag) ≡ reply x r = sym is ∙ e in cc;
      who = g.same;
    })
    noticed-sends xid file tag is v g t (resent w was x of i) = inl i
    noticed-sends xid file tag is v g t (fresh i above) = inl i

module _ (most : ℕ) (head : Head) (host : ℕ) where
  -- the request under way of a client, or a reply that counts for it, is under way
  pub data Under (p : Play) (c : Client) (t : Ticket) : Type 0 where
    asking : Comes p (from_host host (call t.xid t.request)) → Under p c t
    told : (r : Reply) → Comes p (to_host host (reply t.xid r)) → inc_of r ≡ c.who.inc → reply_counts r t ≡ true → Under p c t

  -- or it is due to be sent again within so many ticks
  abbrev pub Covered : (due : ℕ) → Play → Type 0
  Covered due p = (c : Client) (t : Ticket) → slice_get p.world.clients host ≡ Some c → c.ticket ≡ Some t → Under p c t ⊎ (t.last + patience ≤ c.now + due)

  -- what becomes of it where a packet is delivered
  data Moved (p : Play) (k : ℕ) (c : Client) (t : Ticket) : Type 0 where
    still : Under (play p (Event.Deliver k)) c t → Moved p k c t
    asks_now : slice_get p.world.packets k ≡ Some (from_host host (call t.xid t.request)) → Moved p k c t
    told_now : (r : Reply) → slice_get p.world.packets k ≡ Some (to_host host (reply t.xid r)) → inc_of r ≡ c.who.inc → reply_counts r t ≡ true → Moved p k c t

  moves-on : (p : Play) (k : ℕ) (c : Client) (t : Ticket) → Under p c t → Moved p k c t
  moves-on p k c t (asking comes) = by (which-comes p k _ comes)
    where
      by : (slice_get p.world.packets k ≡ Some (from_host host (call t.xid t.request))) ⊎ Comes (play p (Event.Deliver k))
          (from_host host (call t.xid t.request)) → Moved p k c t
      by (inl now) = asks_now now
      by (inr comes) = still (asking comes)
  moves-on p k c t (told r comes inc counts) = by (which-comes p k _ comes)
    where
      by : (slice_get p.world.packets k ≡ Some (to_host host (reply t.xid r))) ⊎ Comes (play p (Event.Deliver k)) (to_host host (reply t.xid r))
          → Moved p k c t
      by (inl now) = told_now r now inc counts
      by (inr comes) = still (told r comes inc counts)

  module _ (p : Play) (l : IsLawful most head p) where
    holds : Holds p.world
    holds = subst (λ u. Holds u) (sym l.is_run) (run-holds head p.events)

    at-run : (c : Client) → slice_get p.world.clients host ≡ Some c → slice_get (run head p.events).clients host ≡ Some c
    at-run c at = subst (λ (u : World). slice_get u.clients host ≡ Some c) l.is_run at

    drawn-last : (c : Client) → slice_get p.world.clients host ≡ Some c → LastDrawn c
    drawn-last c at = (run-lined most head p.events l.bounds l.within host c (at-run c at)).drawn

    here : (c : Client) → slice_get p.world.clients host ≡ Some c → c.who.host ≡ host
    here c at = (holds.clients host c at).here

    -- the server answers the request
    answered : IsSmall p → (c : Client) (t : Ticket) → slice_get p.world.clients host ≡ Some c → c.ticket ≡ Some t → AnswersTicket c.who t
        (receive p.world.server host (length p.world.packets) (datagram_of (call t.xid t.request))).sends
    answered small c t at has =
        let room : length (run head p.events).packets ≤ most_sent = subst (λ (u : World). length u.packets ≤ most_sent) l.is_run small.packets in
        let a = asks-answered most head p.events l.bounds l.within small.events room host c (at-run c at) t has (length p.world.packets) in
        subst (λ h. AnswersTicket c.who t (receive p.world.server h (length p.world.packets) (datagram_of (call t.xid t.request))).sends) (here c at)
        (subst (λ (u : World). AnswersTicket c.who t (receive u.server c.who.host (length p.world.packets)
        (datagram_of (call t.xid t.request))).sends) (sym l.is_run) a)

    module _ (k : ℕ) where
      -- who is not the receiver
      same-client : (v : World) (due : ℕ) → step p.world (Event.Deliver k) ≡ v → slice_get v.clients host ≡ slice_get p.world.clients host
          → ((c : Client) (t : Ticket) → slice_get p.world.clients host ≡ Some c → c.ticket ≡ Some t → Moved p k c t
          → Under (play p (Event.Deliver k)) c t) → Covered due p → Covered due (play p (Event.Deliver k))
      same-client v due is same goes all c t at has = by (all c t before has)
        where
          before : slice_get p.world.clients host ≡ Some c
          before = sym same ∙ ap (λ (u : World). slice_get u.clients host) (sym is) ∙ at

          by : Under p c t ⊎ (t.last + patience ≤ c.now + due) → Under (play p (Event.Deliver k)) c t ⊎ (t.last + patience ≤ c.now + due)
          by (inl under) = inl (goes c t before has (moves-on p k c t under))
          by (inr late) = inr late

      -- a client heard something: what it sent is under way
      sent-now : (c : Client) (u : ClientStep) (t : Ticket) → step p.world (Event.Deliver k) ≡ after_client p.world host u
          → In u.sends (call t.xid t.request) → Under (play p (Event.Deliver k)) u.client t
      unfolding after_client
      sent-now c u t is i = asking (adds-coming p (Event.Deliver k) (from_host host (call t.xid t.request)) (map (from_host host) u.sends)
          (ap (λ (w : World). w.packets) is) (in-map (from_host host) u.sends (call t.xid t.request) i))

      now-there : (u : ClientStep) (c d : Client) → step p.world (Event.Deliver k) ≡ after_client p.world host u → slice_get p.world.clients host
          ≡ Some c → slice_get (step p.world (Event.Deliver k)).clients host ≡ Some d → d ≡ u.client
      unfolding after_client
      now-there u c d is at there = some-same d u.client (sym there ∙ ap (λ (w : World). slice_get w.clients host) is ∙ set-there p.world.clients host
          u.client c at)

      -- the receiver heard it
      heard-own : (due : ℕ) (q : Packet) (c : Client) (u : ClientStep) → slice_get p.world.packets k ≡ Some q → q.to ≡ Party.Client host
          → slice_get p.world.clients host ≡ Some c → hear c k q.message ≡ Some u → step p.world (Event.Deliver k) ≡ after_client p.world host u
          → Covered due p → Covered due (play p (Event.Deliver k))
      heard-own due q c u sent to at hears is all d t there has =
          subst (λ (e : Client). Under (play p (Event.Deliver k)) e t ⊎ (t.last + patience ≤ e.now + due)) (sym (now-there u c d is at there))
          (outcome t (ap (λ (e : Client). e.ticket) (sym (now-there u c d is at there)) ∙ has))
        where
          a : IsAt host c p.world.packets
          a = holds.clients host c at

          mail : Told p.world.packets host q.message
          mail = let i = in-get p.world.packets k q sent in to-told p.world.packets q host (holds.sent q i) to i

          cases : HeardAs c q.message u
          cases = hear-tickets host c p.world.packets k q.message u a mail (drawn-last c at) hears

          outcome : (t : Ticket) → u.client.ticket ≡ Some t → Under (play p (Event.Deliver k)) u.client t ⊎ (t.last + patience ≤ u.client.now + due)
          outcome t has = by (cases t has)
            where
              unmoved : (u.client.who ≡ c.who) → (c.ticket ≡ Some t) → ((xid : ℕ) (r : Reply) → q.message ≡ reply xid r → ⊥) → Moved p k c t
                  → Under (play p (Event.Deliver k)) u.client t
              unmoved who was other (still under) = same under
                where
                  same : Under (play p (Event.Deliver k)) c t → Under (play p (Event.Deliver k)) u.client t
                  same (asking comes) = asking comes
                  same (told r comes inc counts) = told r comes (inc ∙ ap (λ w. w.inc) (sym who)) counts
              unmoved who was other (asks_now now) = let two : Party.Server ≡ Party.Client host = ap (λ (x : Packet). x.to)
                  (sym (some-same q _ (sym sent ∙ now))) ∙ to in absurd (cc)
              unmoved who was other (told_now r now inc counts) = absurd (other t.xid r (ap (λ (x : Packet). x.message) (some-same q _ (sym sent ∙ now))))

              under-or : IsUnsent c q.message u t → Under p c t ⊎ (t.last + patience ≤ c.now + due) → Under (play p (Event.Deliver k)) u.client t
                  ⊎ (t.last + patience ≤ u.client.now + due)
              under-or s (inl under) = inl (unmoved s.who s.was s.other (moves-on p k c t under))
              under-or s (inr late) = inr (let same = s.time in omega arith)

              by : In u.sends (call t.xid t.request) ⊎ IsUnsent c q.message u t → Under (play p (Event.Deliver k)) u.client t
                  ⊎ (t.last + patience ≤ u.client.now + due)
              by (inl i) = inl (sent-now c u t is i)
              by (inr s) = under-or s (all c t at s.was)

      -- each delivery keeps it
      pub delivered-covers : (due : ℕ) → IsSmall p → Covered due p → Covered due (play p (Event.Deliver k))
      unfolding after_server after_client
      delivered-covers due small all = by (delivery p.world k)
        where
          to-other : (h : ℕ) (q : Packet) → slice_get p.world.packets k ≡ Some q → q.to ≡ Party.Client h → ((r : Reply) (c : Client) (t : Ticket)
              → slice_get p.world.clients host ≡ Some c → c.ticket ≡ Some t → h ≡ host → q.message ≡ reply t.xid r → inc_of r ≡ c.who.inc
              → reply_counts r t ≡ true → ⊥) → (c : Client) (t : Ticket) → slice_get p.world.clients host ≡ Some c → c.ticket ≡ Some t → Moved p k c t
              → Under (play p (Event.Deliver k)) c t
          to-other h q sent to never c t at has (still under) = under
          to-other h q sent to never c t at has (asks_now now) = let two : Party.Server ≡ Party.Client h = ap (λ (x : Packet). x.to)
              (sym (some-same q _ (sym sent ∙ now))) ∙ to in absurd (cc)
          to-other h q sent to never c t at has (told_now r now inc counts) =
              let q_is : q ≡ to_host host (reply t.xid r) = some-same q _ (sym sent ∙ now) in
              absurd (never r c t at has (party-same h host (sym to ∙ ap (λ (x : Packet). x.to) q_is)) (ap (λ (x : Packet). x.message) q_is) inc counts)
            where
              party-same : (a b : ℕ) → Party.Client a ≡ Party.Client b → a ≡ b
              party-same a b e = cc

          to-server : (q : Packet) → slice_get p.world.packets k ≡ Some q → q.to ≡ Party.Server → step p.world (Event.Deliver k) ≡ after_server
              p.world (receive p.world.server (sending_host q.sender) (length p.world.packets) (datagram_of q.message)) → (c : Client) (t : Ticket)
              → slice_get p.world.clients host ≡ Some c → c.ticket ≡ Some t → Moved p k c t → Under (play p (Event.Deliver k)) c t
          to-server q sent to is c t at has (still under) = under
          to-server q sent to is c t at has (told_now r now inc counts) = let two : Party.Client host ≡ Party.Server = ap (λ (x : Packet). x.to)
              (sym (some-same q _ (sym sent ∙ now))) ∙ to in absurd (cc)
          to-server q sent to is c t at has (asks_now now) =
              let q_is : from_host host (call t.xid t.request) ≡ q = some-same _ q (sym now ∙ sent) in
              let a = answered small c t at has in
              let sends : (receive p.world.server host (length p.world.packets) (datagram_of (call t.xid t.request))).sends
              ≡ (receive p.world.server (sending_host q.sender) (length p.world.packets) (datagram_of q.message)).sends =
              ap (λ (x : Packet). (receive p.world.server (sending_host x.sender) (length p.world.packets) (datagram_of x.message)).sends) q_is in
              let mine : to_host c.who.host (reply t.xid a.answer) ≡ to_host host (reply t.xid a.answer) = ap (λ h. to_host h (reply t.xid a.answer))
              (here c at) in
              told a.answer
              (adds-coming p (Event.Deliver k) (to_host host (reply t.xid a.answer)) (receive p.world.server (sending_host q.sender)
              (length p.world.packets) (datagram_of q.message)).sends (ap (λ (w : World). w.packets) is)
              (subst (λ ps. In ps (to_host host (reply t.xid a.answer))) sends
              (subst (λ x. In (receive p.world.server host (length p.world.packets) (datagram_of (call t.xid t.request))).sends x) mine a.sent)))
              a.inc a.counts

          by : Delivery p.world k (step p.world (Event.Deliver k)) → Covered due (play p (Event.Deliver k))
          by (no_packet none is) = same-client p.world due is refl (λ c t at has m. nothing c t m) all
            where
              nothing : (c : Client) (t : Ticket) → Moved p k c t → Under (play p (Event.Deliver k)) c t
              nothing c t (still under) = under
              nothing c t (asks_now now) = none-some _ (sym none ∙ now)
              nothing c t (told_now r now inc counts) = none-some _ (sym none ∙ now)
          by (at_server q sent to is) = same-client (after_server p.world (receive p.world.server (sending_host q.sender) (length p.world.packets)
              (datagram_of q.message))) due is refl (to-server q sent to is) all
          by (no_client h q sent to none is) = same-client p.world due is refl (to-other h q sent to (λ r c t at has same m inc counts.
              none-some c (sym (subst (λ n. slice_get p.world.clients n ≡ None) same none) ∙ at))) all
          by (ignored h q c sent to at hears is) = same-client p.world due is refl (to-other h q sent to (λ r d t there has same m inc counts.
              let one : c ≡ d = some-same c d (sym (subst (λ n. slice_get p.world.clients n ≡ Some c) same at) ∙ there) in
              let heard : hear d k (reply t.xid r) ≡ Some (goes_on (replied (begun d) k t r)) = hears-reply d k r t has inc counts in
              none-some _ (sym hears ∙ ap (λ (x : Client). hear x k q.message) one ∙ ap (hear d k) m ∙ heard))) all
          by (at_host h q c u sent to at hears is) = whose (host == h) refl
            where
              whose : (b : Bool) → (host == h) ≡ b → Covered due (play p (Event.Deliver k))
              whose true same =
                  let e : h ≡ host = sym (same-number host h same) in
                  heard-own due q c u sent (to ∙ ap Party.Client e) (subst (λ n. slice_get p.world.clients n ≡ Some c) e at) hears
                  (is ∙ ap (λ n. after_client p.world n u) e) all
              whose false differs =
                  let apart : host ≢ h = λ e. let yes : (host == h) ≡ true = number-same host h e in absurd (cc) in
                  same-client (after_client p.world h u) due is (get-set-other p.world.clients h host u.client apart)
                  (to-other h q sent to (λ r d t there has same m inc counts. apart (sym same))) all

  -- ---- ticks

  module _ (p : Play) (l : IsLawful most head p) where
    passes : (due : ℕ) (e : Event) → delivered e p.fresh ≡ p.fresh → slice_get (step p.world e).clients host ≡ slice_get p.world.clients host
        → Covered due p → Covered due (play p e)
    passes due e none same all c t at has = by (all c t (sym same ∙ at) has)
      where
        comes : (q : Packet) → Comes p q → Comes (play p e) q
        comes q x = keeps-coming p e q x (subst (λ ns. In ns x.number) (sym none) x.fresh)

        under : Under p c t → Under (play p e) c t
        under (asking x) = asking (comes _ x)
        under (told r x inc counts) = told r (comes _ x) inc counts

        by : Under p c t ⊎ (t.last + patience ≤ c.now + due) → Under (play p e) c t ⊎ (t.last + patience ≤ c.now + due)
        by (inl x) = inl (under x)
        by (inr late) = inr late

    own-tick : (due : ℕ) → Covered (due + 1) p → Covered due (play p (Event.ClientTick host))
    unfolding after_client
    own-tick due all d t there has = by (slice_get p.world.clients host) refl
      where
        by : (o : Option Client) → slice_get p.world.clients host ≡ o → Under (play p (Event.ClientTick host)) d t ⊎ (t.last + patience ≤ d.now + due)
        by None none =
            let to : step p.world (Event.ClientTick host) ≡ p.world = ap (at_client p.world host (λ c. client_tick c (c.now + 1))) none in
            none-some d (sym none ∙ ap (λ (w : World). slice_get w.clients host) (sym to) ∙ there)
        by (Some c) at =
            subst (λ (e : Client). Under (play p (Event.ClientTick host)) e t ⊎ (t.last + patience ≤ e.now + due)) (sym is)
            (which (g.ticket t (ap (λ (e : Client). e.ticket) (sym is) ∙ has)))
          where
            to : step p.world (Event.ClientTick host) ≡ after_client p.world host (client_tick c (c.now + 1))
            to = ap (at_client p.world host (λ c. client_tick c (c.now + 1))) at

            is : d ≡ (client_tick c (c.now + 1)).client
            is = some-same d (client_tick c (c.now + 1)).client (sym there ∙ ap (λ (w : World). slice_get w.clients host) to
                ∙ set-there p.world.clients host (client_tick c (c.now + 1)).client c at)

            there-run : slice_get (run head p.events).clients host ≡ Some c
            there-run = subst (λ (u : World). slice_get u.clients host ≡ Some c) l.is_run at

            g : Renewed c (c.now + 1) c.ticket (client_tick c (c.now + 1))
            g = tick-renews c ((run-holds head p.events).clients host c there-run).alone (run-lined most head p.events l.bounds l.within host c
                there-run).drawn

            sent : In (client_tick c (c.now + 1)).sends (call t.xid t.request) → Under (play p (Event.ClientTick host)) (client_tick c (c.now + 1)).client t
            sent i = asking (adds-coming p (Event.ClientTick host) (from_host host (call t.xid t.request))
                (map (from_host host) (client_tick c (c.now + 1)).sends) (ap (λ (w : World). w.packets) to)
                (in-map (from_host host) (client_tick c (c.now + 1)).sends (call t.xid t.request) i))

            old : Under p c t ⊎ (t.last + patience ≤ c.now + (due + 1)) → Under (play p (Event.ClientTick host)) (client_tick c (c.now + 1)).client t
                ⊎ (t.last + patience ≤ (client_tick c (c.now + 1)).client.now + due)
            old (inl (asking x)) = inl (asking (keeps-coming p (Event.ClientTick host) _ x x.fresh))
            old (inl (told r x inc counts)) = inl (told r (keeps-coming p (Event.ClientTick host) _ x x.fresh) (inc ∙ ap (λ w. w.inc) (sym g.same)) counts)
            old (inr late) = inr (let now = g.time in omega arith)

            which : TicketIs c.ticket c.seq (client_tick c (c.now + 1)).sends t → Under (play p (Event.ClientTick host))
                (client_tick c (c.now + 1)).client t ⊎ (t.last + patience ≤ (client_tick c (c.now + 1)).client.now + due)
            which (kept was) = old (all c t at was)
            which (resent w was xid of i) = inl (sent i)
            which (fresh i above) = inl (sent i)

  other-tick : (w : World) (h : ℕ) → host ≢ h → (o : Option Client) → slice_get (at_client w h (λ c. client_tick c (c.now + 1)) o).clients host
      ≡ slice_get w.clients host
  unfolding after_client
  other-tick w h other None = refl
  other-tick w h other (Some c) = get-set-other w.clients h host (client_tick c (c.now + 1)).client other

  ticks-on : (p : Play) (h : ℕ) → IsLawful most head p → IsLawful most head (play p (Event.ClientTick h))
  ticks-on p h l = played-quiet most head p (Event.ClientTick h) tt refl l

  hosts-pass : (due count h : ℕ) (p : Play) → IsLawful most head p → host < h → Covered due p → Covered due (play_hosts count h p)
  hosts-pass due zero h p l past all = all
  hosts-pass due (suc count) h p l past all =
      hosts-pass due count (h + 1) (play p (Event.ClientTick h)) (ticks-on p h l) (omega arith)
      (passes p l due (Event.ClientTick h) refl (other-tick p.world h (λ e. omega arith) (slice_get p.world.clients h)) all)

  hosts-tick : (due count h : ℕ) (p : Play) → IsLawful most head p → h ≤ host → host < h + count → Covered (due + 1) p → Covered due (play_hosts count h p)
  hosts-tick due zero h p l from below all = absurd (omega arith)
  hosts-tick due (suc count) h p l from below all = by (λ low high more. hosts-tick due count (h + 1) (play p (Event.ClientTick h)) (ticks-on p h l)
      low high more) (host == h) refl
    where
      by : (h + 1 ≤ host → host < (h + 1) + count → Covered (due + 1) (play p (Event.ClientTick h))
          → Covered due (play_hosts count (h + 1) (play p (Event.ClientTick h)))) → (b : Bool) → (host == h) ≡ b → Covered due (play_hosts (suc count) h p)
      by again true same =
          let e : host ≡ h = same-number host h same in
          let first : Covered due (play p (Event.ClientTick h)) = subst (λ n. Covered due (play p (Event.ClientTick n))) e (own-tick p l due all) in
          hosts-pass due count (h + 1) (play p (Event.ClientTick h)) (ticks-on p h l) (omega arith) first
      by again false differs =
          let apart : host ≢ h = λ e. let yes : (host == h) ≡ true = number-same host h e in absurd (cc) in
          again (later apart) (omega arith) (passes p l (due + 1) (Event.ClientTick h) refl (other-tick p.world h apart (slice_get p.world.clients h)) all)
        where
          later : host ≢ h → h + 1 ≤ host
          later apart = omega arith

  -- ---- rounds

  order-covers : (due : ℕ) (order : List ℕ) (p : Play) → IsLawful most head p → IsSmall (play_order order p) → Covered due p → Covered due (play_order order p)
  order-covers due [] p l small all = all
  order-covers due (k ∷ order) p l small all =
      let first = small-before p (Event.Deliver k) (order-small order (play p (Event.Deliver k)) small) in
      order-covers due order (play p (Event.Deliver k)) (played-quiet most head p (Event.Deliver k) tt refl l) small (delivered-covers p l k due first all)

  none-comes : (p : Play) (q : Packet) → Comes p q → p.fresh ≡ [] → ⊥
  none-comes p q c none = subst (λ ns. In ns c.number) none c.fresh

  -- where nothing is under way, each request is due
  pub over-due : (due : ℕ) (p : Play) → p.fresh ≡ [] → Covered due p → (c : Client) (t : Ticket) → slice_get p.world.clients host ≡ Some c → c.ticket
      ≡ Some t → t.last + patience ≤ c.now + due
  over-due due p none all c t at has = by (all c t at has)
    where
      by : Under p c t ⊎ (t.last + patience ≤ c.now + due) → t.last + patience ≤ c.now + due
      by (inl (asking x)) = absurd (none-comes p _ x none)
      by (inl (told r x inc counts)) = absurd (none-comes p _ x none)
      by (inr late) = late

  wider : (due : ℕ) (p : Play) → Covered due p → Covered (due + 1) p
  wider due p all c t at has = by (all c t at has)
    where
      by : Under p c t ⊎ (t.last + patience ≤ c.now + due) → Under p c t ⊎ (t.last + patience ≤ c.now + (due + 1))
      by (inl under) = inl under
      by (inr late) = inr (omega arith)

  pub whole-covers : (due : ℕ) (order : List ℕ) (p : Play) → IsLawful most head p → host < head.hosts → IsSmall (play_order order p)
      → Covered (due + 1) p → Covered due (whole_round order p)
  unfolding whole_round after_server
  whole-covers due order p l below small all =
      let q = play_order order p in
      let lq = order-lawful most head order p l in
      let many : length q.world.clients ≡ head.hosts = ap (λ (w : World). length w.clients) lq.is_run ∙ client-count head q.events in
      let delivered = order-covers (due + 1) order p l small all in
      let r = play_hosts (length q.world.clients) 0 q in
      let ticked = hosts-tick due (length q.world.clients) 0 q lq (omega arith) (omega arith) delivered in
      passes-server due r ticked
    where
      passes-server : (due : ℕ) (r : Play) → Covered due r → Covered due (play r Event.ServerTick)
      passes-server due r all c t at has = by (all c t at has)
        where
          comes : (q : Packet) → Comes r q → Comes (play r Event.ServerTick) q
          comes q x = keeps-coming r Event.ServerTick q x x.fresh

          by : Under r c t ⊎ (t.last + patience ≤ c.now + due) → Under (play r Event.ServerTick) c t ⊎ (t.last + patience ≤ c.now + due)
          by (inl (asking x)) = inl (asking (comes _ x))
          by (inl (told n x inc counts)) = inl (told n (comes _ x) inc counts)
          by (inr late) = inr late

  -- in each play a request under way was sent in the past
  pub first-covers : (p : Play) → IsLawful most head p → Covered 2 p
  first-covers p l c t at has =
      let there : slice_get (run head p.events).clients host ≡ Some c = subst (λ (u : World). slice_get u.clients host ≡ Some c) l.is_run at in
      let past = ((run-holds head p.events).clients host c there).alone.asking.ticketed t has in
      inr (let earlier = past.past in omega arith)

  -- from the third whole round on each is under way at its start
  pub wholes-cover : (orders : List (List ℕ)) (p : Play) → IsLawful most head p → host < head.hosts → IsSmall (whole_rounds orders p) → Covered 0 p
      → Covered 0 (whole_rounds orders p)
  wholes-cover [] p l below small all = all
  wholes-cover (order ∷ orders) p l below small all =
      wholes-cover orders (whole_round order p) (whole-lawful most head order p l) below small
      (whole-covers 0 order p l below (whole-small order p (wholes-small orders (whole_round order p) small)) (wider 0 p all))

  pub later-covers : (orders : List (List ℕ)) (p : Play) → 2 ≤ length orders → IsLawful most head p → host < head.hosts
      → IsSmall (whole_rounds orders p) → Covered 0 (whole_rounds orders p)
  later-covers [] p many l below small = absurd (omega arith)
  later-covers (first ∷ []) p many l below small = absurd (omega arith)
  later-covers (first ∷ second ∷ orders) p many l below small =
      let p1 = whole_round first p in
      let l1 = whole-lawful most head first p l in
      let two : IsSmall (play_order second p1) = whole-small second p1 (wholes-small orders (whole_round second p1) small) in
      let one : IsSmall (play_order first p) = whole-small first p (order-small second p1 two) in
      wholes-cover orders (whole_round second p1) (whole-lawful most head second p1 l1) below small
      (whole-covers 0 second p1 l1 below two (whole-covers 1 first p l below one (first-covers p l)))

  -- so after its delivery no request is under way
  pub none-asks : (order : List ℕ) (p : Play) → IsLawful most head p → (play_order order p).fresh ≡ [] → IsSmall (play_order order p) → Covered 0 p
      → (c : Client) → slice_get (play_order order p).world.clients host ≡ Some c → c.ticket ≡ None
  none-asks order p l none small all c at = by c.ticket refl
    where
      there : slice_get (run head (play_order order p).events).clients host ≡ Some c
      there = subst (λ (u : World). slice_get u.clients host ≡ Some c) (order-lawful most head order p l).is_run at

      by : (o : Option Ticket) → c.ticket ≡ o → c.ticket ≡ None
      by None free = free
      by (Some t) has =
          let late = over-due 0 (play_order order p) none (order-covers 0 order p l small all) c t at has in
          let recent = (calls-go-on head (play_order order p).events host c there).recent t has in
          absurd (omega arith)
