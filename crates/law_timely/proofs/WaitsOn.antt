-- A call that needs no lease goes on waiting: no event of a timely part prolongs its pause or puts its request off.
use Rattle.std.proofs.Common.{◌≡◌, ◌≤◌, ◌<◌, ◌⊎◌, ℕ, ◌+◌, nat_lt, Bool, true, false, List, Some, None, refl, sym, subst, ap, ◌∙◌, arith}
use Rattle.std.proofs.Common.{inl, inr, ◌∷◌}
use Rattle.std.specs.Prelude.{map, slice_get}
use Rattle.std.proofs.lemmas.Bool.{and_parts}
use Rattle.nq_base.specs.declared.Call.{Call}
use Rattle.nq_base.specs.declared.Event.{Event}
use Rattle.nq_base.specs.declared.Party.{Party}
use Rattle.nq_base.specs.declared.Refusal.{Refusal}
use Rattle.nq_base.specs.declared.Reply.{Reply}
use Rattle.nq_base.specs.declared.Who.{Who}
use Rattle.nq_model.specs.protocol.Client.{Client, ClientStep, for_call, Ticket, UnderWay}
use Rattle.nq_model.specs.protocol.ClientStep.{client_call, client_tick, at_time}
use Rattle.nq_model.specs.protocol.Hear.{hear, is_put_off}
use Rattle.nq_model.specs.protocol.Kept.{host_row}
use Rattle.nq_model.specs.protocol.Lines.{Play, play}
use Rattle.nq_model.specs.protocol.Message.{Packet, reply, sequence_of}
use Rattle.nq_model.specs.protocol.Server.{to_host}
use Rattle.nq_model.specs.protocol.Skew.{ticks_of}
use Rattle.nq_model.specs.protocol.World.{Head, World, from_host, after_client, step}
use Rattle.walk_steps.proofs.ClientMoves.{none-some}
use Rattle.walk_steps.proofs.Packets.{In, in-get, Told}
use Rattle.walk_steps.proofs.Tests.{is-below, is-not-below}
use Rattle.law_rounds.specs.CalmRoundsAreLawful.{IsLawful}
use Rattle.law_rounds.specs.QuietDeliveries.{recovers}
use Rattle.law_rounds.proofs.ClientTickets.{TicketIs, kept, resent, fresh, hear-renews, tick-renews}
use Rattle.law_rounds.proofs.Next.{next-among, next-in}
use Rattle.law_rounds.proofs.PacketsCome.{Comes}
use Rattle.law_timely.specs.NobodyIsWaitedFor.{needs_no_lease}
use Rattle.law_timely.specs.Timely.{is_dead, goes_on_live_link}
use Rattle.law_rounds.specs.WholeRounds.{is_next}
use Rattle.law_rounds.proofs.Calling.{hear-keeps, tick-keeps}
use Rattle.law_timely.proofs.Covers.{drawn, none-asks, none-told}
use Rattle.law_timely.proofs.Frees.{IsFree, own-packets, seq-above, free-delivered, free-called}
use Rattle.law_rounds.proofs.ComesFrom.{comes-from}
use Rattle.law_timely.proofs.Looks.{IsLook, is_look, Looking, hear-looking, tick-looking}
use Rattle.law_timely.proofs.Moves.{Moves, stays, called, ticked, heard, moves, call-beside, number-below, is-at, mail-at, told-packet, was-open}
use Rattle.law_rounds.proofs.TicketNumbers.{IsOldOrNew, hear-numbers}
use Rattle.law_timely.proofs.Parts.{During}
use Rattle.law_timely.proofs.Waits.{Known, covered, Waits, timed}

-- the same request under another ticket
free-as : (host : ℕ) (who : Who) (p : Play) (s t : Ticket) → s.xid ≡ t.xid → s.request ≡ t.request → IsFree host who p s → IsFree host who p t
free-as host who p s t number same f = record {
  told = λ st x off. f.told st (subst (λ n. Comes p (to_host host (reply n (Reply.Refused who.inc st)))) (sym number) x) off;
  kept = λ n sq. f.kept n (ap sequence_of same ∙ sq);
}

module _ (most : ℕ) (head : Head) (dead : List ℕ) (host : ℕ) (live : is_dead dead host ≡ false) (who : Who) (q old from : ℕ) where
  same-line : (p : Play) (e : Event) (u : ClientStep) → step p.world e ≡ after_client p.world host u
      → host_row (step p.world e).server.kept host ≡ host_row p.world.server.kept host
  unfolding after_client
  same-line p e u leads = ap (λ (w : World). host_row w.server.kept host) leads

  -- a request whose sequence was drawn now, and whose number is in no reply
  new-free : (p : Play) (e : Event) (l : IsLawful most head p) (serves : recovers p.world.server.phase ≡ false) (c : Client)
      (at : slice_get p.world.clients host ≡ Some c) (on : c.attached ≡ true) (u : ClientStep) → step p.world e ≡ after_client p.world host u → (t : Ticket)
      → ((n : ℕ) → sequence_of t.request ≡ Some n → c.seq ≤ n)
      → ((st : Refusal) → Comes p (to_host host (reply t.xid (Reply.Refused c.who.inc st))) → ⊥) → IsFree host c.who (play p e) t
  unfolding after_client
  new-free p e l serves c at on u leads t above none = record {
    told = λ st x off. by st (comes-from p e (map (from_host host) u.sends) (ap (λ (w : World). w.packets) leads)
        (to_host host (reply t.xid (Reply.Refused c.who.inc st))) x);
    kept = λ n sq is later.
        let past = seq-above most head host p l serves c at on n (above n sq) in
        let same = ap (λ r. r.seq) (same-line p e u leads) in
        absurd (omega arith);
  }
    where
      by : (st : Refusal) → Comes p (to_host host (reply t.xid (Reply.Refused c.who.inc st)))
          ⊎ In (map (from_host host) u.sends) (to_host host (reply t.xid (Reply.Refused c.who.inc st))) → ⊥
      by st (inl x) = none st x
      by st (inr i) = own-packets host u.sends host (reply t.xid (Reply.Refused c.who.inc st)) i

  -- the client before a step
  looking : (p : Play) → Waits most head dead host live who q old from p → (c : Client) (v : UnderWay) → slice_get p.world.clients host ≡ Some c
      → c.call ≡ Some v → v.q ≡ q → ((t : Ticket) → c.ticket ≡ Some t → IsLook t) → Looking (from + 2) c
  looking p w c v at is number tickets = record {
    soon = λ u called_now needs. w.soon c v at is number;
    asks = λ u called_now needs t has. tickets t has;
  }

  -- ---- a datagram was heard

  module _ (p : Play) (n : ℕ) (during : During most head dead p (Event.Deliver n)) (k : Known most head dead host live who q old from p)
      (w : Waits most head dead host live who q old from p) (c : Client) (z : Packet) (t : ClientStep)
      (sent : slice_get p.world.packets n ≡ Some z) (to : z.to ≡ Party.Client host) (at : slice_get p.world.clients host ≡ Some c)
      (hears : hear c n z.message ≡ Some t) (leads : step p.world (Event.Deliver n) ≡ after_client p.world host t)
      (v : UnderWay) (is : c.call ≡ Some v) (number : v.q ≡ q) (late : from < ticks_of host p.events) where
    mail : Told p.world.packets host z.message
    mail = mail-at most head host p during.before n z sent to

    on : c.attached ≡ true
    on = (timed most head dead host live who q old from p during.before c at).on v is

    its : (s : Ticket) → c.ticket ≡ Some s → IsLook s × (s.job ≡ for_call → IsFree host who p s)
    its s has = w.asks late c v at is number s has

    free-of : (s : Ticket) → c.ticket ≡ Some s → s.job ≡ for_call → IsFree host c.who p s
    free-of s has job = subst (λ x. IsFree host x p s) (sym (k.same c at)) ((its s has).1 job)

    is-fresh : In p.fresh n
    is-fresh =
        let parts = and_parts (goes_on_live_link dead (slice_get p.world.packets n)) (is_next p.world.packets p.fresh n) during.timely in
        next-in p n (next-among p.world.packets p.fresh n parts.1)

    -- a reply that puts the request off would have been under way
    kept-off : (inc : ℕ) (status : Refusal) (s : Ticket) → c.ticket ≡ Some s → z.message ≡ reply s.xid (Reply.Refused inc status) → inc ≡ c.who.inc
        → is_put_off status ≡ true → s.job ≡ for_call → is_look s.request ≡ true → ⊥
    kept-off inc status s has says same off job look =
        (free-of s has job).told status (record {
          number = n;
          fresh = is-fresh;
          is = sent ∙ ap Some (told-packet most head host p during.before n z sent to
              ∙ ap (to_host host) (says ∙ ap (λ i. reply s.xid (Reply.Refused i status)) same));
        }) off

    pub hears-on : Looking (from + 2) t.client
    hears-on = hear-looking (from + 2) c (is-at most head host p during.before c at).alone (looking p w c v at is number (λ s has. (its s has).0)) n
        z.message t hears kept-off

    -- the request under way then
    pub hears-free : (s : Ticket) → t.client.ticket ≡ Some s → s.job ≡ for_call → IsFree host who (play p (Event.Deliver n)) s
    hears-free s has job = subst (λ x. IsFree host x (play p (Event.Deliver n)) s) (k.same c at)
        (by ((hear-numbers host c p.world.packets n z.message t (is-at most head host p during.before c at) mail hears).ticket s has))
      where
        own-number : (u : Ticket) → c.ticket ≡ Some u → u.xid < c.xid
        own-number u has = ((is-at most head host p during.before c at).mail.own u has).number

        untold : c.xid ≤ s.xid → (st : Refusal) → Comes p (to_host host (reply s.xid (Reply.Refused c.who.inc st))) → ⊥
        untold above st x =
            let a = is-at most head host p during.before c at in
            let i : Told p.world.packets host (reply s.xid (Reply.Refused c.who.inc st)) = in-get p.world.packets x.number
            (to_host host (reply s.xid (Reply.Refused c.who.inc st))) x.is in
            let low = (a.mail.replied s.xid (Reply.Refused c.who.inc st) (subst (λ h. Told p.world.packets h (reply s.xid
            (Reply.Refused c.who.inc st))) (sym a.here) i) refl).number in
            omega arith

        drawn-now : c.xid ≤ s.xid → TicketIs c.ticket c.seq t.sends s → (m : ℕ) → sequence_of s.request ≡ Some m → c.seq ≤ m
        drawn-now above (kept was) m sq = let low = own-number s was in absurd (omega arith)
        drawn-now above (resent u was same of i) m sq = let low = own-number u was in absurd (omega arith)
        drawn-now above (fresh i up) m sq = up m sq

        by : IsOldOrNew c.ticket c.xid s → IsFree host c.who (play p (Event.Deliver n)) s
        by (inl o) =
            let of_job : o.0.job ≡ for_call = o.4 ∙ job in
            free-as host c.who (play p (Event.Deliver n)) o.0 s o.2 o.3
            (free-delivered most head host p during.before k.serves c at on o.0 o.1 ((its o.0 o.1).0.own of_job) (free-of o.0 o.1 of_job) n)
        by (inr above) =
            new-free p (Event.Deliver n) during.before k.serves c at on t leads s
            (drawn-now above ((hear-renews host c p.world.packets n z.message t (is-at most head host p during.before c at) mail
            (drawn most head host p during.before c at) hears).ticket s has))
            (untold above)

  -- ---- the host's clock ticked

  module _ (p : Play) (during : During most head dead p (Event.ClientTick host)) (k : Known most head dead host live who q old from p)
      (w : Waits most head dead host live who q old from p) (c : Client) (at : slice_get p.world.clients host ≡ Some c)
      (leads : step p.world (Event.ClientTick host) ≡ after_client p.world host (client_tick c (c.now + 1)))
      (v : UnderWay) (is : c.call ≡ Some v) (number : v.q ≡ q) where
    idle : c.ticket ≡ None
    idle = none-asks most head host dead live p during.before during.timely (covered most head dead host live who q old from p k) c at

    pub ticks-on : Looking (from + 2) (client_tick c (c.now + 1)).client
    ticks-on = tick-looking (from + 2) c (is-at most head host p during.before c at).alone
        (looking p w c v at is number (λ s has. none-some s (sym idle ∙ has)))

    pub ticks-free : (s : Ticket) → (client_tick c (c.now + 1)).client.ticket ≡ Some s → IsFree host who (play p (Event.ClientTick host)) s
    ticks-free s has = subst (λ x. IsFree host x (play p (Event.ClientTick host)) s) (k.same c at)
        (new-free p (Event.ClientTick host) during.before k.serves c at ((timed most head dead host live who q old from p during.before c at).on v is)
        (client_tick c (c.now + 1)) leads s
        (drawn-now ((tick-renews c (is-at most head host p during.before c at).alone (drawn most head host p during.before c at)).ticket s has))
        (λ st x. none-told most head host dead live p during.timely (reply s.xid (Reply.Refused c.who.inc st)) x))
      where
        drawn-now : TicketIs c.ticket c.seq (client_tick c (c.now + 1)).sends s → (m : ℕ) → sequence_of s.request ≡ Some m → c.seq ≤ m
        drawn-now (kept was) m sq = none-some s (sym idle ∙ was)
        drawn-now (resent u was same of i) m sq = none-some u (sym idle ∙ was)
        drawn-now (fresh i up) m sq = up m sq

  -- ---- each event

  module _ (p : Play) (k : Known most head dead host live who q old from p) (w : Waits most head dead host live who q old from p) where
    -- the client of the host is as it was
    stayed-asks : (e : Event) → During most head dead p e → from < ticks_of host (e ∷ p.events) → (d : Client) (u : UnderWay)
        → slice_get p.world.clients host ≡ Some d → d.call ≡ Some u → u.q ≡ q → (t : Ticket) → d.ticket ≡ Some t
        → IsLook t × (t.job ≡ for_call → IsFree host who (play p e) t)
    stayed-asks (Event.Deliver n) during late d u at is number t has =
        let its = w.asks (let more = late in omega arith) d u at is number t has in
        let on = (timed most head dead host live who q old from p during.before d at).on u is in (
          its.0,
          λ job. subst (λ x. IsFree host x (play p (Event.Deliver n)) t) (k.same d at)
              (free-delivered most head host p during.before k.serves d at on t has (its.0.own job)
              (subst (λ x. IsFree host x p t) (sym (k.same d at)) (its.1 job)) n),
        )
    stayed-asks (Event.Call h op) during late d u at is number t has =
        let its = w.asks (let more = late in omega arith) d u at is number t has in
        let on = (timed most head dead host live who q old from p during.before d at).on u is in (
          its.0,
          λ job. subst (λ x. IsFree host x (play p (Event.Call h op)) t) (k.same d at)
              (free-called most head host p during.before k.serves d at on t has (its.0.own job)
              (subst (λ x. IsFree host x p t) (sym (k.same d at)) (its.1 job)) h op),
        )
    stayed-asks Event.ServerTick during late d u at is number t has = none-some t
        (sym (none-asks most head host dead live p during.before during.timely (covered most head dead host live who q old from p k) d at) ∙ has)
    stayed-asks (Event.ClientTick h) during late d u at is number t has = none-some t
        (sym (none-asks most head host dead live p during.before during.timely (covered most head dead host live who q old from p k) d at) ∙ has)
    stayed-asks (Event.Restart h) during late d u at is number t has = let no : false ≡ true = during.timely in absurd (cc)
    stayed-asks (Event.Crash longest) during late d u at is number t has = let no : false ≡ true = during.timely in absurd (cc)

    module _ (e : Event) (during : During most head dead p e) where
      -- the request under way then, and until when the client pauses
      record Then (d : Client) (u : UnderWay) : Type 0 where
        soon : d.pause ≤ from + 2
        asks : from < ticks_of host (e ∷ p.events) → (t : Ticket) → d.ticket ≡ Some t → IsLook t × (t.job ≡ for_call → IsFree host who (play p e) t)

      kind-then : (d : Client) (u : UnderWay) → slice_get (step p.world e).clients host ≡ Some d → d.call ≡ Some u → u.q ≡ q → needs_no_lease u.call ≡ true
      kind-then d u there is number =
          let o = was-open most head host dead p e during who q k.some k.same d there u is number in
          ap needs_no_lease o.same ∙ w.kind o.client o.call o.at o.is_open o.number

      by-stay : (d : Client) (u : UnderWay) → slice_get p.world.clients host ≡ Some d → d.call ≡ Some u → u.q ≡ q → Then d u
      by-stay d u at is number = record {
        soon = w.soon d u at is number;
        asks = λ late t has. stayed-asks e during late d u at is number t has;
      }

      by-call : (d : Client) (u : UnderWay) → d.call ≡ Some u → u.q ≡ q → (c : Client) (op : Call) → e ≡ Event.Call host op
          → slice_get p.world.clients host ≡ Some c → d ≡ (client_call c op).client → Then d u
      by-call d u is number c op e_is at new =
          let b = call-beside c op q (number-below most head host p during.before who q k.some c at (k.same c at)) u
          (ap (λ (x : Client). x.call) (sym new) ∙ is) number in
          let pause : d.pause ≡ c.pause = ap (λ (x : Client). x.pause) new ∙ b.pause in
          let ticket : d.ticket ≡ c.ticket = ap (λ (x : Client). x.ticket) new ∙ b.ticket in
          record {
            soon = subst (λ n. n ≤ from + 2) (sym pause) (w.soon c u at b.was number);
            asks = λ late t has. stayed-asks e during late c u at b.was number t (sym ticket ∙ has);
          }

      by-tick : (d : Client) (u : UnderWay) → d.call ≡ Some u → u.q ≡ q → needs_no_lease u.call ≡ true → (c : Client) → e ≡ Event.ClientTick host
          → slice_get p.world.clients host ≡ Some c → d ≡ (client_tick c (c.now + 1)).client
          → step p.world e ≡ after_client p.world host (client_tick c (c.now + 1)) → Then d u
      unfolding at_time
      by-tick d u is number needs c e_is at new leads =
          let v = (tick-keeps c).calls u (ap (λ (x : Client). x.call) (sym new) ∙ is) in
          let mine : During most head dead p (Event.ClientTick host) = subst (λ f. During most head dead p f) e_is during in
          let to : step p.world (Event.ClientTick host) ≡ after_client p.world host (client_tick c (c.now + 1)) =
          subst (λ f. step p.world f ≡ after_client p.world host (client_tick c (c.now + 1))) e_is leads in
          let l = ticks-on p mine k w c at to v.0 v.1 (sym v.3 ∙ number) in
          let now = ap (λ (x : Client). x.call) (sym new) ∙ is in
          record {
            soon = subst (λ (x : Client). x.pause ≤ from + 2) (sym new) (l.soon u now needs);
            asks = λ late t has.
                let has_now = ap (λ (x : Client). x.ticket) (sym new) ∙ has in (
                  l.asks u now needs t has_now,
                  λ job. subst (λ f. IsFree host who (play p f) t) (sym e_is)
                      (ticks-free p mine k w c at to v.0 v.1 (sym v.3 ∙ number) t has_now),
                );
          }

      by-hear : (d : Client) (u : UnderWay) → slice_get (step p.world e).clients host ≡ Some d → d.call ≡ Some u → u.q ≡ q
          → needs_no_lease u.call ≡ true → (c : Client) (n : ℕ) (z : Packet) (t : ClientStep) → e ≡ Event.Deliver n
          → slice_get p.world.packets n ≡ Some z → z.to ≡ Party.Client host → slice_get p.world.clients host ≡ Some c → hear c n z.message ≡ Some t
          → d ≡ t.client → step p.world e ≡ after_client p.world host t → Then d u
      by-hear d u there is number needs c n z t e_is sent to at hears new leads = by (nat_lt from (ticks_of host p.events)) refl
        where
          mine : During most head dead p (Event.Deliver n)
          mine = subst (λ f. During most head dead p f) e_is during

          leads_to : step p.world (Event.Deliver n) ≡ after_client p.world host t
          leads_to = subst (λ f. step p.world f ≡ after_client p.world host t) e_is leads

          v : (x : UnderWay) × (c.call ≡ Some x) × (u.call ≡ x.call) × (u.q ≡ x.q)
          v = (hear-keeps ⊥ c n z.message t (is-at most head host p during.before c at).alone hears (λ no. absurd no)).calls u
              (ap (λ (x : Client). x.call) (sym new) ∙ is)

          same-ticks : ticks_of host (e ∷ p.events) ≡ ticks_of host p.events
          same-ticks = ap (λ f. ticks_of host (f ∷ p.events)) e_is ∙ none (ticks_of host p.events)
            where
              none : (m : ℕ) → 0 + m ≡ m
              none m = omega arith

          by : (b : Bool) → nat_lt from (ticks_of host p.events) ≡ b → Then d u
          by true early =
              let late = is-below from (ticks_of host p.events) early in
              let l = hears-on p n mine k w c z t sent to at hears leads_to v.0 v.1 (sym v.3 ∙ number) late in
              let now = ap (λ (x : Client). x.call) (sym new) ∙ is in
              record {
                soon = subst (λ (x : Client). x.pause ≤ from + 2) (sym new) (l.soon u now needs);
                asks = λ again s has.
                    let has_now = ap (λ (x : Client). x.ticket) (sym new) ∙ has in (
                      l.asks u now needs s has_now,
                      λ job. subst (λ f. IsFree host who (play p f) s) (sym e_is)
                          (hears-free p n mine k w c z t sent to at hears leads_to v.0 v.1 (sym v.3 ∙ number) late s has_now job),
                    );
              }
          by false early =
              let upto = is-not-below from (ticks_of host p.events) early in
              let time = timed most head dead host live who q old from (play p e) during.after d there in
              let clock = time.clock in
              let short = time.short in
              let same = same-ticks in
              record { soon = omega arith; asks = λ late. absurd (omega arith) }

      pub waits-event : Waits most head dead host live who q old from (play p e)
      waits-event = record {
        kind = kind-then;
        soon = λ d u there is number. (at-once d u there is number).soon;
        asks = λ late d u there is number t has. (at-once d u there is number).asks late t has;
      }
        where
          by : (d : Client) (u : UnderWay) → slice_get (step p.world e).clients host ≡ Some d → d.call ≡ Some u → u.q ≡ q → Moves most head host p e d
              → Then d u
          by d u there is number (stays at) = by-stay d u at is number
          by d u there is number (called c op e_is at new) = by-call d u is number c op e_is at new
          by d u there is number (ticked c e_is at new leads) = by-tick d u is number (kind-then d u there is number) c e_is at new leads
          by d u there is number (heard c n z t e_is sent to at hears new leads) =
              by-hear d u there is number (kind-then d u there is number) c n z t e_is sent to at hears new leads

          at-once : (d : Client) (u : UnderWay) → slice_get (step p.world e).clients host ≡ Some d → d.call ≡ Some u → u.q ≡ q → Then d u
          at-once d u there is number = by d u there is number (moves most head host dead p e during d there)
