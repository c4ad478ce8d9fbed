-- A client that hears a packet, while its call stays open: what it leaves of its request, its leases, and the notices that it knows.
use Rattle.std.proofs.Common.{◌≡◌, ◌≤◌, ℕ, ◌+◌, Bool, true, false, List, Option, Some, None, refl, sym, subst, ap, ◌∙◌, arith, length}
use Rattle.nq_base.specs.declared.Grant.{Grant}
use Rattle.nq_base.specs.declared.Refusal.{Refusal}
use Rattle.nq_base.specs.declared.Reply.{Reply}
use Rattle.nq_base.specs.declared.Request.{Request}
use Rattle.nq_base.specs.declared.Row.{Row}
use Rattle.nq_base.specs.declared.Tag.{Tag}
use Rattle.nq_base.specs.declared.Who.{Who}
use Rattle.nq_model.specs.protocol.Client.{Client, ClientStep, Lease, Notice, Ticket, UnderWay, begun, lease_on, notice_on, drop_lease, used_lease}
use Rattle.nq_model.specs.protocol.Hear.{hear, inc_of, is_put_off, reply_counts, holds_later, cancels, cancelled, evicted, goes_on}
use Rattle.nq_model.specs.protocol.Message.{Message, Packet, call, reply}
use Rattle.nq_model.specs.protocol.Server.{to_host}
use Rattle.nq_model.specs.protocol.Table.{tag_below, find_row}
use Rattle.walk_steps.proofs.ClientCases.{Core, core_of, Closed}
use Rattle.walk_steps.proofs.ClientFacts.{Alone}
use Rattle.walk_steps.proofs.ClientMoves.{some-same, none-some, keeps-or-cancels}
use Rattle.walk_steps.proofs.ClientWalk.{notice-keeps}
use Rattle.walk_steps.proofs.StepCases.{heard-cases}
use Rattle.walk_steps.proofs.Packets.{In, Told, reply-same}
use Rattle.walk_steps.proofs.TagFacts.{used-from, dropped-from}
use Rattle.walk_steps.proofs.Worlds.{IsAt}
use Rattle.walk_steps.proofs.StepSends.{StepSends, only_gives, then_asks, HearSends, told as told_sends, noticed as noticed_sends, hear-sends}
use Rattle.law_rounds.proofs.Calling.{Keeps, hear-keeps}
use Rattle.nq_laws.proofs.Hope.{PutsOff}
use Rattle.nq_laws.proofs.ClientHopes.{TicketNow, same as same_ticket, new as new_ticket, Hearer}
use Rattle.nq_laws.proofs.Leaving.{waits-leave, told-leaves}

-- ---- leases

-- the leases in the middle of a step are of before, with their tags
record Fewer (c : Client) (k : Core) : Type 0 where
  less : (f : ℕ) (l : Lease) → lease_on f k.leases ≡ Some l → (m : Lease) × (lease_on f c.leases ≡ Some m) × (l.tag ≡ m.tag)

abbrev any-notice : ℕ → Tag → Type 0
any-notice f tag = Unit {0}

abbrev no-grant : ℕ → Grant → ℕ → Type 0
no-grant f g sent = ⊥

fewer-by : (c : Client) (k : Core) (less : List Lease) → ((f : ℕ) (l : Lease) → lease_on f less ≡ Some l → (m : Lease) × (lease_on f k.leases ≡ Some m)
    × (l.tag ≡ m.tag)) → Fewer c k → (f : ℕ) (l : Lease) → lease_on f less ≡ Some l → (m : Lease) × (lease_on f c.leases ≡ Some m) × (l.tag ≡ m.tag)
fewer-by c k less from h f l is = let m = from f l is in let n = h.less f m.0 m.1 in (n.0, n.1, m.2 ∙ n.2)

fewer-closed : (c : Client) → Closed any-notice no-grant (Fewer c)
fewer-closed c = record {
  uses = λ k file h. record { less = fewer-by c k (used_lease file k.leases) (used-from file k.leases) h };
  drops = λ k file h. record { less = fewer-by c k (drop_lease file k.leases) (dropped-from file k.leases) h };
  vacates = λ k file tag can h. record { less = fewer-by c k (drop_lease file k.leases) (dropped-from file k.leases) h };
  asks = λ k job request no_seq can h. record { less = h.less };
  decides = λ k job request seq can h. record { less = h.less };
  again = λ k t is h. record { less = h.less };
  holds = λ k file g sent given free unnoticed h. absurd given;
  cancels = λ k file h. record { less = h.less };
  notes = λ k file tag heard h. record { less = h.less };
}

-- a notice leaves no lease with a later tag
notice-less : (c : Client) (file : ℕ) (tag : Tag) → Alone c → (g : ℕ) (other : Tag) → holds_later other (lease_on g c.leases) ≡ false
    → holds_later other (lease_on g (goes_on (evicted (cancels (begun c) file) file tag)).client.leases) ≡ false
notice-less c file tag alone g other e = by (lease_on g (goes_on (evicted (cancels (begun c) file) file tag)).client.leases) refl
  where
    fewer : Fewer c (core_of (goes_on (evicted (cancels (begun c) file) file tag)))
    fewer = (notice-keeps (fewer-closed c) c file tag tt (λ g sent bad. bad) alone (record { less = λ f l is. (l, is, refl) })).core

    by : (o : Option Lease) → lease_on g (goes_on (evicted (cancels (begun c) file) file tag)).client.leases ≡ o → holds_later other o ≡ false
    by None is = refl
    by (Some l) is =
        let m = fewer.less g l is in
        let old : tag_below other m.0.tag ≡ false = ap (holds_later other) (sym m.1) ∙ e in
        ap (tag_below other) m.2 ∙ old

-- ---- whoever hears

module _ (rows : List Row) (ps : List Packet) (y : Packet) (ys : List Packet) (h k : ℕ) (m : Message) (c : Client) (t : ClientStep) (a : IsAt h c ps)
    (is : y ≡ to_host h m) (sent : (z : Packet) → In ys z → In ps z) (mail : Told ps h m) (hears : hear c k m ≡ Some t)
    (stays : (u : UnderWay) → c.call ≡ Some u → t.client.call ≡ None → ⊥)
    (noted : (f : ℕ) (row : Row) (n : Notice) → find_row f h rows ≡ Some row → notice_on f c.notices ≡ Some n → tag_below row.tag n.tag ≡ false)
    (named : (f : ℕ) (row : Row) (x : ℕ) (tag : Tag) → find_row f h rows ≡ Some row → m ≡ call x (Request.Evicted c.who f tag) → tag_below row.tag tag ≡ false)
    (holder : (f : ℕ) (row : Row) → find_row f h rows ≡ Some row → row.who ≡ c.who) where
  abbrev Premise : Type 0
  Premise = (l : Ticket) → c.ticket ≡ Some l → PutsOff h c l y → ⊥

  -- a reply that puts off counts
  counts-off : Premise → (xid inc : ℕ) (status : Refusal) → m ≡ reply xid (Reply.Refused inc status) → is_put_off status ≡ true → ⊥
  counts-off never xid inc status says off = heard-cases c k m t (λ (u : ClientStep). ⊥) hears (record {
    answered = λ x r ticket e asks own same counts.
        let two = reply-same x xid r (Reply.Refused inc status) (sym e ∙ says) in
        let incs : inc ≡ c.who.inc = ap inc_of (sym two.1) ∙ same in
        let number : xid ≡ ticket.xid = sym two.0 ∙ own in
        never ticket asks (record {
          status = status;
          is = is ∙ ap (to_host h) (says ∙ ap (λ n. reply n (Reply.Refused inc status)) number ∙ ap (λ i. reply ticket.xid (Reply.Refused i status)) incs);
          off = off;
          counts = ap (λ z. reply_counts z ticket) (sym two.1) ∙ counts;
        });
    noticed = λ x file tag e older. let two : call x (Request.Evicted c.who file tag) ≡ reply xid (Reply.Refused inc status) = sym e ∙ says in absurd (cc);
  })

  kept : Keeps Premise c t
  kept = hear-keeps Premise c k m t a.alone hears counts-off

  -- a new number is in no reply
  new-number : (l : Ticket) → c.xid ≤ l.xid → t.client.who ≡ c.who → (z : Packet) → In ys z → PutsOff h t.client l z → ⊥
  new-number l high same z i o =
      let there : Told ps h (reply l.xid (Reply.Refused c.who.inc o.status)) = subst (λ p. In ps p) (o.is
      ∙ ap (λ (w : Who). to_host h (reply l.xid (Reply.Refused w.inc o.status))) same) (sent z i) in
      let r = a.mail.replied l.xid (Reply.Refused c.who.inc o.status) (subst (λ n. Told ps n (reply l.xid (Reply.Refused c.who.inc o.status)))
      (sym a.here) there) refl in
      let low = r.number in
      absurd (omega arith)

  asked-now : (in_tick : Bool) (old : Option Ticket) → StepSends c.who c.xid c.now in_tick old t → (l : Ticket) → t.client.ticket ≡ Some l → (old ≡ Some l
      → TicketNow h c t y ys l) → TicketNow h c t y ys l
  asked-now in_tick old (only_gives g) l asks same_one = same_one (sym g.asking ∙ asks)
  asked-now in_tick old (then_asks given ticket vs none has sends xid after who now at last by fits renews) l asks same_one =
      let one : ticket ≡ l = some-same ticket l (sym has ∙ asks) in
      let number : l.xid ≡ c.xid + length given = ap (λ (z : Ticket). z.xid) (sym one) ∙ xid in
      new_ticket (new-number l (omega arith) who)

  who-same : HearSends c m t → t.client.who ≡ c.who
  who-same (told_sends r ticket e has inc counts s) = by s
    where
      by : StepSends c.who c.xid c.now false None t → t.client.who ≡ c.who
      by (only_gives g) = g.same
      by (then_asks given ticket vs none has sends xid after who now at last asker_is fits renews) = who
  who-same (noticed_sends x file tag e s) = by s
    where
      by : StepSends c.who c.xid c.now false (cancelled file c.ticket) t → t.client.who ≡ c.who
      by (only_gives g) = g.same
      by (then_asks given ticket vs none has sends xid after who now at last asker_is fits renews) = who

  less : (file x : ℕ) (tag : Tag) → m ≡ call x (Request.Evicted c.who file tag) → (g : ℕ) (other : Tag) → holds_later other (lease_on g c.leases) ≡ false
      → holds_later other (lease_on g t.client.leases) ≡ false
  less file x tag says = heard-cases c k m t (λ (u : ClientStep). (g : ℕ) (other : Tag) → holds_later other (lease_on g c.leases) ≡ false
      → holds_later other (lease_on g u.client.leases) ≡ false) hears (record {
        answered = λ xid r ticket e asks own same counts. let two : reply xid r ≡ call x (Request.Evicted c.who file tag) = sym e ∙ says in absurd (cc);
        noticed = λ xid f v e older g other is_free. notice-less c f v a.alone g other is_free;
      })

  ticket-now : HearSends c m t → (l : Ticket) → t.client.ticket ≡ Some l → TicketNow h c t y ys l
  ticket-now (told_sends r ticket e has inc counts s) l asks = asked-now false None s l asks (λ none. none-some l none)
  ticket-now (noticed_sends x file tag e s) l asks = asked-now false (cancelled file c.ticket) s l asks (λ still.
      let kept_one = keeps-or-cancels file c.ticket l still in
      same_ticket x file tag kept_one.0 (is ∙ ap (to_host h) e) kept_one.1 (less file x tag e))

  pub hearer : Hearer rows y ys h c t
  hearer =
      let s = hear-sends c k m t a.alone hears in
      record {
        who = who-same s;
        now = kept.now;
        opens = λ u has. opened u has t.client.call refl;
        before = λ v has. let o = kept.calls v has in (o.0, o.1, o.2);
        pause = kept.pause;
        ticket = ticket-now s;
        told_on = told-leaves rows ps y h k m c t a is mail hears noted named holder;
        waits_on = waits-leave rows ps y h k m c t a is mail hears noted named holder;
      }
    where
      opened : (u : UnderWay) → c.call ≡ Some u → (o : Option UnderWay) → t.client.call ≡ o → (v : UnderWay) × (t.client.call ≡ Some v) × (v.call ≡ u.call)
      opened u has None none = absurd (stays u has none)
      opened u has (Some v) there =
          let o = kept.calls v there in
          (v, there, o.2 ∙ ap (λ (z : UnderWay). z.call) (some-same o.0 u (sym o.1 ∙ has)))
