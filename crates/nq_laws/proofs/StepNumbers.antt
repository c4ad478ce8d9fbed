-- What a client sends in one step, by place: numbers rise from its next one on, all is of its incarnation, and all but the request under way then is VACATED.
use Rattle.std.proofs.Common.{◌≡◌, ◌≤◌, ◌<◌, ◌⊎◌, ℕ, ◌+◌, false, zero, suc, List, [], ◌∷◌, ◌++◌, Option, Some, None, length, sym, ap, ◌∙◌, arith, inl, inr}
use Rattle.std.specs.Prelude.{slice_get}
use Rattle.nq_base.specs.declared.Request.{Request}
use Rattle.nq_base.specs.declared.Tag.{Tag}
use Rattle.nq_base.specs.declared.Who.{Who}
use Rattle.nq_model.specs.protocol.Client.{Client, ClientStep, Ticket}
use Rattle.nq_model.specs.protocol.ClientStep.{client_tick}
use Rattle.nq_model.specs.protocol.Hear.{hear, cancelled}
use Rattle.nq_model.specs.protocol.Message.{Message, Packet, call, asker, sequence_of}
use Rattle.walk_steps.proofs.ClientFacts.{Alone}
use Rattle.walk_steps.proofs.ClientMoves.{some-same, none-some, keeps-or-cancels}
use Rattle.walk_steps.proofs.Packets.{Told, call-same}
use Rattle.walk_steps.proofs.Worlds.{IsAt}
use Rattle.law_rounds.proofs.ClientTickets.{TicketIs, kept, resent, fresh, LastDrawn, Renewed, hear-renews, tick-renews}
use Rattle.walk_steps.proofs.StepSends.{VacatedFrom, Gives, StepSends, only_gives, then_asks, HearSends, told, noticed, hear-sends, TickSends, rests}
use Rattle.walk_steps.proofs.StepSends.{again, asks_now, tick-sends}
use Rattle.nq_laws.proofs.NewPackets.{get-last}

-- a request is no VACATED
abbrev pub NoVacated : Request → Type 0
NoVacated r = (who : Who) (file : ℕ) (tag : Tag) → r ≡ Request.Vacated who file tag → ⊥

-- a step of a client that sends no request again
pub record Sent (c : Client) (t : ClientStep) : Type 0 where
  pub who : t.client.who ≡ c.who
  pub numbers : (i y : ℕ) (s : Request) → slice_get t.sends i ≡ Some (call y s) → (y ≡ c.xid + i) × (asker s ≡ Some c.who)
  -- what is under way then was under way before, and only VACATED was sent; or it was sent last
  pub last :
      (k : Ticket) → t.client.ticket ≡ Some k
      → ((c.ticket ≡ Some k) × ((i y : ℕ) (s : Request) → slice_get t.sends i ≡ Some (call y s) → NoVacated s → ⊥))
      ⊎ ((c.xid ≤ k.xid) × ((i y : ℕ) (s : Request) → slice_get t.sends i ≡ Some (call y s) → NoVacated s → y ≡ k.xid))
  -- a sequence is drawn for it
  pub drawn : (i y : ℕ) (s : Request) (n : ℕ) → slice_get t.sends i ≡ Some (call y s) → sequence_of s ≡ Some n → c.seq ≤ n
  pub once : (i j y z : ℕ) (r s : Request) (m n : ℕ) → slice_get t.sends i ≡ Some (call y r) → slice_get t.sends j ≡ Some (call z s)
      → sequence_of r ≡ Some m → sequence_of s ≡ Some n → i ≡ j

-- a VACATED by its place
record VacatedAt (who : Who) (first i y : ℕ) (s : Request) : Type 0 where
  number : y ≡ first + i
  file : ℕ
  tag : Tag
  is : s ≡ Request.Vacated who file tag

vacated-at : (who : Who) (first : ℕ) (ms : List Message) (i y : ℕ) (s : Request) → VacatedFrom who first ms → slice_get ms i ≡ Some (call y s)
    → VacatedAt who first i y s
vacated-at who first [] i y s h at = none-some (call y s) at
vacated-at who first (m ∷ ms) zero y s h at =
    let one = h.0 in
    let same = call-same y first s (Request.Vacated who one.0 one.1) (sym (some-same m (call y s) at) ∙ one.2) in
    record { number = let e = same.0 in omega arith; file = one.0; tag = one.1; is = same.1 }
vacated-at who first (m ∷ ms) (suc i) y s h at =
    let rest = vacated-at who (first + 1) ms i y s h.1 at in
    record { number = let e = rest.number in omega arith; file = rest.file; tag = rest.tag; is = rest.is }

no-sequence : (who : Who) (first i y n : ℕ) (s : Request) → VacatedAt who first i y s → sequence_of s ≡ Some n → ⊥
no-sequence who first i y n s v sq = none-some n (ap sequence_of (sym v.is) ∙ sq)

-- a step that sends only VACATED
gives-sent : (c : Client) (old : Option Ticket) (t : ClientStep) → ((k : Ticket) → old ≡ Some k → c.ticket ≡ Some k) → Gives c.who c.xid c.now old t → Sent c t
gives-sent c old t from g = record {
  who = g.same;
  numbers = λ i y s at. let v = vacated-at c.who c.xid t.sends i y s g.vacated at in (v.number, ap asker v.is);
  last = λ k has. inl (
    from k (sym g.asking ∙ has),
    λ i y s at never. let v = vacated-at c.who c.xid t.sends i y s g.vacated at in
        never c.who v.file v.tag v.is,
  );
  drawn = λ i y s n at sq. absurd (no-sequence c.who c.xid i y n s (vacated-at c.who c.xid t.sends i y s g.vacated at) sq);
  once = λ i j y z r s m n a b sq also. absurd (no-sequence c.who c.xid i y m r (vacated-at c.who c.xid t.sends i y r g.vacated a) sq);
}

-- a step that sends a request last
asks-sent : (c : Client) (t : ClientStep) (given : List Message) (ticket : Ticket) → t.client.who ≡ c.who → VacatedFrom c.who c.xid given
    → t.client.ticket ≡ Some ticket → t.sends ≡ given ++ call ticket.xid ticket.request ∷ [] → ticket.xid ≡ c.xid + length given
    → asker ticket.request ≡ Some c.who → ((n : ℕ) → sequence_of ticket.request ≡ Some n → c.seq ≤ n) → Sent c t
asks-sent c t given ticket who vacated has sends xid by above = record {
  who = who;
  numbers = λ i y s at. number i y s (place i y s at);
  last = λ k is.
      let one : ticket ≡ k = some-same ticket k (sym has ∙ is) in
      inr (
        let e : ticket.xid ≡ k.xid = ap (λ (x : Ticket). x.xid) one in
            omega arith,
        λ i y s at never. only i y s (place i y s at) never ∙ ap (λ (x : Ticket). x.xid) one,
      );
  drawn = λ i y s n at sq. draw i y s n (place i y s at) sq;
  once = λ i j y z r s m n a b sq also.
      let x = end i y r m (place i y r a) sq in
      let w = end j z s n (place j z s b) also in
      x ∙ sym w;
}
  where
    place : (i y : ℕ) (s : Request) → slice_get t.sends i ≡ Some (call y s)
        → (slice_get given i ≡ Some (call y s)) ⊎ ((i ≡ length given) × (call ticket.xid ticket.request ≡ call y s))
    place i y s at = get-last given (call ticket.xid ticket.request) (call y s) i (ap (λ ms. slice_get ms i) (sym sends) ∙ at)

    number : (i y : ℕ) (s : Request) → (slice_get given i ≡ Some (call y s)) ⊎ ((i ≡ length given) × (call ticket.xid ticket.request ≡ call y s))
        → (y ≡ c.xid + i) × (asker s ≡ Some c.who)
    number i y s (inl at) = let v = vacated-at c.who c.xid given i y s vacated at in (v.number, ap asker v.is)
    number i y s (inr e) = let same = call-same ticket.xid y ticket.request s e.1 in (let a = same.0 in let b = e.0 in omega arith, ap asker (sym same.1) ∙ by)

    only : (i y : ℕ) (s : Request) → (slice_get given i ≡ Some (call y s)) ⊎ ((i ≡ length given) × (call ticket.xid ticket.request ≡ call y s))
        → NoVacated s → y ≡ ticket.xid
    only i y s (inl at) never = let v = vacated-at c.who c.xid given i y s vacated at in absurd (never c.who v.file v.tag v.is)
    only i y s (inr e) never = sym (call-same ticket.xid y ticket.request s e.1).0

    draw : (i y : ℕ) (s : Request) (n : ℕ) → (slice_get given i ≡ Some (call y s)) ⊎ ((i ≡ length given) × (call ticket.xid ticket.request ≡ call y s))
        → sequence_of s ≡ Some n → c.seq ≤ n
    draw i y s n (inl at) sq = absurd (no-sequence c.who c.xid i y n s (vacated-at c.who c.xid given i y s vacated at) sq)
    draw i y s n (inr e) sq = above n (ap sequence_of (call-same ticket.xid y ticket.request s e.1).1 ∙ sq)

    end : (i y : ℕ) (s : Request) (n : ℕ) → (slice_get given i ≡ Some (call y s)) ⊎ ((i ≡ length given) × (call ticket.xid ticket.request ≡ call y s))
        → sequence_of s ≡ Some n → i ≡ length given
    end i y s n (inl at) sq = absurd (no-sequence c.who c.xid i y n s (vacated-at c.who c.xid given i y s vacated at) sq)
    end i y s n (inr e) sq = e.0

-- the sequence of a request with a new number is drawn now
drawn-now : (c : Client) (old : Option Ticket) (sends : List Message) (ticket : Ticket) → ((k : Ticket) → old ≡ Some k → k.xid < c.xid) → c.xid ≤ ticket.xid
    → TicketIs old c.seq sends ticket → (n : ℕ) → sequence_of ticket.request ≡ Some n → c.seq ≤ n
drawn-now c old sends ticket low high (kept same) n sq = let below = low ticket same in absurd (omega arith)
drawn-now c old sends ticket low high (resent u same xid asks i) n sq = let below = low u same in absurd (omega arith)
drawn-now c old sends ticket low high (fresh i above) n sq = above n sq

step-sent : (c : Client) (old : Option Ticket) (t : ClientStep) → Alone c → ((k : Ticket) → old ≡ Some k → c.ticket ≡ Some k)
    → StepSends c.who c.xid c.now false old t → Renewed c c.now c.ticket t → Sent c t
step-sent c old t alone from (only_gives g) renews = gives-sent c old t from g
step-sent c old t alone from (then_asks given ticket vacated none has sends xid after same time at last by fits ticks) renews =
    asks-sent c t given ticket same vacated has sends xid by
    (drawn-now c c.ticket t.sends ticket (λ k e. (alone.asking.ticketed k e).number) (omega arith) (renews.ticket ticket has))

pub hear-sent : (host : ℕ) (c : Client) (ps : List Packet) (k : ℕ) (m : Message) (t : ClientStep) → IsAt host c ps → Told ps host m → LastDrawn c
    → hear c k m ≡ Some t → Sent c t
hear-sent host c ps k m t a mail drawn hears = by (hear-sends c k m t a.alone hears)
  where
    renews : Renewed c c.now c.ticket t
    renews = hear-renews host c ps k m t a mail drawn hears

    by : HearSends c m t → Sent c t
    by (told r ticket is has inc counts s) = step-sent c None t a.alone (λ k e. none-some k e) s renews
    by (noticed xid file tag is s) = step-sent c (cancelled file c.ticket) t a.alone (λ k e. (keeps-or-cancels file c.ticket k e).0) s renews

-- a tick of a client that has no request under way
pub tick-sent : (c : Client) → Alone c → LastDrawn c → c.ticket ≡ None → Sent c (client_tick c (c.now + 1))
tick-sent c alone drawn none = by (tick-sends c)
  where
    renews : Renewed c (c.now + 1) c.ticket (client_tick c (c.now + 1))
    renews = tick-renews c alone drawn

    by : TickSends c (client_tick c (c.now + 1)) → Sent c (client_tick c (c.now + 1))
    by (rests empty same xid) = record {
      who = renews.same;
      numbers = λ i y s at. none-some (call y s) (ap (λ ms. slice_get ms i) (sym empty) ∙ at);
      last = λ k has. none-some k (sym none ∙ sym same ∙ has);
      drawn = λ i y s n at sq. none-some (call y s) (ap (λ ms. slice_get ms i) (sym empty) ∙ at);
      once = λ i j y z r s m n a b sq also. none-some (call y r) (ap (λ ms. slice_get ms i) (sym empty) ∙ a);
    }
    by (again ticket has is sends xid) = none-some ticket (sym none ∙ has)
    by (asks_now ticket free has sends xid after at by_who fits) =
        asks-sent c (client_tick c (c.now + 1)) [] ticket renews.same tt has sends (omega arith) by_who
        (drawn-now c c.ticket _ ticket (λ k e. none-some k (sym none ∙ e)) (omega arith) (renews.ticket ticket has))
