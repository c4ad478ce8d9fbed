-- What is known of the packets under way in a calm delivery, and what a packet leaves of hopes and of rows in the way.
use Rattle.std.proofs.Common.{◌≡◌, ◌≢◌, ◌≤◌, ◌<◌, ◌⊎◌, ℕ, ◌+◌, Bool, true, false, List, [], ◌∷◌, Option, Some, None, refl, sym, subst, ap, ◌∙◌, arith}
use Rattle.std.proofs.Common.{inl, inr}
use Rattle.std.specs.Prelude.{slice_get}
use Rattle.nq_base.specs.declared.Reply.{Reply}
use Rattle.nq_base.specs.declared.Request.{Request}
use Rattle.nq_base.specs.declared.Row.{Row}
use Rattle.nq_base.specs.declared.Tag.{Tag}
use Rattle.nq_base.specs.declared.Want.{Want}
use Rattle.nq_base.specs.declared.Who.{Who}
use Rattle.nq_model.specs.protocol.Client.{Client, ClientStep, renewing, Notice, Ticket, UnderWay, lease_on, notice_on}
use Rattle.nq_model.specs.protocol.Hear.{inc_of, holds_later, cancelled}
use Rattle.nq_model.specs.protocol.Kept.{host_row}
use Rattle.nq_model.specs.protocol.Lines.{Play}
use Rattle.nq_model.specs.protocol.Message.{Message, Packet, call, reply, asker, sequence_of}
use Rattle.nq_model.specs.protocol.Server.{Phase, serving, recovering, to_host}
use Rattle.nq_model.specs.protocol.Table.{caches, greater_mode, tag_below, find_row}
use Rattle.nq_model.specs.protocol.World.{World, from_host}
use Rattle.law_rounds.specs.QuietDeliveries.{recovers}
use Rattle.law_rounds.proofs.PacketsCome.{Comes}
use Rattle.walk_steps.proofs.ClientFacts.{fits_job}
use Rattle.walk_steps.proofs.ClientMoves.{some-same, none-some, keeps-or-cancels}
use Rattle.walk_steps.proofs.Packets.{In, in-append, Told, call-same}
use Rattle.walk_steps.proofs.StepSends.{VacatedFrom, StepSends, only_gives, then_asks, HearSends, told as told_sends, noticed as noticed_sends}
use Rattle.nq_laws.proofs.Hope.{Hopeful, Clear}
use Rattle.nq_laws.proofs.Served.{IsWant, by_read, by_lease, Fits}

-- ---- what is known of the packets under way from and to a host

pub record InOrder (p : Play) (host : ℕ) (c : Client) : Type 0 where
  -- a request is the client's
  pub asks : (x : ℕ) (r : Request) → Comes p (from_host host (call x r)) → asker r ≡ Some c.who
  -- its sequence was not decided yet
  pub fresh : (x n : ℕ) (r : Request) → Comes p (from_host host (call x r)) → sequence_of r ≡ Some n → (host_row p.world.server.kept host).seq < n
  -- one that wants a lease comes before each reply to the request under way
  pub unreplied : (x f : ℕ) (r : Request) (want : Want) (t : Ticket) (a : Reply) → Comes p (from_host host (call x r)) → IsWant r f want
      → c.ticket ≡ Some t → Comes p (to_host host (reply t.xid a)) → inc_of a ≡ c.who.inc → ⊥
  -- numbers rise
  pub rises : (x y : ℕ) (r s : Request) (first : Comes p (from_host host (call x r))) (later : Comes p (from_host host (call y s)))
      → first.number < later.number → x < y

-- what is known of tags: none that a host was told on a file is later than its row's
pub record TagsFit (w : World) (host : ℕ) (c : Client) : Type 0 where
  pub held : (f : ℕ) (row : Row) → find_row f host w.server.table.rows ≡ Some row → holds_later row.tag (lease_on f c.leases) ≡ false
  pub noted : (f : ℕ) (row : Row) (n : Notice) → find_row f host w.server.table.rows ≡ Some row → notice_on f c.notices ≡ Some n
      → tag_below row.tag n.tag ≡ false
  pub named : (f x : ℕ) (row : Row) (tag : Tag) → find_row f host w.server.table.rows ≡ Some row
      → Told w.packets host (call x (Request.Evicted c.who f tag)) → tag_below row.tag tag ≡ false

-- a request that wants a lease, under way
pub data WantedNow (rows : List Row) (q : List Packet) (host : ℕ) (c : Client) (x f : ℕ) (want : Want) : Type 0 where
  of_call : (u : UnderWay) → c.call ≡ Some u → c.pause ≤ c.now → Fits u f want → WantedNow rows q host c x f want
  of_row :
      (row : Row)
      → c.call ≡ None
      → find_row f host rows ≡ Some row
      → caches row.mode ≡ true
      → greater_mode row.mode want.mode ≡ row.mode
      → ((y : ℕ) (s : Request) → In q (from_host host (call y s)) → x ≤ y)
      → WantedNow rows q host c x f want

abbrev pub Wants : World → List Packet → Type 0
Wants w q =
    (host x f : ℕ) (c : Client) (r : Request) (want : Want)
    → slice_get w.clients host ≡ Some c
    → In q (from_host host (call x r))
    → IsWant r f want
    → WantedNow w.server.table.rows q host c x f want

-- nobody with an open call renews a lease
abbrev pub NoneRenew : World → Type 0
NoneRenew w = (host : ℕ) (c : Client) (t : Ticket) (u : UnderWay) → slice_get w.clients host ≡ Some c → c.ticket ≡ Some t → c.call ≡ Some u
    → t.job ≡ renewing → ⊥

-- what a step leaves of hopes and rows
pub data Moves (w v : World) (q q' : List Packet) : Type 0 where
  all_move :
      ((h : ℕ) → Hopeful w.clients q h → Hopeful v.clients q' h)
      → ((g : Bool) (host : ℕ) → Clear g w.server.table.rows w.clients q host → Clear g v.server.table.rows v.clients q' host)
      → Moves w v q q'
  all_but :
      (b : ℕ)
      → ((h : ℕ) → h ≢ b → Hopeful w.clients q h → Hopeful v.clients q' h)
      → ((g : Bool) (host : ℕ) → Clear g w.server.table.rows w.clients q host → Clear g v.server.table.rows v.clients q' host)
      → Clear true v.server.table.rows v.clients q' b
      → (Clear false w.server.table.rows w.clients q b → (h : ℕ) × Hopeful v.clients q' h)
      → Moves w v q q'

-- a call that is open was open, and who paused goes on to pause as before
abbrev pub Paused : World → World → Type 0
Paused w v =
    (a : ℕ) (d : Client) (u : UnderWay)
    → slice_get v.clients a ≡ Some d
    → d.call ≡ Some u
    → (c : Client) × (o : UnderWay) × (slice_get w.clients a ≡ Some c) × (c.call ≡ Some o) × (c.now < c.pause → (d.now ≡ c.now) × (d.pause ≡ c.pause))

-- ---- what a client sends

vacated-numbers : (who : Who) (first : ℕ) (ms : List Message) → VacatedFrom who first ms → (x : ℕ) (r : Request) → In ms (call x r) → (first ≤ x)
    × ((f : ℕ) (want : Want) → IsWant r f want → ⊥)
vacated-numbers who first [] v x r i = absurd i
vacated-numbers who first (m ∷ ms) v x r (inl e) =
    let k = call-same first x (Request.Vacated who v.0.0 v.0.1) r (sym v.0.2 ∙ e) in
    let low = k.0 in
    (omega arith, λ f want w. none w k.1)
  where
    none : {f : ℕ} {want : Want} → IsWant r f want → Request.Vacated who v.0.0 v.0.1 ≡ r → ⊥
    none (by_read w q block is) same = let two : Request.Vacated who v.0.0 v.0.1 ≡ Request.Read w q _ block (Some _) = same ∙ is in cc
    none (by_lease w is) same = let two : Request.Vacated who v.0.0 v.0.1 ≡ Request.GetLease w _ _ = same ∙ is in cc
vacated-numbers who first (m ∷ ms) v x r (inr i) = let rest = vacated-numbers who (first + 1) ms v.1 x r i in let low = rest.0 in (omega arith, rest.1)

-- a message that is sent has a new number; and one that wants a lease is the request under way
pub record Sent (c : Client) (t : ClientStep) (x : ℕ) (r : Request) : Type 0 where
  pub above : c.xid ≤ x
  pub asked : (f : ℕ) (want : Want) → IsWant r f want → (k : Ticket) × (t.client.ticket ≡ Some k) × (k.request ≡ r) × (fits_job k.job k.request ≡ true)
      × (k.job ≡ renewing → ⊥)

step-sent : (c : Client) (old : Option Ticket) (t : ClientStep) → StepSends c.who c.xid c.now false old t → (x : ℕ) (r : Request) → In t.sends (call x r)
    → Sent c t x r
step-sent c old t (only_gives g) x r i = let v = vacated-numbers c.who c.xid t.sends g.vacated x r i in record {
  above = v.0;
  asked = λ f want w. absurd
      (v.1 f want w);
}
step-sent c old t (then_asks given ticket vs none has sends xid after who now at last by fits renews) x r i = from (in-append given
    (call ticket.xid ticket.request ∷ []) (call x r) (subst (λ ms. In ms (call x r)) sends i))
  where
    from : In given (call x r) ⊎ ((call ticket.xid ticket.request ≡ call x r) ⊎ ⊥) → Sent c t x r
    from (inl j) = let v = vacated-numbers c.who c.xid given vs x r j in record { above = v.0; asked = λ f want w. absurd (v.1 f want w) }
    from (inr (inl e)) =
        let k = call-same ticket.xid x ticket.request r e in
        let number = k.0 in
        record { above = omega arith; asked = λ f want w. (ticket, has, k.1, fits, λ job. let bad = renews job in cc) }
    from (inr (inr bad)) = absurd bad

pub hear-sent : (c : Client) (m : Message) (t : ClientStep) → HearSends c m t → (x : ℕ) (r : Request) → In t.sends (call x r) → Sent c t x r
hear-sent c m t (told_sends r0 ticket e has inc counts s) x r i = step-sent c None t s x r i
hear-sent c m t (noticed_sends n file tag e s) x r i = step-sent c (cancelled file c.ticket) t s x r i

-- a client that heard does not renew with an open call, where it did not before
pub none-renews : (c : Client) (m : Message) (t : ClientStep) → HearSends c m t → ((k : Ticket) → c.ticket ≡ Some k → k.job ≡ renewing → ⊥) → (k : Ticket)
    → t.client.ticket ≡ Some k → k.job ≡ renewing → ⊥
none-renews c m t (told_sends r0 ticket e has inc counts s) before k asks job = by s
  where
    by : StepSends c.who c.xid c.now false None t → ⊥
    by (only_gives g) = none-some k (sym g.asking ∙ asks)
    by (then_asks given ticket vs none has sends xid after who now at last asker_is fits renews) = let bad = renews (ap (λ (z : Ticket). z.job)
        (some-same ticket k (sym has ∙ asks)) ∙ job) in cc
none-renews c m t (noticed_sends n file tag e s) before k asks job = by s
  where
    by : StepSends c.who c.xid c.now false (cancelled file c.ticket) t → ⊥
    by (only_gives g) = before k (keeps-or-cancels file c.ticket k (sym g.asking ∙ asks)).0 job
    by (then_asks given ticket vs none has sends xid after who now at last asker_is fits renews) = let bad = renews (ap (λ (z : Ticket). z.job)
        (some-same ticket k (sym has ∙ asks)) ∙ job) in cc

pub serves-is : (ph : Phase) → recovers ph ≡ false → ph ≡ serving
serves-is serving e = refl
serves-is (recovering until heard last) e = cc
