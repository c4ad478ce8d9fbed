-- What the answers of a client's step rest on, where they bring a value or say what stands at the server: a cached read that stands right
-- before, or the reply.
use Rattle.std.proofs.Common.{◌≡◌, ◌⊎◌, ◌≤◌, ℕ, ◌+◌, true, false, List, [], ◌∷◌, ◌++◌, Option, Some, None, refl, inl, inr, arith}
use Rattle.std.specs.Prelude.{⊤}
use Rattle.nq_base.specs.Calls.{told}
use Rattle.nq_base.specs.declared.Answer.{Answer}
use Rattle.nq_base.specs.declared.Call.{Call}
use Rattle.nq_base.specs.declared.Entry.{Entry}
use Rattle.nq_base.specs.declared.Grant.{Grant}
use Rattle.nq_base.specs.declared.Reply.{Reply}
use Rattle.nq_base.specs.declared.Said.{Said}
use Rattle.nq_base.specs.declared.Who.{Who}
use Rattle.nq_model.specs.protocol.Client.{Client, ClientStep, for_call, Ticket, UnderWay}
use Rattle.nq_model.specs.protocol.ClientStep.{client_call, client_tick, next_incarnation, restart}
use Rattle.nq_model.specs.protocol.Hear.{hear, inc_of}
use Rattle.nq_model.specs.laws.Journal.{call_of}
use Rattle.nq_model.specs.protocol.Message.{Message, reply}
use Rattle.nq_model.specs.protocol.Settle.{said}
use Rattle.walk_files.proofs.CallFacts.{CallsAt, called-below, asks-told}
use Rattle.walk_files.proofs.Placed.{call-told}
use Rattle.walk_steps.proofs.ClientFacts.{fits_job}
use Rattle.walk_steps.proofs.ClientEntries.{needs_reply, IsPastEnd, IsLending, IsTelling, Going, OfClient, call-keeps, tick-keeps, hear-keeps}
use Rattle.walk_steps.proofs.ClientEntries.{restart-keeps}
use Rattle.walk_steps.proofs.RunningLeases.{Lent, lent-later}

-- the next entry before is a cached read of this call
abbrev pub IsCachedNext : (who : Who) (q : ℕ) → List Entry → Type 0
IsCachedNext who q (Entry.R by n file block value None ∷ before) = (by ≡ who) × (n ≡ q)
IsCachedNext who q before = ⊥

-- the call reads or writes a block past a length that its file had
pub record IsOutside (Had : (file blocks : ℕ) → Type 0) (who : Who) (q : ℕ) (journal : List Entry) : Type 0 where
  pub op : Call
  pub past : IsPastEnd Had op
  pub tells : call_of journal who q ≡ Some (told op)

-- an answer with a value rests on a cached read or on this cause, one that a block is past the end on the client's lease or on this cause,
-- and one that says what stands at the server on this cause
abbrev pub Rests : (Had : (file blocks : ℕ) → Type 0) → (Cause : (who : Who) (q : ℕ) → Said → Type 0) → (journal : List Entry) → Entry → List Entry → Type 0
Rests Had Cause journal (Entry.A who q (Said.OkValue value)) before = IsCachedNext who q before ⊎ Cause who q (Said.OkValue value)
Rests Had Cause journal (Entry.A who q Said.Range) before = IsOutside Had who q (before ++ journal) ⊎ Cause who q Said.Range
Rests Had Cause journal (Entry.A who q answer) before = needs_reply answer ≡ true → Cause who q answer
Rests Had Cause journal other before = ⊤

abbrev pub AllRest : (Had : (file blocks : ℕ) → Type 0) → (Cause : (who : Who) (q : ℕ) → Said → Type 0) → (journal entries : List Entry) → Type 0
AllRest Had Cause journal [] = ⊤
AllRest Had Cause journal (e ∷ before) = Rests Had Cause journal e before × AllRest Had Cause journal before

-- the call is told by this journal
abbrev pub IsToldBy : (journal : List Entry) → (who : Who) (q : ℕ) → Call → Type 0
IsToldBy journal who q op = call_of journal who q ≡ Some (told op)

-- `first` tells the calls under way
module _ (Had : (file blocks : ℕ) → Type 0) (Cause : (who : Who) (q : ℕ) → Said → Type 0) (journal first : List Entry) where
  -- the calls are told by the entries of the step and the journal, too
  abbrev Knows : List Entry → Type 0
  Knows entries = (who : Who) (q : ℕ) (op : Call) → IsToldBy first who q op → IsToldBy (entries ++ journal) who q op

  abbrev Both : List Entry → Type 0
  Both entries = AllRest Had Cause journal entries × Knows entries

  more : (e : Entry) (before : List Entry) → Knows before → Knows (e ∷ before)
  more e before knows who q op is = call-told e (before ++ journal) who q (told op) (knows who q op is)

  needs-none : (who : Who) (q : ℕ) (answer : Said) (before : List Entry) → needs_reply answer ≡ false → Rests Had Cause journal (Entry.A who q answer) before
  needs-none who q (Said.OkValue value) before none = absurd (cc)
  needs-none who q Said.Range before none = absurd (cc)
  needs-none who q other before none = λ needs. absurd (cc)

  has-cause : (who : Who) (q : ℕ) (answer : Said) (before : List Entry) → Cause who q answer → Rests Had Cause journal (Entry.A who q answer) before
  has-cause who q (Said.OkValue value) before cause = inr cause
  has-cause who q Said.Range before cause = inr cause
  has-cause who q other before cause = λ needs. cause

  client-rests : OfClient (λ who q op. IsToldBy first who q op) Had Both
  client-rests = record {
    answered = λ who q answer before none h. ((needs-none who q answer before none, h.0), more (Entry.A who q answer) before h.1);
    outside =
        λ who q op before past is h.
        ((inl (record { op = op; past = past; tells = h.1 who q op is }), h.0), more (Entry.A who q Said.Range) before h.1);
    read =
        λ who q file block value before h. let r : Entry = Entry.R who q file block value None in
        ((inl (refl, refl), (tt, h.0)), more (Entry.A who q (Said.OkValue value)) (r ∷ before) (more r before h.1));
    delayed = λ who file block number value before h. ((tt, h.0), more (Entry.W who file block number value false) before h.1);
    lost = λ who file block first_lost last before h. ((tt, h.0), more (Entry.L who file block first_lost last) before h.1);
  }

module _ (Had : (file blocks : ℕ) → Type 0) (Cause : (who : Who) (q : ℕ) → Said → Type 0) (c : Client) (journal : List Entry)
    (known : CallsAt c.who c.calls c.number c.call journal) (lent : Lent Had c.now c.leases) where
  going : (under : Option UnderWay) → c.call ≡ under → Going (λ who q op. IsToldBy journal who q op) c.who under
  going None is = tt
  going (Some u) is = (known.under_way u is).tells

  called : (op : Call) (under : Option UnderWay) → c.call ≡ under
      → Going (λ who q other. IsToldBy (Entry.C c.who (c.calls + 1) (told op) ∷ journal) who q other) c.who under
  called op None is = tt
  called op (Some u) is = call-told (Entry.C c.who (c.calls + 1) (told op)) journal c.who u.q (told u.call) (known.under_way u is).tells

  new-call : (op : Call) → IsToldBy (Entry.C c.who (c.calls + 1) (told op) ∷ journal) c.who (c.calls + 1) op
  new-call op =
      asks-told c.who (c.calls + 1) (told op) journal
      (λ before. let below = called-below c.who c.calls c.number c.call journal known (c.calls + 1) before in omega arith)

  pub call-rests : (op : Call) → AllRest Had Cause journal (client_call c op).entries
  call-rests op =
      let first : List Entry = Entry.C c.who (c.calls + 1) (told op) ∷ journal in
      (call-keeps (λ who q other. IsToldBy first who q other) Had (Both Had Cause journal first) (client-rests Had Cause journal first) c op
      ((tt, tt), λ who q other is. is) (called op c.call refl) (new-call op)
      lent).0.0

  pub tick-rests : (now : ℕ) → c.now ≤ now → AllRest Had Cause journal (client_tick c now).entries
  tick-rests now past =
      (tick-keeps (λ who q op. IsToldBy journal who q op) Had (Both Had Cause journal journal) (client-rests Had Cause journal journal) c now
      (tt, λ who q op is. is) (going c.call refl)
      (lent-later Had c.now now c.leases past lent)).0.0

  pub hear-rests : (number : ℕ) (m : Message) (t : ClientStep) → hear c number m ≡ Some t
      → ((ticket : Ticket) → c.ticket ≡ Some ticket → fits_job ticket.job ticket.request ≡ true)
      → ((xid : ℕ) (r : Reply) (ticket : Ticket) (file : ℕ) (g : Grant) → m ≡ reply xid r → c.ticket ≡ Some ticket → xid ≡ ticket.xid
      → inc_of r ≡ c.who.inc → IsLending c.now ticket.first ticket.request r file g → Had file g.blocks)
      → ((xid : ℕ) (r : Reply) (ticket : Ticket) (u : UnderWay) (answer : Answer) → m ≡ reply xid r → c.ticket ≡ Some ticket → xid ≡ ticket.xid
      → inc_of r ≡ c.who.inc → c.call ≡ Some u → ticket.job ≡ for_call → IsTelling ticket.request r answer → Cause c.who u.q (said answer None))
      → AllRest Had Cause journal t.entries
  hear-rests number m t hears fits granted gives =
      (hear-keeps (λ who q op. IsToldBy journal who q op) Had (Both Had Cause journal journal) (client-rests Had Cause journal journal) c number m t
      hears fits (tt, λ who q op is. is) (going c.call refl) lent granted
      (λ xid r ticket u answer is asked same inc has job tells. (
        (has-cause Had Cause journal journal c.who u.q (said answer None) [] (gives xid r ticket u answer is asked same inc has job tells), tt),
        more Had Cause journal journal (Entry.A c.who u.q (said answer None)) [] (λ who q op h. h),
      ))).0.0

pub restart-rests : (Had : (file blocks : ℕ) → Type 0) (Cause : (who : Who) (q : ℕ) → Said → Type 0) (c : Client) (journal : List Entry)
    → AllRest Had Cause journal (restart c).entries
restart-rests Had Cause c journal =
    (restart-keeps (λ who q op. IsToldBy journal who q op) Had (Both Had Cause journal journal) (client-rests Had Cause journal journal) c
    ((tt, tt), more Had Cause journal journal (Entry.B (next_incarnation c.who)) [] (λ who q op h. h))).0.0
