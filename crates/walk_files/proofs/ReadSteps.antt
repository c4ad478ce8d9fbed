-- What a client's step answers with a value, and which READ it sends.
use Rattle.std.proofs.Common.{◌≡◌, ◌⊎◌, ℕ, ◌+◌, Bool, true, false, List, [], ◌∷◌, Option, Some, None, if◌then◌else◌, refl, sym, subst, ap, ◌∙◌, inl, inr}
use Rattle.nq_base.specs.Block.{value_of}
use Rattle.nq_base.specs.declared.Answer.{Answer}
use Rattle.nq_base.specs.declared.Call.{Call}
use Rattle.nq_base.specs.declared.Entry.{Entry}
use Rattle.nq_base.specs.declared.Entry.TheVariants.{C, A}
use Rattle.nq_base.specs.declared.Grant.{Grant}
use Rattle.nq_base.specs.declared.Reply.{Reply}
use Rattle.nq_base.specs.declared.Request.{Request}
use Rattle.nq_base.specs.declared.Said.{Said}
use Rattle.nq_base.specs.declared.Said.TheVariants.{OkValue, OkBy}
use Rattle.nq_base.specs.declared.Tag.{Tag}
use Rattle.nq_base.specs.declared.Value.{Value}
use Rattle.nq_base.specs.declared.Want.{Want}
use Rattle.nq_base.specs.declared.Who.{Who}
use Rattle.walk_steps.proofs.RepliedCases.{replied-cases, OfCall, IsNamed, looked_up, created, attributes}
use Rattle.walk_steps.proofs.SettleCases.{settle-settles}
use Rattle.walk_steps.proofs.StepCases.{call-cases, unless-cached-cases, tick-cases, evicted-cases, heard-cases}
use Rattle.walk_steps.proofs.ClientFacts.{Alone, fits_job}
use Rattle.walk_steps.proofs.ClientMoves.{none-some, some-same}
use Rattle.walk_files.proofs.ReadParts.{IsDull, is_read, ReadsNothing, MadeFor, TicketOfCall, IsLike, MadeOf, made-refused, made-optional, made-call}
use Rattle.walk_files.proofs.ReadParts.{made-refusing, made-knows, made-pauses, made-attached, made-spends, made-read, made-leased, made-written}
use Rattle.walk_files.proofs.ReadParts.{made-pushed}
use Rattle.nq_model.specs.protocol.Client.{Client, ClientStep, for_call, Ticket, UnderWay, begun}
use Rattle.nq_model.specs.protocol.ClientStep.{begins_call, is_called, says_busy, client_call, client_tick, at_time, sends_again}
use Rattle.nq_base.specs.Calls.{told}
use Rattle.nq_model.specs.protocol.Hear.{vacates_lease, notes_notice, evicted, cancels, cancelled, wants_of, replied, reply_counts, inc_of, hear}
use Rattle.nq_model.specs.protocol.Message.{Message, call, reply}
use Rattle.nq_model.specs.protocol.Settle.{answers, names_losses, settle, said}
use Rattle.walk_steps.proofs.Packets.{In, call-same}
use Rattle.walk_files.proofs.ReadSends.{Done, OldRead, Quiet, ToldOf, done-quiet, settled-quiet, told-goes-on, told-made, told-sends, told-settles}

-- ---- whole steps

abbrev pub NoneValued : Entry → Type 0
NoneValued e = ⊥

one-dull : (x : Entry) → IsDull x → (e : Entry) → In (x ∷ []) e → IsDull e
one-dull x dull e (inl same) = subst IsDull same dull
one-dull x dull e (inr bad) = absurd bad

two-dull : (x y : Entry) → IsDull x → IsDull y → (e : Entry) → In (x ∷ y ∷ []) e → IsDull e
two-dull x y dull other e (inl same) = subst IsDull same dull
two-dull x y dull other e (inr i) = one-dull y other e i

-- the answer with a value that the reply in packet k gives: to a call that reads nothing, or by a READ's reply
pub record IsServedAnswer (c : Client) (k : ℕ) (m : Message) (who : Who) (q v packet : ℕ) : Type 0 where
  pub who_is : who ≡ c.who
  pub packet_is : packet ≡ k
  pub u : UnderWay
  pub called : c.call ≡ Some u
  pub number : u.q ≡ q
  pub ticket : Ticket
  pub has : c.ticket ≡ Some ticket
  pub by : Who
  pub file : ℕ
  pub block : ℕ
  pub want : Option Want
  pub asks : ticket.request ≡ Request.Read by q file block want
  pub inc : ℕ
  pub rev : ℕ
  pub body : List ℕ
  pub grant : Option Grant
  pub is : m ≡ reply ticket.xid (Reply.Read inc rev body grant)
  pub inc_is : inc ≡ c.who.inc
  pub value : v ≡ value_of body

pub record IsNamedAnswer (c : Client) (who : Who) (q : ℕ) : Type 0 where
  pub who_is : who ≡ c.who
  pub u : UnderWay
  pub called : c.call ≡ Some u
  pub number : u.q ≡ q
  pub nothing : ReadsNothing u.call

abbrev pub ValuedBy : Client → (k : ℕ) → Message → Entry → Type 0
ValuedBy c k m (A who q (OkValue v)) = IsNamedAnswer c who q
ValuedBy c k m (A who q (OkBy v packet)) = IsServedAnswer c k m who q v packet
ValuedBy c k m other = ⊥

module _ (c : Client) (asks : TicketOfCall c.ticket c.call) where
  none-called : c.call ≡ None → (under : Option UnderWay) → TicketOfCall c.ticket under
  none-called none under t is job = let k = asks t is job in none-some k.0 (sym none ∙ k.1)

  called-busy : (op : Call) → Done c NoneValued (says_busy (begins_call c op))
  unfolding says_busy begins_call
  called-busy op = record {
    tells = record { who_is = refl; fine = λ e i. inl (two-dull (A c.who (c.calls + 1) Said.Busy) (C c.who (c.calls + 1) (told op)) tt tt e i); asks = asks };
    reads = λ x who q file block want i. absurd i;
  }

  called-names : (op : Call) (file : ℕ) → c.call ≡ None → Done c NoneValued (names_losses (begins_call c op) (begins_call c op).client.calls file)
  unfolding begins_call answers
  called-names op file none = record {
    tells = record { who_is = refl; fine = λ e i. inl (two-dull _ (C c.who (c.calls + 1) (told op)) tt tt e i); asks = none-called none None };
    reads = λ x who q f block want i. absurd i;
  }

  called-told : (op : Call) → c.call ≡ None → ToldOf c NoneValued (is_called (begins_call c op) op) × Quiet (is_called (begins_call c op) op).sends
  unfolding begins_call is_called
  called-told op none =
      (record { who_is = refl; fine = λ e i. inl (one-dull (C c.who (c.calls + 1) (told op)) tt e i); asks = none-called none _ }, λ x r i. absurd i)

  pub call-done : (op : Call) → Done c NoneValued (client_call c op)
  call-done op = call-cases c op (Done c NoneValued) (record {
    busy = λ why. called-busy op;
    telling = λ file loss losses none on changed some. called-names op file none;
    going = λ none on nothing.
        let h = called-told op none in
        let t : ClientStep = is_called (begins_call c op) op in
        unless-cached-cases (settle t) (Done c NoneValued)
        (λ e. done-quiet c NoneValued (settle t) (told-settles c NoneValued t h.0) (settled-quiet c NoneValued t h.1))
        (λ e. told-sends c NoneValued false (settle t) (settle-settles t) (told-settles c NoneValued t h.0) (settled-quiet c NoneValued t h.1));
  })

  timed-told : (now : ℕ) → ToldOf c NoneValued (begun (at_time c now)) × Quiet (begun (at_time c now)).sends
  unfolding at_time
  timed-told now = (record { who_is = refl; fine = λ e i. absurd i; asks = asks }, λ x r i. absurd i)

  again-done : (now : ℕ) (ticket : Ticket) → c.ticket ≡ Some ticket → Done c NoneValued (sends_again (begun (at_time c now)) ticket)
  unfolding at_time sends_again
  again-done now ticket has = record {
    tells =
        record {
          who_is = refl;
          fine = λ e i. absurd i;
          asks = λ k is job. let one = some-same _ k is in
              let m = asks ticket has (ap (λ z. z.job) one ∙ job) in (m.0, m.1, subst (λ q. MadeFor q m.0) (ap (λ z. z.request) one) m.2);
        };
    reads = λ x who q file block want i. inl (case x who q file block want i);
  } where
    case : (x : ℕ) (who : Who) (q file block : ℕ) (want : Option Want)
        → (call ticket.xid ticket.request ≡ call x (Request.Read who q file block want)) ⊎ ⊥ → OldRead c x (Request.Read who q file block want)
    case x who q file block want (inl same) =
        let p = call-same ticket.xid x ticket.request _ same in record { ticket = ticket; has = has; number = p.0; asks = p.1 }
    case x who q file block want (inr bad) = absurd bad

  pub tick-done : (now : ℕ) → Done c NoneValued (client_tick c now)
  tick-done now = tick-cases c now (Done c NoneValued) (record {
    again = λ ticket has late. again-done now ticket has;
    quiet = λ ticket has short. done-quiet c NoneValued (begun (at_time c now)) (timed-told now).0 (timed-told now).1;
    free = λ none. told-goes-on c NoneValued true (begun (at_time c now)) (timed-told now).0 (timed-told now).1;
  })

  -- ---- a datagram

  module _ (k : ℕ) (m : Message) where
    abbrev V : Entry → Type 0
    V = ValuedBy c k m

    module _ (ticket : Ticket) (r : Reply) (has : c.ticket ≡ Some ticket) (is : m ≡ reply ticket.xid r) (inc_is : inc_of r ≡ c.who.inc) where
      -- the call's request
      of-call : ticket.job ≡ for_call → (u : UnderWay) × (c.call ≡ Some u) × MadeFor ticket.request u
      of-call job = asks ticket has job

      named-valued : (answer : Answer) → ticket.job ≡ for_call → IsNamed ticket.request r answer → (who : Who) (u : UnderWay) → who ≡ c.who → IsLike c u
          → V (A who u.q (said answer None))
      named-valued answer job (looked_up w name inc file blocks a b) who u mine like =
          let o = of-call job in
          let one : o.0 ≡ like.v = some-same o.0 like.v (sym o.1 ∙ like.called) in
          record {
            who_is = mine;
            u = like.v;
            called = like.called;
            number = sym like.number;
            nothing = subst (λ z. ReadsNothing z.call) one
                (subst (λ q. MadeFor q o.0) a o.2);
          }
      named-valued answer job (created w seq name blocks inc file a b) who u mine like =
          let o = of-call job in
          let one : o.0 ≡ like.v = some-same o.0 like.v (sym o.1 ∙ like.called) in
          record {
            who_is = mine;
            u = like.v;
            called = like.called;
            number = sym like.number;
            nothing = subst (λ z. ReadsNothing z.call) one
                (subst (λ q. MadeFor q o.0) a o.2);
          }
      named-valued answer job (attributes w file inc blocks rev a b) who u mine like =
          let o = of-call job in
          let one : o.0 ≡ like.v = some-same o.0 like.v (sym o.1 ∙ like.called) in
          record {
            who_is = mine;
            u = like.v;
            called = like.called;
            number = sym like.number;
            nothing = subst (λ z. ReadsNothing z.call) one
                (subst (λ q. MadeFor q o.0) a o.2);
          }

      read-valued : (w : Who) (q file block : ℕ) (want : Option Want) (inc rev : ℕ) (body : List ℕ) (grant : Option Grant)
          → OfCall ticket (Request.Read w q file block want) → r ≡ Reply.Read inc rev body grant → (u : UnderWay) → IsLike c u
          → V (A c.who u.q (OkBy (value_of body) k))
      read-valued w q file block want inc rev body grant of b u like =
          let o = of-call of.job in
          let one : o.0 ≡ like.v = some-same o.0 like.v (sym o.1 ∙ like.called) in
          let made : MadeFor (Request.Read w q file block want) o.0 = subst (λ z. MadeFor z o.0) of.asks o.2 in
          let number : u.q ≡ q = like.number ∙ sym (ap (λ z. z.q) one) ∙ made.0 in
          record {
            who_is = refl;
            packet_is = refl;
            u = like.v;
            called = like.called;
            number = sym like.number;
            ticket = ticket;
            has = has;
            by = w;
            file = file;
            block = block;
            want = want;
            asks = of.asks ∙ ap (λ n. Request.Read w n file block want) (sym number);
            inc = inc;
            rev = rev;
            body = body;
            grant = grant;
            is = is ∙ ap (reply ticket.xid) b;
            inc_is = ap inc_of (sym b) ∙ inc_is;
            value = refl;
          }

      replied-made : fits_job ticket.job ticket.request ≡ true → reply_counts r ticket ≡ true → MadeOf c V (replied (begun c) k ticket r)
      replied-made fits counts = replied-cases c k ticket r (MadeOf c V) fits counts (record {
        attaching = λ who inc job a b. made-attached c V _ (made-spends c V);
        named =
            λ answer job a. made-call c V _ answer None
            (λ u e. inr (named-valued answer job a _ u (made-spends c V).who_is ((made-spends c V).called u e))) (made-spends c V);
        reading =
            λ who q file block want inc rev body grant of b. made-read c V _ file block body grant ticket.first k
            (λ u like. inr (read-valued who q file block want inc rev body grant of b u like)) (made-spends c V);
        leasing = λ who file want inc grant of b. made-leased c V _ file grant ticket.first (made-spends c V);
        writing = λ who seq file block first last body inc rev of b. made-written c V _ file block body rev (made-spends c V);
        resizing =
            λ who seq q file blocks inc rev of b. made-call c V _ (Answer.Ok Value.Nothing) None (λ u e. inl tt)
            (made-knows c V _ file rev (made-spends c V));
        removing = λ who seq q file inc of b. made-call c V _ (Answer.Ok Value.Nothing) None (λ u e. inl tt) (made-spends c V);
        renewing = λ who file want inc grant job a b. made-optional c V _ file grant ticket.first (made-spends c V);
        pushed = λ who seq file block first last base body inc rev job a b. made-pushed c V _ file block body rev (made-spends c V);
        putting_off = λ inc status job b puts. made-pauses c V _ (made-spends c V);
        refusing = λ inc status job b counted final. made-refusing c V _ status (made-spends c V);
        renewal_refused = λ inc status job b final. made-spends c V;
        push_refused = λ who seq file block first last base body inc status job a b final. made-refused c V _ file (made-spends c V);
      })

    cancelled-asks : (file : ℕ) (o : Option Ticket) → TicketOfCall o c.call → TicketOfCall (cancelled file o) c.call
    cancelled-asks file None h t is job = none-some t is
    cancelled-asks file (Some u) h t is job = step (wants_of file u.request) is
      where
        step : (b : Bool) → (if b then None else Some u) ≡ Some t → (v : UnderWay) × (c.call ≡ Some v) × MadeFor t.request v
        step true e = none-some t e
        step false e = h t e job

    evicted-told : (file : ℕ) (tag : Tag) → ToldOf c V (evicted (cancels (begun c) file) file tag) × Quiet (evicted (cancels (begun c) file) file tag).sends
    unfolding cancels vacates_lease notes_notice
    evicted-told file tag = evicted-cases (cancels (begun c) file) file tag (λ t. ToldOf c V t × Quiet t.sends) (record {
      clean = λ e. (record { who_is = refl; fine = λ x i. absurd i; asks = cancelled-asks file c.ticket asks }, λ x r i. vacated x r i);
      waiting = λ e. (record { who_is = refl; fine = λ x i. absurd i; asks = cancelled-asks file c.ticket asks }, λ x r i. absurd i);
    }) where
      vacated : (x : ℕ) (r : Request) → (call c.xid (Request.Vacated c.who file tag) ≡ call x r) ⊎ ⊥ → is_read r ≡ false
      vacated x r (inl same) = ap is_read (sym (call-same c.xid x _ r same).1)
      vacated x r (inr bad) = absurd bad

    pub hear-done : (t : ClientStep) → Alone c → hear c k m ≡ Some t → Done c V t
    hear-done t alone hears = heard-cases c k m t (Done c V) hears (record {
      answered = λ xid r ticket is has same inc counts.
          let h = replied-made ticket r has (is ∙ ap (λ n. reply n r) same) inc ((alone.asking.ticketed ticket has).fits) counts in
          told-goes-on c V false (replied (begun c) k ticket r) (told-made c V (replied (begun c) k ticket r) h) h.quiet;
      noticed = λ xid file tag is later. let h = evicted-told file tag in told-goes-on c V false (evicted (cancels (begun c) file) file tag) h.0 h.1;
    })
