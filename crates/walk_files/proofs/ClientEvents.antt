-- Each event of a client keeps what is known of its calls.
use Rattle.std.proofs.Common.{◌≡◌, ◌<◌, ◌≤◌, ◌⊎◌, ℕ, ◌+◌, true, false, List, [], ◌∷◌, Some, None, is_some, refl, sym, subst, ap, ◌∙◌, arith, inl, inr}
use Rattle.std.specs.Prelude.{⊤}
use Rattle.nq_base.specs.declared.Answer.{Answer}
use Rattle.nq_base.specs.declared.Call.{Call}
use Rattle.nq_base.specs.declared.Entry.{Entry}
use Rattle.nq_base.specs.declared.Entry.TheVariants.{C, A, B}
use Rattle.nq_base.specs.declared.HostRow.{HostRow}
use Rattle.nq_base.specs.declared.Refusal.{Refusal}
use Rattle.nq_base.specs.declared.Reply.{Reply}
use Rattle.nq_base.specs.declared.Request.{Request}
use Rattle.nq_base.specs.declared.Said.{Said}
use Rattle.nq_base.specs.declared.Said.TheVariants.{Busy}
use Rattle.nq_base.specs.declared.Tag.{Tag}
use Rattle.nq_base.specs.declared.Who.{Who}
use Rattle.walk_files.proofs.CallFacts.{JournalFits, CallsAt, Pending, TicketFits, Requesting, journal-more, journal-busy, rises, has-open}
use Rattle.walk_files.proofs.CallFacts.{answered-below, cached-below, call-entry}
use Rattle.walk_files.proofs.CallMoves.{NotForCall, calls-called, calls-busy, pending-called, pending-more, pending-none, asks-idle, asks-busy}
use Rattle.walk_files.proofs.CallsEntries.{entry_who, entry_call, entry_number}
use Rattle.walk_files.proofs.ClientCalls.{replied-keeps}
use Rattle.walk_files.proofs.ClientMoves as move
use Rattle.walk_files.proofs.ClientMoves.{IsBelow, IsOwn, Fits, Doing, own-more}
use Rattle.walk_files.proofs.CallsClientParts.{settle-keeps, send-keeps}
use Rattle.walk_files.proofs.Placed.{IsCachedBy}
use Rattle.walk_files.proofs.Quiet.{ReadFits}
use Rattle.walk_steps.proofs.StepCases.{call-cases, unless-cached-cases, tick-cases, evicted-cases, heard-cases}
use Rattle.walk_steps.proofs.ClientFacts.{Alone}
use Rattle.walk_steps.proofs.ClientMoves.{some-same, none-some}
use Rattle.nq_model.specs.protocol.Client.{Client, ClientStep, begun, losses_of, loss_list}
use Rattle.nq_model.specs.protocol.ClientStep.{begins_call, is_called, says_busy, client_call, at_time, client_tick, next_incarnation, fresh_client, starts}
use Rattle.nq_model.specs.protocol.ClientStep.{restart}
use Rattle.nq_base.specs.Calls.{told}
use Rattle.nq_model.specs.protocol.Hear.{inc_of, cancels, evicted, goes_on, replied, hear}
use Rattle.nq_model.specs.laws.Journal.{Exists, IsCall, IsAnswer, IsOpen}
use Rattle.nq_model.specs.protocol.Message.{Message, call, reply}
use Rattle.nq_model.specs.laws.Ordered.{HasOpen}
use Rattle.nq_model.specs.protocol.Settle.{said, answers, names_losses, settle}
use Rattle.walk_steps.proofs.Members.{exists-in}
use Rattle.walk_steps.proofs.Packets.{In}

-- what is known of a client's calls at the end of a step, over this journal
pub record CallsOf (line : HostRow) (Refused : ℕ → Type 0) (c : Client) (journal : List Entry) : Type 0 where
  pub calls_fit : CallsAt c.who c.calls c.number c.call journal
  pub pending : Pending line c.who c.call c.ticket journal
  pub asks : Requesting line Refused c.who c.number c.seq c.ticket [] journal

module _ (line : HostRow) (Refused : ℕ → Type 0) (limit : ℕ) (old : List Entry) (journal : JournalFits old) (c : Client) (alone : Alone c)
    (known : CallsOf line Refused c old) where
  begun-does : Doing line Refused limit c.who old ⊤ (begun c)
  begun-does = record {
    same = refl;
    journal = journal;
    calls_fit = known.calls_fit;
    pending = λ goes. known.pending;
    asks = known.asks;
    own = λ e i.
        absurd i;
  }

  timed-does : (now : ℕ) → Doing line Refused limit c.who old ⊤ (begun (at_time c now))
  unfolding at_time
  timed-does now = begun-does

  -- ---- a call

  module _ (op : Call) where
    no-answer : ¬ Exists (IsAnswer c.who (c.calls + 1)) old
    no-answer a = let below = answered-below c.who c.calls c.number c.call old known.calls_fit (c.calls + 1) a in omega arith

    no-cached : ¬ Exists (IsCachedBy c.who (c.calls + 1)) old
    no-cached a = let below = cached-below c.who c.calls c.number c.call old known.calls_fit (c.calls + 1) a in omega arith

    answered : (word : Said) → IsBelow limit (A c.who (c.calls + 1) word) → (HasOpen old c.who → word ≡ Busy)
        → Fits line Refused limit c.who old ⊤ c.who (c.calls + 1) c.number c.seq c.call c.ticket []
        (A c.who (c.calls + 1) word ∷ C c.who (c.calls + 1) (told op) ∷ [])
    answered word below busy = record {
      same = refl;
      journal = journal-busy c.who (c.calls + 1) (told op) word old (rises c.who c.calls c.number c.call old known.calls_fit) busy no-answer no-cached journal;
      calls_fit = calls-busy c.who c.calls c.number c.call (told op) word old known.calls_fit;
      pending =
          λ goes. pending-more line c.who c.call c.ticket (A c.who (c.calls + 1) word) (C c.who (c.calls + 1) (told op) ∷ old)
          (record { write = λ n h. h; resize = λ n h. h })
          (pending-more line c.who c.call c.ticket (C c.who (c.calls + 1) (told op)) old (record { write = λ n h. h; resize = λ n h. h }) known.pending);
      asks = asks-busy c.who c.calls c.number c.call (told op) word old known.calls_fit line Refused c.seq c.ticket [] known.asks;
      own =
          own-more limit c.who (A c.who (c.calls + 1) word) (C c.who (c.calls + 1) (told op) ∷ []) (refl, below)
          (own-more limit c.who (C c.who (c.calls + 1) (told op)) [] (refl, tt) (λ e i. absurd i));
    }

    busy-does : Doing line Refused limit c.who old ⊤ (says_busy (begins_call c op))
    unfolding says_busy begins_call
    busy-does = answered Busy tt (λ some. refl)

    none-open : c.call ≡ None → HasOpen old c.who → ⊥
    none-open none some = let o = has-open c.who old old some in let u = known.calls_fit.alone o.0 o.1 in none-some u.0 (sym none ∙ u.1)

    telling-does : (file : ℕ) → c.call ≡ None → Doing line Refused limit c.who old ⊤ (names_losses (begins_call c op) (begins_call c op).client.calls file)
    unfolding begins_call answers
    telling-does file none =
        subst (λ o. Fits line Refused limit c.who old ⊤ c.who (c.calls + 1) c.number c.seq o c.ticket []
        (A c.who (c.calls + 1) (said (Answer.Lost (loss_list (losses_of file c.losses))) None) ∷ C c.who (c.calls + 1) (told op) ∷ [])) none
        (answered (said (Answer.Lost (loss_list (losses_of file c.losses))) None) tt (λ some. absurd (none-open none some)))

    idle : c.call ≡ None → NotForCall c.ticket
    idle none t is job = some (alone.asking.called t is job)
      where
        some : is_some c.call ≡ true → ⊥
        some e = let f : false ≡ true = sym (ap is_some none) ∙ e in absurd (cc)

    going-does : c.call ≡ None → Doing line Refused limit c.who old ⊤ (is_called (begins_call c op) op)
    unfolding begins_call is_called
    going-does none =
        let e : Entry = C c.who (c.calls + 1) (told op) in
        let fit : CallsAt c.who c.calls c.number None old = subst (λ o. CallsAt c.who c.calls c.number o old) none known.calls_fit in
        record {
          same = refl;
          journal =
              journal-more e old (rises c.who c.calls c.number c.call old known.calls_fit) (λ some unanswered. absurd (none-open none some))
              (λ w n h. h) journal;
          calls_fit = calls-called c.who c.calls c.number op old fit;
          pending = λ goes. pending-called line c.who c.calls c.number c.ticket op old fit;
          asks = asks-idle line Refused c.who c.number c.seq c.ticket [] e old (idle none) known.asks;
          own = own-more limit c.who e [] (refl, tt) (λ f i. absurd i);
        }

    pub called-does : Doing line Refused limit c.who old ⊤ (client_call c op)
    called-does = call-cases c op (λ s. Doing line Refused limit c.who old ⊤ s) (record {
      busy = λ either. busy-does;
      telling = λ file loss losses none on changes of. telling-does file none;
      going = λ none on empty.
          let s = settle-keeps line Refused limit c.who old (is_called (begins_call c op) op) (going-does none) in
          unless-cached-cases (settle (is_called (begins_call c op) op)) (λ s. Doing line Refused limit c.who old ⊤ s) (λ cached. s)
          (λ other. send-keeps line Refused limit c.who old false (settle (is_called (begins_call c op) op)) s);
    })

  -- ---- a tick

  pub ticked-does : (now : ℕ) → Doing line Refused limit c.who old ⊤ (client_tick c now)
  unfolding at_time
  ticked-does now = tick-cases c now (λ s. Doing line Refused limit c.who old ⊤ s) (record {
    again = λ ticket is late. move.again-keeps line Refused limit c.who old (begun (at_time c now)) ticket is (timed-does now);
    quiet = λ ticket is soon. timed-does now;
    free =
        λ none. send-keeps line Refused limit c.who old true (settle (begun (at_time c now)))
        (settle-keeps line Refused limit c.who old (begun (at_time c now)) (timed-does now));
  })

  -- ---- a datagram

  goes-on : (t : ClientStep) → Doing line Refused limit c.who old ⊤ t → Doing line Refused limit c.who old ⊤ (goes_on t)
  goes-on t h = send-keeps line Refused limit c.who old false (settle t) (settle-keeps line Refused limit c.who old t h)

  evicted-does : (file : ℕ) (tag : Tag) → Doing line Refused limit c.who old ⊤ (evicted (cancels (begun c) file) file tag)
  evicted-does file tag =
      let h = move.cancels-keeps line Refused limit c.who old (begun c) file begun-does in
      evicted-cases (cancels (begun c) file) file tag (λ s. Doing line Refused limit c.who old ⊤ s) (record {
        clean = λ e. move.vacates-keeps line Refused limit c.who old ⊤ (cancels (begun c) file) file tag h;
        waiting = λ e. move.notes-keeps line Refused limit c.who old ⊤ (cancels (begun c) file) file tag h;
      })

  pub heard-does : (k : ℕ) (m : Message) (t : ClientStep) → k < limit → hear c k m ≡ Some t
      → ((xid : ℕ) (status : Refusal) → m ≡ reply xid (Reply.Refused c.who.inc status) → Refused xid) → Doing line Refused limit c.who old ⊤ t
  heard-does k m t sent hears refused = heard-cases c k m t (λ s. Doing line Refused limit c.who old ⊤ s) hears (record {
    answered =
        λ xid r ticket e is same inc counts. goes-on (replied (begun c) k ticket r)
        (replied-keeps line Refused limit c.who old c k ticket r sent is (alone.asking.ticketed ticket is).fits counts
        (λ i status off. subst Refused same
        (refused xid status (e ∙ ap (λ z. reply xid z) (off ∙ ap (λ n. Reply.Refused n status) (sym (ap inc_of off) ∙ inc))))) begun-does);
    noticed = λ xid file tag e holds. goes-on (evicted (cancels (begun c) file) file tag) (evicted-does file tag);
  })

  -- ---- a restart

  pub restarted-does : (After : ℕ → Type 0) → line.inc ≤ c.who.inc → Doing line After limit (next_incarnation c.who) old ⊤ (restart c)
  unfolding starts fresh_client
  restarted-does After past =
      let who : Who = next_incarnation c.who in
      record {
        same = refl;
        journal = journal-more (B who) old tt tt (λ w n h. h) journal;
        calls_fit = record {
          past = λ e w i. before e w i;
          numbers = λ e n i by of. number e n i by of;
          writes = λ e n i by of. write e n i by of;
          under_way = λ u is. none-some u is;
          alone = λ n o. absurd (none n o);
        };
        pending = λ goes. pending-none line who _ (B who ∷ old);
        asks = record {
          positive = omega arith;
          line_drawn = λ e. absurd (omega arith);
          ticketed = λ t is. subst (TicketFits line After who 1 1 (B who ∷ old)) (some-same _ t is) (record {
            asks = refl;
            drawn = λ n d. none-some n d;
            reads = tt;
            numbered = λ n d. none-some n d;
            opens = λ n job d undecided. none-some n d;
            refused = λ r d. none-some d.seq d.draws;
          });
          sent = λ x r i. sends x r i;
        };
        own = λ e i. mine e i;
      }
    where
      who : Who
      who = next_incarnation c.who

      new : (e : Entry) (w : Who) → In old e → entry_who e ≡ Some w → w ≡ who → ⊥
      new e w i by same =
          let inc : w.inc ≡ c.who.inc + 1 = ap (λ z. z.inc) same in let below = known.calls_fit.past e w i by (ap (λ z. z.host) same) in omega arith

      before : (e : Entry) (w : Who) → (B who ≡ e) ⊎ In old e → entry_who e ≡ Some w → w.host ≡ c.who.host → w.inc ≤ c.who.inc + 1
      before e w (inl same) by here = let inc : c.who.inc + 1 ≡ w.inc = ap (λ z. z.inc) (some-same who w (ap entry_who same ∙ by)) in omega arith
      before e w (inr i) by here = let below = known.calls_fit.past e w i by here in omega arith

      number : (e : Entry) (n : ℕ) → (B who ≡ e) ⊎ In old e → entry_who e ≡ Some who → entry_call e ≡ Some n → n ≤ 0
      number e n (inl same) by of = none-some n (ap entry_call same ∙ of)
      number e n (inr i) by of = absurd (new e who i by refl)

      write : (e : Entry) (n : ℕ) → (B who ≡ e) ⊎ In old e → entry_who e ≡ Some who → entry_number e ≡ Some n → n < 1
      write e n (inl same) by of = none-some n (ap entry_number same ∙ of)
      write e n (inr i) by of = absurd (new e who i by refl)

      none : (n : ℕ) → IsOpen (B who ∷ old) who n → ⊥
      none n (inl bad, unanswered) = bad
      none n (inr called, unanswered) = let f = exists-in (IsCall who n) old called in new f.0 who f.1 (call-entry who n f.0 f.2).0 refl

      mine : (e : Entry) → (B who ≡ e) ⊎ ⊥ → IsOwn limit who e
      mine e (inl same) = subst (IsOwn limit who) same (refl, tt)
      mine e (inr bad) = absurd bad

      sends : (x : ℕ) (r : Request) → (call 1 (Request.Attach who) ≡ call x r) ⊎ ⊥ → ReadFits r (B who ∷ old)
      sends x r (inl e) = let same : Request.Attach who ≡ r = cc in subst (λ z. ReadFits z (B who ∷ old)) same tt
      sends x r (inr bad) = absurd bad
