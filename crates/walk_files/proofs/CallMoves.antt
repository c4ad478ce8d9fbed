-- Each small change of a client keeps what is known of its calls.
use Rattle.std.proofs.Common.{◌≡◌, ◌<◌, ◌≤◌, ◌⊎◌, ℕ, ◌+◌, true, false, List, [], ◌∷◌, ◌++◌, Option, Some, None, refl, sym, subst, ap, ◌∙◌, arith, inl, inr}
use Rattle.nq_base.specs.Block.{value_of}
use Rattle.nq_base.specs.declared.Call.{Call}
use Rattle.nq_base.specs.declared.Entry.{Entry}
use Rattle.nq_base.specs.declared.Entry.TheVariants.{C, W, A}
use Rattle.nq_base.specs.declared.HostRow.{HostRow}
use Rattle.nq_base.specs.declared.Request.{Request}
use Rattle.nq_base.specs.declared.Said.{Said}
use Rattle.nq_base.specs.declared.Told.{Told}
use Rattle.nq_base.specs.declared.Who.{Who}
use Rattle.walk_files.proofs.CallsEntries.{IsOpenAsTold}
use Rattle.walk_files.proofs.CallFacts.{CallsAt, IsBounded, NoneDone, IsPut, Pending, through_number, TicketFits, Requesting, calls-raised}
use Rattle.walk_files.proofs.CallFacts.{called-below, answered-below, resized-below, asks-told, Bounds, bounds-more}
use Rattle.walk_files.proofs.Quiet.{IsNoChange, IsQuiet, told-more, before-more, OpenFits, open-fits-more, ReadFits, read-fits-more}
use Rattle.walk_steps.proofs.ClientMoves.{some-same, none-some}
use Rattle.nq_model.specs.protocol.Client.{UnderWay, for_call, Ticket}
use Rattle.nq_base.specs.Calls.{told}
use Rattle.nq_model.specs.laws.Journal.{Exists, Throughout, IsCall, IsAnswer, IsOpen}
use Rattle.nq_model.specs.protocol.Message.{Message, call, asker, sequence_of}
use Rattle.nq_model.specs.laws.Ordered.{Writes, Resizes, IsBeforeCall, IsNumbered, IsResizeBy, IsWriteInOrder, IsResizeInOrder}
use Rattle.walk_steps.proofs.Packets.{In, in-last}

-- ---- calls

-- a call that begins
abbrev pub begun_call : ℕ → Call → UnderWay
begun_call q op = record { q = q; call = op; through = false; written = false }

call-bounded : (who : Who) (calls number : ℕ) (op : Told) → IsBounded who (calls + 1) number (C who (calls + 1) op)
call-bounded who calls number op = record {
  past = λ w by here. let e : who.inc ≡ w.inc = ap (λ v. v.inc) (some-same who w by) in omega arith;
  numbers = λ q by of. let e : calls + 1 ≡ q = some-same _ q of in omega arith;
  writes = λ n by of. none-some n of;
}

answer-bounded : (who : Who) (calls number q : ℕ) (said : Said) → q ≤ calls → IsBounded who calls number (A who q said)
answer-bounded who calls number q said below = record {
  past = λ w by here. let e : who.inc ≡ w.inc = ap (λ v. v.inc) (some-same who w by) in omega arith;
  numbers = λ n by of. let e : q ≡ n = some-same _ n of in omega arith;
  writes = λ n by of. none-some n of;
}

bounds-of : (who : Who) (calls number : ℕ) (under : Option UnderWay) (journal : List Entry) → CallsAt who calls number under journal
    → Bounds who calls number journal
bounds-of who calls number under journal h = record { past = h.past; numbers = h.numbers; writes = h.writes }

-- a call is under way
pub calls-called : (who : Who) (calls number : ℕ) (op : Call) (journal : List Entry) → CallsAt who calls number None journal
    → CallsAt who (calls + 1) number (Some (begun_call (calls + 1) op)) (C who (calls + 1) (told op) ∷ journal)
calls-called who calls number op journal h =
    let b = bounds-more who (calls + 1) number (C who (calls + 1) (told op)) journal (call-bounded who calls number (told op))
    (bounds-of who (calls + 1) number None journal (calls-raised who calls number (calls + 1) number None journal (omega arith) (omega arith) h)) in
    record {
      past = b.past;
      numbers = b.numbers;
      writes = b.writes;
      under_way = λ u is. subst (λ v. IsOpenAsTold who (calls + 1) v (C who (calls + 1) (told op) ∷ journal)) (some-same _ u is) opened;
      alone = λ q is. (begun_call (calls + 1) op, refl, same q is);
    }
  where
    answered : ⊥ ⊎ Exists (IsAnswer who (calls + 1)) journal → ⊥
    answered (inl bad) = bad
    answered (inr before) = let below = answered-below who calls number None journal h (calls + 1) before in omega arith

    opened : IsOpenAsTold who (calls + 1) (begun_call (calls + 1) op) (C who (calls + 1) (told op) ∷ journal)
    opened = record {
      is_open = (inl (refl, refl), λ a. answered a);
      tells = asks-told who (calls + 1) (told op) journal (λ c. let below = called-below who calls number None journal h (calls + 1) c in omega arith);
      counted = omega arith;
    }

    same : (q : ℕ) → IsOpen (C who (calls + 1) (told op) ∷ journal) who q → calls + 1 ≡ q
    same q (inl now, none) = now.1
    same q (inr before, none) = let u = h.alone q (before, λ a. none (inr a)) in none-some u.0 u.1

-- a call is answered in its own step
pub calls-busy : (who : Who) (calls number : ℕ) (under : Option UnderWay) (op : Told) (said : Said) (journal : List Entry)
    → CallsAt who calls number under journal → CallsAt who (calls + 1) number under (A who (calls + 1) said ∷ C who (calls + 1) op ∷ journal)
calls-busy who calls number under op said journal h =
    let raised = calls-raised who calls number (calls + 1) number under journal (omega arith) (omega arith) h in
    let b = bounds-more who (calls + 1) number (A who (calls + 1) said) _ (answer-bounded who (calls + 1) number (calls + 1) said (omega arith))
    (bounds-more who (calls + 1) number (C who (calls + 1) op) journal (call-bounded who calls number op)
    (bounds-of who (calls + 1) number under journal raised)) in
    record {
      past = b.past;
      numbers = b.numbers;
      writes = b.writes;
      under_way = λ u is. still u (h.under_way u is);
      alone = λ q is. old q is;
    }
  where
    still : (u : UnderWay) → IsOpenAsTold who calls u journal → IsOpenAsTold who (calls + 1) u (A who (calls + 1) said ∷ C who (calls + 1) op ∷ journal)
    still u k = record {
      is_open = (inr (inr k.is_open.0), λ a. none a);
      tells = rw k.tells refl;
      counted = let below = k.counted in omega arith;
    } where
      none : Exists (IsAnswer who u.q) (A who (calls + 1) said ∷ C who (calls + 1) op ∷ journal) → ⊥
      none (inl now) = let e = now.1 in let below = k.counted in omega arith
      none (inr (inl bad)) = bad
      none (inr (inr before)) = k.is_open.1 before

    old : (q : ℕ) → IsOpen (A who (calls + 1) said ∷ C who (calls + 1) op ∷ journal) who q → (u : UnderWay) × (under ≡ Some u) × (u.q ≡ q)
    old q (inl bad, none) = absurd bad
    old q (inr (inl now), none) = absurd (none (inl (refl, now.1)))
    old q (inr (inr before), none) = h.alone q (before, λ a. none (inr (inr a)))

-- the call under way is answered
pub calls-answered : (who : Who) (calls number : ℕ) (under : Option UnderWay) (u : UnderWay) (said : Said) (journal : List Entry) → under ≡ Some u
    → CallsAt who calls number under journal → CallsAt who calls number None (A who u.q said ∷ journal)
calls-answered who calls number under u said journal is h =
    let b = bounds-more who calls number (A who u.q said) journal (answer-bounded who calls number u.q said (h.under_way u is).counted)
    (bounds-of who calls number under journal h) in
    record {
      past = b.past;
      numbers = b.numbers;
      writes = b.writes;
      under_way = λ v e. none-some v e;
      alone = λ q o. none q o;
    }
  where
    none : (q : ℕ) → IsOpen (A who u.q said ∷ journal) who q → (v : UnderWay) × (None ≡ Some v) × (v.q ≡ q)
    none q (inl bad, unanswered) = absurd bad
    none q (inr before, unanswered) =
        let v = h.alone q (before, λ a. unanswered (inr a)) in
        let same : u ≡ v.0 = some-same u v.0 (sym is ∙ v.1) in
        absurd (unanswered (inl (refl, ap (λ z. z.q) same ∙ v.2)))

-- ---- what the call under way made

none-called : (who : Who) (q : ℕ) (journal : List Entry) → ¬ Exists (IsCall who q) journal → Throughout (IsBeforeCall who q) journal
none-called who q [] none = tt
none-called who q (e ∷ journal) none = (at e, none-called who q journal (λ h. none (inr h)))
  where
    at : (f : Entry) → IsBeforeCall who q f journal
    at (W by file block number value through) = λ same h. none (inr h)
    at other = tt

pub pending-more : (line : HostRow) (who : Who) (under : Option UnderWay) (ticket : Option Ticket) (e : Entry) (journal : List Entry) → IsNoChange who e
    → Pending line who under ticket journal → Pending line who under ticket (e ∷ journal)
pending-more line who under ticket e journal quiet h = record {
  unwritten = λ u is plain idle. before-more journal u.q quiet (h.unwritten u is plain idle);
  unresized = λ u is idle z. none u is idle z;
  put_only = h.put_only;
} where
  none : (u : UnderWay) → under ≡ Some u → NoneDone line who ticket → IsResizeBy who u.q e ⊎ Exists (IsResizeBy who u.q) journal → ⊥
  none u is idle (inl now) = quiet.resize u.q now
  none u is idle (inr before) = h.unresized u is idle before

pub pending-called : (line : HostRow) (who : Who) (calls number : ℕ) (ticket : Option Ticket) (op : Call) (journal : List Entry)
    → CallsAt who calls number None journal → Pending line who (Some (begun_call (calls + 1) op)) ticket (C who (calls + 1) (told op) ∷ journal)
pending-called line who calls number ticket op journal h = record {
  unwritten =
      λ u is plain idle. subst (λ v. Throughout (IsBeforeCall who v.q) (C who (calls + 1) (told op) ∷ journal)) (some-same _ u is)
      (tt, none-called who (calls + 1) journal (λ c. let below = called-below who calls number None journal h (calls + 1) c in omega arith));
  unresized = λ u is idle z. none u is z;
  put_only = λ u is written. let e : (begun_call (calls + 1) op).written ≡ u.written = ap (λ v. v.written) (some-same _ u is) in absurd (cc);
} where
  none : (u : UnderWay) → Some (begun_call (calls + 1) op) ≡ Some u → ⊥ ⊎ Exists (IsResizeBy who u.q) journal → ⊥
  none u is (inl bad) = bad
  none u is (inr before) =
      let e : calls + 1 ≡ u.q = ap (λ v. v.q) (some-same (begun_call (calls + 1) op) u is) in
      let below = resized-below who calls number None journal h u.q before in omega arith

-- no call is under way
pub pending-none : (line : HostRow) (who : Who) (ticket : Option Ticket) (journal : List Entry) → Pending line who None ticket journal
pending-none line who ticket journal = record { unwritten = λ u is. none-some u is; unresized = λ u is. none-some u is; put_only = λ u is. none-some u is }

-- the write of a put was delayed
pub pending-written : (line : HostRow) (who : Who) (under : Option UnderWay) (u : UnderWay) (ticket : Option Ticket) (e : Entry) (journal : List Entry)
    → under ≡ Some u → IsPut u.call → ((q : ℕ) → IsResizeBy who q e → ⊥) → Pending line who under ticket journal
    → Pending line who (Some (record u { written = true })) ticket (e ∷ journal)
pending-written line who under u ticket e journal is put quiet h = record {
  unwritten = λ v same plain idle. let w : true ≡ v.written = ap (λ z. z.written) (some-same (record u { written = true }) v same) in absurd (cc);
  unresized = λ v same idle z. none v same idle z;
  put_only = λ v same written. subst IsPut (ap (λ z. z.call) (some-same (record u { written = true }) v same)) put;
} where
  none : (v : UnderWay) → Some (record u { written = true }) ≡ Some v → NoneDone line who ticket
      → IsResizeBy who v.q e ⊎ Exists (IsResizeBy who v.q) journal → ⊥
  none v same idle (inl now) = quiet v.q now
  none v same idle (inr before) =
      h.unresized u is idle (subst (λ q. Exists (IsResizeBy who q) journal) (sym (ap (λ z. z.q) (some-same (record u { written = true }) v same))) before)

-- another request is under way
pub pending-ticket : (line : HostRow) (who : Who) (under : Option UnderWay) (ticket after : Option Ticket) (journal : List Entry)
    → (NoneDone line who after → NoneDone line who ticket) → Pending line who under ticket journal → Pending line who under after journal
pending-ticket line who under ticket after journal same h = record {
  unwritten = λ u is plain idle. h.unwritten u is plain (same idle);
  unresized = λ u is idle. h.unresized u is (same idle);
  put_only = h.put_only;
}

-- the call under way got other marks
pub pending-marked : (line : HostRow) (who : Who) (under after : Option UnderWay) (ticket : Option Ticket) (journal : List Entry)
    → ((u : UnderWay) → after ≡ Some u → (v : UnderWay) × (under ≡ Some v) × (v.q ≡ u.q) × (v.call ≡ u.call) × (v.written ≡ u.written))
    → Pending line who under ticket journal → Pending line who after ticket journal
pending-marked line who under after ticket journal back h = record {
  unwritten = λ u is plain idle. let v = back u is in subst (λ q. Throughout (IsBeforeCall who q) journal) v.2 (h.unwritten v.0 v.1 (v.4 ∙ plain) idle);
  unresized = λ u is idle. let v = back u is in subst (λ q. ¬ Exists (IsResizeBy who q) journal) v.2 (h.unresized v.0 v.1 idle);
  put_only = λ u is written. let v = back u is in subst IsPut v.3 (h.put_only v.0 v.1 (v.4 ∙ written));
}

-- ---- the request under way

-- the request is not of the call
abbrev pub NotForCall : Option Ticket → Type 0
NotForCall ticket = (t : Ticket) → ticket ≡ Some t → t.job ≡ for_call → ⊥

module _ (line : HostRow) (Refused : ℕ → Type 0) (who : Who) where
  ticket-more : (number seq : ℕ) (e : Entry) (journal : List Entry) (t : Ticket)
      → (t.job ≡ for_call → OpenFits t.request journal → OpenFits t.request (e ∷ journal)) → TicketFits line Refused who number seq journal t
      → TicketFits line Refused who number seq (e ∷ journal) t
  ticket-more number seq e journal t still h = record {
    asks = h.asks;
    drawn = h.drawn;
    reads = read-fits-more t.request e journal h.reads;
    numbered = h.numbered;
    opens = λ n job draws undecided. still job (h.opens n job draws undecided);
    refused = h.refused;
  }

  -- one more entry, which leaves an open request of the call as it is
  pub asks-more : (number seq : ℕ) (ticket : Option Ticket) (sends : List Message) (e : Entry) (journal : List Entry)
      → ((t : Ticket) → ticket ≡ Some t → t.job ≡ for_call → OpenFits t.request journal → OpenFits t.request (e ∷ journal))
      → Requesting line Refused who number seq ticket sends journal → Requesting line Refused who number seq ticket sends (e ∷ journal)
  asks-more number seq ticket sends e journal still h = record {
    positive = h.positive;
    line_drawn = h.line_drawn;
    ticketed = λ t is. ticket-more number seq e journal t (still t is) (h.ticketed t is);
    sent = λ x r i. read-fits-more r e journal (h.sent x r i);
  }

  pub asks-quiet : (number seq : ℕ) (ticket : Option Ticket) (sends : List Message) (e : Entry) (journal : List Entry) → IsQuiet who e
      → Requesting line Refused who number seq ticket sends journal → Requesting line Refused who number seq ticket sends (e ∷ journal)
  asks-quiet number seq ticket sends e journal quiet h =
      asks-more number seq ticket sends e journal (λ t is job o. open-fits-more t.request who e journal (h.ticketed t is).asks quiet o) h

  pub asks-idle : (number seq : ℕ) (ticket : Option Ticket) (sends : List Message) (e : Entry) (journal : List Entry) → NotForCall ticket
      → Requesting line Refused who number seq ticket sends journal → Requesting line Refused who number seq ticket sends (e ∷ journal)
  asks-idle number seq ticket sends e journal idle h = asks-more number seq ticket sends e journal (λ t is job o. absurd (idle t is job)) h

  -- more write numbers were drawn
  pub asks-raised : (number more seq : ℕ) (ticket : Option Ticket) (sends : List Message) (journal : List Entry) → number ≤ more
      → Requesting line Refused who number seq ticket sends journal → Requesting line Refused who more seq ticket sends journal
  asks-raised number more seq ticket sends journal up h = record {
    positive = h.positive;
    line_drawn = h.line_drawn;
    ticketed =
        λ t is. let k = h.ticketed t is in
        record {
          asks = k.asks;
          drawn = k.drawn;
          reads = k.reads;
          numbered = λ n e. let below = k.numbered n e in
              omega arith;
          opens = k.opens;
          refused = k.refused;
        };
    sent = h.sent;
  }

  -- no request is under way
  pub asks-none : (number seq : ℕ) (ticket : Option Ticket) (sends : List Message) (journal : List Entry)
      → Requesting line Refused who number seq ticket sends journal → Requesting line Refused who number seq None sends journal
  asks-none number seq ticket sends journal h = record { positive = h.positive; line_drawn = h.line_drawn; ticketed = λ t is. none-some t is; sent = h.sent }

  sent-more : (sends : List Message) (m : Message) (journal : List Entry) → ((x : ℕ) (r : Request) → m ≡ call x r → ReadFits r journal)
      → ((x : ℕ) (r : Request) → In sends (call x r) → ReadFits r journal) → (x : ℕ) (r : Request) → In (sends ++ m ∷ []) (call x r) → ReadFits r journal
  sent-more sends m journal now before x r i = case (in-last sends m (call x r) i)
    where
      case : In sends (call x r) ⊎ (m ≡ call x r) → ReadFits r journal
      case (inl old) = before x r old
      case (inr new) = now x r new

  call-reads : (x y : ℕ) (r s : Request) (journal : List Entry) → ReadFits r journal → call x r ≡ call y s → ReadFits s journal
  call-reads x y r s journal h e = let same : r ≡ s = cc in subst (λ z. ReadFits z journal) same h

  -- a message is sent that is not under way
  pub asks-adds : (number seq : ℕ) (ticket : Option Ticket) (sends : List Message) (x : ℕ) (r : Request) (journal : List Entry) → ReadFits r journal
      → Requesting line Refused who number seq ticket sends journal → Requesting line Refused who number seq ticket (sends ++ call x r ∷ []) journal
  asks-adds number seq ticket sends x r journal reads h = record {
    positive = h.positive;
    line_drawn = h.line_drawn;
    ticketed = h.ticketed;
    sent = sent-more sends (call x r) journal (λ y s e. call-reads x y r s journal reads e) h.sent;
  }

  -- the request under way is sent again
  pub asks-again : (number seq : ℕ) (ticket : Option Ticket) (t : Ticket) (last : ℕ) (sends : List Message) (journal : List Entry) → ticket ≡ Some t
      → Requesting line Refused who number seq ticket sends journal
      → Requesting line Refused who number seq (Some (record t { last = last })) (sends ++ call t.xid t.request ∷ []) journal
  asks-again number seq ticket t last sends journal is h =
      let k = h.ticketed t is in
      let a = asks-adds number seq ticket sends t.xid t.request journal k.reads h in
      record {
        positive = a.positive;
        line_drawn = a.line_drawn;
        ticketed =
            λ u e. subst (TicketFits line Refused who number seq journal) (some-same (record t { last = last }) u e)
            (record {
              asks = k.asks;
              drawn = k.drawn;
              reads = k.reads;
              numbered = k.numbered;
              opens = k.opens;
              refused = λ r d. k.refused r
                  (record { job = d.job; seq = d.seq; draws = d.draws; inc = d.inc; decided = d.decided; verdict = d.verdict });
            });
        sent = a.sent;
      }

  -- a request is sent without a sequence
  pub asks-sends : (number seq : ℕ) (ticket : Option Ticket) (sends : List Message) (journal : List Entry) (t : Ticket) → asker t.request ≡ Some who
      → sequence_of t.request ≡ None → through_number t.request ≡ None → ReadFits t.request journal
      → Requesting line Refused who number seq ticket sends journal
      → Requesting line Refused who number seq (Some t) (sends ++ call t.xid t.request ∷ []) journal
  asks-sends number seq ticket sends journal t asks no_seq no_number reads h =
      let a = asks-adds number seq ticket sends t.xid t.request journal reads h in
      record {
        positive = a.positive;
        line_drawn = a.line_drawn;
        ticketed =
            λ u e. subst (TicketFits line Refused who number seq journal) (some-same t u e)
            (record {
              asks = asks;
              drawn = λ n d. none-some n (sym no_seq ∙ d);
              reads = reads;
              numbered = λ n d. none-some n (sym no_number ∙ d);
              opens = λ n job d. none-some n (sym no_seq ∙ d);
              refused = λ r d. none-some d.seq (sym no_seq ∙ d.draws);
            });
        sent = a.sent;
      }

  -- a request is sent with the next sequence
  pub asks-decides : (number more seq : ℕ) (ticket : Option Ticket) (sends : List Message) (journal : List Entry) (t : Ticket)
      → asker t.request ≡ Some who → sequence_of t.request ≡ Some seq → number ≤ more → ((n : ℕ) → through_number t.request ≡ Some n → n < more)
      → ReadFits t.request journal → (t.job ≡ for_call → OpenFits t.request journal) → Requesting line Refused who number seq ticket sends journal
      → Requesting line Refused who more (seq + 1) (Some t) (sends ++ call t.xid t.request ∷ []) journal
  asks-decides number more seq ticket sends journal t asks draws up numbered reads opens h =
      let a = asks-adds number seq ticket sends t.xid t.request journal reads h in
      record {
        positive = omega arith;
        line_drawn = λ e. let below = a.line_drawn e in omega arith;
        ticketed = λ u e. subst (TicketFits line Refused who more (seq + 1) journal) (some-same t u e) (record {
          asks = asks;
          drawn = λ n d. let same : seq ≡ n = some-same seq n (sym draws ∙ d) in omega arith;
          reads = reads;
          numbered = numbered;
          opens = λ n job d undecided. opens job;
          refused =
              λ r d. let below = a.line_drawn d.inc in let same : seq ≡ d.seq = some-same seq d.seq (sym draws ∙ d.draws) in let decided = d.decided in
              absurd (omega arith);
        });
        sent = a.sent;
      }

-- a call is answered in its own step, while an open request of the call under way waits
module _ (who : Who) (calls number : ℕ) (under : Option UnderWay) (op : Told) (said : Said) (journal : List Entry)
    (h : CallsAt who calls number under journal) where
  busy-open : (q : ℕ) → IsOpen journal who q → IsOpen (A who (calls + 1) said ∷ C who (calls + 1) op ∷ journal) who q
  busy-open q o = (inr (inr o.0), λ a. none a)
    where
      none : Exists (IsAnswer who q) (A who (calls + 1) said ∷ C who (calls + 1) op ∷ journal) → ⊥
      none (inl now) = let e = now.1 in let below = called-below who calls number under journal h q o.0 in omega arith
      none (inr (inl bad)) = bad
      none (inr (inr before)) = o.1 before

  busy-before : (q : ℕ) → IsOpen (A who (calls + 1) said ∷ C who (calls + 1) op ∷ journal) who q → IsOpen journal who q
  busy-before q (inl bad, none) = absurd bad
  busy-before q (inr (inl now), none) = absurd (none (inl (refl, now.1)))
  busy-before q (inr (inr before), none) = (before, λ a. none (inr (inr a)))

  resize-busy : (w : Who) (q file to : ℕ) → w ≡ who → IsResizeInOrder journal w q file to
      → IsResizeInOrder (A who (calls + 1) said ∷ C who (calls + 1) op ∷ journal) w q file to
  resize-busy w q file to same =
      subst (λ v. IsResizeInOrder journal v q file to → IsResizeInOrder (A who (calls + 1) said ∷ C who (calls + 1) op ∷ journal) v q file to) (sym same)
      (λ k. record {
        is_open = busy-open q k.is_open;
        call =
            told-more (Resizes file to) (λ p. p) (A who (calls + 1) said) (C who (calls + 1) op ∷ journal) who q
            (told-more (Resizes file to) (λ p. p) (C who (calls + 1) op) journal who q k.call);
        first = λ z. first (k.first) z;
      })
    where
      first : ¬ Exists (IsResizeBy who q) journal → Exists (IsResizeBy who q) (A who (calls + 1) said ∷ C who (calls + 1) op ∷ journal) → ⊥
      first none (inl bad) = bad
      first none (inr (inl bad)) = bad
      first none (inr (inr before)) = none before

  pub open-fits-busy : (r : Request) → asker r ≡ Some who → OpenFits r journal → OpenFits r (A who (calls + 1) said ∷ C who (calls + 1) op ∷ journal)
  open-fits-busy (Request.Write w seq file block first last None body) by o =
      subst (λ v. IsWriteInOrder journal v file block first (value_of body)
      → IsWriteInOrder (A who (calls + 1) said ∷ C who (calls + 1) op ∷ journal) v file block first (value_of body)) (sym (some-same w who by)) write o
    where
      write : IsWriteInOrder journal who file block first (value_of body)
          → IsWriteInOrder (A who (calls + 1) said ∷ C who (calls + 1) op ∷ journal) who file block first (value_of body)
      write (q, k) = (
        q,
        record {
          is_open = busy-open q k.is_open;
          only = λ other is. k.only other (busy-before other is);
          call =
              told-more (Writes file block (value_of body)) (λ p. p) (A who (calls + 1) said) (C who (calls + 1) op ∷ journal) who q
              (told-more (Writes file block (value_of body)) (λ p. p) (C who (calls + 1) op) journal who q k.call);
          first = (tt, (tt, k.first));
          fresh = λ n. fresh n;
        },
      ) where
        fresh : Exists (IsNumbered who first) (A who (calls + 1) said ∷ C who (calls + 1) op ∷ journal) → ⊥
        fresh (inl bad) = bad
        fresh (inr (inl bad)) = bad
        fresh (inr (inr before)) = k.fresh before
  open-fits-busy (Request.Resize w seq q file blocks) by o = resize-busy w q file blocks (some-same w who by) o
  open-fits-busy (Request.Remove w seq q file) by o = resize-busy w q file 0 (some-same w who by) o
  open-fits-busy other by o = tt

  -- the request under way stays as it is
  pub asks-busy : (line : HostRow) (Refused : ℕ → Type 0) (seq : ℕ) (ticket : Option Ticket) (sends : List Message)
      → Requesting line Refused who number seq ticket sends journal
      → Requesting line Refused who number seq ticket sends (A who (calls + 1) said ∷ C who (calls + 1) op ∷ journal)
  asks-busy line Refused seq ticket sends k = record {
    positive = k.positive;
    line_drawn = k.line_drawn;
    ticketed = λ t is. still t (k.ticketed t is);
    sent = λ x r i. reads r (k.sent x r i);
  } where
    reads : (r : Request) → ReadFits r journal → ReadFits r (A who (calls + 1) said ∷ C who (calls + 1) op ∷ journal)
    reads r f = read-fits-more r (A who (calls + 1) said) (C who (calls + 1) op ∷ journal) (read-fits-more r (C who (calls + 1) op) journal f)

    still : (t : Ticket) → TicketFits line Refused who number seq journal t
        → TicketFits line Refused who number seq (A who (calls + 1) said ∷ C who (calls + 1) op ∷ journal) t
    still t f = record {
      asks = f.asks;
      drawn = f.drawn;
      reads = reads t.request f.reads;
      numbered = f.numbered;
      opens = λ n job draws undecided. open-fits-busy t.request f.asks (f.opens n job draws undecided);
      refused = f.refused;
    }
