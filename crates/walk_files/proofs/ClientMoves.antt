-- In the middle of a client's step: what is known of its calls, and that each part of the step keeps it.
use Rattle.std.proofs.Common.{◌≡◌, ◌<◌, ◌≤◌, ℕ, ◌+◌, Bool, true, false, List, [], ◌∷◌, ◌++◌, Option, Some, None, map, reverse, refl, sym, subst, ap}
use Rattle.std.proofs.Common.{◌∙◌, arith, inl, inr}
use Rattle.std.specs.Prelude.{⊤}
use Rattle.std.proofs.lemmas.Grind.{reverse_onto}
use Rattle.nq_base.specs.Block.{value_of}
use Rattle.nq_base.specs.declared.Answer.{Answer}
use Rattle.nq_base.specs.declared.Entry.{Entry}
use Rattle.nq_base.specs.declared.Entry.TheVariants.{R, A}
use Rattle.nq_base.specs.declared.Grant.{Grant}
use Rattle.nq_base.specs.declared.HostRow.{HostRow}
use Rattle.nq_base.specs.declared.Push.{Push}
use Rattle.nq_base.specs.declared.Request.{Request}
use Rattle.nq_base.specs.declared.Said.TheVariants.{OkBy}
use Rattle.nq_base.specs.declared.Tag.{Tag}
use Rattle.nq_base.specs.declared.Value.{Value}
use Rattle.nq_base.specs.declared.Who.{Who}
use Rattle.walk_files.proofs.CallFacts.{JournalFits, CallsAt, IsBounded, NoneDone, Pending, through_number, Requesting, journal-more, journal-answer}
use Rattle.walk_files.proofs.CallFacts.{calls-more, calls-raised, calls-marked}
use Rattle.walk_files.proofs.CallMoves.{NotForCall, calls-answered, pending-more, pending-none, pending-ticket, pending-marked, asks-quiet, asks-idle}
use Rattle.walk_files.proofs.CallMoves.{asks-none, asks-adds, asks-again, asks-sends, asks-decides}
use Rattle.walk_files.proofs.CallsEntries.{entry_who, entry_call, entry_number}
use Rattle.walk_files.proofs.Placed.{append-one}
use Rattle.walk_files.proofs.Quiet.{IsQuiet, OpenFits, ReadFits}
use Rattle.walk_steps.proofs.ClientMoves.{some-same, none-some}
use Rattle.nq_model.specs.protocol.Client.{ClientStep, UnderWay, Job, for_call, Ticket, in_state}
use Rattle.nq_model.specs.protocol.ClientStep.{sends_again}
use Rattle.nq_model.specs.protocol.Hear.{loss_entry, loses, all_dirty, vacates_lease, without_lease, holds, caches_block, purges, knows_revision, ends_push}
use Rattle.nq_model.specs.protocol.Hear.{with_through, marks_through, spends, attached, pauses, cancelled, cancels, notes_notice, wants_of}
use Rattle.nq_model.specs.protocol.Message.{Message, asker, sequence_of}
use Rattle.nq_model.specs.laws.Ordered.{IsWriteInOrder}
use Rattle.nq_model.specs.protocol.Send.{sends_request, after_seq, after_number, takes_push, gives_up}
use Rattle.nq_model.specs.protocol.Settle.{said, answers, names_losses}
use Rattle.walk_steps.proofs.Packets.{In}
use Rattle.walk_steps.proofs.Rows.{choice}

-- ---- in the middle of a step

-- an entry's packet, if it names one, was sent
abbrev pub IsBelow : (limit : ℕ) → Entry → Type 0
IsBelow limit (R who q file block value (Some packet)) = packet < limit
IsBelow limit (A who q (OkBy value packet)) = packet < limit
IsBelow limit other = ⊤

-- an entry is of this incarnation, and its packet was sent
abbrev pub IsOwn : (limit : ℕ) (who : Who) → Entry → Type 0
IsOwn limit who e = (entry_who e ≡ Some who) × IsBelow limit e

-- `Goes`: the call under way is as its request left it, unless it is about to be answered
pub record Fits (line : HostRow) (Refused : ℕ → Type 0) (limit : ℕ) (mine : Who) (old : List Entry) (Goes : Type 0) (who : Who) (calls number seq : ℕ)
    (under : Option UnderWay) (ticket : Option Ticket) (sends : List Message) (entries : List Entry) : Type 0 where
  pub same : who ≡ mine
  pub journal : JournalFits (entries ++ old)
  pub calls_fit : CallsAt who calls number under (entries ++ old)
  pub pending : Goes → Pending line who under ticket (entries ++ old)
  pub asks : Requesting line Refused who number seq ticket sends (entries ++ old)
  pub own : (e : Entry) → In entries e → IsOwn limit who e

abbrev pub Doing : (line : HostRow) (Refused : ℕ → Type 0) (limit : ℕ) (mine : Who) (old : List Entry) (Goes : Type 0) → ClientStep → Type 0
Doing line Refused limit mine old Goes t =
    Fits line Refused limit mine old Goes t.client.who t.client.calls t.client.number t.client.seq t.client.call t.client.ticket t.sends t.entries

-- an entry of the client that is none of its calls and changes
loss-quiet : (who : Who) (p : Push) → IsQuiet who (loss_entry who p)
loss-quiet who p = record { no_call = record { call = λ q h. h; answer = λ q h. h }; no_change = record { write = λ n h. h; resize = λ q h. h } }

pub own-bounded : (who : Who) (calls number : ℕ) (e : Entry) → entry_who e ≡ Some who → ((q : ℕ) → entry_call e ≡ Some q → q ≤ calls)
    → ((n : ℕ) → entry_number e ≡ Some n → n < number) → IsBounded who calls number e
own-bounded who calls number e by calls_fit numbers = record {
  past = λ w is here. let one : who.inc ≡ w.inc = ap (λ v. v.inc) (some-same who w (sym by ∙ is)) in omega arith;
  numbers = λ q is of. calls_fit q of;
  writes = λ n is of. numbers n of;
}

pub own-more : (limit : ℕ) (who : Who) (e : Entry) (entries : List Entry) → IsOwn limit who e → ((f : Entry) → In entries f → IsOwn limit who f)
    → (f : Entry) → In (e ∷ entries) f → IsOwn limit who f
own-more limit who e entries by h f (inl same) = subst (IsOwn limit who) same by
own-more limit who e entries by h f (inr i) = h f i

-- an answer names the packet that it is by
said-below : (limit : ℕ) (who : Who) (q : ℕ) (answer : Answer) (by : Option ℕ) → ((k : ℕ) → by ≡ Some k → k < limit) → IsBelow limit (A who q (said answer by))
said-below limit who q (Answer.Ok (Value.Body body)) None h = tt
said-below limit who q (Answer.Ok (Value.Body body)) (Some k) h = h k refl
said-below limit who q (Answer.Ok Value.Nothing) by h = tt
said-below limit who q (Answer.Ok (Value.File file)) by h = tt
said-below limit who q (Answer.Ok (Value.Blocks blocks)) by h = tt
said-below limit who q (Answer.Lost losses) by h = tt
said-below limit who q Answer.Busy by h = tt
said-below limit who q Answer.Stale by h = tt
said-below limit who q Answer.NoEntry by h = tt
said-below limit who q Answer.Exists by h = tt
said-below limit who q Answer.NoSpace by h = tt
said-below limit who q Answer.Range by h = tt
said-below limit who q Answer.DirtyFull by h = tt
said-below limit who q Answer.Pending by h = tt
said-below limit who q Answer.Memory by h = tt
said-below limit who q Answer.Spent by h = tt

module _ (line : HostRow) (Refused : ℕ → Type 0) (limit : ℕ) (mine : Who) (old : List Entry) where
  -- delayed writes are lost
  lost : (Goes : Type 0) (who : Who) (calls number seq : ℕ) (under : Option UnderWay) (ticket : Option Ticket) (sends : List Message)
      (entries : List Entry) (p : Push) → Fits line Refused limit mine old Goes who calls number seq under ticket sends entries
      → Fits line Refused limit mine old Goes who calls number seq under ticket sends (loss_entry who p ∷ entries)
  lost Goes who calls number seq under ticket sends entries p h = record {
    same = h.same;
    journal = journal-more (loss_entry who p) (entries ++ old) tt tt (λ w q c. c) h.journal;
    calls_fit =
        calls-more who calls number under (loss_entry who p) (entries ++ old) (loss-quiet who p).no_call
        (own-bounded who calls number (loss_entry who p) refl (λ q e. none-some q e) (λ n e. none-some n e)) h.calls_fit;
    pending = λ goes. pending-more line who under ticket (loss_entry who p) (entries ++ old) (loss-quiet who p).no_change (h.pending goes);
    asks = asks-quiet line Refused who number seq ticket sends (loss_entry who p) (entries ++ old) (loss-quiet who p) h.asks;
    own = own-more limit who (loss_entry who p) entries (refl, tt) h.own;
  }

  all-lost : (Goes : Type 0) (who : Who) (calls number seq : ℕ) (under : Option UnderWay) (ticket : Option Ticket) (sends : List Message)
      (entries : List Entry) (ps : List Push) → Fits line Refused limit mine old Goes who calls number seq under ticket sends entries
      → Fits line Refused limit mine old Goes who calls number seq under ticket sends (reverse (map (loss_entry who) ps) ++ entries)
  all-lost Goes who calls number seq under ticket sends entries [] h = h
  all-lost Goes who calls number seq under ticket sends entries (p ∷ ps) h =
      let e : Entry = loss_entry who p in
      subst (λ es. Fits line Refused limit mine old Goes who calls number seq under ticket sends es)
      (sym (ap (λ es. es ++ entries) (reverse_onto (map (loss_entry who) ps) e []) ∙ append-one (reverse (map (loss_entry who) ps)) e entries))
      (all-lost Goes who calls number seq under ticket sends (e ∷ entries) ps (lost Goes who calls number seq under ticket sends entries p h))

  pub loses-keeps : (Goes : Type 0) (t : ClientStep) (file : ℕ) → Doing line Refused limit mine old Goes t
      → Doing line Refused limit mine old Goes (loses t file)
  unfolding loses
  loses-keeps Goes t file h =
      all-lost Goes t.client.who t.client.calls t.client.number t.client.seq t.client.call t.client.ticket t.sends t.entries (all_dirty t.client file) h

  -- the call under way is answered
  pub answers-keeps : (Goes : Type 0) (t : ClientStep) (u : UnderWay) (answer : Answer) (by : Option ℕ) → ((k : ℕ) → by ≡ Some k → k < limit)
      → t.client.call ≡ Some u → NotForCall t.client.ticket → Doing line Refused limit mine old Goes t
      → Doing line Refused limit mine old ⊤ (answers t u.q answer by)
  unfolding answers
  answers-keeps Goes t u answer by sent is idle h =
      let e : Entry = A t.client.who u.q (said answer by) in
      record {
        same = h.same;
        journal = journal-answer t.client.who u.q (said answer by) (t.entries ++ old) (h.calls_fit.under_way u is).is_open h.journal;
        calls_fit = calls-answered t.client.who t.client.calls t.client.number t.client.call u (said answer by) (t.entries ++ old) is h.calls_fit;
        pending = λ goes. pending-none line t.client.who t.client.ticket (e ∷ t.entries ++ old);
        asks = asks-idle line Refused t.client.who t.client.number t.client.seq t.client.ticket t.sends e (t.entries ++ old) idle h.asks;
        own = own-more limit t.client.who e t.entries (refl, said-below limit t.client.who u.q answer by sent) h.own;
      }

  pub names-keeps : (Goes : Type 0) (t : ClientStep) (u : UnderWay) (file : ℕ) → t.client.call ≡ Some u → NotForCall t.client.ticket
      → Doing line Refused limit mine old Goes t → Doing line Refused limit mine old ⊤ (names_losses t u.q file)
  names-keeps Goes t u file is idle h = answers-keeps Goes (in_state t (record t.client { losses = _ })) u _ None (λ k e. none-some k e) is idle h

  -- a call that is none any more
  pub idle-keeps : (Goes : Type 0) (t : ClientStep) → t.client.call ≡ None → Doing line Refused limit mine old Goes t → Doing line Refused limit mine old ⊤ t
  idle-keeps Goes t none h =
      record {
        same = h.same;
        journal = h.journal;
        calls_fit = h.calls_fit;
        pending = λ goes. subst
            (λ o. Pending line t.client.who o t.client.ticket (t.entries ++ old)) (sym none)
            (pending-none line t.client.who t.client.ticket (t.entries ++ old));
        asks = h.asks;
        own = h.own;
      }

  pub weaker : (Goes : Type 0) (t : ClientStep) → Doing line Refused limit mine old ⊤ t → Doing line Refused limit mine old Goes t
  weaker Goes t h = record { same = h.same; journal = h.journal; calls_fit = h.calls_fit; pending = λ goes. h.pending tt; asks = h.asks; own = h.own }

  -- ---- changes that the journal does not see

  pub without-keeps : (Goes : Type 0) (t : ClientStep) (file : ℕ) → Doing line Refused limit mine old Goes t
      → Doing line Refused limit mine old Goes (without_lease t file)
  unfolding without_lease
  without-keeps Goes t file h = h

  pub holds-keeps : (Goes : Type 0) (t : ClientStep) (file : ℕ) (g : Grant) (sent : ℕ) → Doing line Refused limit mine old Goes t
      → Doing line Refused limit mine old Goes (holds t file g sent)
  unfolding holds
  holds-keeps Goes t file g sent h = h

  pub caches-keeps : (Goes : Type 0) (t : ClientStep) (file block : ℕ) (body : List ℕ) → Doing line Refused limit mine old Goes t
      → Doing line Refused limit mine old Goes (caches_block t file block body)
  unfolding caches_block
  caches-keeps Goes t file block body h = h

  pub purges-keeps : (Goes : Type 0) (t : ClientStep) (file : ℕ) → Doing line Refused limit mine old Goes t
      → Doing line Refused limit mine old Goes (purges t file)
  unfolding purges
  purges-keeps Goes t file h = h

  pub knows-keeps : (Goes : Type 0) (t : ClientStep) (file rev : ℕ) → Doing line Refused limit mine old Goes t
      → Doing line Refused limit mine old Goes (knows_revision t file rev)
  unfolding knows_revision
  knows-keeps Goes t file rev h = h

  pub ends-keeps : (Goes : Type 0) (t : ClientStep) → Doing line Refused limit mine old Goes t → Doing line Refused limit mine old Goes (ends_push t)
  unfolding ends_push
  ends-keeps Goes t h = h

  pub attached-keeps : (Goes : Type 0) (t : ClientStep) → Doing line Refused limit mine old Goes t → Doing line Refused limit mine old Goes (attached t)
  unfolding attached
  attached-keeps Goes t h = h

  pub notes-keeps : (Goes : Type 0) (t : ClientStep) (file : ℕ) (tag : Tag) → Doing line Refused limit mine old Goes t
      → Doing line Refused limit mine old Goes (notes_notice t file tag)
  unfolding notes_notice
  notes-keeps Goes t file tag h = h

  pub vacates-keeps : (Goes : Type 0) (t : ClientStep) (file : ℕ) (tag : Tag) → Doing line Refused limit mine old Goes t
      → Doing line Refused limit mine old Goes (vacates_lease t file tag)
  unfolding vacates_lease
  vacates-keeps Goes t file tag h = record {
    same = h.same;
    journal = h.journal;
    calls_fit = h.calls_fit;
    pending = h.pending;
    asks =
        asks-adds line Refused t.client.who t.client.number t.client.seq t.client.ticket t.sends t.client.xid (Request.Vacated t.client.who file tag)
        (t.entries ++ old) tt h.asks;
    own = h.own;
  }

  -- ---- the call's marks

  through-back : (on : Bool) (under : Option UnderWay) (u : UnderWay) → with_through on under ≡ Some u
      → (v : UnderWay) × (under ≡ Some v) × (v.q ≡ u.q) × (v.call ≡ u.call) × (v.written ≡ u.written)
  through-back on None u is = none-some u is
  through-back on (Some v) u is = let e = some-same (record v { through = on }) u is in (v, refl, ap (λ z. z.q) e, ap (λ z. z.call) e, ap (λ z. z.written) e)

  through-forth : (on : Bool) (under : Option UnderWay) (v : UnderWay) → under ≡ Some v → (u : UnderWay) × (with_through on under ≡ Some u) × (u.q ≡ v.q)
  through-forth on under v is = (record v { through = on }, ap (with_through on) is, refl)

  marked : (Goes : Type 0) (on : Bool) (who : Who) (calls number seq : ℕ) (under : Option UnderWay) (ticket : Option Ticket) (sends : List Message)
      (entries : List Entry) → Fits line Refused limit mine old Goes who calls number seq under ticket sends entries
      → Fits line Refused limit mine old Goes who calls number seq (with_through on under) ticket sends entries
  marked Goes on who calls number seq under ticket sends entries h = record {
    same = h.same;
    journal = h.journal;
    calls_fit =
        calls-marked who calls number under (with_through on under) (entries ++ old)
        (λ u is. let b = through-back on under u is in (b.0, b.1, b.2, b.3)) (through-forth on under) h.calls_fit;
    pending = λ goes. pending-marked line who under (with_through on under) ticket (entries ++ old) (through-back on under) (h.pending goes);
    asks = h.asks;
    own = h.own;
  }

  pub through-keeps : (Goes : Type 0) (on : Bool) (t : ClientStep) → Doing line Refused limit mine old Goes t
      → Doing line Refused limit mine old Goes (marks_through on t)
  unfolding marks_through
  through-keeps Goes on t h = marked Goes on t.client.who t.client.calls t.client.number t.client.seq t.client.call t.client.ticket t.sends t.entries h

  pub pauses-keeps : (Goes : Type 0) (t : ClientStep) → Doing line Refused limit mine old Goes t → Doing line Refused limit mine old Goes (pauses t)
  unfolding pauses marks_through
  pauses-keeps Goes t h = marked Goes false t.client.who t.client.calls t.client.number t.client.seq t.client.call t.client.ticket t.sends t.entries h

  -- ---- the request under way

  pub spends-keeps : (Goes : Type 0) (t : ClientStep) → (Goes → NoneDone line t.client.who t.client.ticket) → Doing line Refused limit mine old ⊤ t
      → Doing line Refused limit mine old Goes (spends t)
  unfolding spends
  spends-keeps Goes t none h = record {
    same = h.same;
    journal = h.journal;
    calls_fit = h.calls_fit;
    pending = λ goes. pending-ticket line t.client.who t.client.call t.client.ticket None (t.entries ++ old) (λ idle. none goes) (h.pending tt);
    asks = asks-none line Refused t.client.who t.client.number t.client.seq t.client.ticket t.sends (t.entries ++ old) h.asks;
    own = h.own;
  }

  -- a request that wants a lease is none that is decided once
  wants-undrawn : (file : ℕ) (r : Request) → wants_of file r ≡ true → sequence_of r ≡ None
  wants-undrawn file (Request.Read who q f block want) e = refl
  wants-undrawn file (Request.GetLease who f want) e = refl
  wants-undrawn file r e = absurd (cc)

  pub cancels-keeps : (t : ClientStep) (file : ℕ) → Doing line Refused limit mine old ⊤ t → Doing line Refused limit mine old ⊤ (cancels t file)
  unfolding cancels
  cancels-keeps t file h = case t.client.ticket refl
    where
      case : (o : Option Ticket) → t.client.ticket ≡ o
          → Fits line Refused limit mine old ⊤ t.client.who t.client.calls t.client.number t.client.seq t.client.call (cancelled file o) t.sends t.entries
      case None e =
          subst (λ o. Fits line Refused limit mine old ⊤ t.client.who t.client.calls t.client.number t.client.seq t.client.call o t.sends t.entries) e h
      case (Some k) e =
          choice (λ o. Fits line Refused limit mine old ⊤ t.client.who t.client.calls t.client.number t.client.seq t.client.call o t.sends t.entries)
          (wants_of file k.request) None (Some k)
          (λ wants. record {
            same = h.same;
            journal = h.journal;
            calls_fit = h.calls_fit;
            pending =
                λ goes. pending-ticket line t.client.who t.client.call t.client.ticket None (t.entries ++ old)
                (λ idle u is d. let one : k ≡ u = some-same k u (sym e ∙ is) in
                none-some d.seq (sym (wants-undrawn file k.request wants) ∙ ap (λ z. sequence_of z.request) one ∙ d.draws)) (h.pending tt);
            asks = asks-none line Refused t.client.who t.client.number t.client.seq t.client.ticket t.sends (t.entries ++ old) h.asks;
            own = h.own;
          })
          (λ other. subst (λ o. Fits line Refused limit mine old ⊤ t.client.who t.client.calls t.client.number t.client.seq t.client.call o t.sends
          t.entries) e h)

  pub again-keeps : (t : ClientStep) (k : Ticket) → t.client.ticket ≡ Some k → Doing line Refused limit mine old ⊤ t
      → Doing line Refused limit mine old ⊤ (sends_again t k)
  unfolding sends_again
  again-keeps t k is h = record {
    same = h.same;
    journal = h.journal;
    calls_fit = h.calls_fit;
    pending =
        λ goes. pending-ticket line t.client.who t.client.call t.client.ticket (Some (record k { last = t.client.now })) (t.entries ++ old)
        (λ idle u same d. let one : k ≡ u = some-same k u (sym is ∙ same) in
        idle (record k { last = t.client.now }) refl
        (record {
          job = ap (λ z. z.job) one ∙ d.job;
          seq = d.seq;
          draws = ap (λ z. sequence_of z.request) one
              ∙ d.draws;
          inc = d.inc;
          decided = d.decided;
          verdict = d.verdict;
        })) (h.pending tt);
    asks = asks-again line Refused t.client.who t.client.number t.client.seq t.client.ticket k t.client.now t.sends (t.entries ++ old) is h.asks;
    own = h.own;
  }

  -- where none was under way
  none-before : (who : Who) (ticket after : Option Ticket) → ticket ≡ None → NoneDone line who after → NoneDone line who ticket
  none-before who ticket after none idle u is d = none-some u (sym none ∙ is)

  pub asks-keeps : (t : ClientStep) (job : Job) (r : Request) → t.client.ticket ≡ None → asker r ≡ Some t.client.who → sequence_of r ≡ None
      → through_number r ≡ None → ReadFits r (t.entries ++ old) → Doing line Refused limit mine old ⊤ t
      → Doing line Refused limit mine old ⊤ (sends_request t job r)
  unfolding sends_request
  asks-keeps t job r none asks no_seq no_number reads h =
      let k : Ticket = record { xid = t.client.xid; first = t.client.now; last = t.client.now; request = r; job = job } in
      record {
        same = h.same;
        journal = h.journal;
        calls_fit = h.calls_fit;
        pending =
            λ goes. pending-ticket line t.client.who t.client.call t.client.ticket (Some k) (t.entries ++ old)
            (none-before t.client.who t.client.ticket (Some k) none) (h.pending tt);
        asks =
            asks-sends line Refused t.client.who t.client.number t.client.seq t.client.ticket t.sends (t.entries ++ old) k asks no_seq no_number reads
            h.asks;
        own = h.own;
      }

  pub decides-keeps : (t : ClientStep) (job : Job) (r : Request) → t.client.ticket ≡ None → asker r ≡ Some t.client.who
      → sequence_of r ≡ Some t.client.seq → through_number r ≡ None → ReadFits r (t.entries ++ old) → (job ≡ for_call → OpenFits r (t.entries ++ old))
      → Doing line Refused limit mine old ⊤ t → Doing line Refused limit mine old ⊤ (sends_request (after_seq t) job r)
  unfolding sends_request after_seq
  decides-keeps t job r none asks draws no_number reads opens h =
      let k : Ticket = record { xid = t.client.xid; first = t.client.now; last = t.client.now; request = r; job = job } in
      record {
        same = h.same;
        journal = h.journal;
        calls_fit = h.calls_fit;
        pending =
            λ goes. pending-ticket line t.client.who t.client.call t.client.ticket (Some k) (t.entries ++ old)
            (none-before t.client.who t.client.ticket (Some k) none) (h.pending tt);
        asks =
            asks-decides line Refused t.client.who t.client.number t.client.number t.client.seq t.client.ticket t.sends (t.entries ++ old) k asks draws
            (omega arith) (λ n e. none-some n (sym no_number ∙ e)) reads opens h.asks;
        own = h.own;
      }

  pub writes-keeps : (t : ClientStep) (file block : ℕ) (body : List ℕ) → t.client.ticket ≡ None
      → IsWriteInOrder (t.entries ++ old) t.client.who file block t.client.number (value_of body) → Doing line Refused limit mine old ⊤ t
      → Doing line Refused limit mine old ⊤
      (sends_request (after_number t) for_call (Request.Write t.client.who t.client.seq file block t.client.number t.client.number None body))
  unfolding sends_request after_number
  writes-keeps t file block body none opens h =
      let k : Ticket = record {
        xid = t.client.xid;
        first = t.client.now;
        last = t.client.now;
        request = Request.Write t.client.who t.client.seq file
            block t.client.number t.client.number None body;
        job = for_call;
      } in
      record {
        same = h.same;
        journal = h.journal;
        calls_fit =
            calls-raised t.client.who t.client.calls t.client.number t.client.calls (t.client.number + 1) t.client.call (t.entries ++ old) (omega arith)
            (omega arith) h.calls_fit;
        pending =
            λ goes. pending-ticket line t.client.who t.client.call t.client.ticket (Some k) (t.entries ++ old)
            (none-before t.client.who t.client.ticket (Some k) none) (h.pending tt);
        asks =
            asks-decides line Refused t.client.who t.client.number (t.client.number + 1) t.client.seq t.client.ticket t.sends (t.entries ++ old) k refl
            refl (omega arith) (λ n e. let same : t.client.number ≡ n = some-same t.client.number n e in omega arith) tt (λ job. opens) h.asks;
        own = h.own;
      }

  pub takes-keeps : (t : ClientStep) (p : Push) → Doing line Refused limit mine old ⊤ t → Doing line Refused limit mine old ⊤ (takes_push t p)
  unfolding takes_push
  takes-keeps t p h = h

  pub gives-keeps : (t : ClientStep) (file : ℕ) → Doing line Refused limit mine old ⊤ t → Doing line Refused limit mine old ⊤ (gives_up t file)
  unfolding gives_up
  gives-keeps t file h = h
