-- A settled step, the next request and the reply keep what is known of a client's calls.
use Rattle.std.proofs.Common.{◌≡◌, ◌⊎◌, ℕ, ◌+◌, Bool, true, false, List, [], ◌∷◌, ◌++◌, Option, Some, None, refl, sym, subst, ap, ◌∙◌, arith, inl, inr}
use Rattle.std.specs.Prelude.{⊤}
use Rattle.nq_base.specs.Block.{value_of}
use Rattle.nq_base.specs.declared.Answer.{Answer}
use Rattle.nq_base.specs.declared.Call.{Call}
use Rattle.nq_base.specs.declared.Entry.{Entry}
use Rattle.nq_base.specs.declared.Entry.TheVariants.{W, R, A}
use Rattle.nq_base.specs.declared.HostRow.{HostRow}
use Rattle.nq_base.specs.declared.Mode.{Mode}
use Rattle.nq_base.specs.declared.Push.{Push}
use Rattle.nq_base.specs.declared.Request.{Request}
use Rattle.nq_base.specs.declared.Value.{Value}
use Rattle.nq_base.specs.declared.Want.{Want}
use Rattle.nq_base.specs.declared.Who.{Who}
use Rattle.walk_files.proofs.CallFacts.{NoneDone, IsPut, journal-more, spaced-more, calls-more, calls-raised, calls-marked, written-below}
use Rattle.walk_files.proofs.CallMoves.{NotForCall, calls-answered, pending-none, pending-written, asks-idle, asks-raised}
use Rattle.walk_files.proofs.ClientMoves as move
use Rattle.walk_files.proofs.ClientMoves.{Doing, own-more, own-bounded}
use Rattle.walk_files.proofs.Placed.{IsCachedBy}
use Rattle.walk_files.proofs.Quiet.{IsNoCall}
use Rattle.walk_steps.proofs.SendCases.{send-cases, pushed}
use Rattle.walk_steps.proofs.SettleCases.{IsRead, IsSettling, settle-cases}
use Rattle.walk_steps.proofs.ClientMoves.{some-same, none-some}
use Rattle.nq_model.specs.protocol.Client.{ClientStep, UnderWay, Job, for_call, Ticket}
use Rattle.nq_base.specs.Calls.{told}
use Rattle.nq_model.specs.laws.Journal.{Exists, IsAnswer, IsOpen, call_of}
use Rattle.nq_model.specs.laws.OfTheirCall.{Reads}
use Rattle.nq_model.specs.laws.Ordered.{Writes, Resizes, IsWriteInOrder, IsResizeInOrder}
use Rattle.nq_model.specs.protocol.Send.{sends_request, after_seq, base_of, takes_push, gives_up, want_of, send_next}
use Rattle.nq_model.specs.protocol.Settle.{said, answers, after_read, reads_cached, after_write, delays, marks_written, ticket_is_for_call, settle}

-- ---- what the call under way asks

not-for-call : (ticket : Option Ticket) → ticket_is_for_call ticket ≡ false → NotForCall ticket
not-for-call None e t is job = none-some t is
not-for-call (Some k) e t is job = let one : k.job ≡ for_call = ap (λ z. z.job) (some-same k t is) ∙ job in absurd (cc)

reads-told : (u : UnderWay) (file block : ℕ) (journal : List Entry) (who : Who) → IsRead u.call file block
    → call_of journal who u.q ≡ Some (told u.call) → Reads file block (call_of journal who u.q)
reads-told u file block journal who (inl e) tells = subst (Reads file block) (sym (tells ∙ ap (λ op. Some (told op)) e)) (refl, refl)
reads-told u file block journal who (inr e) tells = subst (Reads file block) (sym (tells ∙ ap (λ op. Some (told op)) e)) (refl, refl)

-- a call of a write of this block
abbrev IsWriting : Call → (file block : ℕ) (body : List ℕ) → Type 0
IsWriting op file block body = (op ≡ Call.Write file block body) ⊎ (op ≡ Call.Put file block body)

writes-told : (op : Call) (q file block : ℕ) (body : List ℕ) (journal : List Entry) (who : Who) → IsWriting op file block body
    → call_of journal who q ≡ Some (told op) → Writes file block (value_of body) (call_of journal who q)
writes-told op q file block body journal who (inl e) tells =
    subst (Writes file block (value_of body)) (sym (tells ∙ ap (λ o. Some (told o)) e)) (refl, refl, refl)
writes-told op q file block body journal who (inr e) tells =
    subst (Writes file block (value_of body)) (sym (tells ∙ ap (λ o. Some (told o)) e)) (refl, refl, refl)

module _ (line : HostRow) (Refused : ℕ → Type 0) (limit : ℕ) (mine : Who) (old : List Entry) where
  -- the write of the call under way is in order
  write-ready : (t : ClientStep) (u : UnderWay) (file block : ℕ) (body : List ℕ) → t.client.call ≡ Some u → u.written ≡ false
      → IsWriting u.call file block body → NoneDone line t.client.who t.client.ticket → Doing line Refused limit mine old ⊤ t
      → IsWriteInOrder (t.entries ++ old) t.client.who file block t.client.number (value_of body)
  write-ready t u file block body is plain writing idle h =
      let k = h.calls_fit.under_way u is in (
        u.q,
        record {
          is_open = k.is_open;
          only = λ other o. let v = h.calls_fit.alone other o in sym v.2 ∙ ap (λ z. z.q) (some-same v.0 u (sym v.1 ∙ is));
          call = writes-told u.call u.q file block body (t.entries ++ old) t.client.who writing k.tells;
          first = (h.pending tt).unwritten u is plain idle;
          fresh =
              λ n. let below = written-below t.client.who t.client.calls t.client.number t.client.call (t.entries ++ old) h.calls_fit t.client.number n
              in omega arith;
        },
      )

  resize-ready : (t : ClientStep) (u : UnderWay) (file to : ℕ) → t.client.call ≡ Some u → (Resizes file to (Some (told u.call)))
      → NoneDone line t.client.who t.client.ticket → Doing line Refused limit mine old ⊤ t → IsResizeInOrder (t.entries ++ old) t.client.who u.q file to
  resize-ready t u file to is resizes idle h =
      let k = h.calls_fit.under_way u is in
      record {
        is_open = k.is_open;
        call = subst (Resizes file to) (sym k.tells) resizes;
        first = (h.pending tt).unresized u is idle;
      }

  none-of-call : (t : ClientStep) → NotForCall t.client.ticket → NoneDone line t.client.who t.client.ticket
  none-of-call t idle k is d = idle k is d.job

  -- a write is delayed
  delays-keeps : (t : ClientStep) (u : UnderWay) (file block : ℕ) (body : List ℕ) → NotForCall t.client.ticket
      → IsWriteInOrder (t.entries ++ old) t.client.who file block t.client.number (value_of body) → Doing line Refused limit mine old ⊤ t
      → Doing line Refused limit mine old ⊥ (delays t file block body)
  unfolding after_write
  delays-keeps t u file block body idle ready h =
      let e : Entry = W t.client.who file block t.client.number (value_of body) false in
      let no_call : IsNoCall t.client.who e = record { call = λ q c. c; answer = λ q c. c } in
      record {
        same = h.same;
        journal = journal-more e (t.entries ++ old) ready tt (λ w q c. c) h.journal;
        calls_fit =
            calls-more t.client.who t.client.calls (t.client.number + 1) t.client.call e (t.entries ++ old) no_call
            (own-bounded t.client.who t.client.calls (t.client.number + 1) e refl (λ q of. none-some q of)
            (λ n of. let same : t.client.number ≡ n = some-same t.client.number n of in omega arith))
            (calls-raised t.client.who t.client.calls t.client.number t.client.calls (t.client.number + 1) t.client.call (t.entries ++ old)
            (omega arith) (omega arith) h.calls_fit);
        pending = λ goes. absurd goes;
        asks =
            asks-idle line Refused t.client.who (t.client.number + 1) t.client.seq t.client.ticket t.sends e (t.entries ++ old) idle
            (asks-raised line Refused t.client.who t.client.number (t.client.number + 1) t.client.seq t.client.ticket t.sends (t.entries ++ old)
            (omega arith) h.asks);
        own = own-more limit t.client.who e t.entries (refl, tt) h.own;
      }

  delays-ticket : (t : ClientStep) (file block : ℕ) (body : List ℕ) → NotForCall t.client.ticket → NotForCall (delays t file block body).client.ticket
  unfolding after_write
  delays-ticket t file block body h = h

  delays-call : (t : ClientStep) (u : UnderWay) (file block : ℕ) (body : List ℕ) → t.client.call ≡ Some u → (delays t file block body).client.call ≡ Some u
  unfolding after_write
  delays-call t u file block body h = h

  -- a put's write is delayed, and the put goes on
  puts-keeps : (t : ClientStep) (u : UnderWay) (file block : ℕ) (body : List ℕ) → t.client.call ≡ Some u → u.call ≡ Call.Put file block body
      → NotForCall t.client.ticket → IsWriteInOrder (t.entries ++ old) t.client.who file block t.client.number (value_of body)
      → Doing line Refused limit mine old ⊤ t → Doing line Refused limit mine old ⊤ (marks_written (delays t file block body) u)
  unfolding after_write marks_written
  puts-keeps t u file block body is put idle ready h =
      let e : Entry = W t.client.who file block t.client.number (value_of body) false in
      let no_call : IsNoCall t.client.who e = record { call = λ q c. c; answer = λ q c. c } in
      record {
        same = h.same;
        journal = journal-more e (t.entries ++ old) ready tt (λ w q c. c) h.journal;
        calls_fit = calls-marked t.client.who t.client.calls (t.client.number + 1) t.client.call (Some (record u { written = true })) (e ∷ t.entries ++ old)
            (λ v same. let one = some-same (record u { written = true }) v same in (u, is, ap (λ z. z.q) one, ap (λ z. z.call) one))
            (λ v same. (record u { written = true }, refl, ap (λ z. z.q) (some-same u v (sym is ∙ same))))
            (calls-more t.client.who t.client.calls (t.client.number + 1) t.client.call e (t.entries ++ old) no_call
            (own-bounded t.client.who t.client.calls (t.client.number + 1) e refl (λ q of. none-some q of)
            (λ n of. let same : t.client.number ≡ n = some-same t.client.number n of in omega arith))
            (calls-raised t.client.who t.client.calls t.client.number t.client.calls (t.client.number + 1) t.client.call (t.entries ++ old)
            (omega arith) (omega arith) h.calls_fit));
        pending =
            λ goes. pending-written line t.client.who t.client.call u t.client.ticket e (t.entries ++ old) is (subst IsPut (sym put) tt) (λ q z. z)
            (h.pending tt);
        asks =
            asks-idle line Refused t.client.who (t.client.number + 1) t.client.seq t.client.ticket t.sends e (t.entries ++ old) idle
            (asks-raised line Refused t.client.who t.client.number (t.client.number + 1) t.client.seq t.client.ticket t.sends (t.entries ++ old)
            (omega arith) h.asks);
        own = own-more limit t.client.who e t.entries (refl, tt) h.own;
      }

  -- a read is answered from what the client has
  cached-keeps : (t : ClientStep) (u : UnderWay) (file block : ℕ) (body : List ℕ) → t.client.call ≡ Some u → IsRead u.call file block
      → NotForCall t.client.ticket → Doing line Refused limit mine old ⊤ t → Doing line Refused limit mine old ⊤ (reads_cached t u file block body)
  unfolding reads_cached answers after_read
  cached-keeps t u file block body is reading idle h =
      let r : Entry = R t.client.who u.q file block (value_of body) None in
      let a : Entry = A t.client.who u.q (said (Answer.Ok (Value.Body body)) None) in
      let k = h.calls_fit.under_way u is in
      let no_call : IsNoCall t.client.who r = record { call = λ q c. c; answer = λ q c. c } in
      record {
        same = h.same;
        journal = record {
          placed = (
            (λ x. unanswered k.is_open x),
            (
              record {
                is_open = k.is_open;
                reads = reads-told u file block (t.entries ++ old) t.client.who reading k.tells;
                settled = h.journal.read
                    t.client.who u.q;
              },
              h.journal.placed,
            ),
          );
          spaced = (tt, (tt, spaced-more [] (r ∷ a ∷ []) (t.entries ++ old) h.journal.spaced));
          read = λ w q c. read w q c;
        };
        calls_fit =
            calls-answered t.client.who t.client.calls t.client.number t.client.call u _ (r ∷ t.entries ++ old) is
            (calls-more t.client.who t.client.calls t.client.number t.client.call r (t.entries ++ old) no_call
            (own-bounded t.client.who t.client.calls t.client.number r refl
            (λ q of. let same : u.q ≡ q = some-same u.q q of in let below = k.counted in omega arith) (λ n of. none-some n of)) h.calls_fit);
        pending = λ goes. pending-none line t.client.who t.client.ticket (a ∷ r ∷ t.entries ++ old);
        asks =
            asks-idle line Refused t.client.who t.client.number t.client.seq t.client.ticket t.sends a (r ∷ t.entries ++ old) idle
            (asks-idle line Refused t.client.who t.client.number t.client.seq t.client.ticket t.sends r (t.entries ++ old) idle h.asks);
        own = own-more limit t.client.who a (r ∷ t.entries) (refl, tt) (own-more limit t.client.who r t.entries (refl, tt) h.own);
      }
    where
      unanswered : IsOpen (t.entries ++ old) t.client.who u.q → ⊥ ⊎ Exists (IsAnswer t.client.who u.q) (t.entries ++ old) → ⊥
      unanswered o (inl bad) = bad
      unanswered o (inr before) = o.1 before

      read : (w : Who) (q : ℕ) → ⊥ ⊎ (((t.client.who ≡ w) × (u.q ≡ q)) ⊎ Exists (IsCachedBy w q) (t.entries ++ old))
          → ((t.client.who ≡ w) × (u.q ≡ q)) ⊎ (⊥ ⊎ Exists (IsAnswer w q) (t.entries ++ old))
      read w q (inl bad) = absurd bad
      read w q (inr (inl now)) = inl now
      read w q (inr (inr before)) = inr (inr (h.journal.read w q before))

  pub settle-keeps : (t : ClientStep) → Doing line Refused limit mine old ⊤ t → Doing line Refused limit mine old ⊤ (settle t)
  settle-keeps t h = settle-cases t (λ s. Doing line Refused limit mine old ⊤ s) (record {
    idle = λ none. h;
    asking = λ u is for. h;
    read_out = λ u file block lease s read can out. answered u Answer.Range s;
    reading = λ u file block lease body s read can below has. cached-keeps t u file block body s.called read (not-for-call t.client.ticket s.idle) h;
    read_waits = λ u file block s read waits. h;
    write_out = λ u sync file block body lease s write can out. answered u Answer.Range s;
    write_full = λ u sync file block body lease s write can below full. answered u Answer.DirtyFull s;
    writing = λ u file block body lease s write can below room. writes u file block body s write;
    putting =
        λ u file block body lease s put plain can below room. puts-keeps t u file block body s.called put (not-for-call t.client.ticket s.idle)
        (ready u file block body s plain (inr put)) h;
    write_waits = λ u sync file block body s write waits. h;
    syncing = λ u file s sync clean. answered u (Answer.Ok Value.Nothing) s;
    sync_waits = λ u file s sync dirty. h;
    others = λ u s needs. h;
  }) where
    ready : (u : UnderWay) (file block : ℕ) (body : List ℕ) → IsSettling t u → u.written ≡ false → IsWriting u.call file block body
        → IsWriteInOrder (t.entries ++ old) t.client.who file block t.client.number (value_of body)
    ready u file block body s plain writing = write-ready t u file block body s.called plain writing (none-of-call t (not-for-call t.client.ticket s.idle)) h

    answered : (u : UnderWay) (answer : Answer) → IsSettling t u → Doing line Refused limit mine old ⊤ (answers t u.q answer None)
    answered u answer s =
        move.answers-keeps line Refused limit mine old ⊤ t u answer None (λ k e. none-some k e) s.called (not-for-call t.client.ticket s.idle) h

    plain-write : (u : UnderWay) (file block : ℕ) (body : List ℕ) → IsSettling t u → u.call ≡ Call.Write file block body → (b : Bool) → u.written ≡ b
        → u.written ≡ false
    plain-write u file block body s write false e = e
    plain-write u file block body s write true e = absurd (subst IsPut write ((h.pending tt).put_only u s.called e))

    writes : (u : UnderWay) (file block : ℕ) (body : List ℕ) → IsSettling t u → u.call ≡ Call.Write file block body
        → Doing line Refused limit mine old ⊤ (answers (delays t file block body) u.q (Answer.Ok Value.Nothing) None)
    writes u file block body s write =
        let idle = not-for-call t.client.ticket s.idle in
        move.answers-keeps line Refused limit mine old ⊥ (delays t file block body) u (Answer.Ok Value.Nothing) None (λ k e. none-some k e)
        (delays-call t u file block body s.called) (delays-ticket t file block body idle)
        (delays-keeps t u file block body idle (ready u file block body s (plain-write u file block body s write u.written refl) (inl write)) h)

  -- ---- the next request

  none-free : (t : ClientStep) → t.client.ticket ≡ None → NoneDone line t.client.who t.client.ticket
  none-free t none k is d = none-some k (sym none ∙ is)

  pushes : (t : ClientStep) (p : Push) → t.client.ticket ≡ None → Doing line Refused limit mine old ⊤ t → Doing line Refused limit mine old ⊤ (pushed t p)
  unfolding takes_push
  pushes t p free h =
      move.decides-keeps line Refused limit mine old (takes_push t p) Job.pushing
      (Request.Write t.client.who t.client.seq p.file p.block p.first p.last (Some (base_of t.client p.file)) p.body) free refl refl refl tt (λ job. tt)
      (move.takes-keeps line Refused limit mine old t p h)

  resizes : (t : ClientStep) (u : UnderWay) (file blocks : ℕ) → t.client.ticket ≡ None → t.client.call ≡ Some u → u.call ≡ Call.Resize file blocks
      → Doing line Refused limit mine old ⊤ t
      → Doing line Refused limit mine old ⊤
      (sends_request (after_seq (gives_up t file)) for_call (Request.Resize t.client.who t.client.seq u.q file blocks))
  unfolding gives_up
  resizes t u file blocks free is resize h =
      move.decides-keeps line Refused limit mine old (gives_up t file) for_call (Request.Resize t.client.who t.client.seq u.q file blocks) free refl
      refl refl tt (λ job. resize-ready t u file blocks is (subst (λ op. Resizes file blocks (Some (told op))) (sym resize) (refl, refl))
      (none-free t free) h) (move.gives-keeps line Refused limit mine old t file h)

  removes : (t : ClientStep) (u : UnderWay) (file : ℕ) → t.client.ticket ≡ None → t.client.call ≡ Some u → u.call ≡ Call.Remove file
      → Doing line Refused limit mine old ⊤ t
      → Doing line Refused limit mine old ⊤ (sends_request (after_seq (gives_up t file)) for_call (Request.Remove t.client.who t.client.seq u.q file))
  unfolding gives_up
  removes t u file free is remove h =
      move.decides-keeps line Refused limit mine old (gives_up t file) for_call (Request.Remove t.client.who t.client.seq u.q file) free refl refl refl
      tt (λ job. resize-ready t u file 0 is (subst (λ op. Resizes file 0 (Some (told op))) (sym remove) (refl, refl)) (none-free t free) h)
      (move.gives-keeps line Refused limit mine old t file h)

  pub send-keeps : (in_tick : Bool) (t : ClientStep) → Doing line Refused limit mine old ⊤ t → Doing line Refused limit mine old ⊤ (send_next in_tick t)
  send-keeps in_tick t h = send-cases in_tick t (λ s. Doing line Refused limit mine old ⊤ s) (record {
    stays_asking = λ ticket asking. h;
    stays = λ free nothing. h;
    pushing = λ file p free first of. pushes t p free h;
    creating =
        λ u name blocks f is. move.decides-keeps line Refused limit mine old t for_call (Request.Create t.client.who t.client.seq name blocks) f.free
        refl refl refl tt (λ job. tt) h;
    looking_up = λ u name f is. move.asks-keeps line Refused limit mine old t for_call (Request.Lookup t.client.who name) f.free refl refl refl tt h;
    getting_attributes = λ u file f is. move.asks-keeps line Refused limit mine old t for_call (Request.GetAttr t.client.who file) f.free refl refl refl tt h;
    reading = λ u file block f is. reads u file block _ f.free f.called (inl is);
    fetching = λ u file block f is. reads u file block None f.free f.called (inr is);
    writing =
        λ u file block body f is through. move.writes-keeps line Refused limit mine old t file block body f.free
        (write-ready t u file block body f.called (plain-write u file block body f.called is u.written refl) (inl is) (none-free t f.free) h) h;
    leasing =
        λ u file block body f is plain none. move.asks-keeps line Refused limit mine old t for_call
        (Request.GetLease t.client.who file (want_of t.client Mode.Writing)) f.free refl refl refl tt h;
    putting =
        λ u file block body f is plain. move.writes-keeps line Refused limit mine old t file block body f.free
        (write-ready t u file block body f.called plain (inr is) (none-free t f.free) h) h;
    resizing = λ u file blocks f is clean. resizes t u file blocks f.free f.called is h;
    removing = λ u file f is clean. removes t u file f.free f.called is h;
    renewing =
        λ file lease tick free nothing unpaused first held of clean unnoticed. move.asks-keeps line Refused limit mine old t Job.renewing
        (Request.GetLease t.client.who lease.file (want_of t.client lease.mode)) free refl refl refl tt h;
  }) where
    plain-write : (u : UnderWay) (file block : ℕ) (body : List ℕ) → t.client.call ≡ Some u → u.call ≡ Call.Write file block body → (b : Bool)
        → u.written ≡ b → u.written ≡ false
    plain-write u file block body is write false e = e
    plain-write u file block body is write true e = absurd (subst IsPut write ((h.pending tt).put_only u is e))

    reads : (u : UnderWay) (file block : ℕ) (want : Option Want) → t.client.ticket ≡ None → t.client.call ≡ Some u → IsRead u.call file block
        → Doing line Refused limit mine old ⊤ (sends_request t for_call (Request.Read t.client.who u.q file block want))
    reads u file block want free is read =
        move.asks-keeps line Refused limit mine old t for_call (Request.Read t.client.who u.q file block want) free refl refl refl
        (reads-told u file block (t.entries ++ old) t.client.who read (h.calls_fit.under_way u is).tells) h
