-- What is kept of a client's call under way, where it is settled without a packet and where the next request is sent.
use Rattle.std.proofs.Common.{◌≡◌, ◌<◌, ◌≤◌, ◌⊎◌, ℕ, Bool, true, false, List, ◌∷◌, ◌++◌, Option, Some, None, refl, sym, subst, ap, ◌∙◌, arith, inl, inr}
use Rattle.nq_base.specs.Block.{value_of}
use Rattle.nq_base.specs.declared.Answer.{Answer}
use Rattle.nq_base.specs.declared.Call.{Call}
use Rattle.nq_base.specs.declared.Entry.{Entry}
use Rattle.nq_base.specs.declared.Entry.TheVariants.{W, L, A}
use Rattle.nq_base.specs.declared.HostRow.{HostRow}
use Rattle.nq_base.specs.declared.Loss.{Loss}
use Rattle.nq_base.specs.declared.Push.{Push}
use Rattle.nq_base.specs.declared.Request.{Request}
use Rattle.nq_base.specs.declared.Said.{Said}
use Rattle.nq_base.specs.declared.Value.{Value}
use Rattle.nq_base.specs.declared.Who.{Who}
use Rattle.walk_files.proofs.CallsFit.{entry_who}
use Rattle.walk_steps.proofs.SendCases.{pushed, send-cases}
use Rattle.walk_steps.proofs.SettleCases.{IsSettling, IsRead, IsWrite, IsSync, of_sync, of_put, settle-cases}
use Rattle.walk_steps.proofs.ClientMoves.{some-same, none-some}
use Rattle.nq_model.specs.protocol.Client.{ClientStep, Job, for_call, renewing, Ticket, UnderWay, first_dirty, drop_dirty, is_clean, is_push_of}
use Rattle.nq_base.specs.Calls.{told}
use Rattle.nq_model.specs.laws.Journal.{Throughout, Somewhere, IsOpen, call_of}
use Rattle.nq_model.specs.laws.Legal.{IsReading}
use Rattle.nq_model.specs.protocol.Message.{sequence_of}
use Rattle.nq_model.specs.protocol.Send.{sends_request, after_seq, after_number, takes_push, sends_write, gives_up, send_next}
use Rattle.nq_model.specs.protocol.Settle.{said, answers, names_losses, reads_cached, after_read, delays, after_write, marks_written, settle}
use Rattle.nq_model.specs.protocol.Settle.{ticket_is_for_call}
use Rattle.nq_model.specs.laws.AnswersAreOfTheirCalls.{IsChanging, IsWriting}
use Rattle.nq_model.specs.laws.LossesAreReported.{cleans}
use Rattle.walk_steps.proofs.Members.{in-filtered, find-in}
use Rattle.walk_steps.proofs.Packets.{In}
use Rattle.walk_steps.proofs.Rows.{number-same}
use Rattle.law_runs.proofs.KeptPlaces.{KeptHere, IsMadeOpen, OkAt}
use Rattle.law_runs.proofs.OkAnswers.{is_plain, plain-ok, write-ok, answers-open, sync-ok, put-ok}
use Rattle.law_runs.proofs.OkFacts.{CoversNumber, LiesWithin, in_list, under_way, PutWaits, IsOpenAs, IsFor, IsDone, Numbered, KeepsOk, All, Book}
use Rattle.law_runs.proofs.OkFacts.{book_of, Mid, After, ended, not-for-call}
use Rattle.law_runs.proofs.OkMoves.{open-more, put-more, numbered-more, numbered-raised, numbered-written, numbered-taken}

-- the step's entries with one more of the client
pub own-more : (who : Who) (first : Entry) (entries : List Entry) → entry_who first ≡ Some who → ((e : Entry) → In entries e → entry_who e ≡ Some who)
    → (e : Entry) → In (first ∷ entries) e → entry_who e ≡ Some who
own-more who first entries is own e (inl same) = subst (λ z. entry_who z ≡ Some who) same is
own-more who first entries is own e (inr i) = own e i

-- the call is answered
pub mid-answers : {Spared More : UnderWay → Type 0} {line : HostRow} {journal : List Entry} (t : ClientStep) (q : ℕ) (a : Answer) (by : Option ℕ)
    → KeptHere (A t.client.who q (said a by)) (t.entries ++ journal) → Mid Spared line journal (book_of t)
    → Mid More line journal (book_of (answers t q a by))
unfolding answers
mid-answers t q a by here m = record {
  keeps = ended (numbered-more (A t.client.who q (said a by)) (λ f b n l e. absurd (cc)) m.keeps.numbers);
  above = m.above;
  kept = (here, m.kept);
  own = own-more t.client.who (A t.client.who q (said a by)) t.entries refl m.own;
}

-- it is told losses
pub mid-names : {Spared More : UnderWay → Type 0} {line : HostRow} {journal : List Entry} (t : ClientStep) (q file : ℕ)
    → IsOpen (t.entries ++ journal) t.client.who q → IsChanging (call_of (t.entries ++ journal) t.client.who q) → Mid Spared line journal (book_of t)
    → Mid More line journal (book_of (names_losses t q file))
unfolding answers
mid-names t q file is_open form m = record {
  keeps = ended (numbered-more _ (λ f b n l e. absurd (cc)) m.keeps.numbers);
  above = m.above;
  kept = (record { is_open = is_open; form = form }, m.kept);
  own = own-more t.client.who _ t.entries refl m.own;
}

-- ---- settling

-- what a call of this form asks
pub changing-form : (u : UnderWay) (op : Call) → u.call ≡ op → IsChanging (Some (told op)) → IsChanging (Some (told u.call))
changing-form u op e h = subst (λ o. IsChanging (Some (told o))) (sym e) h

pub writing-form : (u : UnderWay) (sync : Bool) (file block : ℕ) (body : List ℕ) → IsWrite u sync file block body → IsWriting (Some (told u.call))
writing-form u true file block body e = subst (λ o. IsWriting (Some (told o))) (sym e.0) tt
writing-form u false file block body e = subst (λ o. IsWriting (Some (told o))) (sym e) tt

pub reading-form : (u : UnderWay) (file block : ℕ) → IsRead u.call file block → IsReading (Some (told u.call))
reading-form u file block (inl e) = subst (λ o. IsReading (Some (told o))) (sym e) tt
reading-form u file block (inr e) = subst (λ o. IsReading (Some (told o))) (sym e) tt

delays-call : (t : ClientStep) (file block : ℕ) (body : List ℕ) → (delays t file block body).client.call ≡ t.client.call
unfolding after_write
delays-call t file block body = refl

module _ {line : HostRow} {journal : List Entry} (t : ClientStep) (m : Mid All line journal (book_of t)) where
  open-now : (u : UnderWay) → t.client.call ≡ Some u → IsOpenAs t.client.who u (t.entries ++ journal)
  open-now u is = m.keeps.is_open u is

  plain-read : (u : UnderWay) (file block : ℕ) → IsRead u.call file block → is_plain u.call ≡ true
  plain-read u file block (inl e) = ap is_plain e
  plain-read u file block (inr e) = ap is_plain e

  mid-cached : (u : UnderWay) (file block : ℕ) (body : List ℕ) → t.client.call ≡ Some u → IsRead u.call file block
      → Mid All line journal (book_of (reads_cached t u file block body))
  unfolding reads_cached answers after_read
  mid-cached u file block body is read =
      let r : Entry = Entry.R t.client.who u.q file block (value_of body) None in
      let open_after : IsOpenAs t.client.who u (r ∷ t.entries ++ journal) = open-more t.client.who u r (t.entries ++ journal) (λ a. a) (open-now u is) in
      record {
        keeps = ended (numbered-more _ (λ f b n l e. absurd (cc)) (numbered-more r (λ f b n l e. absurd (cc)) m.keeps.numbers));
        above = m.above;
        kept = (
          (
            answers-open t.client.who u (Said.OkValue (value_of body)) (r ∷ t.entries ++ journal) open_after (inr (reading-form u file block read)),
            plain-ok _ t.client.who u (r ∷ t.entries ++ journal) open_after (plain-read u file block read),
          ),
          (tt, m.kept),
        );
        own = own-more t.client.who _ (r ∷ t.entries) refl (own-more t.client.who r t.entries refl m.own);
      }

  -- a write is delayed
  mid-delays : (file block : ℕ) (body : List ℕ) → ticket_is_for_call t.client.ticket ≡ false → Mid All line journal (book_of (delays t file block body))
  unfolding after_write
  mid-delays file block body idle =
      let w : Entry = W t.client.who file block t.client.number (value_of body) false in
      record {
        keeps = record {
          fits = λ k u is job c. absurd (not-for-call t.client.ticket k idle is job);
          is_open = λ u c. open-more t.client.who u w (t.entries ++ journal) (λ a. a) (m.keeps.is_open u c);
          told = m.keeps.told;
          put = λ u f b x c s p written. put-more t.client.who u.q f b w (t.entries ++ journal) (λ n l e. absurd (cc)) (m.keeps.put u f b x c s p written);
          made = λ k u n is job c. absurd (not-for-call t.client.ticket k idle is job);
          numbers = numbered-written file block (value_of body) body m.keeps.numbers;
        };
        above = m.above;
        kept = (tt, m.kept);
        own = own-more t.client.who w t.entries refl m.own;
      }

  has-written : (u : UnderWay) (file block : ℕ) (body : List ℕ) → IsSettling t u
      → Somewhere (IsMadeOpen (delays t file block body).client.who u.q) ((delays t file block body).entries ++ journal)
  unfolding after_write
  has-written u file block body is = inl (refl, (open-now u is.called).is_open)

  -- and answered
  mid-writes : (u : UnderWay) (file block : ℕ) (body : List ℕ) → IsSettling t u → u.call ≡ Call.Write file block body
      → Mid All line journal (book_of (answers (delays t file block body) u.q (Answer.Ok Value.Nothing) None))
  mid-writes u file block body is write =
      let d : Mid All line journal (book_of (delays t file block body)) = mid-delays file block body is.idle in
      let o : IsOpenAs (delays t file block body).client.who u ((delays t file block body).entries ++ journal) = d.keeps.is_open u
      (delays-call t file block body ∙ is.called) in
      mid-answers (delays t file block body) u.q (Answer.Ok Value.Nothing) None (
        answers-open _ u Said.Ok _ o (changing-form u (Call.Write file block body) write tt),
        write-ok _ u file block body _ o write
            (has-written u file block body is),
      )
      d

  -- a put's write was delayed
  mid-puts : (u : UnderWay) (file block : ℕ) (body : List ℕ) → IsSettling t u → u.call ≡ Call.Put file block body
      → Mid All line journal (book_of (marks_written (delays t file block body) u))
  unfolding marks_written after_write
  mid-puts u file block body is put = record {
    keeps = record {
      fits = λ k v e job c. absurd (not-for-call t.client.ticket k is.idle e job);
      is_open = λ v c. subst (λ x. IsOpenAs t.client.who x (w ∷ t.entries ++ journal)) (some-same (record u { written = true }) v c) open_after;
      told = λ v f c s e. absurd (no-cleans f (ap (λ x. x.call) (sym (some-same (record u { written = true }) v c)) ∙ put) e);
      put =
          λ v f b x c s e written. waits f b x (sym put ∙ ap (λ y. y.call) (some-same (record u { written = true }) v c) ∙ e) v
          (ap (λ y. y.q) (some-same (record u { written = true }) v c));
      made = λ k v n e job c. absurd (not-for-call t.client.ticket k is.idle e job);
      numbers = d.keeps.numbers;
    };
    above = m.above;
    kept = d.kept;
    own = d.own;
  } where
    w : Entry
    w = W t.client.who file block t.client.number (value_of body) false

    d : Mid All line journal (book_of (delays t file block body))
    d = mid-delays file block body is.idle

    o : IsOpenAs t.client.who u (t.entries ++ journal)
    o = open-now u is.called

    open_after : IsOpenAs t.client.who (record u { written = true }) (w ∷ t.entries ++ journal)
    open_after = let k = open-more t.client.who u w (t.entries ++ journal) (λ a. a) o in record { is_open = k.is_open; tells = k.tells }

    no-cleans : {op : Call} (f : ℕ) → op ≡ Call.Put file block body → cleans f op ≡ true → ⊥
    no-cleans f e c = let bad : cleans f (Call.Put file block body) ≡ true = subst (λ x. cleans f x ≡ true) e c in absurd (cc)

    own : PutWaits t.client.who u.q file block (w ∷ t.entries ++ journal)
    own = record {
      number = t.client.number;
      value = value_of body;
      stands = inl (refl, o.is_open);
      unlost = λ first last i from to. unlost first last i to;
    } where
      unlost : (first last : ℕ) → (w ≡ L t.client.who file block first last) ⊎ In (t.entries ++ journal) (L t.client.who file block first last)
          → t.client.number ≤ last → ⊥
      unlost first last (inl e) to = absurd (cc)
      unlost first last (inr i) to = let below = m.keeps.numbers.lost file block first last i in absurd (omega arith)

    waits : (f b : ℕ) (x : List ℕ) → Call.Put file block body ≡ Call.Put f b x → (v : UnderWay) → u.q ≡ v.q
        → PutWaits t.client.who v.q f b (w ∷ t.entries ++ journal)
    waits f b x e v q =
        let one : file ≡ f = cc in
        let two : block ≡ b = cc in
        subst (λ n. PutWaits t.client.who n f b (w ∷ t.entries ++ journal)) q
        (subst (λ n. PutWaits t.client.who u.q f n (w ∷ t.entries ++ journal)) two
        (subst (λ n. PutWaits t.client.who u.q n block (w ∷ t.entries ++ journal)) one own))

  -- a sync, or a put, asks for a change
  sync-form : (u : UnderWay) (file : ℕ) → IsSync u file → IsChanging (Some (told u.call))
  sync-form u file (of_sync e) = changing-form u (Call.Sync file) e tt
  sync-form u file (of_put block body e written) = changing-form u (Call.Put file block body) e tt

  sync-here : (u : UnderWay) (file : ℕ) → IsSettling t u → IsSync u file → is_clean t.client file ≡ true
      → After journal (book_of (answers t u.q (Answer.Ok Value.Nothing) None)) → OkAt (A t.client.who u.q Said.Ok) (t.entries ++ journal) t.client.who u.q
  unfolding answers
  sync-here u file is (of_sync e) clean after =
      sync-ok t.client.who u file (t.entries ++ journal) t.client.dirty t.client.push t.client.losses (open-now u is.called) e clean
      (m.keeps.told u file is.called tt (ap (cleans file) e ∙ number-same file file refl))
      (λ block n value i. after.unsaved file block n value i)
      after.named
  sync-here u file is (of_put block body e written) clean after =
      put-ok t.client.who u file block body (t.entries ++ journal) t.client.dirty t.client.push (open-now u is.called) e
      (m.keeps.put u file block body is.called tt e written)
      clean
      (λ n value i. after.unsaved file block n value i)

  mid-syncs : (u : UnderWay) (file : ℕ) → IsSettling t u → IsSync u file → is_clean t.client file ≡ true
      → After journal (book_of (answers t u.q (Answer.Ok Value.Nothing) None))
      → Mid All line journal (book_of (answers t u.q (Answer.Ok Value.Nothing) None))
  mid-syncs u file is sync clean after =
      mid-answers t u.q (Answer.Ok Value.Nothing) None
      (answers-open t.client.who u Said.Ok (t.entries ++ journal) (open-now u is.called) (sync-form u file sync), sync-here u file is sync clean after) m

  -- a settled step
  pub mid-settles : After journal (book_of (settle t)) → Mid All line journal (book_of (settle t))
  mid-settles = settle-cases t (λ s. After journal (book_of s) → Mid All line journal (book_of s)) (record {
    idle = λ none a. m;
    asking = λ u is own a. m;
    read_out =
        λ u file block lease is read can out a. mid-answers t u.q Answer.Range None
        (answers-open t.client.who u Said.Range (t.entries ++ journal) (open-now u is.called) tt) m;
    reading = λ u file block lease body is read can below has a. mid-cached u file block body is.called read;
    read_waits = λ u file block is read waits a. m;
    write_out =
        λ u sync file block body lease is write can out a. mid-answers t u.q Answer.Range None
        (answers-open t.client.who u Said.Range (t.entries ++ journal) (open-now u is.called) tt) m;
    write_full =
        λ u sync file block body lease is write can below full a. mid-answers t u.q Answer.DirtyFull None
        (answers-open t.client.who u Said.DirtyFull (t.entries ++ journal) (open-now u is.called) (writing-form u sync file block body write)) m;
    writing = λ u file block body lease is write can below room a. mid-writes u file block body is write;
    putting = λ u file block body lease is put written can below room a. mid-puts u file block body is put;
    write_waits = λ u sync file block body is write waits a. m;
    syncing = λ u file is sync clean a. mid-syncs u file is sync clean a;
    sync_waits = λ u file is sync dirty a. m;
    others = λ u is needs a. m;
  })

-- ---- the next request

-- at the end of a client's step
pub record End (line : HostRow) (journal : List Entry) (b : Book) : Type 0 where
  pub keeps : KeepsOk All line b.who b.number b.call b.ticket b.losses b.dirty b.push (b.entries ++ journal)
  pub kept : Throughout KeptHere (b.entries ++ journal)
  pub own : (e : Entry) → In b.entries e → entry_who e ≡ Some b.who

pub mid-end : {line : HostRow} {journal : List Entry} (b : Book) → Mid All line journal b → End line journal b
mid-end b m = record { keeps = m.keeps; kept = m.kept; own = m.own }

-- a request of the call was sent, that was not decided yet
sent-keeps : {line : HostRow} {who : Who} {number more : ℕ} {call : Option UnderWay} {old : Option Ticket} {losses : List Loss} {dirty : List Push}
    {push : Option Push} {journal : List Entry} (ticket : Ticket) (u : UnderWay) → call ≡ Some u → IsFor u dirty push ticket.request
    → ((n : ℕ) → sequence_of ticket.request ≡ Some n → IsDone line who n → ⊥) → Numbered who more dirty push journal
    → KeepsOk All line who number call old losses dirty push journal → KeepsOk All line who more call (Some ticket) losses dirty push journal
sent-keeps {dirty = dirty} {push = push} ticket u is for_it undone numbers h = record {
  fits =
      λ k v e job c. subst (λ z. IsFor v dirty push z.request) (some-same ticket k e)
      (subst (λ z. IsFor z dirty push ticket.request) (some-same u v (sym is ∙ c)) for_it);
  is_open = h.is_open;
  told = h.told;
  put = h.put;
  made = λ k v n e job c draws done. absurd (undone n (ap (λ z. sequence_of z.request) (some-same ticket k e) ∙ draws) done);
  numbers = numbers;
}

-- a request that is not the call's was sent
other-keeps : {line : HostRow} {who : Who} {number : ℕ} {call : Option UnderWay} {old : Option Ticket} {losses : List Loss} {dirty more : List Push}
    {push other : Option Push} {journal : List Entry} (ticket : Ticket) → (ticket.job ≡ for_call → ⊥) → Numbered who number more other journal
    → KeepsOk All line who number call old losses dirty push journal → KeepsOk All line who number call (Some ticket) losses more other journal
other-keeps ticket apart numbers h = record {
  fits = λ k v e job c. absurd (apart (ap (λ z. z.job) (some-same ticket k e) ∙ job));
  is_open = h.is_open;
  told = h.told;
  put = h.put;
  made = λ k v n e job c draws done. absurd (apart (ap (λ z. z.job) (some-same ticket k e) ∙ job));
  numbers = numbers;
}

-- the next request
module _ {line : HostRow} {journal : List Entry} (t : ClientStep) (m : Mid All line journal (book_of t)) where
  -- for the call, without a sequence
  asks : (u : UnderWay) (request : Request) → t.client.call ≡ Some u → IsFor u t.client.dirty t.client.push request → sequence_of request ≡ None
      → End line journal (book_of (sends_request t for_call request))
  unfolding sends_request
  asks u request is for_it none =
      record { keeps = sent-keeps _ u is for_it (λ n e d. none-some n (sym none ∙ e)) m.keeps.numbers m.keeps; kept = m.kept; own = m.own }

  undone : (request : Request) → sequence_of request ≡ Some t.client.seq → (n : ℕ) → sequence_of request ≡ Some n → IsDone line t.client.who n → ⊥
  undone request draws n e d =
      let same : t.client.seq ≡ n = some-same t.client.seq n (sym draws ∙ e) in
      let below : line.seq < t.client.seq = m.above d.inc in
      let at : line.seq ≡ n = d.decided in
      absurd (omega arith)

  -- with one
  decides : (u : UnderWay) (request : Request) → t.client.call ≡ Some u → IsFor u t.client.dirty t.client.push request
      → sequence_of request ≡ Some t.client.seq → End line journal (book_of (sends_request (after_seq t) for_call request))
  unfolding sends_request after_seq
  decides u request is for_it draws = record { keeps = sent-keeps _ u is for_it (undone request draws) m.keeps.numbers m.keeps; kept = m.kept; own = m.own }

  writes : (u : UnderWay) (file block : ℕ) (body : List ℕ) → t.client.call ≡ Some u
      → (u.call ≡ Call.Write file block body) ⊎ (u.call ≡ Call.Put file block body) → End line journal (book_of (sends_write t file block body))
  unfolding sends_request after_number
  writes u file block body is for_it =
      record {
        keeps = sent-keeps _ u is for_it
            (undone (Request.Write t.client.who t.client.seq file block t.client.number t.client.number None body) refl) (numbered-raised m.keeps.numbers)
            m.keeps;
        kept = m.kept;
        own = m.own;
      }

  changes : (u : UnderWay) (file : ℕ) (request : Request) → t.client.call ≡ Some u → IsFor u t.client.dirty t.client.push request
      → sequence_of request ≡ Some t.client.seq → End line journal (book_of (sends_request (after_seq (gives_up t file)) for_call request))
  unfolding sends_request after_seq gives_up
  changes u file request is for_it draws =
      record { keeps = sent-keeps _ u is for_it (undone request draws) m.keeps.numbers m.keeps; kept = m.kept; own = m.own }

  renews : (request : Request) → End line journal (book_of (sends_request t renewing request))
  unfolding sends_request
  renews request = record { keeps = other-keeps _ (λ e. cc) m.keeps.numbers m.keeps; kept = m.kept; own = m.own }

  pushes : (file : ℕ) (p : Push) → first_dirty file t.client.dirty ≡ Some p → End line journal (book_of (pushed t p))
  unfolding sends_request after_seq takes_push
  pushes file p first = record { keeps = other-keeps _ (λ e. cc) (numbered-taken file p first m.keeps.numbers) m.keeps; kept = m.kept; own = m.own }

  pub mid-sends : (in_tick : Bool) → End line journal (book_of (send_next in_tick t))
  mid-sends in_tick = send-cases in_tick t (λ s. End line journal (book_of s)) (record {
    stays_asking = λ ticket is. mid-end (book_of t) m;
    stays = λ free nothing. mid-end (book_of t) m;
    pushing = λ file p free first of. pushes file p first;
    creating = λ u name blocks f op. decides u _ f.called op refl;
    looking_up = λ u name f op. asks u _ f.called op refl;
    getting_attributes = λ u file f op. asks u _ f.called op refl;
    reading = λ u file block f op. asks u _ f.called (inl op) refl;
    fetching = λ u file block f op. asks u _ f.called (inr op) refl;
    writing = λ u file block body f op through. writes u file block body f.called (inl op);
    leasing = λ u file block body f op through shares. asks u _ f.called tt refl;
    putting = λ u file block body f op written. writes u file block body f.called (inr op);
    resizing = λ u file blocks f op clean. changes u file _ f.called (op, refl, clean) refl;
    removing = λ u file f op clean. changes u file _ f.called (op, refl, clean) refl;
    renewing = λ file lease ticks free nothing unpaused due held of clean unnoticed. renews _;
  })

-- ---- delayed writes before the next request

taken-within : (file f block n : ℕ) (p : Push) (dirty : List Push) (push : Option Push) → first_dirty file dirty ≡ Some p
    → LiesWithin (drop_dirty p.file p.block dirty) (Some p) f block n → LiesWithin dirty push f block n
taken-within file f block n p dirty push first (in_list q i of at from to) = in_list q (in-filtered _ dirty q i) of at from to
taken-within file f block n p dirty push first (under_way q e of at from to) =
    in_list q (subst (In dirty) (some-same p q e) (find-in (is_push_of file) dirty p first)) of at from to

module _ (t : ClientStep) (journal : List Entry) where
  asked-before : (job : Job) (request : Request) → After journal (book_of (sends_request t job request)) → After journal (book_of t)
  unfolding sends_request
  asked-before job request a = record { unsaved = a.unsaved; named = a.named }

  decided-before : (request : Request) → After journal (book_of (sends_request (after_seq t) for_call request)) → After journal (book_of t)
  unfolding sends_request after_seq
  decided-before request a = record { unsaved = a.unsaved; named = a.named }

  wrote-before : (file block : ℕ) (body : List ℕ) → After journal (book_of (sends_write t file block body)) → After journal (book_of t)
  unfolding sends_request after_number
  wrote-before file block body a = record { unsaved = a.unsaved; named = a.named }

  changed-before : (file : ℕ) (request : Request) → After journal (book_of (sends_request (after_seq (gives_up t file)) for_call request))
      → After journal (book_of t)
  unfolding sends_request after_seq gives_up
  changed-before file request a = record { unsaved = a.unsaved; named = a.named }

  pushed-before : (file : ℕ) (p : Push) → first_dirty file t.client.dirty ≡ Some p → After journal (book_of (pushed t p)) → After journal (book_of t)
  unfolding sends_request after_seq takes_push
  pushed-before file p first a = record { unsaved = λ f block n value i. case f block n (a.unsaved f block n value i); named = a.named }
    where
      case : (f block n : ℕ) → CoversNumber (t.entries ++ journal) t.client.who f block n
          ⊎ LiesWithin (drop_dirty p.file p.block t.client.dirty) (Some p) f block n
          → CoversNumber (t.entries ++ journal) t.client.who f block n ⊎ LiesWithin t.client.dirty t.client.push f block n
      case f block n (inl c) = inl c
      case f block n (inr l) = inr (taken-within file f block n p t.client.dirty t.client.push first l)

  -- what is known after the next request was sent was known before it was
  pub after-before : (in_tick : Bool) → After journal (book_of (send_next in_tick t)) → After journal (book_of t)
  after-before in_tick = send-cases in_tick t (λ s. After journal (book_of s) → After journal (book_of t)) (record {
    stays_asking = λ ticket is a. a;
    stays = λ free nothing a. a;
    pushing = λ file p free first of. pushed-before file p first;
    creating = λ u name blocks f op. decided-before _;
    looking_up = λ u name f op. asked-before for_call _;
    getting_attributes = λ u file f op. asked-before for_call _;
    reading = λ u file block f op. asked-before for_call _;
    fetching = λ u file block f op. asked-before for_call _;
    writing = λ u file block body f op through. wrote-before file block body;
    leasing = λ u file block body f op through shares. asked-before for_call _;
    putting = λ u file block body f op written. wrote-before file block body;
    resizing = λ u file blocks f op clean. changed-before file _;
    removing = λ u file f op clean. changed-before file _;
    renewing = λ file lease ticks free nothing unpaused due held of clean unnoticed. asked-before renewing _;
  })
