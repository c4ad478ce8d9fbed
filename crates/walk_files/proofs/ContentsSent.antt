-- What a client knows of contents is kept where it settles, sends, is called and ticks.
use Rattle.std.proofs.Common.{◌≡◌, ◌≤◌, ℕ, ◌+◌, Bool, true, false, List, [], ◌∷◌, ◌++◌, Option, Some, None, if◌then◌else◌, map, refl}
use Rattle.std.proofs.Common.{sym, subst, ap, ◌∙◌, arith}
use Rattle.std.specs.Prelude.{reverse}
use Rattle.std.proofs.lemmas.List.{reverse-append}
use Rattle.nq_base.specs.Block.{value_of}
use Rattle.nq_base.specs.declared.Answer.{Answer}
use Rattle.nq_base.specs.declared.Call.{Call}
use Rattle.nq_base.specs.declared.Entry.{Entry}
use Rattle.nq_base.specs.declared.Push.{Push}
use Rattle.nq_base.specs.declared.Request.{Request}
use Rattle.nq_base.specs.declared.Said.{Said}
use Rattle.nq_base.specs.declared.Value.{Value}
use Rattle.nq_base.specs.declared.Who.{Who}
use Rattle.walk_steps.proofs.SendCases.{send-cases, pushed}
use Rattle.walk_steps.proofs.SettleCases.{settle-moves}
use Rattle.walk_steps.proofs.StepCases.{call-cases, unless-cached-cases, tick-cases}
use Rattle.walk_steps.proofs.ClientFacts.{changes_file, push_in}
use Rattle.walk_steps.proofs.ClientMoves.{some-same, none-some}
use Rattle.walk_files.proofs.ClientLookups.{clean-purged, found-purged, found-touched, dirty-dropped}
use Rattle.walk_files.proofs.KnownContents.{Part, part_of, history_in, IsOverKnown, IsFair, Mid}
use Rattle.walk_files.proofs.ClientParts.{notes-entry, clean-fewer, dirty-fewer}
use Rattle.walk_files.proofs.ClientParts.{ticket-fewer, sends-more, CanSend, sends-ticket, delays-write}
use Rattle.walk_files.proofs.Facts.{Follows, follows}
use Rattle.nq_model.specs.laws.Contents.{changes, delayed_by}
use Rattle.nq_model.specs.protocol.Client.{Clean, Client, ClientStep, Job, for_call, renewing, pushing, Ticket, UnderWay, begun, clean_at}
use Rattle.nq_model.specs.protocol.Client.{purge, dirty_at, drop_dirty, first_dirty, is_push_of}
use Rattle.nq_model.specs.protocol.ClientStep.{begins_call, is_called, says_busy, client_call, at_time, sends_again, client_tick}
use Rattle.nq_model.specs.protocol.Hear.{loss_entry}
use Rattle.nq_model.specs.protocol.Hear.{goes_on}
use Rattle.nq_model.specs.protocol.Message.{Packet, call}
use Rattle.nq_model.specs.protocol.Send.{sends_request, after_seq, after_number, takes_push, sends_write, gives_up, send_next}
use Rattle.nq_model.specs.protocol.Settle.{answers, names_losses, said, reads_clean, touched, after_read, reads_cached, after_write, delays, marks_written}
use Rattle.nq_model.specs.protocol.Settle.{settle}
use Rattle.walk_steps.proofs.Members.{find-in, in-filtered}
use Rattle.walk_steps.proofs.Packets.{call-same}

-- an entry that changes no file and delays no write
pub record IsQuiet (e : Entry) : Type 0 where
  pub none : (file : ℕ) → changes e file ≡ false
  pub idle : (w : Who) (file block n : ℕ) → delayed_by e w file block n ≡ None

abbrev AllQuiet : List Entry → Type 0
AllQuiet [] = Unit {0}
AllQuiet (e ∷ es) = IsQuiet e × AllQuiet es

quiet-append : (es fs : List Entry) → AllQuiet es → AllQuiet fs → AllQuiet (es ++ fs)
quiet-append [] fs h k = k
quiet-append (e ∷ es) fs h k = (h.0, quiet-append es fs h.1 k)

pub losses-quiet : (who : Who) (ps : List Push) → AllQuiet (reverse (map (loss_entry who) ps))
losses-quiet who [] = tt
losses-quiet who (p ∷ ps) =
    subst AllQuiet (sym (reverse-append (loss_entry who p ∷ []) (map (loss_entry who) ps)))
    (quiet-append (reverse (map (loss_entry who) ps)) (loss_entry who p ∷ []) (losses-quiet who ps)
    (record { none = λ file. refl; idle = λ w file block n. refl }, tt))

module _ (journal : List Entry) (first : ℕ → ℕ) (next : ℕ) (ps : List Packet) where
  abbrev pub P : ClientStep → Type 0
  P t = Mid journal first next ps (part_of t)

  -- and no request is under way
  pub record Spent (t : ClientStep) : Type 0 where
    pub mid : P t
    pub free : t.client.ticket ≡ None

  -- what was known before the step is known in the middle of it
  pub grown : (entries : List Entry) → Follows (history_in journal first next []) (history_in journal first next entries)
  grown entries = follows (history_in journal first next []) entries first next (omega arith) (λ id drawn. refl)

  -- ---- answers, and other entries

  pub notes-all : (p : Part) (es : List Entry) → AllQuiet es → Mid journal first next ps p → Mid journal first next ps (record p { entries = es ++ p.entries })
  notes-all p [] q h = h
  notes-all p (e ∷ es) q h = notes-entry journal first next ps (record p { entries = es ++ p.entries }) e q.0.none q.0.idle (notes-all p es q.1 h)

  pub answers-mid : (t : ClientStep) (q : ℕ) (answer : Answer) (by : Option ℕ) → P t → P (answers t q answer by)
  unfolding answers
  answers-mid t q answer by h =
      notes-entry journal first next ps (part_of t) (Entry.A t.client.who q (said answer by)) (λ file. refl) (λ w file block n. refl) h

  pub names-mid : (t : ClientStep) (q file : ℕ) → P t → P (names_losses t q file)
  unfolding answers
  names-mid t q file h = notes-entry journal first next ps (part_of t) _ (λ file. refl) (λ w file block n. refl) h

  -- ---- what needs no packet

  cached-mid : (t : ClientStep) (u : UnderWay) (file block : ℕ) (body : List ℕ) → P t → P (reads_cached t u file block body)
  unfolding reads_cached answers after_read
  cached-mid t u file block body h =
      notes-entry journal first next ps _ (Entry.A t.client.who u.q (said (Answer.Ok (Value.Body body)) None)) (λ file. refl) (λ w file block n. refl)
      (notes-entry journal first next ps _ (Entry.R t.client.who u.q file block (value_of body) None) (λ file. refl) (λ w file block n. refl)
      (clean-fewer journal first next ps (part_of t) _ (λ f b k e. fewer f b k (reads_clean t.client file block) e) h))
    where
      fewer : (f b : ℕ) (k : Clean) (x : Bool)
          → clean_at f b (if x then touched file block (clean_at file block t.client.clean) t.client.clean else t.client.clean) ≡ Some k
          → clean_at f b t.client.clean ≡ Some k
      fewer f b k true e = found-touched f b file block (clean_at file block t.client.clean) t.client.clean k refl e
      fewer f b k false e = e

  delays-mid : (t : ClientStep) (file block : ℕ) (body : List ℕ) → P t → P (delays t file block body)
  unfolding after_write
  delays-mid t file block body h = delays-write journal first next ps (part_of t) file block body (dirty_at file block t.client.dirty) h

  written-mid : (t : ClientStep) (u : UnderWay) → P t → P (marks_written t u)
  unfolding marks_written
  written-mid t u h = h

  pub settle-mid : (t : ClientStep) → P t → P (settle t)
  settle-mid t h = settle-moves t P (record {
    kept = h;
    answered = λ v q answer k. answers-mid v q answer None k;
    read = λ u file block body. cached-mid t u file block body h;
    delayed = λ file block body. delays-mid t file block body h;
    marked = λ v u k. written-mid v u k;
  })

  -- ---- the next request

  numbers-more : (p : Part) (number : ℕ) → p.number ≤ number → Mid journal first next ps p
      → Mid journal first next ps (record p { seq = p.seq + 1; number = number })
  numbers-more p number more h = record {
    known = h.known;
    clean = h.clean;
    base = h.base;
    again = h.again;
    changing = h.changing;
    told = h.told;
    numbers = h.numbers;
    dirty = h.dirty;
    fresh = λ file block n above. h.fresh file block n (omega arith);
    idle = h.idle;
    own = h.own;
    later = h.later;
    counted = let above = h.counted in omega arith;
    pushes = h.pushes;
  }

  request-mid : (t : ClientStep) (job : Job) (r : Request) → CanSend journal first next ps (part_of t) r → P t → P (sends_request t job r)
  unfolding sends_request
  request-mid t job r can h =
      sends-ticket journal first next ps (part_of t) (record { xid = t.client.xid; first = t.client.now; last = t.client.now; request = r; job = job })
      refl can h

  seq-mid : (t : ClientStep) → P t → P (after_seq t)
  unfolding after_seq
  seq-mid t h = numbers-more (part_of t) t.client.number (omega arith) h

  -- a sequence that is drawn is none
  not-zero : (n : ℕ) → 1 ≤ n → Some n ≡ Some 0 → ⊥
  not-zero n above e = let same : n ≡ 0 = some-same n 0 e in absurd (omega arith)

  pub no-sequence : let none : Option ℕ = None in none ≡ Some 0 → ⊥
  no-sequence e = absurd (cc)

  -- a request that pushes nothing and changes no length
  plain : (p : Part) (r : Request) → IsOverKnown p.revisions r → push_in r ≡ None → changes_file r ≡ None → IsFair (p.entries ++ journal) r
      → CanSend journal first next ps p r
  plain p r over none still pushed = record {
    base = over;
    again = λ q e. none-some q (sym none ∙ e);
    changing = λ file block e. none-some file (sym still ∙ e);
    pushed = pushed;
  }

  write-mid : (t : ClientStep) (file block : ℕ) (body : List ℕ) → P t → P (sends_write t file block body)
  unfolding after_number
  write-mid t file block body h =
      request-mid (after_number t) for_call _ (plain (part_of (after_number t)) _ tt refl refl (tt, not-zero t.client.seq h.counted))
      (numbers-more (part_of t) (t.client.number + 1) (omega arith) h)

  push-mid : (t : ClientStep) (file : ℕ) (p : Push) → t.client.ticket ≡ None → first_dirty file t.client.dirty ≡ Some p → P t → P (pushed t p)
  unfolding after_seq takes_push
  push-mid t file p free found h =
      request-mid (after_seq (takes_push t p)) pushing _ (record {
        base = refl;
        again = λ q e. undirty q (some-same _ q e);
        changing = λ f block e. none-some f e;
        pushed = (h.dirty p (find-in (is_push_of file) t.client.dirty p found), not-zero t.client.seq h.counted);
      }) (numbers-more _ t.client.number (omega arith)
      (dirty-fewer journal first next ps (part_of t) (drop_dirty p.file p.block t.client.dirty) free (λ q i. in-filtered _ t.client.dirty q i) h))
    where
      undirty : (q : Push) → record { file = p.file; block = p.block; first = p.first; last = p.last; body = p.body } ≡ q
          → dirty_at q.file q.block (drop_dirty p.file p.block t.client.dirty) ≡ None
      undirty q e = subst (λ z. dirty_at z.file z.block (drop_dirty p.file p.block t.client.dirty) ≡ None) e (dirty-dropped p.file p.block t.client.dirty)

  change-mid : (t : ClientStep) (file : ℕ) (r : Request) → changes_file r ≡ Some file → push_in r ≡ None → IsOverKnown t.client.revisions r
      → IsFair (t.entries ++ journal) r → P t → P (sends_request (after_seq (gives_up t file)) for_call r)
  unfolding after_seq gives_up
  change-mid t file r changes none over pushed h =
      request-mid (after_seq (gives_up t file)) for_call r (record {
        base = over;
        again = λ q e. none-some q (sym none ∙ e);
        changing =
            λ f block e. subst (λ n. clean_at n block (purge file t.client.clean) ≡ None) (some-same file f (sym changes ∙ e))
            (clean-purged file block t.client.clean);
        pushed = pushed;
      }) (numbers-more _ t.client.number (omega arith)
      (clean-fewer journal first next ps (part_of t) (purge file t.client.clean) (λ f b k e. (found-purged f b file t.client.clean k e).1) h))

  create-mid : (t : ClientStep) (name : List ℕ) (blocks : ℕ) → P t
      → P (sends_request (after_seq t) for_call (Request.Create t.client.who t.client.seq name blocks))
  create-mid t name blocks h =
      request-mid (after_seq t) for_call _ (plain (part_of (after_seq t)) _ tt refl refl (tt, not-zero t.client.seq h.counted)) (seq-mid t h)

  pub send-mid : (in_tick : Bool) (t : ClientStep) → P t → P (send_next in_tick t)
  send-mid in_tick t h = send-cases in_tick t P (record {
    stays_asking = λ ticket e. h;
    stays = λ free nothing. h;
    pushing = λ file p free found same. push-mid t file p free found h;
    creating = λ u name blocks free is. create-mid t name blocks h;
    looking_up = λ u name free is. request-mid t for_call _ (plain (part_of t) _ tt refl refl (tt, no-sequence)) h;
    getting_attributes = λ u file free is. request-mid t for_call _ (plain (part_of t) _ tt refl refl (tt, no-sequence)) h;
    reading = λ u file block free is. request-mid t for_call _ (plain (part_of t) _ tt refl refl (tt, no-sequence)) h;
    fetching = λ u file block free is. request-mid t for_call _ (plain (part_of t) _ tt refl refl (tt, no-sequence)) h;
    writing = λ u file block body free is through. write-mid t file block body h;
    leasing = λ u file block body free is off shares. request-mid t for_call _ (plain (part_of t) _ tt refl refl (tt, no-sequence)) h;
    putting = λ u file block body free is unwritten. write-mid t file block body h;
    resizing = λ u file blocks free is clean. change-mid t file _ refl refl tt (tt, not-zero t.client.seq h.counted) h;
    removing = λ u file free is clean. change-mid t file _ refl refl tt (tt, not-zero t.client.seq h.counted) h;
    renewing =
        λ file lease tick free nothing unpaused renewed held same clean unnoticed. request-mid t renewing _
        (plain (part_of t) _ tt refl refl (tt, no-sequence)) h;
  })

  pub goes-mid : (t : ClientStep) → P t → P (goes_on t)
  goes-mid t h = send-mid false (settle t) (settle-mid t h)

  -- ---- a call

  begins-mid : (c : Client) (op : Call) → P (begun c) → P (begins_call c op)
  unfolding begins_call
  begins-mid c op h = notes-entry journal first next ps (part_of (begun c)) _ (λ file. refl) (λ w file block n. refl) h

  called-mid : (t : ClientStep) (op : Call) → P t → P (is_called t op)
  unfolding is_called
  called-mid t op h = h

  busy-mid : (t : ClientStep) → P t → P (says_busy t)
  unfolding says_busy
  busy-mid t h = notes-entry journal first next ps (part_of t) (Entry.A t.client.who t.client.calls Said.Busy) (λ file. refl) (λ w file block n. refl) h

  pub call-mid : (c : Client) (op : Call) → P (begun c) → P (client_call c op)
  call-mid c op h = call-cases c op P (record {
    busy = λ why. busy-mid (begins_call c op) (begins-mid c op h);
    telling = λ file loss losses none on changed lost. names-mid (begins_call c op) (begins_call c op).client.calls file (begins-mid c op h);
    going = λ none on lost.
        let settled = settle-mid (is_called (begins_call c op) op) (called-mid (begins_call c op) op (begins-mid c op h)) in
        unless-cached-cases (settle (is_called (begins_call c op) op)) P (λ cached. settled)
        (λ other. send-mid false (settle (is_called (begins_call c op) op)) settled);
  })

  -- ---- a tick

  timed-mid : (c : Client) (now : ℕ) → P (begun c) → P (begun (at_time c now))
  unfolding at_time
  timed-mid c now h = h

  again-mid : (t : ClientStep) (ticket : Ticket) → t.client.ticket ≡ Some ticket → IsFair (t.entries ++ journal) ticket.request → P t
      → P (sends_again t ticket)
  unfolding sends_again
  again-mid t ticket is pushed h =
      sends-more journal first next ps (record (part_of t) { ticket = Some (record ticket { last = t.client.now }) }) (call ticket.xid ticket.request)
      t.client.xid (omega arith)
      (λ x r e. subst (IsFair (t.entries ++ journal)) (call-same ticket.xid x ticket.request r e).1 pushed)
      (ticket-fewer journal first next ps (part_of t) (Some (record ticket { last = t.client.now }))
      (λ u e. let one : record ticket { last = t.client.now } ≡ u = some-same (record ticket { last = t.client.now }) u e in
      (ticket, is, ap (λ z. z.xid) one, ap (λ z. z.request) one)) h)

  timed-ticket : (c : Client) (now : ℕ) → (begun (at_time c now)).client.ticket ≡ c.ticket
  unfolding at_time
  timed-ticket c now = refl

  pub tick-mid : (c : Client) (now : ℕ) → ((t : Ticket) → c.ticket ≡ Some t → IsFair journal t.request) → P (begun c) → P (client_tick c now)
  tick-mid c now pushed h = tick-cases c now P (record {
    again = λ ticket is due. again-mid (begun (at_time c now)) ticket (timed-ticket c now ∙ is) (pushed ticket is) (timed-mid c now h);
    quiet = λ ticket is early. timed-mid c now h;
    free = λ none. send-mid true (settle (begun (at_time c now))) (settle-mid (begun (at_time c now)) (timed-mid c now h));
  })
