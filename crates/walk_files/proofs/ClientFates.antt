-- What the journal has of a client's delayed writes is kept by each step of the client.
use Rattle.std.proofs.Common.{◌≡◌, ◌<◌, ◌≤◌, ℕ, ◌+◌, Bool, List, [], ◌∷◌, ◌++◌, Option, Some, None, refl, sym, subst, ◌∙◌, arith, inl, inr}
use Rattle.nq_base.specs.declared.Answer.{Answer}
use Rattle.nq_base.specs.declared.Entry.{Entry}
use Rattle.nq_base.specs.declared.Entry.TheVariants.{W, S, L}
use Rattle.nq_base.specs.declared.HostRow.{HostRow}
use Rattle.nq_base.specs.declared.Push.{Push}
use Rattle.nq_base.specs.declared.PushBase.{PushBase}
use Rattle.nq_base.specs.declared.Request.{Request}
use Rattle.nq_base.specs.declared.Who.{Who}
use Rattle.walk_steps.proofs.SettleCases.{settle-moves}
use Rattle.walk_steps.proofs.SendCases.{send-cases, pushed}
use Rattle.walk_steps.proofs.ClientFacts.{push_in}
use Rattle.walk_steps.proofs.ClientMoves.{none-some}
use Rattle.walk_files.proofs.FactMoves.{facts-other, facts-numbers, facts-ticket, facts-sends, facts-delays, journal-delays, journal-quiet}
use Rattle.walk_files.proofs.FactMoves.{quiet-other, no-push}
use Rattle.walk_files.proofs.FactPushes.{facts-pushes}
use Rattle.walk_files.proofs.PushLists.{first-in}
use Rattle.walk_files.proofs.ServerTells.{IsQuiet}
use Rattle.walk_files.proofs.WritesFit.{JournalFits, Facts}
use Rattle.nq_model.specs.protocol.Client.{ClientStep, Job, for_call, pushing, renewing, Ticket, UnderWay}
use Rattle.nq_model.specs.protocol.Message.{Message, Packet, call}
use Rattle.nq_model.specs.protocol.Send.{sends_request, after_seq, after_number, base_of, takes_push, sends_write, gives_up, send_next}
use Rattle.nq_model.specs.protocol.Settle.{answers, names_losses, reads_cached, after_read, after_write, delays, marks_written, settle}
use Rattle.nq_model.specs.protocol.World.{from_host}
use Rattle.walk_steps.proofs.Mail.{packets_with, packets-last}
use Rattle.walk_steps.proofs.Packets.{In}

-- an entry of a client's step is no write, or a write or loss of its own
abbrev pub IsOwn : Who → Entry → Type 0
IsOwn who (W w file block number value through) = w ≡ who
IsOwn who (S w file block first last now) = ⊥
IsOwn who (L w file block first last) = w ≡ who
IsOwn who other = Unit {0}

-- in the middle of a step
pub record MidAt (line : HostRow) (ps : List Packet) (j : List Entry) (who : Who) (number seq : ℕ) (ticket : Option Ticket) (dirty : List Push)
    (push : Option Push) (sends : List Message) (entries : List Entry) : Type 0 where
  pub facts : Facts line who number seq ticket dirty push (packets_with ps who.host sends) (entries ++ j)
  pub journal : JournalFits (entries ++ j)
  pub own : (e : Entry) → In entries e → IsOwn who e

abbrev pub Mid : HostRow → List Packet → List Entry → ClientStep → Type 0
Mid line ps j t = MidAt line ps j t.client.who t.client.number t.client.seq t.client.ticket t.client.dirty t.client.push t.sends t.entries

own-more : {who : Who} (es : List Entry) (x : Entry) → IsOwn who x → ((e : Entry) → In es e → IsOwn who e) → (e : Entry) → In (x ∷ es) e → IsOwn who e
own-more {who = who} es x o all e (inl same) = subst (IsOwn who) same o
own-more es x o all e (inr i) = all e i

-- one more message
pub last-facts : {line : HostRow} {who : Who} {number seq : ℕ} {ticket : Option Ticket} {dirty : List Push} {push : Option Push} {j : List Entry}
    (ps : List Packet) (sends : List Message) (m : Message)
    → Facts line who number seq ticket dirty push (packets_with ps who.host sends ++ from_host who.host m ∷ []) j
    → Facts line who number seq ticket dirty push (packets_with ps who.host (sends ++ m ∷ [])) j
last-facts {line = line} {who = who} {number = number} {seq = seq} {ticket = ticket} {dirty = dirty} {push = push} {j = j} ps sends m h = subst
    (λ qs. Facts line who number seq ticket dirty push qs j) (sym (packets-last ps who.host sends m)) h

free-seq : (t : ClientStep) → t.client.ticket ≡ None → (after_seq t).client.ticket ≡ None
unfolding after_seq
free-seq t free = free

free-number : (t : ClientStep) → t.client.ticket ≡ None → (after_number t).client.ticket ≡ None
unfolding after_number
free-number t free = free

free-gives-up : (t : ClientStep) (file : ℕ) → t.client.ticket ≡ None → (gives_up t file).client.ticket ≡ None
unfolding gives_up
free-gives-up t file free = free

module _ {line : HostRow} {ps : List Packet} {j : List Entry} where
  -- ---- entries

  pub mid-quiet : {who : Who} {number seq : ℕ} {ticket : Option Ticket} {dirty : List Push} {push : Option Push} {sends : List Message}
      {entries : List Entry} (e : Entry) → IsQuiet e → IsOwn who e → MidAt line ps j who number seq ticket dirty push sends entries
      → MidAt line ps j who number seq ticket dirty push sends (e ∷ entries)
  mid-quiet {who = who} {entries = entries} e quiet o m = record {
    facts = facts-other who e (entries ++ j) (quiet-other who.host e quiet) m.facts;
    journal = journal-quiet e (entries ++ j) quiet m.journal;
    own = own-more entries e o m.own;
  }

  pub mid-answers : (t : ClientStep) (q : ℕ) (answer : Answer) (by : Option ℕ) → Mid line ps j t → Mid line ps j (answers t q answer by)
  unfolding answers
  mid-answers t q answer by m = mid-quiet _ tt tt m

  pub mid-names : (t : ClientStep) (q file : ℕ) → Mid line ps j t → Mid line ps j (names_losses t q file)
  unfolding answers
  mid-names t q file m = mid-quiet _ tt tt m

  -- ---- the call is settled

  mid-reads : (t : ClientStep) (u : UnderWay) (file block : ℕ) (body : List ℕ) → Mid line ps j t → Mid line ps j (reads_cached t u file block body)
  unfolding reads_cached answers after_read
  mid-reads t u file block body m = mid-quiet _ tt tt (mid-quiet _ tt tt m)

  mid-delays : (t : ClientStep) (file block : ℕ) (body : List ℕ) → Mid line ps j t → Mid line ps j (delays t file block body)
  unfolding after_write
  mid-delays t file block body m = record {
    facts = facts-delays file block body m.facts;
    journal = journal-delays file block body m.facts m.journal;
    own = own-more t.entries _ refl m.own;
  }

  mid-marks : (t : ClientStep) (u : UnderWay) → Mid line ps j t → Mid line ps j (marks_written t u)
  unfolding marks_written
  mid-marks t u m = m

  pub mid-settles : (t : ClientStep) → Mid line ps j t → Mid line ps j (settle t)
  mid-settles t m = settle-moves t (Mid line ps j) (record {
    kept = m;
    answered = λ v q answer k. mid-answers v q answer None k;
    read = λ u file block body. mid-reads t u file block body m;
    delayed = λ file block body. mid-delays t file block body m;
    marked = λ v u k. mid-marks v u k;
  })

  -- ---- the next request

  free-push : (t : ClientStep) → t.client.ticket ≡ None → Mid line ps j t → t.client.push ≡ None
  free-push t free m = no-push (λ u e. none-some u (sym free ∙ e)) m.facts

  -- a request that pushes nothing is sent
  mid-sends : (t : ClientStep) (job : Job) (r : Request) → t.client.ticket ≡ None → push_in r ≡ None
      → ((sq f b first last : ℕ) (base : Option PushBase) (bd : List ℕ) → r ≡ Request.Write t.client.who sq f b first last base bd
      → (first ≤ last) × (last < t.client.number)) → Mid line ps j t → Mid line ps j (sends_request t job r)
  unfolding sends_request
  mid-sends t job r free no_push bounds m = record {
    facts = last-facts ps t.sends (call t.client.xid r)
        (facts-ticket (Some (record { xid = t.client.xid; first = t.client.now; last = t.client.now; request = r; job = job }))
        (λ p u is has. none-some u (sym free ∙ has))
        (facts-sends t.client.xid r no_push bounds m.facts));
    journal = m.journal;
    own = m.own;
  }

  mid-seq : (t : ClientStep) → Mid line ps j t → Mid line ps j (after_seq t)
  unfolding after_seq
  mid-seq t m = record { facts = facts-numbers t.client.number (t.client.seq + 1) (omega arith) (omega arith) m.facts; journal = m.journal; own = m.own }

  mid-number : (t : ClientStep) → Mid line ps j t → Mid line ps j (after_number t)
  unfolding after_number
  mid-number t m =
      record { facts = facts-numbers (t.client.number + 1) (t.client.seq + 1) (omega arith) (omega arith) m.facts; journal = m.journal; own = m.own }

  mid-gives-up : (t : ClientStep) (file : ℕ) → Mid line ps j t → Mid line ps j (gives_up t file)
  unfolding gives_up
  mid-gives-up t file m = m

  mid-writes : (t : ClientStep) (file block : ℕ) (body : List ℕ) → t.client.ticket ≡ None → Mid line ps j t → Mid line ps j (sends_write t file block body)
  unfolding after_number
  mid-writes t file block body free m =
      mid-sends (after_number t) for_call (Request.Write t.client.who t.client.seq file block t.client.number t.client.number None body)
      (free-number t free) refl bounds (mid-number t m)
    where
      bounds : (sq f b first last : ℕ) (base : Option PushBase) (bd : List ℕ)
          → Request.Write t.client.who t.client.seq file block t.client.number t.client.number None body ≡ Request.Write t.client.who sq f b first last
          base bd → (first ≤ last) × (last < t.client.number + 1)
      bounds sq f b first last base bd e = let a : t.client.number ≡ first = cc in let z : t.client.number ≡ last = cc in (omega arith, omega arith)

  -- delayed writes are pushed
  mid-pushes : (t : ClientStep) (file : ℕ) (p : Push) → t.client.ticket ≡ None → In t.client.dirty p → Mid line ps j t → Mid line ps j (pushed t p)
  unfolding sends_request after_seq takes_push
  mid-pushes t file p free there m = record {
    facts = last-facts ps t.sends _
        (facts-pushes p t.client.xid (base_of t.client p.file)
        (record {
          xid = t.client.xid;
          first = t.client.now;
          last = t.client.now;
          request = Request.Write t.client.who t.client.seq p.file p.block
              p.first p.last (Some (base_of t.client p.file)) p.body;
          job = pushing;
        }) there (free-push t free m) refl refl m.facts);
    journal = m.journal;
    own = m.own;
  }

  pub mid-next : (in_tick : Bool) (t : ClientStep) → Mid line ps j t → Mid line ps j (send_next in_tick t)
  mid-next in_tick t m = send-cases in_tick t (Mid line ps j) (record {
    stays_asking = λ ticket has. m;
    stays = λ free nothing. m;
    pushing = λ file p free first of. mid-pushes t file p free (first-in file t.client.dirty p first) m;
    creating = λ u name blocks is op. mid-sends (after_seq t) for_call _ (free-seq t is.free) refl (λ sq f b first last base bd e. absurd (cc)) (mid-seq t m);
    looking_up = λ u name is op. mid-sends t for_call _ is.free refl (λ sq f b first last base bd e. absurd (cc)) m;
    getting_attributes = λ u file is op. mid-sends t for_call _ is.free refl (λ sq f b first last base bd e. absurd (cc)) m;
    reading = λ u file block is op. mid-sends t for_call _ is.free refl (λ sq f b first last base bd e. absurd (cc)) m;
    fetching = λ u file block is op. mid-sends t for_call _ is.free refl (λ sq f b first last base bd e. absurd (cc)) m;
    writing = λ u file block body is op through. mid-writes t file block body is.free m;
    leasing = λ u file block body is op not_through alone. mid-sends t for_call _ is.free refl (λ sq f b first last base bd e. absurd (cc)) m;
    putting = λ u file block body is op written. mid-writes t file block body is.free m;
    resizing =
        λ u file blocks is op clean. mid-sends (after_seq (gives_up t file)) for_call _ (free-seq (gives_up t file) (free-gives-up t file is.free)) refl
        (λ sq f b first last base bd e. absurd (cc)) (mid-seq (gives_up t file) (mid-gives-up t file m));
    removing =
        λ u file is op clean. mid-sends (after_seq (gives_up t file)) for_call _ (free-seq (gives_up t file) (free-gives-up t file is.free)) refl
        (λ sq f b first last base bd e. absurd (cc)) (mid-seq (gives_up t file) (mid-gives-up t file m));
    renewing =
        λ file lease tick free nothing unpaused renewed held of clean unnoticed. mid-sends t renewing _ free refl
        (λ sq f b first last base bd e. absurd (cc)) m;
  })
