-- Each step of the server for a datagram does to the calls what is said of it.
use Rattle.std.proofs.Common.{◌≡◌, ◌<◌, ◌⊎◌, ℕ, ◌+◌, ◌%◌, List, [], ◌∷◌, ◌++◌, Some, length, refl, sym, subst, arith, inl, inr}
use Rattle.nq_base.specs.declared.Entry.{Entry}
use Rattle.nq_base.specs.declared.Entry.TheVariants.{R, A}
use Rattle.nq_base.specs.declared.Event.{Event}
use Rattle.nq_base.specs.declared.HostRow.{HostRow}
use Rattle.nq_base.specs.declared.Refusal.{Refusal}
use Rattle.nq_base.specs.declared.Reply.{Reply}
use Rattle.nq_base.specs.declared.Request.{Request}
use Rattle.nq_base.specs.declared.Row.{Row}
use Rattle.nq_base.specs.declared.Said.TheVariants.{OkBy}
use Rattle.nq_base.specs.declared.Tag.{Tag}
use Rattle.nq_base.specs.declared.Who.{Who}
use Rattle.walk_files.proofs.CallFacts.{JournalFits}
use Rattle.walk_files.proofs.CallWorlds.{CallsKnown}
use Rattle.walk_files.proofs.ClientMoves.{IsBelow}
use Rattle.walk_files.proofs.Placed.{IsServedIn, IsServedInOrder, reads-called}
use Rattle.walk_files.proofs.Quiet.{IsQuiet}
use Rattle.walk_files.proofs.ServerCalls.{IsWhy, undrawn, Refuses, AllRefuse, line_same, ServerDoes}
use Rattle.walk_steps.proofs.Sequences.{reads-no-seq}
use Rattle.nq_model.specs.laws.Journal.{Each, Exists, IsAnswerBy, call_of}
use Rattle.nq_model.specs.protocol.Kept.{host_row}
use Rattle.nq_model.specs.laws.LeaseInterval.{requested_file}
use Rattle.nq_model.specs.protocol.Message.{Message, Packet, call, reply, asker, Datagram, request, Reason}
use Rattle.nq_model.specs.laws.OfTheirCall.{Reads}
use Rattle.nq_model.specs.protocol.Profile.{most_hosts, xid_end}
use Rattle.nq_model.specs.protocol.Server.{Server, ServerStep, to_host, quiet, drops, says, notices, with_table, after_notices}
use Rattle.nq_model.specs.protocol.ServerStep.{vacates, tells_later}
use Rattle.nq_model.specs.protocol.Table.{Table}
use Rattle.nq_model.specs.protocol.World.{World}
use Rattle.walk_steps.proofs.KnownWorlds.{Known}
use Rattle.walk_steps.proofs.Packets.{In, in-append, Asked, told-same, reply-same}
use Rattle.walk_steps.proofs.Worlds.{Holds}

-- ---- reads of the journal

not-served : (n : ℕ) (journal : List Entry) → Each (IsBelow n) journal → Exists (IsServedIn n) journal → ⊥
not-served n [] b h = h
not-served n (e ∷ journal) b (inr h) = not-served n journal b.1 h
not-served n (R who q file block value (Some k) ∷ journal) b (inl h) = let below : k < n = b.0 in omega arith
not-served n (e ∷ journal) b (inl h) = absurd h

not-answered-by : (who : Who) (q n : ℕ) (journal : List Entry) → Each (IsBelow n) journal → Exists (IsAnswerBy who q n) journal → ⊥
not-answered-by who q n [] b h = h
not-answered-by who q n (e ∷ journal) b (inr h) = not-answered-by who q n journal b.1 h
not-answered-by who q n (A by m (OkBy value k) ∷ journal) b (inl h) = let below : k < n = b.0 in let same = h.2 in omega arith
not-answered-by who q n (e ∷ journal) b (inl h) = absurd h

-- a read that is served now
pub served-now : (journal : List Entry) (who : Who) (q file block n : ℕ) → JournalFits journal → Each (IsBelow n) journal
    → Reads file block (call_of journal who q) → IsServedInOrder journal who q file block n
served-now journal who q file block n h below reads = record {
  called = reads-called journal who q file block reads;
  reads = reads;
  settled = h.read who q;
  unanswered = not-answered-by who q n journal below;
  fresh = not-served n journal below;
}

-- ---- entries of the server

pub silent-quiet : (v : Who) (who : Who) (file block q value n : ℕ) → IsQuiet v (R who q file block value (Some n))
silent-quiet v who file block q value n =
    record { no_call = record { call = λ m h. h; answer = λ m h. h }; no_change = record { write = λ m h. h; resize = λ m h. h } }

-- ---- what is said

pub refuse-none : (ps : List Packet) (line : ℕ → HostRow) → AllRefuse ps line []
refuse-none ps line host x inc status i = absurd i

pub refuse-both : (ps : List Packet) (line : ℕ → HostRow) (xs ys : List Packet) → AllRefuse ps line xs → AllRefuse ps line ys → AllRefuse ps line (xs ++ ys)
refuse-both ps line xs ys a b host x inc status i = case (in-append xs ys _ i)
  where
    case : In xs (to_host host (reply x (Reply.Refused inc status))) ⊎ In ys (to_host host (reply x (Reply.Refused inc status)))
        → Refuses ps (line host) host x inc
    case (inl l) = a host x inc status l
    case (inr r) = b host x inc status r

pub refuse-notices : (ps : List Packet) (line : ℕ → HostRow) (xid : ℕ) (rows : List Row) → AllRefuse ps line (notices xid rows)
refuse-notices ps line xid [] host x inc status i = absurd i
refuse-notices ps line xid (row ∷ rows) host x inc status (inl e) =
    let m = (told-same row.who.host host (call xid (Request.Evicted row.who row.file row.tag)) (reply x (Reply.Refused inc status)) e).1 in absurd (cc)
refuse-notices ps line xid (row ∷ rows) host x inc status (inr i) = refuse-notices ps line ((xid + 1) % xid_end) rows host x inc status i

pub refuse-reply : (ps : List Packet) (line : ℕ → HostRow) (host x : ℕ) (a : Reply)
    → ((inc : ℕ) (status : Refusal) → a ≡ Reply.Refused inc status → Refuses ps (line host) host x inc) → AllRefuse ps line (to_host host (reply x a) ∷ [])
refuse-reply ps line host x a h other y inc status (inr bad) = absurd bad
refuse-reply ps line host x a h other y inc status (inl e) =
    let m = told-same host other (reply x a) (reply y (Reply.Refused inc status)) e in
    let k = reply-same x y a (Reply.Refused inc status) m.1 in
    subst (λ n. Refuses ps (line n) n y inc) m.0 (subst (λ n. Refuses ps (line host) host n inc) k.0 (h inc status k.1))

pub refuse-error : (ps : List Packet) (line : ℕ → HostRow) (host : ℕ) (m : Message) → ((x : ℕ) (a : Reply) → m ≡ reply x a → ⊥)
    → AllRefuse ps line (to_host host m ∷ [])
refuse-error ps line host m none other y inc status (inr bad) = absurd bad
refuse-error ps line host m none other y inc status (inl e) =
    absurd (none y (Reply.Refused inc status) (told-same host other m (reply y (Reply.Refused inc status)) e).1)

module _ (w : World) (events : List Event) (held : Holds w) (known : Known w events) (g : CallsKnown w) (sender : ℕ) (d : Datagram)
    (was_sent : (xid : ℕ) (r : Request) → d ≡ request xid r → Asked w.packets sender xid r) (lines : length w.server.kept.hosts ≡ most_hosts) where
  abbrev s : Server
  s = w.server

  -- a step without entries, in which no line changes
  pub plain-does : (t : ServerStep) → t.entries ≡ [] → ((host : ℕ) → host_row t.server.kept host ≡ host_row s.kept host)
      → AllRefuse w.packets (λ host. host_row t.server.kept host) t.sends → ServerDoes w t
  plain-does t none same refuses = record {
    journal = subst (λ es. JournalFits (es ++ w.journal)) (sym none) g.journal;
    below = λ e i. absurd (subst (λ es. In es e) none i);
    refuses = refuses;
    outcome = λ host c is. line_same (same host) (λ e i. absurd (subst (λ es. In es e) none i));
  }

  -- a refusal to the asker
  pub to-asker : (line : ℕ → HostRow) (xid : ℕ) (who : Who) (r : Request) (inc : ℕ) → d ≡ request xid r → asker r ≡ Some who → who.host ≡ sender
      → inc ≡ who.inc → IsWhy (line who.host) r who → Refuses w.packets (line who.host) who.host xid inc
  to-asker line xid who r inc e by from same why =
      record { asks = r; who = who; sent = subst (λ h. Asked w.packets h xid r) (sym from) (was_sent xid r e); by = by; same = same; why = why }

  pub quiet-does : ServerDoes w (quiet s)
  unfolding quiet
  quiet-does = plain-does (quiet s) refl (λ host. refl) (refuse-none w.packets _)

  pub drops-does : (reason : Reason) → ServerDoes w (drops s reason)
  unfolding drops
  drops-does reason = plain-does (drops s reason) refl (λ host. refl) (refuse-none w.packets _)

  pub says-does : (host : ℕ) (m : Message) → AllRefuse w.packets (λ h. host_row s.kept h) (to_host host m ∷ []) → ServerDoes w (says s host m)
  unfolding says
  says-does host m refuses = plain-does (says s host m) refl (λ h. refl) refuses

  pub vacates-does : (who : Who) (file : ℕ) (tag : Tag) → ServerDoes w (vacates s who file tag)
  unfolding vacates quiet with_table
  vacates-does who file tag = plain-does (vacates s who file tag) refl (λ h. refl) (refuse-none w.packets _)

  pub later-does : (xid : ℕ) (who : Who) (r : Request) (file : ℕ) (table : Table) (rows : List Row) → d ≡ request xid r → asker r ≡ Some who
      → who.host ≡ sender → requested_file r ≡ Some file → ServerDoes w (tells_later s who xid table rows)
  unfolding tells_later after_notices
  later-does xid who r file table rows e by from on = plain-does (tells_later s who xid table rows) refl (λ h. refl)
      (refuse-both w.packets (λ h. host_row s.kept h) (notices s.notice rows)
      (to_host who.host (reply xid (Reply.Refused who.inc Refusal.TryLater)) ∷ []) (refuse-notices w.packets (λ h. host_row s.kept h) s.notice rows)
      (refuse-reply w.packets (λ h. host_row s.kept h) who.host xid (Reply.Refused who.inc Refusal.TryLater)
      (λ inc status is. to-asker (λ h. host_row s.kept h) xid who r inc e by from (refused-inc who.inc inc Refusal.TryLater status is)
      (undrawn (reads-no-seq r file on)))))
    where
      refused-inc : (i j : ℕ) (a b : Refusal) → Reply.Refused i a ≡ Reply.Refused j b → j ≡ i
      refused-inc i j a b f = cc
