-- A block that a client has under a lease that runs has the value that stands for its reads.
use Rattle.std.proofs.Common.{◌≡◌, ◌≢◌, ◌<◌, ◌⊎◌, ℕ, ◌+◌, ◌==◌, Bool, true, false, List, [], ◌∷◌, Option, Some, None, is_some, nat_lt, if◌then◌else◌}
use Rattle.std.proofs.Common.{refl, sym, subst, ap, ◌∙◌, arith, inl, inr}
use Rattle.std.proofs.lemmas.Bool.Decides.{nat_tests}
use Rattle.std.specs.List.{find}
use Rattle.std.specs.Prelude.{slice_get, ◌-◌}
use Rattle.std.proofs.lemmas.Bool.{and_parts}
use Rattle.nq_base.specs.Block.{value_of}
use Rattle.nq_base.specs.declared.Entry.{Entry}
use Rattle.nq_base.specs.declared.Entry.TheVariants.{W, S}
use Rattle.nq_base.specs.declared.Event.{Event}
use Rattle.nq_base.specs.declared.HostRow.{HostRow}
use Rattle.nq_base.specs.declared.Mode.{Mode}
use Rattle.nq_base.specs.declared.Push.{Push}
use Rattle.nq_base.specs.declared.PushBase.{PushBase}
use Rattle.nq_base.specs.declared.Request.{Request}
use Rattle.nq_base.specs.declared.Row.{Row}
use Rattle.nq_base.specs.declared.Tag.{Tag}
use Rattle.nq_base.specs.declared.Verdict.{Verdict}
use Rattle.nq_base.specs.declared.Who.{Who}
use Rattle.nq_model.specs.laws.Chained.{IsChained, is_done, has_done, has_done_write, due, KnowsFile}
use Rattle.walk_steps.proofs.ClientFacts.{push_in, fits_job, IsPush}
use Rattle.walk_steps.proofs.ClientMoves.{none-some, some-same}
use Rattle.law_runs.proofs.Laws.{clean-in-every-run, done-in-every-run}
use Rattle.law_runs.proofs.RunContents.{run-fits}
use Rattle.nq_model.specs.laws.RevisionsHaveOneContent.{first_length, IsOfRevision}
use Rattle.nq_model.specs.laws.Contents.{content_at}
use Rattle.nq_model.specs.laws.Told.{HasValue, IsDoneAs}
use Rattle.walk_files.proofs.FactPushes.{dirty-clear}
use Rattle.walk_files.proofs.JournalMoves.{store-covers}
use Rattle.walk_files.proofs.PushLists.{is-at, at-is}
use Rattle.walk_files.proofs.WritesFit.{CoversNumber, IsClear, IsDirty, IsDecidedAs, PushStands, waits, stored, LiesWithin, in_list, under_way, WritesFit}
use Rattle.nq_model.specs.laws.Bounds.{KeepsBounds}
use Rattle.walk_files.proofs.EarlierStores.{Earlier, push-behind}
use Rattle.walk_files.proofs.Entries.{stored-covered}
use Rattle.law_runs.proofs.HeldRuns.{held-blocks}
use Rattle.law_runs.proofs.RestingRuns.{run-rests}
use Rattle.walk_files.proofs.Held.{HasHeld}
use Rattle.walk_files.proofs.ReaderValues.{NoneWaits, held-stands, unsaved-stands, covered-either}
use Rattle.walk_files.proofs.Stores.{lost-covered, stored-value}
use Rattle.nq_model.specs.protocol.Client.{Client, Clean, Job, for_call, Lease, Ticket, lease_on, revision_of, revision_or_zero, is_push_at, dirty_at}
use Rattle.nq_model.specs.protocol.Client.{clean_at, lets_read}
use Rattle.nq_model.specs.laws.Journal.{IsStored, IsLost}
use Rattle.nq_model.specs.protocol.Kept.{host_row}
use Rattle.nq_model.specs.laws.LeaseInterval.{claim_of, IsCovered, cover_end}
use Rattle.nq_model.specs.protocol.Message.{sequence_of}
use Rattle.nq_model.specs.protocol.Server.{Phase, serving, recovering, Server, standing, standing_in}
use Rattle.nq_model.specs.protocol.Settle.{cached_body, held_body, pushed_body, clean_body}
use Rattle.nq_model.specs.protocol.Skew.{IsWithinSkew}
use Rattle.nq_model.specs.laws.Stands.{IsStandingValue}
use Rattle.nq_model.specs.protocol.Table.{caches}
use Rattle.nq_model.specs.protocol.World.{Head, World, run}
use Rattle.walk_steps.proofs.Members.{find-in}
use Rattle.walk_steps.proofs.Packets.{In}
use Rattle.walk_steps.proofs.Rows.{same-number, number-same, find-passes}
use Rattle.walk_files.proofs.Holders.{KnownOf}
use Rattle.law_runs.proofs.UndisturbedRuns.{run-still}
use Rattle.nq_model.specs.laws.Undisturbed.{IsUndisturbed}

-- ---- the row of a lease that runs

pub covered-chained : (s : Server) (phase : Phase) (who : Who) (file : ℕ) (mode : Mode) (tag : Tag) (until : ℕ)
    → IsCovered s phase (claim_of who file mode tag until) → (row : Row) × IsChained (standing_in phase s.table) who file tag row
covered-chained s serving who file mode tag until k = (k.row, record { own = record { stands = k.stands; holder = k.fits.holder }; began = k.fits.began })
covered-chained s (recovering end heard last) who file mode tag until k =
    let f = k.fitting in (f.row, record { own = record { stands = f.stands; holder = f.fits.holder }; began = f.fits.began })

-- ---- writes that were done

record IsDoneWrite (line : HostRow) (inc file : ℕ) (o : Option Ticket) : Type 0 where
  t : Ticket
  who : Who
  seq : ℕ
  block : ℕ
  first : ℕ
  last : ℕ
  push : Option PushBase
  body : List ℕ
  has : o ≡ Some t
  asks : t.request ≡ Request.Write who seq file block first last push body
  kept : line.inc ≡ inc
  decided : line.seq ≡ seq
  verdict : line.verdict ≡ Verdict.Done

verdict-done : (v : Verdict) → is_done v ≡ true → v ≡ Verdict.Done
verdict-done Verdict.Done e = refl
verdict-done v e = absurd (cc)

done-of : (line : HostRow) (inc file : ℕ) (t : Ticket) (r : Request) → t.request ≡ r → has_done line inc file r ≡ true → IsDoneWrite line inc file (Some t)
done-of line inc file t (Request.Write who seq f block first last push body) asks is =
    let a = and_parts _ _ is in
    let b = and_parts _ _ a.0 in
    let c = and_parts _ _ b.0 in
    record {
      t = t;
      who = who;
      seq = seq;
      block = block;
      first = first;
      last = last;
      push = push;
      body = body;
      has = refl;
      asks = asks ∙ ap (λ n. Request.Write who seq n block first last push body) (same-number _ _ c.0);
      kept = same-number _ _ c.1;
      decided = same-number _ _ b.1;
      verdict = verdict-done line.verdict a.1;
    }
done-of line inc file t r asks is = absurd (cc)

done-write : (line : HostRow) (inc file : ℕ) (o : Option Ticket) → has_done_write line inc file o ≡ true → IsDoneWrite line inc file o
done-write line inc file None is = absurd (cc)
done-write line inc file (Some t) is = done-of line inc file t t.request refl is

-- a request that pushes
record IsPushRequest (r : Request) (p : Push) : Type 0 where
  who : Who
  seq : ℕ
  base : PushBase
  is : r ≡ Request.Write who seq p.file p.block p.first p.last (Some base) p.body

push-request : (r : Request) (p : Push) → push_in r ≡ Some p → IsPushRequest r p
push-request (Request.Write w n file block first last (Some base) body) p e =
    record { who = w; seq = n; base = base; is = ap (λ q. Request.Write w n q.file q.block q.first q.last (Some base) q.body) (some-same _ p e) }
push-request r p e = none-some p e

is-done-write : (line : HostRow) (inc file : ℕ) (r : Request) (who : Who) (seq f block first last : ℕ) (push : Option PushBase) (body : List ℕ)
    → r ≡ Request.Write who seq f block first last push body → f ≡ file → line.inc ≡ inc → line.seq ≡ seq → line.verdict ≡ Verdict.Done
    → has_done line inc file r ≡ true
is-done-write line inc file r who seq f block first last push body asks of kept decided done =
    let a : (f == file) ≡ true = number-same _ _ of in
    let i : (line.inc == inc) ≡ true = number-same _ _ kept in
    let n : (line.seq == seq) ≡ true = number-same _ _ decided in
    let d : is_done line.verdict ≡ true = ap is_done done in
    subst (λ q. has_done line inc file q ≡ true) (sym asks) (rw (a, i, n, d) refl)

-- the request of a call, for a write that goes through
through-job : (job : Job) (r : Request) (who : Who) (seq file block first last : ℕ) (body : List ℕ)
    → r ≡ Request.Write who seq file block first last None body → fits_job job r ≡ true → job ≡ for_call
through-job job r who seq file block first last body asks fits = go job (subst (λ q. fits_job job q ≡ true) asks fits)
  where
    go : (j : Job) → fits_job j (Request.Write who seq file block first last None body) ≡ true → j ≡ for_call
    go for_call f = refl
    go j f = absurd (cc)

-- ---- blocks that a client has

pub find-none : (test : Push → Bool) (ps : List Push) (p : Push) → find test ps ≡ None → In ps p → test p ≡ true → ⊥
find-none test [] p e i is = i
find-none test (q ∷ ps) p e i is = case (test q) refl e i (find-none test ps p)
  where
    case : (b : Bool) → test q ≡ b → (if b then Some q else find test ps) ≡ None → (q ≡ p) ⊎ In ps p → (find test ps ≡ None → In ps p → test p ≡ true → ⊥) → ⊥
    case true h f j rest = none-some q (sym f)
    case false h f (inl same) rest = let yes : test q ≡ true = ap test same ∙ is in cc
    case false h f (inr j) rest = rest f j is

-- where a client has a block
data HasBody (c : Client) (file block : ℕ) (body : List ℕ) : Type 0 where
  is_dirty : (p : Push) → In c.dirty p → p.file ≡ file → p.block ≡ block → p.body ≡ body → HasBody c file block body
  is_pushed : (p : Push) → dirty_at file block c.dirty ≡ None → c.push ≡ Some p → p.file ≡ file → p.block ≡ block → p.body ≡ body → HasBody c file block body
  is_clean : (k : Clean) → dirty_at file block c.dirty ≡ None → pushed_body file block c.push ≡ None → clean_at file block c.clean ≡ Some k
      → k.body ≡ body → HasBody c file block body

has-body : (c : Client) (file block : ℕ) (body : List ℕ) → cached_body c file block ≡ Some body → HasBody c file block body
has-body c file block body is = dirty (dirty_at file block c.dirty) refl is
  where
    clean : (o : Option Clean) → clean_at file block c.clean ≡ o → dirty_at file block c.dirty ≡ None → pushed_body file block c.push ≡ None
        → clean_body o ≡ Some body → HasBody c file block body
    clean None e d p h = none-some body h
    clean (Some k) e d p h = is_clean k d p e (some-same k.body body h)

    pushed-now : (q : Push) → c.push ≡ Some q → dirty_at file block c.dirty ≡ None → (b : Bool) → is_push_at file block q ≡ b
        → held_body None (if b then Some q.body else None) (clean_body (clean_at file block c.clean)) ≡ Some body → HasBody c file block body
    pushed-now q e d true at h = let a = is-at file block q at in is_pushed q d e a.0 a.1 (some-same q.body body h)
    pushed-now q e d false at h = clean (clean_at file block c.clean) refl d (ap (pushed_body file block) e ∙ rw at refl) h

    pushed : (o : Option Push) → c.push ≡ o → dirty_at file block c.dirty ≡ None
        → held_body None (pushed_body file block o) (clean_body (clean_at file block c.clean)) ≡ Some body → HasBody c file block body
    pushed None e d h = clean (clean_at file block c.clean) refl d (ap (pushed_body file block) e) h
    pushed (Some q) e d h = pushed-now q e d (is_push_at file block q) refl h

    dirty : (o : Option Push) → dirty_at file block c.dirty ≡ o
        → held_body o (pushed_body file block c.push) (clean_body (clean_at file block c.clean)) ≡ Some body → HasBody c file block body
    dirty (Some p) e h =
        let a = is-at file block p (find-passes (is_push_at file block) p c.dirty e) in
        is_dirty p (find-in (is_push_at file block) c.dirty p e) a.0 a.1 (some-same p.body body h)
    dirty None e h = pushed c.push refl e h

-- no unsaved write of the block encloses a number
abbrev pub NoneEncloses : (c : Client) (file block : ℕ) → Type 0
NoneEncloses c file block = (n : ℕ) → LiesWithin c.dirty c.push file block n → ⊥

-- so none waits
pub none-waits : (line : HostRow) (c : Client) (ps : List _) (j : List Entry) → WritesFit line c ps j → (file block : ℕ) → NoneEncloses c file block
    → NoneWaits j c.who file block
none-waits line c ps j facts file block none n v i = case (facts.list.unsaved file block n v i)
  where
    case : CoversNumber j c.who file block n ⊎ LiesWithin c.dirty c.push file block n → CoversNumber j c.who file block n
    case (inl covered) = covered
    case (inr within) = absurd (none n within)

module _ (most : ℕ) (head : Head)
    (known : (events : List Event) → KeepsBounds most head events → IsWithinSkew head.hosts most events
    → KnownOf head.hosts most (run head events) events) (events : List Event) (b : KeepsBounds most head events)
    (within : IsWithinSkew head.hosts most events) (host : ℕ) (c : Client) (is : slice_get (run head events).clients host ≡ Some c) (file block : ℕ)
    (lease : Lease) (held : lease_on file c.leases ≡ Some lease) (lets : lets_read c.now lease ≡ true) (idle : c.call ≡ None) where
  abbrev w : World
  w = run head events

  abbrev journal : List Entry
  journal = (run head events).journal

  line : HostRow
  line = host_row (run head events).server.kept c.who.host

  k : KnownOf head.hosts most w events
  k = known events b within

  here : c.who.host ≡ host
  here = (k.holds.clients host c is).here

  facts : WritesFit (host_row w.server.kept c.who.host) c w.packets journal
  facts = subst (λ n. WritesFit (host_row w.server.kept n) c w.packets journal) (sym here) (k.writes host c is)

  earlier : Earlier (host_row w.server.kept c.who.host) c w.packets journal
  earlier = (run-rests most head known events b within).earlier host c is

  caching : (caches lease.mode ≡ true) × (nat_lt c.now lease.expiry ≡ true)
  caching = and_parts _ _ lets

  chain : (row : Row) × IsChained (standing w.server) c.who file lease.tag row
  chain =
      let of : lease.file ≡ file = same-number _ _ (find-passes (λ l. l.file == file) lease c.leases held) in
      let own : lease_on lease.file c.leases ≡ Some lease = ap (λ n. lease_on n c.leases) of ∙ held in
      let runs = caching.1 in
      subst (λ n. (row : Row) × IsChained (standing w.server) c.who n lease.tag row) of
      (covered-chained w.server w.server.phase c.who lease.file lease.mode lease.tag (cover_end host (lease.expiry - lease.term) lease.term events)
      (k.covers.held host c lease is own caching.0 (grind (arith, nat_tests))))

  knows : KnowsFile w.server.kept (host_row w.server.kept c.who.host) chain.0.mode lease.mode file (revision_or_zero (revision_of file c.revisions))
      lease.blocks (has_done_write (host_row w.server.kept c.who.host) c.who.inc file c.ticket)
  knows = (k.chains host c is).held.chained file lease chain.0 held caching.0 chain.1

  -- the value of a block at the kept revision is held
  revision-held : (v : ℕ) → HasValue (first_length head events) journal file knows.f.rev block v → HasHeld journal file block v
  revision-held v h =
      let r = ((run-fits most head events b within).files file knows.f knows.found).revision in
      (held-blocks most head known events b within file).here block v
      (ap (λ n. slice_get (content_at journal (first_length head events file) file n) block) (sym r) ∙ h.has)

  -- ---- unsaved writes

  undisturbed : (p : Push) → In c.dirty p ⊎ (c.push ≡ Some p) → p.file ≡ file → IsClear journal c.who p.file p.block p.first p.last
      → IsUndisturbed c.who p.file p.block p.first journal
  undisturbed p entry of clear =
      ((run-still most head known events b within).fits host c is).unsaved p entry clear lease chain.0 (ap (λ n. lease_on n c.leases) of ∙ held)
      (subst (λ n. IsChained (standing w.server) c.who n lease.tag chain.0) (sym of) chain.1)

  dirty-stands : (p : Push) → In c.dirty p → p.file ≡ file → IsStandingValue journal journal c.who p.file p.block (value_of p.body)
  dirty-stands p i of =
      let d = facts.list.listed p i in
      let clear = dirty-clear d in
      unsaved-stands journal c.who p.file p.block p.first p.last (value_of p.body) (undisturbed p (inl i) of clear) k.journal.rising d.behind.ordered
      d.behind.last_there
      (λ lost. clear p.last d.behind.ordered (omega arith) (lost-covered journal c.who p.file p.block p.last (value_of p.body) lost))
      (λ n u above there. absurd (none-above d n u above (facts.list.unsaved p.file p.block n u there)))
      (λ n above st. let past = d.above n (stored-covered journal c.who p.file p.block n 0 st) in let ordered = d.behind.ordered in omega arith)
    where
      none-above : IsDirty c.who c.number journal p → (n u : ℕ) → p.last < n
          → CoversNumber journal c.who p.file p.block n ⊎ LiesWithin c.dirty c.push p.file p.block n → ⊥
      none-above d n u above (inl covered) = let past = d.above n covered in let ordered = d.behind.ordered in omega arith
      none-above d n u above (inr (in_list q j f g low high)) =
          let same : q ≡ p = facts.list.distinct q p j i f g in let last : q.last ≡ p.last = ap (λ z. z.last) same in omega arith
      none-above d n u above (inr (under_way q e f g low high)) = let past = facts.list.earlier q p e i f g in let ordered = d.behind.ordered in omega arith

  pushed-stands : (p : Push) → dirty_at file block c.dirty ≡ None → c.push ≡ Some p → p.file ≡ file → p.block ≡ block
      → IsClear journal c.who p.file p.block p.first p.last → IsStandingValue journal journal c.who p.file p.block (value_of p.body)
  pushed-stands p none e of at clear =
      let d = push-behind (host_row w.server.kept c.who.host) c w.packets journal facts p e in
      unsaved-stands journal c.who p.file p.block p.first p.last (value_of p.body) (undisturbed p (inr e) of clear) k.journal.rising d.ordered d.last_there
      (λ lost. clear p.last d.ordered (omega arith) (lost-covered journal c.who p.file p.block p.last (value_of p.body) lost))
      (λ n u above there. later n u above (facts.list.unsaved p.file p.block n u there))
      (λ n above st. let past = earlier.under_way p e clear n st in let ordered = d.ordered in omega arith)
    where
      later : (n u : ℕ) → p.last < n → CoversNumber journal c.who p.file p.block n ⊎ LiesWithin c.dirty c.push p.file p.block n
          → IsLost journal (W c.who p.file p.block n u false)
      later n u above (inl covered) = either (covered-either journal c.who p.file p.block n u covered)
        where
          either : IsStored journal (W c.who p.file p.block n u false) ⊎ IsLost journal (W c.who p.file p.block n u false)
              → IsLost journal (W c.who p.file p.block n u false)
          either (inr lost) = lost
          either (inl st) =
              let past = earlier.under_way p e clear n (stored-value journal c.who p.file p.block n u 0 st) in
              let ordered = (push-behind (host_row w.server.kept c.who.host) c w.packets journal facts p e).ordered in
              absurd (omega arith)
      later n u above (inr (in_list q j f g low high)) = absurd (find-none (is_push_at file block) c.dirty q none j (at-is file block q (f ∙ of) (g ∙ at)))
      later n u above (inr (under_way q h f g low high)) = let last : q.last ≡ p.last = ap (λ z. z.last) (some-same q p (sym h ∙ e)) in absurd (omega arith)

  -- ---- what the server holds

  dirty-none : (file_is : dirty_at file block c.dirty ≡ None) → (n : ℕ) (q : Push) → In c.dirty q → q.file ≡ file → q.block ≡ block → ⊥
  dirty-none none n q j f g = find-none (is_push_at file block) c.dirty q none j (at-is file block q f g)

  -- the decided request of the client
  decided-as : (t : Ticket) → c.ticket ≡ Some t → (host_row w.server.kept c.who.host).inc ≡ c.who.inc
      → sequence_of t.request ≡ Some (host_row w.server.kept c.who.host).seq → (host_row w.server.kept c.who.host).verdict ≡ Verdict.Done
      → IsDoneAs (first_length head events) journal (host_row w.server.kept c.who.host).value t.request
  decided-as t has kept sequence done =
      subst (λ n. (host_row w.server.kept n).inc ≡ c.who.inc → sequence_of t.request ≡ Some (host_row w.server.kept n).seq
      → (host_row w.server.kept n).verdict ≡ Verdict.Done → IsDoneAs (first_length head events) journal (host_row w.server.kept n).value t.request)
      (sym here) (done-in-every-run most head events b within host c t is has) kept sequence done

  pushed-held : (p : Push) → c.push ≡ Some p → p.file ≡ file → p.block ≡ block → (u : Ticket) → c.ticket ≡ Some u → (r : IsPushRequest u.request p)
      → IsDecidedAs (host_row w.server.kept c.who.host) c.who r.seq Verdict.Done → HasHeld journal file block (value_of p.body)
  pushed-held p e of at u has r d =
      let seq : sequence_of u.request ≡ Some (host_row w.server.kept c.who.host).seq = ap sequence_of r.is ∙ ap Some (sym d.decided) in
      let does : IsDoneAs (first_length head events) journal (host_row w.server.kept c.who.host).value
      (Request.Write r.who r.seq p.file p.block p.first p.last (Some r.base) p.body) = subst
      (λ q. IsDoneAs (first_length head events) journal (host_row w.server.kept c.who.host).value q) r.is (decided-as u has d.inc seq d.told) in
      let done : has_done_write (host_row w.server.kept c.who.host) c.who.inc file c.ticket ≡ true = ap
      (has_done_write (host_row w.server.kept c.who.host) c.who.inc file) has
      ∙ is-done-write (host_row w.server.kept c.who.host) c.who.inc file u.request r.who r.seq p.file p.block p.first p.last (Some r.base) p.body
      r.is of d.inc d.decided d.told in
      let value : (host_row w.server.kept c.who.host).value ≡ knows.f.rev = knows.value done in
      revision-held (value_of p.body) (subst (λ n. HasValue (first_length head events) journal file knows.f.rev n (value_of p.body)) at
      (subst (λ n. HasValue (first_length head events) journal n knows.f.rev p.block (value_of p.body)) of
      (subst (λ n. HasValue (first_length head events) journal p.file n p.block (value_of p.body)) value does.content.this)))

  clean-held : (x : Clean) → pushed_body file block c.push ≡ None → clean_at file block c.clean ≡ Some x → HasHeld journal file block (value_of x.body)
  clean-held x none e = case (has_done_write (host_row w.server.kept c.who.host) c.who.inc file c.ticket) refl
    where
      r : IsOfRevision (first_length head events) journal c file block x
      r = (clean-in-every-run most head events b within).clean host c file block x is e

      rev : revision_or_zero (revision_of file c.revisions) ≡ r.revision.rev
      rev = ap revision_or_zero r.known

      -- the block was not the one that was written
      other-block : (d : IsDoneWrite (host_row w.server.kept c.who.host) c.who.inc file c.ticket) → block ≢ d.block
      other-block d same = by-push d.push refl
        where
          by-push : (o : Option PushBase) → d.push ≡ o → ⊥
          by-push (Some base) q =
              let asks : d.t.request ≡ Request.Write d.who d.seq file d.block d.first d.last (Some base) d.body = d.asks
              ∙ ap (λ o. Request.Write d.who d.seq file d.block d.first d.last o d.body) q in
              let p : Push = record { file = file; block = d.block; first = d.first; last = d.last; body = d.body } in
              let way : c.push ≡ Some p = ((k.chains host c is).writes.pushed d.t d.who d.seq file d.block d.first d.last base d.body d.has asks).under_way in
              let here_is : is_push_at file block p ≡ true = at-is file block p refl (sym same) in
              let some : pushed_body file block c.push ≡ Some d.body = ap (pushed_body file block) way ∙ rw here_is refl in
              none-some d.body (sym none ∙ some)
          by-push None q =
              let asks : d.t.request ≡ Request.Write d.who d.seq file d.block d.first d.last None d.body = d.asks
              ∙ ap (λ o. Request.Write d.who d.seq file d.block d.first d.last o d.body) q in
              let a = (k.holds.clients host c is).alone.asking in
              let job : d.t.job ≡ for_call = through-job d.t.job d.t.request d.who d.seq file d.block d.first d.last d.body asks (a.ticketed d.t d.has).fits in
              let called : is_some c.call ≡ true = a.called d.t d.has job in
              let uncalled : is_some c.call ≡ false = ap is_some idle in
              cc

      case : (done : Bool) → has_done_write (host_row w.server.kept c.who.host) c.who.inc file c.ticket ≡ done → HasHeld journal file block (value_of x.body)
      case false q =
          revision-held (value_of x.body)
          (subst (λ n. HasValue (first_length head events) journal file n block (value_of x.body))
          (sym rev ∙ sym (knows.revision ∙ ap (λ z. due z (revision_or_zero (revision_of file c.revisions))) q)) r.has)
      case true q =
          let d = done-write (host_row w.server.kept c.who.host) c.who.inc file c.ticket q in
          let seq : sequence_of d.t.request ≡ Some (host_row w.server.kept c.who.host).seq = ap sequence_of d.asks ∙ ap Some (sym d.decided) in
          let does : IsDoneAs (first_length head events) journal (host_row w.server.kept c.who.host).value
          (Request.Write d.who d.seq file d.block d.first d.last d.push d.body) = subst
          (λ z. IsDoneAs (first_length head events) journal (host_row w.server.kept c.who.host).value z) d.asks
          (decided-as d.t d.has d.kept seq d.verdict) in
          let value : (host_row w.server.kept c.who.host).value ≡ knows.f.rev = knows.value q in
          let next : knows.f.rev ≡ r.revision.rev + 1 = knows.revision ∙ ap (λ z. due z (revision_or_zero (revision_of file c.revisions))) q
          ∙ ap (λ n. n + 1) rev in
          revision-held (value_of x.body)
          (subst (λ n. HasValue (first_length head events) journal file n block (value_of x.body)) value
          (does.content.others r.revision.rev block (value_of x.body) (value ∙ next) (other-block d) r.has))

  pushed-reads : (p : Push) → dirty_at file block c.dirty ≡ None → c.push ≡ Some p → p.file ≡ file → p.block ≡ block
      → IsStandingValue journal journal c.who file block (value_of p.body)
  pushed-reads p none e of at = case ((facts.pushed p u.request r.seq e u.asks (ap sequence_of r.is)).stands)
    where
      u : IsPush c.ticket p
      u = facts.under_way p e

      r : IsPushRequest u.request.request p
      r = push-request u.request.request p u.pushes

      place : IsStandingValue journal journal c.who p.file p.block (value_of p.body) → IsStandingValue journal journal c.who file block (value_of p.body)
      place h =
          subst (λ n. IsStandingValue journal journal c.who file n (value_of p.body)) at
          (subst (λ n. IsStandingValue journal journal c.who n p.block (value_of p.body)) of h)

      none_waits : (now : ℕ) → In journal (S c.who p.file p.block p.first p.last now) → NoneWaits journal c.who file block
      none_waits now i n v there = covered (facts.list.unsaved file block n v there)
        where
          covered : CoversNumber journal c.who file block n ⊎ LiesWithin c.dirty c.push file block n → CoversNumber journal c.who file block n
          covered (inl old) = old
          covered (inr (in_list q j f g low high)) = absurd (dirty-none none n q j f g)
          covered (inr (under_way q h f g low high)) =
              let same : q ≡ p = some-same q p (sym h ∙ e) in
              let from : q.first ≡ p.first = ap (λ z. z.first) same in
              let to : q.last ≡ p.last = ap (λ z. z.last) same in
              subst (λ z. CoversNumber journal c.who file z n) at
              (subst (λ z. CoversNumber journal c.who z p.block n) of
              (store-covers journal c.who p.file p.block p.first p.last now n i (omega arith) (omega arith)))

      case : PushStands (host_row w.server.kept c.who.host) c.who r.seq journal p → IsStandingValue journal journal c.who file block (value_of p.body)
      case (waits undone clear) = place (pushed-stands p none e of at clear)
      case (stored now d i) = held-stands journal c.who file block (value_of p.body) (none_waits now i) (pushed-held p e of at u.request u.asks r d)

  clean-waits : dirty_at file block c.dirty ≡ None → pushed_body file block c.push ≡ None → NoneEncloses c file block
  clean-waits none unpushed n (in_list q j f g low high) = dirty-none none n q j f g
  clean-waits none unpushed n (under_way q h f g low high) =
      let here_is : is_push_at file block q ≡ true = at-is file block q f g in
      let some : pushed_body file block c.push ≡ Some q.body = ap (pushed_body file block) h ∙ rw here_is refl in
      none-some q.body (sym unpushed ∙ some)

  -- the value that a client has of a block stands for its reads
  pub cached-stands : (body : List ℕ) → cached_body c file block ≡ Some body → IsStandingValue journal journal c.who file block (value_of body)
  cached-stands body has = case (has-body c file block body has)
    where
      case : HasBody c file block body → IsStandingValue journal journal c.who file block (value_of body)
      case (is_dirty p i f g same) =
          subst (λ z. IsStandingValue journal journal c.who file block (value_of z)) same
          (subst (λ n. IsStandingValue journal journal c.who file n (value_of p.body)) g
          (subst (λ n. IsStandingValue journal journal c.who n p.block (value_of p.body)) f (dirty-stands p i f)))
      case (is_pushed p none e f g same) = subst (λ z. IsStandingValue journal journal c.who file block (value_of z)) same (pushed-reads p none e f g)
      case (is_clean x none unpushed e same) =
          subst (λ z. IsStandingValue journal journal c.who file block (value_of z)) same
          (held-stands journal c.who file block (value_of x.body)
          (none-waits (host_row w.server.kept c.who.host) c w.packets journal facts file block (clean-waits none unpushed)) (clean-held x unpushed e))
