-- The delayed writes that can still be stored are undisturbed: what holds of each client, and what a client's step keeps of it.
use Rattle.std.proofs.Common.{◌≡◌, ◌<◌, ◌≤◌, ◌⊎◌, ℕ, Bool, true, false, List, [], ◌∷◌, ◌++◌, Some, refl, sym, subst, ap, ◌∙◌, arith, inl, inr}
use Rattle.std.proofs.lemmas.Bool.Decides.{nat_tests}
use Rattle.nq_base.specs.declared.Entry.{Entry}
use Rattle.nq_base.specs.declared.Entry.TheVariants.{W, L}
use Rattle.nq_base.specs.declared.Grant.{Grant}
use Rattle.nq_base.specs.declared.HostRow.{HostRow}
use Rattle.nq_base.specs.declared.Push.{Push}
use Rattle.nq_base.specs.declared.PushBase.{PushBase}
use Rattle.nq_base.specs.declared.Request.{Request}
use Rattle.nq_base.specs.declared.Row.{Row}
use Rattle.nq_base.specs.declared.Tag.{Tag}
use Rattle.nq_base.specs.declared.Who.{Who}
use Rattle.walk_files.proofs.ChainFacts.{ChainFits, PushesFit, StandsWriting, InOrder, GrantFits, IsFenced, gone, ahead, earlier, IsBoundOrFenced}
use Rattle.walk_files.proofs.ChainFacts.{bound, fenced, done_at, rev_at}
use Rattle.nq_model.specs.laws.Chained.{IsChained, KnowsFile, has_done, has_done_write, due}
use Rattle.walk_steps.proofs.ClientFacts.{push_in}
use Rattle.walk_steps.proofs.ClientMoves.{none-some, some-same}
use Rattle.walk_files.proofs.FactPushes.{dirty-clear}
use Rattle.walk_files.proofs.JournalMoves.{store-covers, covers-more}
use Rattle.walk_files.proofs.WritesFit.{WritesFit, CoversNumber, IsClear, IsRising, LiesWithin, in_list, under_way, PushStands, waits, stored}
use Rattle.nq_model.proofs.Lists.{exists-left}
use Rattle.nq_model.specs.protocol.Client.{Client, ClientStep, Lease, Ticket, lease_on, is_clean_in}
use Rattle.nq_model.specs.laws.Journal.{Covers, Throughout, Each}
use Rattle.nq_model.specs.protocol.Kept.{host_row}
use Rattle.nq_model.specs.laws.LeaseInterval.{requested_file}
use Rattle.nq_model.specs.protocol.Message.{Packet, sequence_of}
use Rattle.nq_model.specs.protocol.Server.{Phase, serving, recovering, Server, standing, standing_in}
use Rattle.nq_model.specs.protocol.Table.{is_writing, caches, tag_below}
use Rattle.walk_steps.proofs.CoverFacts.{IsTakeable}
use Rattle.walk_steps.proofs.Packets.{In, in-append, Asked}
use Rattle.walk_steps.proofs.ServerTables.{BootsFit, BootsFitOf, StandingFitsOf}
use Rattle.walk_steps.proofs.Modes.{writing-caches}
use Rattle.walk_files.proofs.Accesses.{Accesses}
use Rattle.walk_files.proofs.Journals.{undisturbed-more}
use Rattle.walk_files.proofs.Marks.{since-later, fresh-write}
use Rattle.walk_files.proofs.ServerLeaves.{HasWriting}
use Rattle.walk_files.proofs.Tags.{IsEntry, unclean-entry, Follows, keeps_tag, granted, lost}
use Rattle.nq_model.specs.laws.Undisturbed.{LeavesAlone, IsUndisturbed}

pub record StillFits (s : Server) (c : Client) (ps : List Packet) (journal : List Entry) : Type 0 where
  -- an entry of delayed writes, none of which is covered, of a file whose lease is chained
  pub unsaved : (p : Push) → IsEntry c p → IsClear journal c.who p.file p.block p.first p.last → (l : Lease) (row : Row)
      → lease_on p.file c.leases ≡ Some l → IsChained (standing s) c.who p.file l.tag row → IsUndisturbed c.who p.file p.block p.first journal
  -- a push that the kept incarnation sent, that is not decided yet and not fenced
  pub sent : (x : ℕ) (w : Who) (n file block first last : ℕ) (base : PushBase) (body : List ℕ)
      → Asked ps c.who.host x (Request.Write w n file block first last (Some base) body) → w.host ≡ c.who.host
      → w.inc ≡ (host_row s.kept c.who.host).inc → (host_row s.kept c.who.host).seq < n → (IsFenced s.kept file base.boot base.base → ⊥)
      → IsUndisturbed w file block first journal

-- ---- the row of a push that is not fenced

pub push-writes : (s : Server) (host : ℕ) (ps : List Packet) → PushesFit s host ps
    → (x : ℕ) (w : Who) (n file block first last : ℕ) (base : PushBase) (body : List ℕ)
    → Asked ps host x (Request.Write w n file block first last (Some base) body) → w.host ≡ host → w.inc ≡ (host_row s.kept host).inc
    → (host_row s.kept host).seq < n → (IsFenced s.kept file base.boot base.base → ⊥) → HasWriting (standing s) w file
push-writes s host ps fits x w n file block first last base body asked here inc above free =
    case (fits x w n file block first last base body asked here inc above).stands
  where
    case : IsFenced s.kept file base.boot base.base ⊎ StandsWriting (standing s) s.kept w file base ps → HasWriting (standing s) w file
    case (inl ended) = absurd (free ended)
    case (inr k) = record { row = k.row; stands = k.own.stands; holder = k.own.holder; writes = k.writes }

-- ---- a lease that was chained before

-- the table that stands is of the boot that served last
pub standing-boot : (s : Server) (phase : Phase) → BootsFit s.kept.boot s.kept.opened phase s.table → (standing_in phase s.table).boot ≡ s.kept.opened
standing-boot s serving b = b.table_boot ∙ sym b.opened_now
standing-boot s (recovering until heard last) b = b.last_boot

-- a grant that the client can take
abbrev pub Takes : Client → List Packet → Push → Grant → Type 0
Takes c ps q g = (t : Ticket) × IsTakeable ps c.who c.ticket q.file g t

read-undone : (line : HostRow) (inc file f : ℕ) (r : Request) → requested_file r ≡ Some f → has_done line inc file r ≡ false
read-undone line inc file f (Request.Read w n g block want) e = refl
read-undone line inc file f (Request.GetLease w g want) e = refl
read-undone line inc file f r e = none-some f e

pub was-chained : (s : Server) (c : Client) (ps : List Packet) → ChainFits s c ps → StandingFitsOf s → BootsFitOf s → (q : Push) → IsEntry c q
    → (lease : Lease) → lease_on q.file c.leases ≡ Some lease → (t : ClientStep) → Follows c q lease.tag (Takes c ps q) t → (l : Lease) (row : Row)
    → lease_on q.file t.client.leases ≡ Some l → IsChained (standing s) c.who q.file l.tag row
    → IsChained (standing s) c.who q.file lease.tag row ⊎ In t.entries (L c.who q.file q.block q.first q.last)
was-chained s c ps f stood boots q entry lease held t (lost there) l row after chained = inr there
was-chained s c ps f stood boots q entry lease held t (keeps_tag has) l row after chained =
    inl (subst (λ g. IsChained (standing s) c.who q.file g row) (has l after) chained)
was-chained s c ps f stood boots q entry lease held t (granted k) l row after chained = inl (case (f.writes.bound q.file lease unclean held))
  where
    unclean : is_clean_in q.file c.dirty c.push ≡ false
    unclean = unclean-entry c q entry

    ticket : Ticket
    ticket = k.brings.0

    takes : IsTakeable ps c.who c.ticket q.file k.g ticket
    takes = k.brings.1

    given : GrantFits (standing s) s.kept c.who c.leases c.revisions q.file k.g
    given = f.given.fits q.file k.g ticket takes

    now : IsChained (standing s) c.who q.file k.g.tag row
    now = subst (λ g. IsChained (standing s) c.who q.file g row) (k.has l after) chained

    order : InOrder k.g
    order = given.ordered

    later : tag_below lease.tag k.g.tag ≡ true
    later = given.above lease held

    caching : caches k.g.mode ≡ true
    caching = by (caches k.g.mode) refl
      where
        by : (b : Bool) → caches k.g.mode ≡ b → b ≡ true
        by true e = refl
        by false e =
            let same : k.g.since ≡ k.g.tag = order.alone e in
            let whole : tag_below lease.tag k.g.tag ≡ false = subst (λ z. tag_below lease.tag z ≡ false) same k.whole in let up = later in absurd (cc)

    held-caches : caches lease.mode ≡ true
    held-caches =
        let w = f.writes.held q.file unclean in let one : w.0 ≡ lease = some-same w.0 lease (sym w.1 ∙ held) in
        writing-caches lease.mode (subst (λ z. is_writing z.mode ≡ true) one w.2)

    knows : KnowsFile s.kept (host_row s.kept c.who.host) row.mode k.g.mode q.file k.g.rev k.g.blocks false
    knows = given.chained row caching now

    revision : k.g.rev ≡ rev_at c.revisions q.file
    revision = (given.goes_on lease caching held held-caches k.whole).revision

    undone : done_at s.kept c.who c.ticket q.file ≡ false
    undone =
        ap (has_done_write (host_row s.kept c.who.host) c.who.inc q.file) takes.asked
        ∙ read-undone (host_row s.kept c.who.host) c.who.inc q.file q.file ticket.request takes.on_file

    since-boot : row.since.boot ≡ s.kept.opened
    since-boot = (stood.fits q.file c.who.host row chained.own.stands).since_boot ∙ standing-boot s s.phase boots

    early : (a g since rsince : Tag) (opened : ℕ) → tag_below a since ≡ false → since.boot ≡ g.boot → tag_below g rsince ≡ false → rsince.boot ≡ opened
        → a.boot < opened → ⊥
    early a g since rsince opened x e y z below = grind (arith, nat_tests)

    case : IsBoundOrFenced (standing s) s.kept c.who q.file lease.tag (due (done_at s.kept c.who c.ticket q.file) (rev_at c.revisions q.file))
        → IsChained (standing s) c.who q.file lease.tag row
    case (bound other k) =
        let one : other ≡ row = some-same other row (sym k.own.stands ∙ chained.own.stands) in
        subst (λ r. IsChained (standing s) c.who q.file lease.tag r) one k
    case (fenced (gone none)) = none-some knows.f (sym none ∙ knows.found)
    case (fenced (earlier below)) = absurd (early lease.tag k.g.tag k.g.since row.since s.kept.opened k.whole order.boot now.began since-boot below)
    case (fenced (ahead g found above)) =
        let one : g ≡ knows.f = some-same g knows.f (sym found ∙ knows.found) in
        let at : knows.f.rev ≡ rev_at c.revisions q.file = knows.revision ∙ revision in
        let less : due false (rev_at c.revisions q.file) < knows.f.rev = subst (λ z. due false (rev_at c.revisions q.file) < z.rev) one
        (subst (λ b. due b (rev_at c.revisions q.file) < g.rev) undone above) in
        absurd (omega arith)

-- ---- what a client's step keeps

-- a request that pushes has a sequence
pub push-sequence : (r : Request) (q : Push) → push_in r ≡ Some q → (n : ℕ) × (sequence_of r ≡ Some n)
push-sequence (Request.Write w seq file block first last (Some base) body) q e = (seq, refl)
push-sequence r q e = none-some q e

-- a number that a loss or a store names is covered
covered-in : (journal : List Entry) (who : Who) (file block first last n : ℕ) → In journal (L who file block first last) → first ≤ n → n ≤ last
    → CoversNumber journal who file block n
covered-in [] who file block first last n there from to = absurd there
covered-in (e ∷ journal) who file block first last n (inl same) from to =
    inl (subst (λ z. Covers z (W who file block n 0 false)) (sym same) (refl, refl, refl, from, to))
covered-in (e ∷ journal) who file block first last n (inr there) from to = inr (covered-in journal who file block first last n there from to)

-- the entry in which the first write of another lay before
pub record WasEntry (line : HostRow) (c : Client) (journal : List Entry) (p : Push) : Type 0 where
  pub q : Push
  pub entry : IsEntry c q
  pub on_file : q.file ≡ p.file
  pub on_block : q.block ≡ p.block
  pub from : q.first ≤ p.first
  pub to : p.first ≤ q.last
  pub clear : IsClear journal c.who q.file q.block q.first q.last

was-entry : (line : HostRow) (c : Client) (ps : List Packet) (journal : List Entry) → WritesFit line c ps journal → (p : Push) (value : ℕ)
    → In journal (W c.who p.file p.block p.first value false) → (CoversNumber journal c.who p.file p.block p.first → ⊥) → WasEntry line c journal p
was-entry line c ps journal f p value there free = case (f.list.unsaved p.file p.block p.first value there)
  where
    push-clear : (q : Push) → c.push ≡ Some q → q.file ≡ p.file → q.block ≡ p.block → q.first ≤ p.first → p.first ≤ q.last
        → IsClear journal c.who q.file q.block q.first q.last
    push-clear q e file block from to =
        let k = f.under_way q e in
        by k.request (push-sequence k.request.request q k.pushes) k.asks
      where
        by : (t : Ticket) → (n : ℕ) × (sequence_of t.request ≡ Some n) → c.ticket ≡ Some t → IsClear journal c.who q.file q.block q.first q.last
        by t n asks = stands (f.pushed q t n.0 e asks n.1).stands
          where
            stands : PushStands line c.who n.0 journal q → IsClear journal c.who q.file q.block q.first q.last
            stands (waits undone clear) = clear
            stands (stored now done there) =
                let covered : CoversNumber journal c.who q.file q.block p.first = store-covers journal c.who q.file q.block q.first q.last now p.first
                there from to in
                absurd
                (free (subst (λ z. CoversNumber journal c.who z p.block p.first) file
                (subst (λ z. CoversNumber journal c.who q.file z p.first) block covered)))

    case : CoversNumber journal c.who p.file p.block p.first ⊎ LiesWithin c.dirty c.push p.file p.block p.first → WasEntry line c journal p
    case (inl covered) = absurd (free covered)
    case (inr (in_list q i file block from to)) =
        record { q = q; entry = inl i; on_file = file; on_block = block; from = from; to = to; clear = dirty-clear (f.list.listed q i) }
    case (inr (under_way q e file block from to)) =
        record { q = q; entry = inr e; on_file = file; on_block = block; from = from; to = to; clear = push-clear q e file block from to }

-- the entries of the client that stepped
pub own-unsaved : (s : Server) (line : HostRow) (c : Client) (ps : List Packet) (journal : List Entry) → ChainFits s c ps → StandingFitsOf s
    → BootsFitOf s → WritesFit line c ps journal → Throughout IsRising journal
    → ((q : Push) → IsEntry c q → IsClear journal c.who q.file q.block q.first q.last → (l : Lease) (row : Row) → lease_on q.file c.leases ≡ Some l
    → IsChained (standing s) c.who q.file l.tag row → IsUndisturbed c.who q.file q.block q.first journal) → (t : ClientStep) → Accesses c.who t
    → ((q : Push) (lease : Lease) → IsEntry c q → lease_on q.file c.leases ≡ Some lease → Follows c q lease.tag (Takes c ps q) t)
    → (p : Push) (value : ℕ) → In (t.entries ++ journal) (W c.who p.file p.block p.first value false) → p.first ≤ p.last
    → IsClear (t.entries ++ journal) c.who p.file p.block p.first p.last → Each (LeavesAlone c.who p.file) t.entries → (l : Lease) (row : Row)
    → lease_on p.file t.client.leases ≡ Some l → IsChained (standing s) c.who p.file l.tag row
    → IsUndisturbed c.who p.file p.block p.first (t.entries ++ journal)
own-unsaved s line c ps journal f stood boots writes rising still t accesses follows p value there ordered clear leaves l row held chained = case
    (in-append t.entries journal (W c.who p.file p.block p.first value false) there)
  where
    uncovered : CoversNumber journal c.who p.file p.block p.first → ⊥
    uncovered covered = clear p.first (omega arith) ordered (covers-more t.entries journal c.who p.file p.block p.first covered)

    case : In t.entries (W c.who p.file p.block p.first value false) ⊎ In journal (W c.who p.file p.block p.first value false)
        → IsUndisturbed c.who p.file p.block p.first (t.entries ++ journal)
    case (inl new) = fresh-write c.who c.who t journal p.file p.block p.first value accesses new leaves
    case (inr old) =
        undisturbed-more c.who p.file p.block p.first t.entries journal leaves
        (since-later c.who p.file p.block was.q.first p.first value journal rising was.from old
        (subst (λ z. IsUndisturbed c.who z p.block was.q.first journal) was.on_file
        (subst (λ z. IsUndisturbed c.who was.q.file z was.q.first journal) was.on_block before)))
      where
        was : WasEntry line c journal p
        was = was-entry line c ps journal writes p value old uncovered

        lease : (m : Lease) × (lease_on was.q.file c.leases ≡ Some m)
        lease = let w = f.writes.held was.q.file (unclean-entry c was.q was.entry) in (w.0, w.1)

        here : lease_on was.q.file t.client.leases ≡ Some l
        here = ap (λ z. lease_on z t.client.leases) was.on_file ∙ held

        chained-here : IsChained (standing s) c.who was.q.file l.tag row
        chained-here = subst (λ z. IsChained (standing s) c.who z l.tag row) (sym was.on_file) chained

        before : IsUndisturbed c.who was.q.file was.q.block was.q.first journal
        before = by (was-chained s c ps f stood boots was.q was.entry lease.0 lease.1 t (follows was.q lease.0 was.entry lease.1) l row here chained-here)
          where
            by : IsChained (standing s) c.who was.q.file lease.0.tag row ⊎ In t.entries (L c.who was.q.file was.q.block was.q.first was.q.last)
                → IsUndisturbed c.who was.q.file was.q.block was.q.first journal
            by (inl k) = still was.q was.entry was.clear lease.0 row lease.1 k
            by (inr loss) =
                let covered : CoversNumber t.entries c.who was.q.file was.q.block p.first = covered-in t.entries c.who was.q.file was.q.block
                was.q.first was.q.last p.first loss was.from was.to in
                let mine : CoversNumber t.entries c.who p.file p.block p.first = subst (λ z. CoversNumber t.entries c.who z p.block p.first) was.on_file
                (subst (λ z. CoversNumber t.entries c.who was.q.file z p.first) was.on_block covered) in
                absurd (clear p.first (omega arith) ordered (exists-left (λ e. Covers e (W c.who p.file p.block p.first 0 false)) t.entries journal mine))
