-- Who can read and write while a writing row stands: nobody but its holder.
use Rattle.std.proofs.Common.{◌≡◌, ℕ, ◌-◌, ◌==◌, true, false, List, ◌∷◌, Some, refl, sym, subst, ap, ◌∙◌, arith}
use Rattle.std.proofs.lemmas.Bool.Decides.{nat_tests}
use Rattle.std.specs.Prelude.{slice_get, nat_lt}
use Rattle.std.proofs.lemmas.Bool.{and_parts}
use Rattle.nq_base.specs.declared.Entry.{Entry}
use Rattle.nq_base.specs.declared.Entry.TheVariants.{C, A, W, L, B}
use Rattle.nq_base.specs.declared.Event.{Event}
use Rattle.nq_base.specs.declared.Mode.{Mode}
use Rattle.nq_base.specs.declared.Push.{Push}
use Rattle.nq_base.specs.declared.Row.{Row}
use Rattle.nq_base.specs.declared.Tag.{Tag}
use Rattle.nq_base.specs.declared.Who.{Who}
use Rattle.walk_files.proofs.ChainFacts.{ChainFits, PushesFit}
use Rattle.nq_model.specs.laws.Chained.{IsChained}
use Rattle.walk_steps.proofs.ClientMoves.{some-same}
use Rattle.walk_files.proofs.WritesFit.{WritesFit, JournalFits}
use Rattle.walk_steps.proofs.Runs.{Runs}
use Rattle.nq_model.proofs.Lists.{each-append, each-map}
use Rattle.nq_model.specs.protocol.Client.{Client, ClientStep, Lease, lease_on, lets_read, lets_write}
use Rattle.nq_model.specs.laws.Journal.{Each}
use Rattle.nq_model.specs.protocol.Kept.{host_row}
use Rattle.nq_model.specs.laws.LeaseInterval.{claim_of, IsCovered, KeepsLeaseInterval, cover_end}
use Rattle.nq_model.specs.protocol.Message.{Packet}
use Rattle.nq_model.specs.protocol.Server.{Phase, serving, recovering, Server, standing, standing_in}
use Rattle.nq_model.specs.protocol.Table.{is_writing, caches}
use Rattle.nq_model.specs.protocol.World.{World}
use Rattle.nq_model.specs.laws.OneRequestPerSequence.{OpensOne}
use Rattle.walk_steps.proofs.Worlds.{Holds}
use Rattle.walk_steps.proofs.Modes.{writing-caches, at-least-writing, at-least-caching}
use Rattle.walk_steps.proofs.Rows.{same-number, find-passes}
use Rattle.walk_steps.proofs.TableFits.{TableFits}
use Rattle.walk_files.proofs.Accesses.{Accesses, neither, read, wrote}
use Rattle.walk_files.proofs.PlainParts.{IsPlain}
use Rattle.walk_files.proofs.ServerLeaves.{HasWriting, HasCaching, one-holder}
use Rattle.walk_files.proofs.Tags.{IsEntry, unclean-entry}
use Rattle.nq_model.specs.laws.Undisturbed.{LeavesAlone}

-- what is known of a world after a schedule
pub record KnownOf (hosts most : ℕ) (w : World) (events : List Event) : Type 0 where
  pub holds : Holds w
  pub runs : Runs hosts most w events
  pub chains : (host : ℕ) (c : Client) → slice_get w.clients host ≡ Some c → ChainFits w.server c w.packets
  pub pushes : (host : ℕ) (c : Client) → slice_get w.clients host ≡ Some c → PushesFit w.server host w.packets
  pub writes : (host : ℕ) (c : Client) → slice_get w.clients host ≡ Some c → WritesFit (host_row w.server.kept host) c w.packets w.journal
  pub journal : JournalFits w.journal
  pub covers : KeepsLeaseInterval w events
  pub opens : OpensOne w

-- the row of a chained lease over delayed writes lets its holder write
pub chained-writes : (s : Server) (c : Client) (ps : List Packet) → ChainFits s c ps → (p : Push) → IsEntry c p → (l : Lease) (row : Row)
    → lease_on p.file c.leases ≡ Some l → IsChained (standing s) c.who p.file l.tag row → HasWriting (standing s) c.who p.file
chained-writes s c ps f p entry l row held chained =
    let w = f.writes.held p.file (unclean-entry c p entry) in
    let one : w.0 ≡ l = some-same w.0 l (sym w.1 ∙ held) in
    let mode : is_writing l.mode ≡ true = subst (λ z. is_writing z.mode ≡ true) one w.2 in
    let k = f.held.chained p.file l row held (writing-caches l.mode mode) chained in
    record { row = row; stands = chained.own.stands; holder = chained.own.holder; writes = at-least-writing row.mode l.mode mode k.kind }

-- a lease that runs has its row
covered-row : (s : Server) (phase : Phase) (who : Who) (file : ℕ) (mode : Mode) (tag : Tag) (until : ℕ) → caches mode ≡ true
    → IsCovered s phase (claim_of who file mode tag until) → HasCaching (standing_in phase s.table) who file
covered-row s serving who file mode tag until c k =
    record { row = k.row; stands = k.stands; holder = k.fits.holder; caching = at-least-caching k.row.mode mode c k.fits.kind }
covered-row s (recovering end heard last) who file mode tag until c k =
    let f = k.fitting in record { row = f.row; stands = f.stands; holder = f.fits.holder; caching = at-least-caching f.row.mode mode c f.fits.kind }

pub live-row : (w : World) (events : List Event) (host : ℕ) (c : Client) (file : ℕ) (lease : Lease) → KeepsLeaseInterval w events
    → slice_get w.clients host ≡ Some c → lease_on file c.leases ≡ Some lease → caches lease.mode ≡ true → nat_lt c.now lease.expiry ≡ true
    → HasCaching (standing w.server) c.who file
live-row w events host c file lease covers is held caching runs =
    let of : lease.file ≡ file = same-number _ _ (find-passes (λ l. l.file == file) lease c.leases held) in
    let own : lease_on lease.file c.leases ≡ Some lease = ap (λ n. lease_on n c.leases) of ∙ held in
    subst (λ n. HasCaching (standing w.server) c.who n) of
    (covered-row w.server w.server.phase c.who lease.file lease.mode lease.tag (cover_end host (lease.expiry - lease.term) lease.term events) caching
    (covers.held host c lease is own caching (grind (arith, nat_tests))))

plain-leaves : (who : Who) (file : ℕ) (e : Entry) → IsPlain e → LeavesAlone who file e
plain-leaves who file (C w q told) h = tt
plain-leaves who file (A w q said) h = tt
plain-leaves who file (L w f b first last) h = tt
plain-leaves who file (B w) h = tt
plain-leaves who file e h = absurd h

lets-reads : (now : ℕ) (lease : Lease) → lets_read now lease ≡ true → (caches lease.mode ≡ true) × (nat_lt now lease.expiry ≡ true)
lets-reads now lease h = and_parts _ _ h

lets-writes : (now : ℕ) (lease : Lease) → lets_write now lease ≡ true → (caches lease.mode ≡ true) × (nat_lt now lease.expiry ≡ true)
lets-writes now lease h = let a = and_parts _ _ h in (writing-caches lease.mode a.0, a.1)

-- what a client's step read and wrote leaves alone the delayed writes of every other whose row stands, after that step
pub step-leaves : (hosts most : ℕ) (w : World) (events : List Event) → KnownOf hosts most w events → (host : ℕ) (t : ClientStep)
    → slice_get w.clients host ≡ Some t.client → (by : Who) → t.client.who ≡ by → Accesses by t → (who : Who) (file : ℕ)
    → HasWriting (standing w.server) who file → Each (LeavesAlone who file) t.entries
step-leaves hosts most w events k host t is by mine a who file h = case a
  where
    fits : TableFits w.server.kept.files (standing w.server).boot (standing w.server).drawn (standing w.server).rows
    fits = k.runs.served.stood

    holder : (f : ℕ) (lease : Lease) → lease_on f t.client.leases ≡ Some lease → (caches lease.mode ≡ true) × (nat_lt t.client.now lease.expiry ≡ true)
        → f ≡ file → by ≡ who
    holder f lease held lets same =
        one-holder w.server.kept.files (standing w.server) fits file who by h
        (subst (λ n. HasCaching (standing w.server) by n) same
        (subst (λ z. HasCaching (standing w.server) z f) mine (live-row w events host t.client f lease k.covers is held lets.0 lets.1)))

    case : Accesses by t → Each (LeavesAlone who file) t.entries
    case (neither plain) = each-map IsPlain (LeavesAlone who file) t.entries (plain-leaves who file) plain
    case (read q f block lease body rest es plain held lets has idle) =
        subst (Each (LeavesAlone who file)) (sym es) (
          tt,
          (
            (λ same. holder f lease held.held (lets-reads t.client.now lease lets) same),
            each-map IsPlain (LeavesAlone who file) rest
                (plain-leaves who file) plain,
          ),
        )
    case (wrote f block number value lease more rest es plain others held lets calm) =
        subst (Each (LeavesAlone who file)) (sym es)
        (each-append (LeavesAlone who file) more (W by f block number value false ∷ rest)
        (each-map IsPlain (LeavesAlone who file) more (plain-leaves who file) plain) (
          (λ same. (holder f lease held.held (lets-writes t.client.now lease lets) same, refl)),
          each-map IsPlain (LeavesAlone who file) rest
              (plain-leaves who file) others,
        ))
