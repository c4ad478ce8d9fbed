-- The laws: a file that is not clean is bound or fenced, and what can still be stored is undisturbed.
use Rattle.std.proofs.Common.{◌≡◌, ◌<◌, ◌⊎◌, ℕ, true, false, List, Some, sym, subst, ap, ◌∙◌, arith, inl, inr}
use Rattle.std.proofs.lemmas.Bool.Decides.{nat_tests}
use Rattle.std.specs.Prelude.{slice_get}
use Rattle.nq_base.specs.declared.Event.{Event}
use Rattle.nq_base.specs.declared.Push.{Push}
use Rattle.nq_base.specs.declared.Request.{Request}
use Rattle.nq_base.specs.declared.Row.{Row}
use Rattle.nq_base.specs.declared.Tag.{Tag}
use Rattle.law_runs.proofs.ChainWorlds.{chain-fits}
use Rattle.walk_files.proofs.ChainFacts.{ChainFits, IsFenced, gone, ahead, earlier, IsBoundOrFenced, bound, fenced, done_at, rev_at}
use Rattle.nq_model.specs.laws.Chained.{IsChained, has_done_write, due}
use Rattle.walk_steps.proofs.ClientMoves.{none-some, some-same}
use Rattle.law_runs.proofs.ExcusesInRuns.{bound-or-excused}
use Rattle.nq_model.specs.laws.LossesAreExcused.{IsUnsaved, listed, under_way, IsBoundAt, IsExcusedLoss, UnsavedFilesAreBoundOrExcused}
use Rattle.nq_model.specs.protocol.Client.{Client, Lease, Revision, lease_on, is_clean, revision_of, revision_or_zero}
use Rattle.nq_model.specs.protocol.Kept.{Kept, host_row}
use Rattle.nq_model.specs.protocol.Message.{call}
use Rattle.nq_model.specs.protocol.Server.{standing}
use Rattle.nq_model.specs.protocol.Table.{is_writing, tag_below}
use Rattle.nq_model.specs.protocol.World.{World, from_host, run}
use Rattle.walk_steps.proofs.Packets.{In, in-get}
use Rattle.walk_steps.proofs.Modes.{writing-caches, at-least-writing}
use Rattle.walk_steps.proofs.Tests.{there-is}
use Rattle.walk_files.proofs.Holders.{KnownOf}
use Rattle.law_runs.proofs.KnownRuns.{run-known, still-fits}
use Rattle.walk_files.proofs.StillFits.{standing-boot}
use Rattle.walk_files.proofs.Tags.{IsEntry}
use Rattle.law_runs.proofs.UndisturbedRuns.{Still}
use Rattle.nq_model.specs.laws.WritesAreUndisturbed as law

-- ---- bound or fenced

fenced-for : (kept : Kept) (file boot rev : ℕ) → IsFenced kept file boot rev → law.IsFencedFor kept file boot rev
fenced-for kept file boot rev (gone none) = law.IsFencedFor.gone none
fenced-for kept file boot rev (ahead f found above) = law.IsFencedFor.ahead f found above
fenced-for kept file boot rev (earlier below) = law.IsFencedFor.earlier below

module _ (hosts most : ℕ) (w : World) (events : List Event) (k : KnownOf hosts most w events) (host : ℕ) (c : Client)
    (is : slice_get w.clients host ≡ Some c) (file : ℕ) (unclean : is_clean c file ≡ false) where
  f : ChainFits w.server c w.packets
  f = k.chains host c is

  held : (l : Lease) × (lease_on file c.leases ≡ Some l) × (is_writing l.mode ≡ true)
  held = f.writes.held file unclean

  revision : (r : Revision) × (revision_of file c.revisions ≡ Some r)
  revision = there-is (revision_of file c.revisions) (f.held.known file held.0 held.1)

  known-rev : rev_at c.revisions file ≡ revision.0.rev
  known-rev = ap revision_or_zero revision.1

  here : c.who.host ≡ host
  here = (k.holds.clients host c is).here

  -- a chained lease is bound, at the revision that is due
  chained-due : (row : Row) → IsChained (standing w.server) c.who file held.0.tag row → law.IsBoundAndDue w host c file
  chained-due row z =
      let knows = f.held.chained file held.0 row held.1 (writing-caches held.0.mode held.2) z in
      record {
        bound = record {
          lease = held.0;
          held = held.1;
          for_writing = held.2;
          row = row;
          stands = z.own.stands;
          holder = z.own.holder;
          lets_write = at-least-writing row.mode held.0.mode held.2 knows.kind;
          began = z.began;
          goes_on = f.held.below file held.0 row held.1 z.own;
        };
        revision = revision.0;
        known = revision.1;
        f = knows.f;
        found = knows.found;
        is_due =
            subst (λ n. knows.f.rev ≡ due (has_done_write (host_row w.server.kept n) c.who.inc file c.ticket) revision.0.rev) here
            (subst (λ n. knows.f.rev ≡ due (done_at w.server.kept c.who c.ticket file) n) known-rev knows.revision);
      }

  -- no file is both
  not-both : IsBoundAt w c file → IsFenced w.server.kept file held.0.tag.boot (due (done_at w.server.kept c.who c.ticket file) (rev_at c.revisions file)) → ⊥
  not-both b h = case h
    where
      one : b.lease ≡ held.0
      one = some-same b.lease held.0 (sym b.held ∙ held.1)

      z : IsChained (standing w.server) c.who file held.0.tag b.row
      z = record { own = record { stands = b.stands; holder = b.holder }; began = subst (λ l. tag_below l.tag b.row.since ≡ false) one b.began }

      early : (a since : Tag) (opened : ℕ) → tag_below a since ≡ false → since.boot ≡ opened → a.boot < opened → ⊥
      early a since opened x e below = grind (arith, nat_tests)

      case : IsFenced w.server.kept file held.0.tag.boot (due (done_at w.server.kept c.who c.ticket file) (rev_at c.revisions file)) → ⊥
      case (earlier below) =
          early held.0.tag b.row.since w.server.kept.opened z.began
          ((k.runs.served.stood.fits file c.who.host b.row b.stands).since_boot ∙ standing-boot w.server w.server.phase k.runs.served.boots) below
      case (gone none) = let knows = f.held.chained file held.0 b.row held.1 (writing-caches held.0.mode held.2) z in
          none-some knows.f (sym none ∙ knows.found)
      case (ahead g found above) =
          let knows = f.held.chained file held.0 b.row held.1 (writing-caches held.0.mode held.2) z in
          let same : g ≡ knows.f = some-same g knows.f (sym found ∙ knows.found) in
          let less : due (done_at w.server.kept c.who c.ticket file) (rev_at c.revisions file) < knows.f.rev = subst
          (λ x. due (done_at w.server.kept c.who c.ticket file) (rev_at c.revisions file) < x.rev) same above in
          let at = knows.revision in
          absurd (omega arith)

  fenced-at : IsFenced w.server.kept file held.0.tag.boot (due (done_at w.server.kept c.who c.ticket file) (rev_at c.revisions file))
      → ((p : Push) → IsUnsaved c p → p.file ≡ file → IsExcusedLoss w.journal c.who p) → law.IsFencedAt w host c file
  fenced-at h by = record {
    lease = held.0;
    held = held.1;
    for_writing = held.2;
    revision = revision.0;
    known = revision.1;
    fenced =
        subst (λ n. law.IsFencedFor w.server.kept file held.0.tag.boot
        (due (has_done_write (host_row w.server.kept n) c.who.inc file c.ticket) revision.0.rev)) here
        (subst (λ n. law.IsFencedFor w.server.kept file held.0.tag.boot (due (done_at w.server.kept c.who c.ticket file) n)) known-rev
        (fenced-for w.server.kept file held.0.tag.boot _ h));
    by = by;
  }

  either : (IsBoundAt w c file ⊎ ((p : Push) → IsUnsaved c p → p.file ≡ file → IsExcusedLoss w.journal c.who p))
      → law.IsBoundAndDue w host c file ⊎ law.IsFencedAt w host c file
  either excused = case (f.writes.bound file held.0 unclean held.1) excused
    where
      case : IsBoundOrFenced (standing w.server) w.server.kept c.who file held.0.tag
          (due (done_at w.server.kept c.who c.ticket file) (rev_at c.revisions file))
          → (IsBoundAt w c file ⊎ ((p : Push) → IsUnsaved c p → p.file ≡ file → IsExcusedLoss w.journal c.who p))
          → law.IsBoundAndDue w host c file ⊎ law.IsFencedAt w host c file
      case (bound row z) e = inl (chained-due row z)
      case (fenced h) (inl b) = absurd (not-both b h)
      case (fenced h) (inr by) = inr (fenced-at h by)

bound-or-fenced : UnsavedFilesAreBoundOrExcused → law.UnsavedFilesAreBoundOrFenced
bound-or-fenced excused most head events host c file bounds within is unclean =
    either head.hosts most (run head events) events (run-known most head events bounds within) host c is file unclean
    (excused most head events host c file bounds within is unclean)

pub bound-or-fenced-in-every-run : law.UnsavedFilesAreBoundOrFenced
bound-or-fenced-in-every-run = bound-or-fenced (bound-or-excused chain-fits)

-- ---- undisturbed

entry-of : (c : Client) (p : Push) → IsUnsaved c p → IsEntry c p
entry-of c p (listed place there) = inl (in-get c.dirty place p there)
entry-of c p (under_way e) = inr e

pub writes-undisturbed : law.DelayedWritesAreUndisturbed
writes-undisturbed most head events bounds within = (bound-writes, open-pushes)
  where
    w : World
    w = run head events

    still : Still w
    still = still-fits most head events bounds within

    bound-writes : law.BoundWritesAreUndisturbed w
    bound-writes host c p is unsaved uncovered b =
        (still.fits host c is).unsaved p (entry-of c p unsaved) uncovered b.lease b.row b.held
        (record { own = record { stands = b.stands; holder = b.holder }; began = b.began })

    open-pushes : law.OpenPushesAreUndisturbed w
    open-pushes host place xid c who seq file block first last base body is o =
        let here : c.who.host ≡ host = ((run-known most head events bounds within).holds.clients host c is).here in
        (still.fits host c is).sent xid who seq file block first last base body
        (subst (λ h. In w.packets (from_host h (call xid (Request.Write who seq file block first last (Some base) body)))) (sym here)
        (in-get w.packets place _ o.sent))
        (o.of_host ∙ sym here)
        (subst (λ h. who.inc ≡ (host_row w.server.kept h).inc) (sym here) o.kept)
        (subst (λ h. (host_row w.server.kept h).seq < seq) (sym here) o.above)
        (λ h. o.unfenced (fenced-for w.server.kept file base.boot base.base h))
