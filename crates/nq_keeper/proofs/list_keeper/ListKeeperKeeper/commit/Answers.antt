use Rattle.std.proofs.Common.{◌≡◌, Some, sym, subst, ap, ◌∙◌}
use Rattle.nq_keeper.specs.Keeping.{LeavesTwo}
use Rattle.nq_keeper.specs.StoredKeeper.{StoredKeeper, LeavesEither, told_of}
use Rattle.nq_keeper.proofs.Calling.{asked-as, leaves-two, told-applied}
use Rattle.nq_keeper.proofs.Fitting.{alone, as-applied, calm, fits-among, if-some}
use Rattle.nq_model.specs.protocol.Change.{Fits, FitsFile, FitsRemoval, HasBlock, IsChangeWithin, IsWithinBounds, applied, files_with, kept_as}
use Rattle.nq_model.specs.protocol.Kept.{Kept, find_file}
use Rattle.nq_model.proofs.FreshFits.{orderly-within}
use Rattle.nq_model.proofs.WithinBounds.{within-applied}
use Rattle.nq_keeper.proofs.list_keeper.ListKeeperKeeper.commit.Goals as goal

pub change-requires-clause-file : goal.change-requires-clause-file
unfolding kept_as
change-requires-clause-file c =
    λ row is.
    let kept : Kept = kept_as c.self.inside.files c.self.inside.hosts.items c.self.inside.heads in
    let fits : Fits kept c.args.change = asked-as c.args.self.now kept c.self.inside.calls (λ k. Fits k c.args.change) c.self.view_is c.self.invariant
    c.requires.fits in
    fits-among kept c.args.change.heads row (orderly-within kept c.self.invariant) (if-some c.args.change.file row (FitsFile kept c.args.change.heads)
    fits.file is)

pub change-requires-clause-block : goal.change-requires-clause-block
unfolding kept_as
change-requires-clause-block c =
    λ b is.
    let kept : Kept = kept_as c.self.inside.files c.self.inside.hosts.items c.self.inside.heads in
    let fits : Fits kept c.args.change = asked-as c.args.self.now kept c.self.inside.calls (λ k. Fits k c.args.change) c.self.view_is c.self.invariant
    c.requires.fits in
    if-some c.args.change.block b (λ x. HasBlock x.block (find_file x.file (files_with c.args.change.file kept.files))) fits.block is

pub change-requires-clause-alone : goal.change-requires-clause-alone
change-requires-clause-alone c =
    λ id is.
    let kept : Kept = kept_as c.self.inside.files c.self.inside.hosts.items c.self.inside.heads in
    let fits : Fits kept c.args.change = asked-as c.args.self.now kept c.self.inside.calls (λ k. Fits k c.args.change) c.self.view_is c.self.invariant
    c.requires.fits in
    alone kept c.args.change id (if-some c.args.change.removed id (FitsRemoval kept c.args.change) fits.removed is)

pub invariant_of-self-2 : goal.invariant_of-self-2
invariant_of-self-2 c =
    let kept : Kept = kept_as c.self.inside.files c.self.inside.hosts.items c.self.inside.heads in
    let fits : Fits kept c.args.change = asked-as c.args.self.now kept c.self.inside.calls (λ k. Fits k c.args.change) c.self.view_is c.self.invariant
    c.requires.fits in
    let own : IsChangeWithin kept c.args.change = asked-as c.args.self.now kept c.self.inside.calls (λ k. IsChangeWithin k c.args.change)
    c.self.view_is c.self.invariant c.requires.within in
    let done : kept_as c.change-2.new.self c.set_row.new.hosts.items c.heads_after-self-inside.result ≡ applied kept c.args.change =
    as-applied c.self.inside.files c.change-2.new.self c.self.inside.hosts.items c.set_row.new.hosts.items c.self.inside.heads
    c.heads_after-self-inside.result c.args.change c.in_ok-change.ensures.ok c.set_row.ensures c.heads_after-self-inside.ensures in
    subst IsWithinBounds (sym done) (within-applied kept c.args.change c.self.invariant fits own)

pub returns-clause-commits : goal.returns-clause-commits
returns-clause-commits c =
    let kept : Kept = kept_as c.self.inside.files c.self.inside.hosts.items c.self.inside.heads in
    let fits : Fits kept c.args.change = asked-as c.args.self.now kept c.self.inside.calls (λ k. Fits k c.args.change) c.self.view_is c.self.invariant
    c.requires.fits in
    let own : IsChangeWithin kept c.args.change = asked-as c.args.self.now kept c.self.inside.calls (λ k. IsChangeWithin k c.args.change)
    c.self.view_is c.self.invariant c.requires.within in
    let done : kept_as c.change-2.new.self c.set_row.new.hosts.items c.heads_after-self-inside.result ≡ applied kept c.args.change =
    as-applied c.self.inside.files c.change-2.new.self c.self.inside.hosts.items c.set_row.new.hosts.items c.self.inside.heads
    c.heads_after-self-inside.result c.args.change c.in_ok-change.ensures.ok c.set_row.ensures c.heads_after-self-inside.ensures in (
      ap (λ k. Some k)
          (ap told_of done
          ∙ told-applied kept c.args.change c.self.invariant fits own
          ∙ ap (λ k. applied (told_of k.kept) c.args.change) c.self.view_is),
      ap (λ calls. calls.faults) c.in_ok-ask.ensures.calls ∙ calm c.self.inside.calls c.in_ok-ask.field-0 (sym c.in_ok-ask.ensures.answer)
          ∙ ap (λ k. k.calls.faults) c.self.view_is,
    )

pub returns-clause-leaves : goal.returns-clause-leaves
returns-clause-leaves c =
    let kept : Kept = kept_as c.self.inside.files c.self.inside.hosts.items c.self.inside.heads in
    let fits : Fits kept c.args.change = asked-as c.args.self.now kept c.self.inside.calls (λ k. Fits k c.args.change) c.self.view_is c.self.invariant
    c.requires.fits in
    let own : IsChangeWithin kept c.args.change = asked-as c.args.self.now kept c.self.inside.calls (λ k. IsChangeWithin k c.args.change)
    c.self.view_is c.self.invariant c.requires.within in
    let done : kept_as c.change-2.new.self c.set_row.new.hosts.items c.heads_after-self-inside.result ≡ applied kept c.args.change =
    as-applied c.self.inside.files c.change-2.new.self c.self.inside.hosts.items c.set_row.new.hosts.items c.self.inside.heads
    c.heads_after-self-inside.result c.args.change c.in_ok-change.ensures.ok c.set_row.ensures c.heads_after-self-inside.ensures in
    let old : StoredKeeper = record { kept = kept; calls = c.self.inside.calls } in
    let new : StoredKeeper = record {
      kept = kept_as c.change-2.new.self c.set_row.new.hosts.items c.heads_after-self-inside.result;
      calls =
          c.ask.new.calls;
    } in
    subst (λ k. LeavesTwo c.args.change (Some (told_of k.kept)) (LeavesEither k new)) c.self.view_is
    (leaves-two old new c.args.change c.self.invariant fits own done)
