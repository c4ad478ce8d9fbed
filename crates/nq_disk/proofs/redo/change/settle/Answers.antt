use Rattle.std.proofs.Common.{ℕ, List, [], ◌∷◌, inr, subst}
use Rattle.nq_disk.specs.Bytes.{Torn}
use Rattle.nq_disk.specs.Ranges.{applied}
use Rattle.nq_disk.specs.Record.{ranges_in}
use Rattle.nq_disk.specs.Whole.{OpensAs}
use Rattle.nq_disk.proofs.Changing.{when-closed, while-closing, while-written}
use Rattle.nq_disk.proofs.RedoGoing.{on-ok, then-ok, then-writes, through}
use Rattle.nq_disk.proofs.redo.change.settle.Goals as goal

pub returns-in_err-put_synced-clause-leaves : goal.returns-in_err-put_synced-clause-leaves
returns-in_err-put_synced-clause-leaves g c = λ old told only open_now same image left.
    while-written c.args.area c.requires (ranges_in c.args.count c.args.bytes.now) old open_now same image (c.put_synced.ensures.leaves old told only
    image left)

pub returns-clause-settled : goal.returns-clause-settled
returns-clause-settled g c = on-ok c.write_synced.result _ (λ is old told only open_now same.
    let rs = ranges_in c.args.count c.args.bytes.now in
    let told_then = c.in_ok-put_synced.ensures.written old told in
    let so = c.put_synced.ensures.leaves old told only (applied rs old) (g.met.D.Disk.leaves_ends c.args.disk.now c.put_synced.new.disk
    (applied rs old) c.put_synced.ensures.follows (inr (g.met.D.Disk.told_may_stay c.put_synced.new.disk (applied rs old) told_then))) in
    when-closed c.args.area c.requires rs old open_now same (g.D.Disk.told c.write_synced.new.disk) (g.D.Disk.may_leave c.write_synced.new.disk) so
    (then-writes c.write_synced.result c.args.area.place (0 ∷ []) (g.D.Disk.told c.put_synced.new.disk) (g.D.Disk.told c.write_synced.new.disk)
    (applied rs old) is c.write_synced.ensures.writes told_then)
    (then-ok c.write_synced.result _ is c.write_synced.ensures.settles))

pub returns-clause-leaves : goal.returns-clause-leaves
returns-clause-leaves g c = λ old told only open_now same image left.
    let rs = ranges_in c.args.count c.args.bytes.now in
    let told_then = c.in_ok-put_synced.ensures.written old told in
    let so = c.put_synced.ensures.leaves old told only in
    let end = so (applied rs old) (g.met.D.Disk.leaves_ends c.args.disk.now c.put_synced.new.disk (applied rs old) c.put_synced.ensures.follows
    (inr (g.met.D.Disk.told_may_stay c.put_synced.new.disk (applied rs old) told_then))) in
    through (OpensAs c.args.area old) _ _ image
    (g.met.D.Disk.parts c.args.disk.now c.put_synced.new.disk c.write_synced.new.disk image c.put_synced.ensures.follows c.write_synced.ensures.follows left)
    (λ l. while-written c.args.area c.requires rs old open_now same image (so image l))
    (λ l.
    let from = c.write_synced.ensures.leaves image l in
    let is_applied = c.in_ok-put_synced.ensures.settles (applied rs old) told_then from.0 from.1 in
    while-closing c.args.area c.requires rs old open_now same image end (subst (λ (i : List ℕ). Torn c.args.area.place 1 i image) is_applied from.2))
