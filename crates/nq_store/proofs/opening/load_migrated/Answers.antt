use Rattle.std.proofs.Common.{◌∙◌, inr, arith}
use Rattle.std.specs.Prelude.{slice_index}
use Rattle.nq_store.proofs.Told.{head-of, shut-still, two-is}
use Rattle.nq_store.proofs.Asked.{asked-then}
use Rattle.nq_store.proofs.opening.load_migrated.Goals as goal

pub returns-clause-told : goal.returns-clause-told
returns-clause-told g c = λ bytes is shut two.
    let may = g.D.Disk.may_leave c.read_head.new.disk in
    let long = shut.closed.long in
    let head_is = c.in_ok-head.ensures.told bytes is (omega (arith, long)) in
    let still = shut-still (g.D.Disk.may_leave c.args.disk.now) may bytes shut
    (λ image left. c.read_head.ensures.asked.leaves image (g.met.D.Disk.leaves_ends c.args.disk.now c.read_head.new.disk image
    c.read_head.ensures.asked.follows (inr left))) in
    c.load.ensures.told bytes (c.read_head.ensures.asked.same ∙ is) still (head-of may bytes c.deref.result.now still (c.deref.ensures.value
    ∙ head_is) (two-is (slice_index bytes 7) two))

pub returns-clause-asked : goal.returns-clause-asked
returns-clause-asked g c =
    asked-then g.D.Disk.told g.D.Disk.follows g.D.Disk.may_leave g.D.Disk.leaves g.met.D.Disk.follows_on g.met.D.Disk.leaves_ends g.met.D.Disk.parts
    c.args.disk.now c.read_head.new.disk c.load.new.disk
    c.read_head.ensures.asked
    c.load.ensures.asked
