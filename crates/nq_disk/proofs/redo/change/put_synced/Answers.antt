use Rattle.std.proofs.Common.{◌∙◌, inr}
use Rattle.nq_disk.specs.Ranges.{Settling}
use Rattle.nq_disk.specs.Record.{ranges_in}
use Rattle.nq_disk.proofs.RedoGoing.{on-ok, through}
use Rattle.nq_disk.proofs.redo.change.put_synced.Goals as goal

pub returns-clause-written : goal.returns-clause-written
returns-clause-written g c = on-ok c.sync.result _ (λ is old told. c.sync.ensures.same ∙ c.in_ok-put_ranges.ensures.written old told)

pub returns-clause-leaves : goal.returns-clause-leaves
returns-clause-leaves g c = λ old told only image left.
    through (Settling (ranges_in c.args.count c.args.bytes.now) old) _ _ image
    (g.met.D.Disk.parts c.args.disk.now c.put_ranges.new.disk c.sync.new.self image c.put_ranges.ensures.follows c.sync.ensures.follows left)
    (c.put_ranges.ensures.leaves old told only image)
    (λ l. c.put_ranges.ensures.leaves old told only image (g.met.D.Disk.leaves_ends c.args.disk.now c.put_ranges.new.disk image
    c.put_ranges.ensures.follows (inr (c.sync.ensures.leaves image l))))
