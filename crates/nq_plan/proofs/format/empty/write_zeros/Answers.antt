use Rattle.std.proofs.Common.{◌*◌, Some, refl, ap, ◌∙◌}
use Rattle.nq_disk.specs.Calling.{told_after}
use Rattle.nq_plan.proofs.Formatting.{zeros-none, zeros-on}
use Rattle.nq_plan.proofs.format.empty.write_zeros.Goals as goal

pub loop-chunk-init : goal.loop-chunk-init
loop-chunk-init g c = record {
  follows = g.met.D.Disk.follows_itself c.args.disk.now;
  faults = refl;
  told = λ old told. told ∙ ap Some (zeros-none old);
}

pub loop-chunk-preserved : goal.loop-chunk-preserved
loop-chunk-preserved g c =
    let so = c.loop-chunk.invariant in
    record {
      follows = g.met.D.Disk.follows_on c.args.disk.now c.loop-chunk.disk c.write_at.new.self so.follows c.write_at.ensures.follows;
      faults = c.in_ok-write_at.ensures.cause ∙ so.faults;
      told = λ old told.
          c.in_ok-write_at.ensures.writes
          ∙ ap (told_after (4096 * c.loop-chunk.chunk) c.args.zeros.now) (so.told old told)
          ∙ ap Some (zeros-on c.loop-chunk.chunk c.args.zeros.now old c.requires.size c.requires.zeros);
    }
