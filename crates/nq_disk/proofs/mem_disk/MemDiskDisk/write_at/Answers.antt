use Rattle.std.proofs.Common.{arith}
use Rattle.std.specs.Prelude.{length}
use Rattle.nq_disk.proofs.Going.{refusal-goes-on, write-goes-on}
use Rattle.nq_disk.proofs.mem_disk.MemDiskDisk.write_at.Goals as goal

pub returns-then-is_refused-clause-follows : goal.returns-then-is_refused-clause-follows
returns-then-is_refused-clause-follows c =
    let rose = c.refuse_write.ensures.rose in
    refusal-goes-on c.args.place (length c.args.bytes.now) c.args.self.now c.refuse_write.new.self c.refuse_write.ensures.counted (omega arith)

pub returns-clause-follows : goal.returns-clause-follows
returns-clause-follows c = write-goes-on c.args.place c.args.bytes.now c.args.self.now c.take_write.new.self c.take_write.ensures
