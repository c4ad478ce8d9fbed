use Rattle.nq_disk.proofs.Going.{sync-goes-on, sync-leaves}
use Rattle.nq_disk.proofs.mem_disk.MemDiskDisk.sync.Goals as goal

pub returns-clause-follows : goal.returns-clause-follows
returns-clause-follows c = sync-goes-on c.args.self.now c.take_sync.new.self c.take_sync.ensures

pub returns-clause-leaves : goal.returns-clause-leaves
returns-clause-leaves c = sync-leaves c.args.self.now c.take_sync.new.self c.take_sync.ensures
