use Rattle.nq_store.proofs.Carrying.{sound-in}
use Rattle.nq_store.proofs.store.Store.has_ended.Goals as goal

pub returns-clause-sound : goal.returns-clause-sound
returns-clause-sound g c = sound-in g.D.Disk.told g.D.Disk.may_leave _ c.args.self.now c.self.view_is c.self.invariant.1
