use Rattle.nq_store.proofs.Asking.{told-leaves}
use Rattle.nq_store.proofs.store.StoreKeeper.pause.Goals as goal

pub returns : goal.returns
returns g c = record {
  leaves = told-leaves c.args.self.now g.D.Disk.told g.D.Disk.may_leave g.D.Disk.leaves c.has_ended-ended.ensures.sound
      g.met.D.Disk.leaves_now;
}
