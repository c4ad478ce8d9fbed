use Rattle.nq_keeper.proofs.Stored.{stored-dropped}
use Rattle.nq_keeper.proofs.files.Files.remove.Goals as goal

pub invariant_of-self : goal.invariant_of-self
invariant_of-self c = (
  stored-dropped c.self.inside.stored.items c.take_file-had.new.files.items c.self.inside.blocks c.take_file-had.result c.args.id c.self.invariant.0
      c.take_file-had.ensures.files c.take_file-had.ensures.count,
  c.take_file-had.ensures.named,
)
