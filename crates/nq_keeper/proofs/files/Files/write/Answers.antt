use Rattle.std.proofs.Common.{subst, sym}
use Rattle.nq_keeper.proofs.Naming.{named-written}
use Rattle.nq_keeper.proofs.Stored.{stored-written}
use Rattle.nq_model.specs.protocol.Change.{HasBlock}
use Rattle.nq_model.specs.protocol.Kept.{find_file}
use Rattle.nq_keeper.proofs.files.Files.write.Goals as goal

pub invariant_of-self : goal.invariant_of-self
invariant_of-self c =
    let has : HasBlock c.args.change.block (find_file c.args.change.file c.self.inside.stored.items) = subst (λ files. HasBlock c.args.change.block
    (find_file c.args.change.file files)) (sym c.self.view_is) c.requires in (
      stored-written c.self.inside.stored.items c.self.inside.blocks c.args.change c.self.invariant.0 c.write.new.files.items c.write.ensures has,
      named-written c.self.inside.names.entries c.self.inside.stored.items c.args.change c.self.invariant.0.apart c.self.invariant.1
          c.write.new.files.items c.write.ensures has,
    )
