use Rattle.std.proofs.Common.{subst, sym}
use Rattle.nq_keeper.specs.InOrder.{AreStored, FitsAmong}
use Rattle.nq_keeper.proofs.Stored.{stored-put}
use Rattle.nq_keeper.proofs.files.Files.put_file.Goals as goal

pub invariant_of-self : goal.invariant_of-self
invariant_of-self c = (
  subst (λ files. AreStored files c.self.inside.blocks) (sym c.in_err-had.ensures.err) c.self.invariant.0,
  c.in_err-had.ensures.named,
)

pub invariant_of-self-2 : goal.invariant_of-self-2
invariant_of-self-2 c = (
  stored-put c.self.inside.stored.items c.put_file.new.files.items c.self.inside.blocks c.in_ok-had.had c.args.row.now c.self.invariant.0
      (subst (FitsAmong c.args.row.now) (sym c.self.view_is) c.requires)
      c.in_ok-had.ensures.ok c.in_ok-had.ensures.count,
  c.in_ok-had.ensures.named,
)
