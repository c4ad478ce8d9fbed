use Rattle.nq_lister.proofs.Keeping.{reads_behind}
use Rattle.nq_lister.proofs.answering.answer_to.Goals as goal

pub returns-then-branch-clause-reads : goal.returns-then-branch-clause-reads
returns-then-branch-clause-reads g c =
    reads_behind g.K.Keeper.content g.K.Keeper.faults g.K.Keeper.follows g.K.Keeper.leaves c.in_ok-is_attached.field-0 c.give.result c.args.server.now
    c.is_attached.new.server c.give.new.server g.met.K.Keeper.follows_on g.met.K.Keeper.parts c.in_ok-is_attached.ensures.reads c.give.ensures.reads
