use Rattle.std.proofs.Common.{append-nil, refl, sym}
use Rattle.nq_serving.proofs.watching.NobodyExtension.answer.Goals as goal

pub returns-clause-replies : goal.returns-clause-replies
returns-clause-replies g c = λ kept told. sym (append-nil c.args._out.now.datagrams)

pub returns-clause-reads : goal.returns-clause-reads
returns-clause-reads g c = record {
  untouched = record { beside = refl; taken = refl };
  reads = (refl, refl);
  same = g.met.K.Keeper.follows_itself c.args.server.now.keeper;
  left = c.pause.ensures.leaves;
}
