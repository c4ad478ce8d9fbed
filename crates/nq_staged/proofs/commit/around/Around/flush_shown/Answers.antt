use Rattle.nq_staged.proofs.Sending.{flush_all, flush_due, flush_same}
use Rattle.nq_staged.proofs.commit.around.Around.flush_shown.Goals as goal

pub returns : goal.returns
returns c = record {
  shows = λ w ran. flush_all c.flush.result c.args.self.now c.flush.new.self c.flush.ensures.sent c.flush.ensures.refused w ran;
  none = flush_due c.flush.result c.args.self.now c.flush.new.self c.flush.ensures.sent;
  gone = flush_same c.flush.result c.args.self.now c.flush.new.self c.flush.ensures.sent c.flush.ensures.refused;
}
