use Rattle.nq_name_server.proofs.GoingOut.{flush_all, flush_fewer, flush_gone}
use Rattle.nq_name_server.proofs.around.around.Around.flush_shown.Goals as goal

pub returns : goal.returns
returns c = record {
  shows = λ w ran. flush_all c.flush_next.result c.args.self.now c.flush_next.new.self c.flush_next.ensures.sent c.flush_next.ensures.refused w ran;
  fewer = flush_fewer c.flush_next.result c.args.self.now c.flush_next.new.self c.requires c.flush_next.ensures.sent;
  gone = flush_gone c.flush_next.result c.args.self.now c.flush_next.new.self c.flush_next.ensures.sent c.flush_next.ensures.refused;
  refused = c.flush_next.ensures.refused;
}
