use Rattle.nq_staged.proofs.Sending.{prepare_all, prepare_one}
use Rattle.nq_staged.proofs.commit.around.Around.prepare_shown.Goals as goal

pub returns : goal.returns
returns c = record {
  shows = λ w ran are. prepare_all c.prepare.result c.args.packets.now.datagrams c.args.self.now c.prepare.new.self c.requires.settled
      c.requires.there c.prepare.ensures.prepared c.prepare.ensures.refused w ran are;
  gone = prepare_one c.prepare.result c.args.packets.now.datagrams c.args.self.now c.prepare.new.self c.requires.there c.prepare.ensures.prepared;
  refused = c.prepare.ensures.refused;
}
