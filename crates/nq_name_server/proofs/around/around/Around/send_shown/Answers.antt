use Rattle.nq_name_server.proofs.GoingOut.{send_all, send_due, send_gone}
use Rattle.nq_name_server.proofs.around.around.Around.send_shown.Goals as goal

pub returns : goal.returns
returns c =
    let packets = c.args.packets.now.datagrams in
    let old = c.args.self.now in
    let new = c.send_next.new.self in
    record {
      shows = λ w ran are. send_all c.send_next.result packets old new c.requires.settled c.requires.there c.send_next.ensures.sent
          c.send_next.ensures.refused w ran are;
      none = send_due c.send_next.result packets old new c.requires.settled c.requires.there c.send_next.ensures.sent c.send_next.ensures.refused;
      gone = send_gone c.send_next.result packets old new c.requires.there c.send_next.ensures.sent;
      refused = c.send_next.ensures.refused;
    }
