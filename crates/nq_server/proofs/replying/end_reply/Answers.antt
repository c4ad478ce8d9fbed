use Rattle.nq_model.specs.protocol.Message.{reply}
use Rattle.nq_model.specs.protocol.Server.{to_host}
use Rattle.nq_server.proofs.PushedPackets.{one-sent}
use Rattle.nq_server.proofs.replying.end_reply.Goals as goal

pub returns : goal.returns
returns c =
    let pushed = rw c.unwrap.ensures at c.push.ensures.pushed in
    one-sent (to_host c.args.host (reply c.args.begun.xid c.args.said.now)) c.args.out.now c.push.new.self c.end-bytes.ensures.fits
    c.push.ensures.first (rw c.end-bytes.ensures.written at pushed)
