use Rattle.nq_model.specs.protocol.Message.{reply}
use Rattle.nq_server.proofs.replying.answer.Goals as goal

pub returns-in-Ok : goal.returns-in-Ok
returns-in-Ok c = c.in-Ok.ensures.sends (reply c.args.xid c.args.said.now) c.reply_bytes.ensures.written c.reply_bytes.ensures.fits
