use Rattle.nq_base.specs.declared.Refusal.{Refusal}
use Rattle.nq_base.specs.declared.Reply.{Reply}
use Rattle.nq_model.specs.protocol.Message.{reply}
use Rattle.nq_server.proofs.replying.reply_later.Goals as goal

pub returns-clause-sends : goal.returns-clause-sends
returns-clause-sends c =
    c.push.ensures.sends (reply c.args.xid (Reply.Refused c.args.who.inc Refusal.TryLater)) c.reply_bytes.ensures.written c.reply_bytes.ensures.fits
