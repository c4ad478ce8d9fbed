use Rattle.nq_base.specs.declared.Refusal.{Refusal}
use Rattle.nq_base.specs.declared.Reply.{Reply}
use Rattle.nq_lease.specs.Telling.{told_rows}
use Rattle.nq_model.specs.protocol.Message.{reply}
use Rattle.nq_model.specs.protocol.Server.{notices, to_host}
use Rattle.nq_server.proofs.PushedPackets.{sent-behind}
use Rattle.nq_server.proofs.replying.put_off.Goals as goal

pub returns-in-Ok-clause-sends : goal.returns-in-Ok-clause-sends
returns-in-Ok-clause-sends c =
    sent-behind (notices c.args.notice.now (told_rows c.args.file c.args.to c.args.table.now.rows)) (to_host c.args.caller.who.host
    (reply c.args.caller.xid (Reply.Refused c.args.caller.who.inc Refusal.TryLater))) c.args.out.now c.notices.new.out c.reply_later.new.out
    c.notices.ensures.first c.in_ok-notices.ensures.told c.in_ok-notices.ensures.fit c.in-Ok.ensures.sends
