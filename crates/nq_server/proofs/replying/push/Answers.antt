use Rattle.std.proofs.Common.{◌≡◌, subst}
use Rattle.std.specs.Prelude.{IfOk, OnOk}
use Rattle.std.proofs.lemmas.Result.{on_ok_weaker}
use Rattle.nq_datagrams.specs.Messages.{FitsMessage, bytes_of}
use Rattle.nq_model.specs.protocol.Server.{to_host}
use Rattle.nq_server.proofs.PushedPackets.{one-sent}
use Rattle.nq_server.proofs.replying.push.Goals as goal

pub returns-in-Ok-clause-sends : goal.returns-in-Ok-clause-sends
returns-in-Ok-clause-sends c =
    λ message written fits.
    let own = subst (λ made. IfOk made (λ bytes. bytes.items ≡ bytes_of message)) c.in-Ok.is written in
    on_ok_weaker c.push.result
    (one-sent (to_host c.args.host message) c.args.out.now c.push.new.self (subst (λ made. OnOk made (FitsMessage message)) c.in-Ok.is fits)
    c.push.ensures.first)
    (rw own at c.push.ensures.pushed)
