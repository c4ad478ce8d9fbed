use Rattle.nq_datagrams.specs.Told.{told_error}
use Rattle.nq_model.specs.protocol.Message.{error}
use Rattle.nq_server.proofs.replying.say_error.Goals as goal

pub returns-in-Ok : goal.returns-in-Ok
returns-in-Ok c = c.in-Ok.ensures.sends (error c.args.xid (told_error c.args.said)) c.error_bytes.ensures.written c.error_bytes.ensures.fits
