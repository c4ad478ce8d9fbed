use Rattle.nq_name_server.proofs.Replying.{read_served}
use Rattle.nq_name_server.proofs.server.NameServer.read_numbered.Goals as goal

pub returns-clause-read : goal.returns-clause-read
returns-clause-read c =
    λ leaf ready.
    read_served c.args.self.now c.enter.new.self c.drop_older.new.self c.ask_for-asked.new.self c.reply.new.self c.args.request.now leaf c.args.number
    _ c.ask_for-asked.result c.args.out.now c.reply.new.out c.requires.number c.in_ok-warning.ensures c.enter.ensures.entered
    c.drop_older.ensures.table c.ask_for-asked.ensures.table c.ask_for-asked.ensures.asked (c.reply.ensures.replied leaf ready)
