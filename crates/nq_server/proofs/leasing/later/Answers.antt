use Rattle.nq_server.proofs.AskedRows.{own-runs}
use Rattle.nq_server.proofs.leasing.later.Goals as goal

pub ask-requires-clause-shared : goal.ask-requires-clause-shared
ask-requires-clause-shared c =
    λ row found caches.
    own-runs c.args.state.now.time c.args.state.now.table c.args.question.now row c.requires.asked.time c.requires.sound.run found caches
