use Rattle.std.proofs.Common.{refl}
use Rattle.nq_observe.proofs.Telling.{tells_all}
use Rattle.nq_bend.proofs.old.play.Goals as goal

pub take_event-requires-clause-told : goal.take_event-requires-clause-told
take_event-requires-clause-told g c = c.in-Some.ensures c.args.script.now.head refl
    (tells_all c.args.script.now.head c.args.script.now.lines c.requires.ready.text c.requires.ready.spelled)
