use Rattle.nq_naming.proofs.Keeping.{played_told}
use Rattle.nq_naming.proofs.running.run_over.Goals as goal

pub tell-ending-requires-clause-told : goal.tell-ending-requires-clause-told
tell-ending-requires-clause-told g c =
    let ready = c.requires.ready in
    played_told c.args.script.now.script.head c.args.script.now.asides.items c.args.script.now.script.lines ready.text c.play_over-played.result
    c.play_over-played.new.world.names _ c.play_over-played.new.world.found.items ready.version ready.spelled
    (c.play_over-played.ensures.comes c.in-Ok.ensures.plays)
