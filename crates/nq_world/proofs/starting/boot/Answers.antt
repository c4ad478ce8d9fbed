use Rattle.nq_model.specs.protocol.World.{Head}
use Rattle.nq_world.proofs.Begun.{head-within, over-begins}
use Rattle.nq_world.proofs.starting.boot.Goals as goal

pub returns-in-Ok-boot-clause-begins : goal.returns-in-Ok-boot-clause-begins
returns-in-Ok-boot-clause-begins g c = λ files fine.
    let head : Head = record { hosts = c.args.hosts; term = c.args.term; longest = c.args.longest; files = files } in
    let content = g.K.Keeper.content in
    let faults = g.K.Keeper.faults in
    over-begins head content faults c.over.result c.in-Ok-boot.server c.in-Ok.skew (content c.args.keeper) (faults c.args.keeper)
    (head-within head c.requires.hosts c.requires.long c.requires.short fine) c.in-Ok-boot.ensures.boots c.in-Ok.ensures.hosts c.in-Ok.ensures.window
    c.in-Ok.ensures.begins c.over.ensures.new c.over.ensures.refused
