use Rattle.nq_model.specs.protocol.World.{Head}
use Rattle.nq_world.specs.Playing.{keeper_in}
use Rattle.nq_world.proofs.Begun.{kept-begins}
use Rattle.nq_world.proofs.world.World.new.Goals as goal

pub returns-in-Ok-clause-begins : goal.returns-in-Ok-clause-begins
returns-in-Ok-clause-begins g c =
    let head : Head = record { hosts = c.args.hosts; term = c.args.term; longest = c.args.longest; files = c.args.files.now } in
    let content = g.K.Keeper.content in
    let faults = g.K.Keeper.faults in
    let keeper = c.keep_head.new.keeper in
    let r = c.boot.result in
    kept-begins head r (content c.args.keeper) (content keeper) (content (keeper_in r)) (faults c.args.keeper) (faults keeper) (faults (keeper_in r))
    (c.in-Ok.ensures.told c.args.term) c.in-Ok.ensures.counts (c.boot.ensures.begins c.args.files.now c.requires.fine)
