use Rattle.std.proofs.Common.{◌<◌, length, arith}
use Rattle.nq_staged.proofs.Reaching.{sides_more}
use Rattle.nq_staged.proofs.commit.world.sides_of.Goals as goal

pub loop-host-preserved : goal.loop-host-preserved
loop-host-preserved g c =
    let test = c.loop-host-test.true in
    let many = c.requires in
    let below : c.loop-host.host < length c.args.world.now.clients = omega arith in
    sides_more c.args.world.now.clients c.loop-host.host c.loop-host.sides.items c.push.new.self.items c.side_of-side.result c.loop-host.invariant
    below c.side_of-side.ensures c.in_ok-push.ensures.items
