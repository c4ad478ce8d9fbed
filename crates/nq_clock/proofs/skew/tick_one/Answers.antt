use Rattle.nq_clock.proofs.CountLists.{set-ticked}
use Rattle.nq_clock.proofs.skew.tick_one.Goals as goal

pub returns : goal.returns
returns c =
    let ticked = set-ticked c.args.window c.args.host c.args.hosts.now.items c.index_mut-leads.result.now c.requires.host in
    let value = c.index_mut-leads.ensures.value in
    cc
