use Rattle.std.proofs.Common.{ap, arith, length}
use Rattle.nq_clock.specs.Counts.{SkewCounts}
use Rattle.nq_clock.proofs.CountLists.{length-ticked}
use Rattle.nq_clock.proofs.Tracking.{after-client}
use Rattle.nq_clock.proofs.skew.Skew.client_tick.Goals as goal

pub invariant_of-self : goal.invariant_of-self
invariant_of-self c =
    let same = length-ticked c.self.inside.window c.args.host c.self.inside.hosts.items in
    let now = ap length c.tick_one.ensures in
    (omega arith, omega arith)

pub returns-clause-hosts : goal.returns-clause-hosts
returns-clause-hosts c =
    let same = length-ticked c.self.inside.window c.args.host c.self.inside.hosts.items in
    let now = ap length c.tick_one.ensures in
    let was = ap (λ (s : SkewCounts). length s.hosts) c.self.view_is in
    omega arith

pub returns-clause-follows : goal.returns-clause-follows
returns-clause-follows c = λ events h.
    after-client c.self.inside.window c.args.host c.self.inside.hosts.items c.tick_one.new.hosts.items c.args.self.now events c.self.view_is
    c.tick_one.ensures c.requires h
