use Rattle.std.proofs.Common.{length}
use Rattle.nq_clock.specs.Clocks.{clock_told}
use Rattle.nq_link.specs.Links.{link_told}
use Rattle.nq_hosts.specs.UserTurning.{between}
use Rattle.nq_hosts.proofs.Texts.{Progress}
use Rattle.nq_hosts.proofs.user.running.run_lines.Given as goal

abbrev pub invariant-loop-line : goal.invariant-loop-line
invariant-loop-line g l =
    let clock_of = clock_told g.C.Clock.floor g.C.Clock.readings g.C.Clock.reads in
    let link_of = link_told g.L.Link.sent g.L.Link.waiting g.L.Link.faults g.L.Link.receives in
    Progress l.turns l.text l.rest l.number
    (between l.fn.session (clock_of l.fn.clock) (link_of l.fn.link))
    (between l.session (clock_of l.clock) (link_of l.link))

abbrev pub decreases-loop-line : goal.decreases-loop-line
decreases-loop-line g l = length l.rest
