use Rattle.nq_clock.specs.Clocks.{clock_told}
use Rattle.nq_link.specs.Links.{link_told}
use Rattle.nq_hosts.specs.UserTurning.{Goes, between}
use Rattle.nq_hosts.proofs.user.turning.take_turns.Given as goal

abbrev pub invariant-loop-turn : goal.invariant-loop-turn
invariant-loop-turn g l =
    let clock_of = clock_told g.C.Clock.floor g.C.Clock.readings g.C.Clock.reads in
    let link_of = link_told g.L.Link.sent g.L.Link.waiting g.L.Link.faults g.L.Link.receives in
    Goes l.aim l._turn
    (between l.fn.session (clock_of l.fn.clock) (link_of l.fn.link))
    (between l.session (clock_of l.clock) (link_of l.link))
