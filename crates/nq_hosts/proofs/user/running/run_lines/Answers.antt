use Rattle.std.proofs.Common.{sym}
use Rattle.nq_clock.specs.Clocks.{clock_told}
use Rattle.nq_link.specs.Links.{link_told}
use Rattle.nq_hosts.specs.UserTurning.{Between, between}
use Rattle.nq_hosts.proofs.Texts.{done, next, shorter, stepped, stops}
use Rattle.nq_hosts.proofs.user.running.run_lines.Goals as goal

pub run_line-requires : goal.run_line-requires
run_line-requires g c =
    let clock_of = clock_told g.C.Clock.floor g.C.Clock.readings g.C.Clock.reads in
    let link_of = link_told g.L.Link.sent g.L.Link.waiting g.L.Link.faults g.L.Link.receives in
    let at : Between = between c.args.session.now (clock_of c.args.clock.now) (link_of c.args.link.now) in
    let now : Between = between c.loop-line.session (clock_of c.loop-line.clock) (link_of c.loop-line.link) in
    (next c.args.turns c.args.text.now c.loop-line.rest.now c.in-Some.line.now c.in-Some.after.now c.loop-line.number at now c.loop-line.invariant
    (sym c.in-Some.ensures)).call

pub returns-in-Err : goal.returns-in-Err
returns-in-Err g c =
    let clock_of = clock_told g.C.Clock.floor g.C.Clock.readings g.C.Clock.reads in
    let link_of = link_told g.L.Link.sent g.L.Link.waiting g.L.Link.faults g.L.Link.receives in
    let at : Between = between c.args.session.now (clock_of c.args.clock.now) (link_of c.args.link.now) in
    let now : Between = between c.loop-line.session (clock_of c.loop-line.clock) (link_of c.loop-line.link) in
    let new : Between = between c.run_line.new.session (clock_of c.run_line.new.clock) (link_of c.run_line.new.link) in
    stops c.args.turns c.args.text.now c.loop-line.rest.now c.in-Some.line.now c.in-Some.after.now c.loop-line.number c.in-Err.why at now new
    c.loop-line.invariant
    (sym c.in-Some.ensures) c.in-Err.ensures

pub loop-line-smaller : goal.loop-line-smaller
loop-line-smaller g c = shorter c.loop-line.rest.now c.in-Some.line.now c.in-Some.after.now (sym c.in-Some.ensures)

pub loop-line-preserved : goal.loop-line-preserved
loop-line-preserved g c =
    let clock_of = clock_told g.C.Clock.floor g.C.Clock.readings g.C.Clock.reads in
    let link_of = link_told g.L.Link.sent g.L.Link.waiting g.L.Link.faults g.L.Link.receives in
    let at : Between = between c.args.session.now (clock_of c.args.clock.now) (link_of c.args.link.now) in
    let now : Between = between c.loop-line.session (clock_of c.loop-line.clock) (link_of c.loop-line.link) in
    let new : Between = between c.run_line.new.session (clock_of c.run_line.new.clock) (link_of c.run_line.new.link) in
    stepped c.args.turns c.args.text.now c.loop-line.rest.now c.in-Some.line.now c.in-Some.after.now c.loop-line.number at now new c.loop-line.invariant
    (sym c.in-Some.ensures) c.in-Ok.ensures

pub returns : goal.returns
returns g c =
    let clock_of = clock_told g.C.Clock.floor g.C.Clock.readings g.C.Clock.reads in
    let link_of = link_told g.L.Link.sent g.L.Link.waiting g.L.Link.faults g.L.Link.receives in
    let at : Between = between c.args.session.now (clock_of c.args.clock.now) (link_of c.args.link.now) in
    let now : Between = between c.loop-line.session (clock_of c.loop-line.clock) (link_of c.loop-line.link) in
    done c.args.turns c.args.text.now c.loop-line.rest.now c.loop-line.number at now c.loop-line.invariant (sym c.in_default.ensures)
