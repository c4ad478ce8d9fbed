use Rattle.std.proofs.Common.{◌≡◌, [], IfOk, subst}
use Rattle.nq_clock.specs.Clocks.{clock_told}
use Rattle.nq_link.specs.Links.{link_told}
use Rattle.nq_living.proofs.Lives.{took}
use Rattle.nq_living.specs.Living.{life}
use Rattle.nq_living.proofs.turning.turn.Goals as goal

pub returns : goal.returns
returns g c =
    let clock_of = clock_told g.C.Clock.floor g.C.Clock.readings g.C.Clock.reads in
    let link_of = link_told g.L.Link.sent g.L.Link.waiting g.L.Link.faults g.L.Link.receives in
    took g.A.Askers.gives g.A.Askers.takes g.A.Askers.notes g.A.Askers.pages g.A.Askers.stirs
    (life c.args.host.now (clock_of c.args.clock.now) (link_of c.args.link.now) c.args.askers.now)
    c.client_turn-ended.new.client c.client_turn-ended.new.next c.hand-host.result (clock_of c.client_turn-ended.new.clock) (link_of c.client_turn-ended.new.link)
    (link_of c.let_go.new.self) c.note.new.self c.hand-host.new.askers c.client_turn-ended.result c.unwrap-log.result c.client_turn-ended.new.log
    (subst (λ r. IfOk r (λ j. j.entries ≡ [])) c.unwrap-log.ensures c.new.ensures.empty) c.client_turn-ended.ensures.turn c.let_go.ensures
    c.note.ensures c.hand-host.ensures.hands c.hand-host.ensures.halts
