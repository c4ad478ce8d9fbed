use Rattle.std.proofs.Common.{subst}
use Rattle.nq_serving.proofs.TurnsLeave.{taking}
use Rattle.nq_clock.specs.Clocks.{clock_told}
use Rattle.nq_link.specs.Links.{link_told}
use Rattle.nq_server.specs.Stepping.{next_of}
use Rattle.nq_serving.specs.Extending.{extension_told}
use Rattle.nq_serving.proofs.turning.take_turn.Goals as goal

pub returns-clause-turn : goal.returns-clause-turn
returns-clause-turn g c =
    let clock_of = clock_told g.C.Clock.floor g.C.Clock.readings g.C.Clock.reads in
    let link_of = link_told g.L.Link.sent g.L.Link.waiting g.L.Link.faults g.L.Link.receives in
    taking g.K.Keeper.content g.K.Keeper.faults c.args.policy (extension_told g.W.Extension.owns g.W.Extension.replies) g.K.Keeper.follows
    g.K.Keeper.leaves c.serve_turn-turn.result c.behind_turn.result c.args.node.now.server (next_of c.args.node.now.out)
    (clock_of c.args.clock.now) (clock_of c.serve_turn-turn.new.clock) (link_of c.args.link.now) (link_of c.serve_turn-turn.new.link)
    c.begin.new.self c.serve_turn-turn.new.node c.begin.ensures.server c.begin.ensures.first c.begin.ensures.empty c.begin.ensures.silent
    c.behind_turn.ensures c.serve_turn-turn.ensures.stages c.pause.ensures.leaves

pub returns-clause-follows : goal.returns-clause-follows
returns-clause-follows g c =
    subst (λ s. g.K.Keeper.follows s.keeper c.serve_turn-turn.new.node.server.keeper) c.begin.ensures.server c.serve_turn-turn.ensures.follows
