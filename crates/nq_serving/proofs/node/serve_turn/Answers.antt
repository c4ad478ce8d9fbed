use Rattle.nq_clock.specs.Clocks.{clock_told}
use Rattle.nq_link.specs.Links.{link_told}
use Rattle.nq_serving.proofs.Leaves.{stopped_leaves, went_on_leaves}
use Rattle.nq_serving.specs.Extending.{extension_told}
use Rattle.nq_serving.proofs.node.serve_turn.Goals as goal

pub returns-in-Ok-clause-stages : goal.returns-in-Ok-clause-stages
returns-in-Ok-clause-stages g c =
    let clock_of = clock_told g.C.Clock.floor g.C.Clock.readings g.C.Clock.reads in
    let link_of = link_told g.L.Link.sent g.L.Link.waiting g.L.Link.faults g.L.Link.receives in
    went_on_leaves g.K.Keeper.content g.K.Keeper.faults (extension_told g.W.Extension.owns g.W.Extension.replies) g.K.Keeper.follows g.K.Keeper.leaves
    g.met.K.Keeper.follows_on g.met.K.Keeper.parts
    c.go_on.result c.is_below-rises.result c.now-reading.result (clock_of c.args.clock.now) (clock_of c.now-reading.new.self)
    (link_of c.args.link.now)
    (link_of c.go_on.new.link)
    c.args.node.now c.tick_to.new.node c.go_on.new.node
    (record {
      rises = c.now-reading.ensures.rises;
      floor = c.now-reading.ensures.floor;
      below = c.now-reading.ensures.below;
      told = c.now-reading.ensures.told;
      once = c.now-reading.ensures.reads;
    }) c.in-Ok.ensures.ticked c.is_below-rises.ensures
    c.in-Ok.ensures.leaves c.tick_to.ensures.follows c.go_on.ensures.goes

pub returns-in-Ok-clause-follows : goal.returns-in-Ok-clause-follows
returns-in-Ok-clause-follows g c = g.met.K.Keeper.follows_on _ _ _ c.tick_to.ensures.follows c.go_on.ensures.follows

pub returns-in-Err-clause-stages : goal.returns-in-Err-clause-stages
returns-in-Err-clause-stages g c =
    let clock_of = clock_told g.C.Clock.floor g.C.Clock.readings g.C.Clock.reads in
    let link_of = link_told g.L.Link.sent g.L.Link.waiting g.L.Link.faults g.L.Link.receives in
    stopped_leaves g.K.Keeper.content g.K.Keeper.faults (extension_told g.W.Extension.owns g.W.Extension.replies) g.K.Keeper.follows g.K.Keeper.leaves
    g.met.K.Keeper.follows_on g.met.K.Keeper.parts
    c.in-Err.why c.now-reading.result (clock_of c.args.clock.now) (clock_of c.now-reading.new.self)
    (link_of c.args.link.now)
    c.args.node.now c.tick_to.new.node
    (record {
      rises = c.now-reading.ensures.rises;
      floor = c.now-reading.ensures.floor;
      below = c.now-reading.ensures.below;
      told = c.now-reading.ensures.told;
      once = c.now-reading.ensures.reads;
    }) c.in-Err.ensures.ticked c.in-Err.ensures.leaves
