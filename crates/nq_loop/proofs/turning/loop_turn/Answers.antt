use Rattle.nq_clock.specs.Clocks.{clock_told}
use Rattle.nq_loop.proofs.Turned.{turned}
use Rattle.nq_loop.specs.Holding.{loop_of}
use Rattle.nq_loop.proofs.turning.loop_turn.Goals as goal

pub returns : goal.returns
returns g c = record {
  turn = λ head hosts here.
      turned head c.take_steps.result c.now-reading.result c.rounds_due-rounds.result c.server_time.result
      (clock_told g.C.Clock.floor g.C.Clock.readings g.C.Clock.reads c.args.clock.now) (clock_told g.C.Clock.floor g.C.Clock.readings g.C.Clock.reads
      c.now-reading.new.self)
      (loop_of g.K.Keeper.content g.L.Link.sent g.L.Link.waiting g.L.Link.faults g.L.Link.receives c.args.looping.now.world c.args.looping.now.state
      c.args.looping.now.ran
      c.args.links.now)
      (loop_of g.K.Keeper.content g.L.Link.sent g.L.Link.waiting g.L.Link.faults g.L.Link.receives c.take_steps.new.looping.world
      c.take_steps.new.looping.state
      c.take_steps.new.looping.ran c.take_steps.new.links)
      (record {
        rises = c.now-reading.ensures.rises;
        floor = c.now-reading.ensures.floor;
        below = c.now-reading.ensures.below;
        told = c.now-reading.ensures.told;
        once = c.now-reading.ensures.reads;
      })
      c.rounds_due-rounds.ensures c.server_time.ensures here (c.take_steps.ensures.loops head hosts here);
  keeps = c.take_steps.ensures.keeps;
  follows = c.take_steps.ensures.follows;
}
