use Rattle.std.proofs.Common.{◌+◌, ◌<◌, length, arith}
use Rattle.nq_base.specs.declared.Event.{Event}
use Rattle.nq_loop.proofs.Whole.{given-step}
use Rattle.nq_loop.specs.Holding.{loop_of}
use Rattle.nq_loop.specs.Sending.{place_of}
use Rattle.nq_loop.proofs.deeds.take_step.Goals as goal

pub give-requires-clause-looped : goal.give-requires-clause-looped
give-requires-clause-looped g c = rw c.in-Tick.is at c.requires.among

pub begin_call-requires-clause-there : goal.begin_call-requires-clause-there
begin_call-requires-clause-there g c = rw c.in-Call.is at c.requires.among

pub receive-requires-clause-there : goal.receive-requires-clause-there
receive-requires-clause-there g c =
    let among : place_of c.in-Receive.party < length c.args.looping.now.state.begun + 1 = rw c.in-Receive.is at c.requires.among in
    omega (arith, among, c.requires.there.links_are)

pub returns-in-Tick : goal.returns-in-Tick
returns-in-Tick g c = record {
  loops = λ head hosts here.
      rw c.in-Tick.is (given-step head (Event.ClientTick c.in-Tick.host) c.give.result (loop_of g.K.Keeper.content g.L.Link.sent g.L.Link.waiting
      g.L.Link.faults g.L.Link.receives c.args.looping.now.world c.args.looping.now.state c.args.looping.now.ran c.args.links.now)
      (loop_of g.K.Keeper.content g.L.Link.sent g.L.Link.waiting g.L.Link.faults g.L.Link.receives c.give.new.looping.world c.give.new.looping.state
      c.give.new.looping.ran
      c.give.new.links) (c.give.ensures.gives head hosts here));
  keeps = c.give.ensures.keeps;
  follows = c.give.ensures.follows;
}

pub returns-in-ServerTick : goal.returns-in-ServerTick
returns-in-ServerTick g c = record {
  loops = λ head hosts here.
      rw c.in-ServerTick.is (given-step head Event.ServerTick c.give-in-ServerTick.result (loop_of g.K.Keeper.content g.L.Link.sent g.L.Link.waiting
      g.L.Link.faults g.L.Link.receives c.args.looping.now.world c.args.looping.now.state c.args.looping.now.ran c.args.links.now)
      (loop_of g.K.Keeper.content g.L.Link.sent g.L.Link.waiting g.L.Link.faults g.L.Link.receives c.give-in-ServerTick.new.looping.world
      c.give-in-ServerTick.new.looping.state c.give-in-ServerTick.new.looping.ran c.give-in-ServerTick.new.links) (c.give-in-ServerTick.ensures.gives
      head hosts here));
  keeps = c.give-in-ServerTick.ensures.keeps;
  follows = c.give-in-ServerTick.ensures.follows;
}

pub returns-in-Call : goal.returns-in-Call
returns-in-Call g c = record {
  loops = λ head hosts here. rw c.in-Call.is (c.begin_call.ensures.loops head hosts here);
  keeps = c.begin_call.ensures.keeps;
  follows = c.begin_call.ensures.follows;
}

pub returns-in-Receive : goal.returns-in-Receive
returns-in-Receive g c = record {
  loops = λ head hosts here. rw c.in-Receive.is (c.receive.ensures.loops head hosts here);
  keeps = c.receive.ensures.keeps;
  follows = c.receive.ensures.follows;
}
