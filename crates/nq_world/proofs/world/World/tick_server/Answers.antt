use Rattle.std.proofs.Common.{refl, subst, ap, ◌∙◌, ◌+◌}
use Rattle.nq_base.specs.declared.Event.{Event}
use Rattle.nq_base.specs.declared.Party.{Party}
use Rattle.nq_world.proofs.Taken.{broken-takes, late-takes, tick-server-takes, world}
use Rattle.nq_world.specs.Counting.{IsLastTime}
use Rattle.nq_world.specs.Moving.{Clocks, Ends}
use Rattle.nq_world.specs.Playing.{TakesIn, WorldOver}
use Rattle.nq_world.specs.declared.stepped.Limit.{Limit}
use Rattle.nq_world.specs.declared.stepped.Stepped.{Stepped}
use Rattle.nq_world.proofs.world.World.tick_server.Goals as goal

pub returns-in-Ok-follow-clause-takes : goal.returns-in-Ok-follow-clause-takes
returns-in-Ok-follow-clause-takes g c =
    let i = c.self.inside in
    let content = g.K.Keeper.content in
    let faults = g.K.Keeper.faults in
    let taken = c.tick-taken in
    let skew = c.follow.new.skew in
    subst (λ (v : WorldOver g.row.K.Denot). TakesIn content Event.ServerTick c.finish.result v (world taken.new.self i.clients.items
    c.finish.new.packets taken.new.log skew c.finish.new.events i.term)) c.self.view_is
    (tick-server-takes content c.in-Some.time taken.result c.finish.result i.server taken.new.self i.clients.items i.packets c.outbox.new.packets
    c.finish.new.packets i.journal taken.new.log i.skew skew c.in-Ok.out taken.new.out (faults i.server.keeper) (faults taken.new.self.keeper)
    i.events c.finish.new.events i.term (c.in-Some.ensures.next ∙ ap (λ n. n + 1) c.time.ensures) c.in-Ok.ensures.empty taken.ensures.spent.0
    taken.ensures.takes
    (record {
      has_room = c.in-Ok.ensures.room;
      same = c.in-Ok.ensures.datagrams;
      ends = subst (λ m. Ends m c.finish.result Party.Server
          taken.new.out.datagrams c.outbox.new.packets c.finish.new.packets i.events c.finish.new.events) c.received-ended.ensures c.finish.ensures.ends;
    })
    (subst (λ m. Clocks m Event.ServerTick i.skew skew) c.received-ended.ensures c.in-Ok-follow.ensures.clocks))

pub returns-clause-takes : goal.returns-clause-takes
returns-clause-takes g c =
    let i = c.self.inside in
    let content = g.K.Keeper.content in
    let taken = c.tick-taken in
    let skew = c.follow.new.skew in
    let broken = c.in-Err.broken in
    let answer = Stepped.SkewBroken broken in
    subst (λ (v : WorldOver g.row.K.Denot). TakesIn content Event.ServerTick answer v (world taken.new.self i.clients.items c.outbox.new.packets
    taken.new.log skew i.events i.term)) c.self.view_is
    (broken-takes content broken answer (world i.server i.clients.items i.packets i.journal i.skew i.events i.term)
    (world taken.new.self i.clients.items c.outbox.new.packets taken.new.log skew i.events i.term) c.in-Err.ensures.broken)

pub returns-in_default-time_after-clause-takes : goal.returns-in_default-time_after-clause-takes
returns-in_default-time_after-clause-takes g c =
    let i = c.self.inside in
    let last : IsLastTime i.server.beside.time = subst IsLastTime c.time.ensures (c.in_default-time_after.ensures.late refl) in
    late-takes g.K.Keeper.content Event.ServerTick (Stepped.Limit Limit.Events) c.args.self.now _
    (subst (λ (v : WorldOver g.row.K.Denot). IsLastTime v.server.beside.time) c.self.view_is last)
