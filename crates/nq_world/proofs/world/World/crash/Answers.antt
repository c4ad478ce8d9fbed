use Rattle.std.proofs.Common.{◌≤◌, ◌^◌, arith, refl, subst, ◌∙◌}
use Rattle.nq_base.specs.declared.Event.{Event}
use Rattle.nq_base.specs.declared.Party.{Party}
use Rattle.nq_world.proofs.Taken.{crash-takes, late-takes, world}
use Rattle.nq_world.specs.Counting.{IsLastTime}
use Rattle.nq_world.specs.Moving.{Ends}
use Rattle.nq_world.specs.Playing.{TakesIn, WorldOver}
use Rattle.nq_world.specs.declared.stepped.Limit.{Limit}
use Rattle.nq_world.specs.declared.stepped.Stepped.{Stepped}
use Rattle.nq_world.proofs.world.World.crash.Goals as goal

pub returns-clause-takes : goal.returns-clause-takes
returns-clause-takes g c =
    let i = c.self.inside in
    let content = g.K.Keeper.content in
    let faults = g.K.Keeper.faults in
    let taken = c.reboot-taken in
    subst (λ (v : WorldOver g.row.K.Denot). c.args.longest ≤ v.skew.window → TakesIn content (Event.Crash c.args.longest) c.finish.result v
    (world taken.new.self i.clients.items c.finish.new.packets taken.new.log i.skew c.finish.new.events i.term)) c.self.view_is
    (λ short. crash-takes content c.args.longest c.in-Some.time taken.result c.finish.result i.server taken.new.self i.clients.items i.packets
    c.outbox.new.packets c.finish.new.packets i.journal taken.new.log i.skew c.in-Ok.out (faults i.server.keeper) (faults taken.new.self.keeper)
    i.events c.finish.new.events i.term c.requires.long short (c.in-Some.ensures.same ∙ c.time.ensures) c.in-Ok.ensures.empty taken.ensures.reboots
    (record {
      has_room = c.in-Ok.ensures.room;
      same = c.in-Ok.ensures.datagrams;
      ends = subst (λ m. Ends m c.finish.result Party.Server
          c.in-Ok.out.datagrams c.outbox.new.packets c.finish.new.packets i.events c.finish.new.events) c.received.ensures c.finish.ensures.ends;
    }))
    c.requires.short

pub returns-in_default-shown-clause-takes : goal.returns-in_default-shown-clause-takes
returns-in_default-shown-clause-takes g c =
    let i = c.self.inside in
    let late : 2 ^ 62 ≤ c.time.result = c.in_default-shown.ensures.late refl in
    let last : IsLastTime i.server.beside.time = omega (arith, late, c.time.ensures) in
    late-takes g.K.Keeper.content (Event.Crash c.args.longest) (Stepped.Limit Limit.Events) c.args.self.now _
    (subst (λ (v : WorldOver g.row.K.Denot). IsLastTime v.server.beside.time) c.self.view_is last)
