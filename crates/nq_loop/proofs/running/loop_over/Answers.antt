use Rattle.std.proofs.Common.{map, subst, sym, arith}
use Rattle.std.specs.List.{AllByRecursion}
use Rattle.std.specs.Prelude.{reverse}
use Rattle.nq_clock.specs.Clocks.{clock_told}
use Rattle.nq_loop.proofs.Ends.{are-looped, begins, counts-loop, ends, keeps-loop}
use Rattle.nq_loop.proofs.Takings.{now_at}
use Rattle.nq_loop.specs.Holding.{IsLooped, IsLooping, loop_of}
use Rattle.nq_loop.specs.Looped.{TellsEnd, between}
use Rattle.nq_loop.specs.Sending.{told_of}
use Rattle.nq_loop.specs.Turning.{TakesTurns}
use Rattle.nq_loop.specs.Whole.{loop_head}
use Rattle.nq_replay.specs.Playing.{beginning}
use Rattle.nq_loop.proofs.running.loop_over.Goals as goal

pub take_turns-last-requires : goal.take_turns-last-requires
take_turns-last-requires g c =
    let hosts = c.in-Ok-new.ensures.hosts in
    let settings = c.requires.settings.hosts_are in
    record { clients_are = omega (arith, hosts, settings); few = omega (arith, hosts, c.requires.few); links_are = omega (arith, hosts, c.requires.links) }

pub tell-end-requires-clause-looped : goal.tell-end-requires-clause-looped
tell-end-requires-clause-looped g c =
    let head = loop_head c.args.plan.hosts in
    let first = loop_of g.P.Keeper.content g.L.Link.sent g.L.Link.waiting g.L.Link.faults g.L.Link.receives c.args.world c.in-Ok-new.state c.in-Ok.ran
    c.args.links.now in
    let last = loop_of g.P.Keeper.content g.L.Link.sent g.L.Link.waiting g.L.Link.faults g.L.Link.receives c.take_turns-last.new.looping.world
    c.take_turns-last.new.looping.state c.take_turns-last.new.looping.ran c.take_turns-last.new.links in
    let here : IsLooping (beginning head) first = begins (beginning head) first c.in-Ok.ensures.empty c.requires.plays c.in-Ok-new.ensures.marks
    c.in-Ok-new.ensures.counts in
    let both = c.take_turns-last.ensures.turns (beginning head) (sym c.in-Ok-new.ensures.hosts) here in
    subst (λ h. AllByRecursion (IsLooped h.hosts) c.take_turns-last.new.looping.ran) (sym c.requires.head) (are-looped c.take_turns-last.result
    (beginning head) last both.1)

pub returns : goal.returns
returns g c =
    let head = loop_head c.args.plan.hosts in
    let told = told_of g.L.Link.sent g.L.Link.waiting g.L.Link.faults g.L.Link.receives in
    let first = loop_of g.P.Keeper.content g.L.Link.sent g.L.Link.waiting g.L.Link.faults g.L.Link.receives c.args.world c.in-Ok-new.state c.in-Ok.ran
    c.args.links.now in
    let last = loop_of g.P.Keeper.content g.L.Link.sent g.L.Link.waiting g.L.Link.faults g.L.Link.receives c.take_turns-last.new.looping.world
    c.take_turns-last.new.looping.state c.take_turns-last.new.looping.ran c.take_turns-last.new.links in
    let here : IsLooping (beginning head) first = begins (beginning head) first c.in-Ok.ensures.empty c.requires.plays c.in-Ok-new.ensures.marks
    c.in-Ok-new.ensures.counts in
    let both = c.take_turns-last.ensures.turns (beginning head) (sym c.in-Ok-new.ensures.hosts) here in
    let links = map told c.args.links.now in
    let clock = clock_told g.C.Clock.floor g.C.Clock.readings g.C.Clock.reads c.args.clock.now in
    let clock' = clock_told g.C.Clock.floor g.C.Clock.readings g.C.Clock.reads c.take_turns-last.new.clock in
    let held = g.K.Sink.held c.args.out.now in
    let now = g.K.Sink.held c.tell-end.new.out in
    let w = g.K.Sink.faults c.args.out.now in
    let w' = g.K.Sink.faults c.tell-end.new.out in
    let takes = subst (λ ran. TakesTurns (beginning head) c.args.plan.turns c.take_turns-last.result (between (reverse ran) links clock)
    (now_at last clock')) c.in-Ok.ensures.empty both.0 in
    let tells = subst (λ h. TellsEnd c.tell-end.result c.take_turns-last.result h c.take_turns-last.new.looping.world
    (g.P.Keeper.content c.take_turns-last.new.looping.world.server.keeper) c.take_turns-last.new.looping.ran held now w w') c.requires.head
    c.tell-end.ensures.tells in
    let same = c.into_keeper-2.ensures in
    record {
      ends = ends c.tell-end.result c.take_turns-last.result c.args.plan.hosts c.args.plan.turns clock clock' links last held now w w' takes both.1 tells;
      keeps = λ done. rw same (keeps-loop c.tell-end.result c.take_turns-last.result c.args.plan.hosts c.args.plan.turns clock clock' links last held now w w'
          takes both.1 tells done);
      counts = rw same (counts-loop c.tell-end.result c.take_turns-last.result c.args.plan.hosts last held now w w'
          (g.P.Keeper.faults c.args.world.server.keeper) _ both.1 tells c.take_turns-last.ensures.faults);
      sink = c.tell-end.ensures.sink;
      follows = rw same c.take_turns-last.ensures.follows;
    }
