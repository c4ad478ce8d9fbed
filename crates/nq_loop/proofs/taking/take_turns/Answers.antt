use Rattle.std.proofs.Common.{◌≡◌, ◌≤◌, ◌∙◌, inl, inr, length, refl, sym, arith}
use Rattle.std.specs.Prelude.{reverse}
use Rattle.nq_clock.specs.Clocks.{clock_told}
use Rattle.nq_loop.proofs.Takings.{now_at, stopped, stopped-counts, went}
use Rattle.nq_loop.specs.Holding.{loop_of}
use Rattle.nq_loop.proofs.taking.take_turns.Goals as goal

pub loop-turn-init : goal.loop-turn-init
loop-turn-init g c = record {
  goes = λ head hosts here. (refl, here);
  clients = refl;
  hosts = refl;
  faults = refl;
  follows = g.met.P.Keeper.follows_itself c.args.looping.now.world.server.keeper;
}

pub loop_turn-requires : goal.loop_turn-requires
loop_turn-requires g c =
    let clients = c.loop-turn.invariant.clients in
    let hosts = c.loop-turn.invariant.hosts in
    let was = c.requires in
    record { clients_are = omega (arith, clients, hosts, was); few = omega (arith, hosts, was); links_are = omega (arith, hosts, was) }

pub loop-turn-preserved : goal.loop-turn-preserved
loop-turn-preserved g c = record {
  goes = λ head hosts here.
      let before = c.loop-turn.invariant.goes head hosts here in
      let mine : head.hosts ≡ length c.loop-turn.looping.state.begun = hosts ∙ sym c.loop-turn.invariant.hosts in
      let left = sym (c.all_answered.ensures head (reverse c.loop-turn.looping.ran) mine before.1.plays before.1.counts) ∙ c.if-all_answered.false in
      let turned = c.in-Ok.ensures.turn head mine before.1 in
      went head c.loop-turn.turn c.in-Ok._moved (now_at (loop_of g.P.Keeper.content g.L.Link.sent g.L.Link.waiting g.L.Link.faults
      g.L.Link.receives c.args.looping.now.world c.args.looping.now.state c.args.looping.now.ran c.args.links.now) (clock_told g.C.Clock.floor
      g.C.Clock.readings g.C.Clock.reads
      c.args.clock.now)) (clock_told g.C.Clock.floor g.C.Clock.readings g.C.Clock.reads c.loop-turn.clock) (clock_told g.C.Clock.floor
      g.C.Clock.readings g.C.Clock.reads
      c.loop_turn.new.clock)
      (loop_of g.P.Keeper.content g.L.Link.sent g.L.Link.waiting g.L.Link.faults g.L.Link.receives c.loop-turn.looping.world
      c.loop-turn.looping.state c.loop-turn.looping.ran
      c.loop-turn.links)
      (loop_of g.P.Keeper.content g.L.Link.sent g.L.Link.waiting g.L.Link.faults g.L.Link.receives c.loop_turn.new.looping.world c.loop_turn.new.looping.state
      c.loop_turn.new.looping.ran c.loop_turn.new.links)
      before.0 left turned;
  clients = c.loop_turn.ensures.keeps.clients_are ∙ c.loop-turn.invariant.clients;
  hosts = c.loop_turn.ensures.keeps.hosts_are ∙ c.loop-turn.invariant.hosts;
  faults = c.in-Ok.ensures.keeps.faults ∙ c.loop-turn.invariant.faults;
  follows = g.met.P.Keeper.follows_on _ _ _ c.loop-turn.invariant.follows c.loop_turn.ensures.follows;
}

pub returns-in-Err-clause-turns : goal.returns-in-Err-clause-turns
returns-in-Err-clause-turns g c = λ head hosts here.
    let before = c.loop-turn.invariant.goes head hosts here in
    let mine : head.hosts ≡ length c.loop-turn.looping.state.begun = hosts ∙ sym c.loop-turn.invariant.hosts in
    let left = sym (c.all_answered.ensures head (reverse c.loop-turn.looping.ran) mine before.1.plays before.1.counts) ∙ c.if-all_answered.false in
    let turned = c.in-Err.ensures.turn head mine before.1 in
    stopped head c.loop-turn.turn c.args.turns c.in-Err.why (now_at (loop_of g.P.Keeper.content g.L.Link.sent g.L.Link.waiting
    g.L.Link.faults g.L.Link.receives c.args.looping.now.world c.args.looping.now.state c.args.looping.now.ran c.args.links.now) (clock_told g.C.Clock.floor
    g.C.Clock.readings g.C.Clock.reads c.args.clock.now)) (clock_told g.C.Clock.floor g.C.Clock.readings g.C.Clock.reads c.loop-turn.clock)
    (clock_told g.C.Clock.floor
    g.C.Clock.readings g.C.Clock.reads c.loop_turn.new.clock)
    (loop_of g.P.Keeper.content g.L.Link.sent g.L.Link.waiting g.L.Link.faults g.L.Link.receives c.loop-turn.looping.world c.loop-turn.looping.state
    c.loop-turn.looping.ran
    c.loop-turn.links)
    (loop_of g.P.Keeper.content g.L.Link.sent g.L.Link.waiting g.L.Link.faults g.L.Link.receives c.loop_turn.new.looping.world c.loop_turn.new.looping.state
    c.loop_turn.new.looping.ran c.loop_turn.new.links)
    c.loop-turn-test.true before.0 left turned

pub returns-then-all_answered-clause-turns : goal.returns-then-all_answered-clause-turns
returns-then-all_answered-clause-turns g c = λ head hosts here.
    let before = c.loop-turn.invariant.goes head hosts here in
    let mine : head.hosts ≡ length c.loop-turn.looping.state.begun = hosts ∙ sym c.loop-turn.invariant.hosts in
    let all = sym (c.all_answered.ensures head (reverse c.loop-turn.looping.ran) mine before.1.plays before.1.counts) ∙ c.if-all_answered.true in
    let within : c.loop-turn.turn ≤ c.args.turns = omega (arith, c.loop-turn-test.true) in
    (record { count = c.loop-turn.turn; within = within; goes = before.0; ends = inr all }, before.1)

pub returns-clause-turns : goal.returns-clause-turns
returns-clause-turns g c = λ head hosts here.
    let before = c.loop-turn.invariant.goes head hosts here in
    let within : c.loop-turn.turn ≤ c.args.turns = c.loop-turn.auto.turn-end in
    (record { count = c.loop-turn.turn; within = within; goes = before.0; ends = inl (omega (arith, within, c.loop-turn-test.false)) }, before.1)

pub returns-in-Err-clause-faults : goal.returns-in-Err-clause-faults
returns-in-Err-clause-faults g c =
    stopped-counts c.in-Err.why _ _ _ c.loop-turn.invariant.faults c.in-Err.ensures.keeps.faults

pub returns-in-Err-clause-follows : goal.returns-in-Err-clause-follows
returns-in-Err-clause-follows g c = g.met.P.Keeper.follows_on _ _ _ c.loop-turn.invariant.follows c.loop_turn.ensures.follows
