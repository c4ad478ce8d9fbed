use Rattle.std.proofs.Common.{Option, Ok, ◌∙◌, ap, refl, subst}
use Rattle.std.specs.Option.{ForSome}
use Rattle.nq_server.specs.State.{beside_of, phase_of}
use Rattle.nq_server.specs.Ticking.{OpensAt, left_of}
use Rattle.nq_server.specs.declared.ticks.Opened.{Opened}
use Rattle.nq_server.proofs.Ticked.{is-back, leaves-opened, of-recovering, takes-opens, takes-waits}
use Rattle.nq_server.proofs.ticks.tick.Goals as goal

pub returns-in_err-open-in-Recovering-clause-leaves : goal.returns-in_err-open-in-Recovering-clause-leaves
returns-in_err-open-in-Recovering-clause-leaves g c =
    let there = (of-recovering c.args.state.now.longest c.args.state.now.phase c.in-Recovering.recovery c.in-Recovering.last
    c.args.state.now.table.rows c.in-Recovering.is c.requires.sound.of_boot).0 in
    leaves-opened (beside_of c.args.state.now) c.args.now c.in-Recovering.recovery c.in-Recovering.last (ap phase_of c.in-Recovering.is) there
    (g.K.Keeper.content c.args.keeper.now) (g.K.Keeper.leaves c.args.keeper.now c.open.new.keeper) c.open.ensures.leaves

pub returns-in-None-clause-leaves : goal.returns-in-None-clause-leaves
returns-in-None-clause-leaves g c =
    let there = (of-recovering c.args.state.now.longest c.args.state.now.phase c.in-Recovering.recovery c.in-Recovering.last
    c.args.state.now.table.rows c.in-Recovering.is c.requires.sound.of_boot).0 in
    leaves-opened (beside_of c.args.state.now) c.args.now c.in-Recovering.recovery c.in-Recovering.last (ap phase_of c.in-Recovering.is) there
    (g.K.Keeper.content c.args.keeper.now) (g.K.Keeper.leaves c.args.keeper.now c.open.new.keeper) c.open.ensures.leaves

pub returns-in-Some-clause-leaves : goal.returns-in-Some-clause-leaves
returns-in-Some-clause-leaves g c =
    let there = (of-recovering c.args.state.now.longest c.args.state.now.phase c.in-Recovering.recovery c.in-Recovering.last
    c.args.state.now.table.rows c.in-Recovering.is c.requires.sound.of_boot).0 in
    leaves-opened (beside_of c.args.state.now) c.args.now c.in-Recovering.recovery c.in-Recovering.last (ap phase_of c.in-Recovering.is) there
    (g.K.Keeper.content c.args.keeper.now) (g.K.Keeper.leaves c.args.keeper.now c.open.new.keeper) c.open.ensures.leaves

pub returns-in-None-clause-takes : goal.returns-in-None-clause-takes
returns-in-None-clause-takes g c =
    let there = (of-recovering c.args.state.now.longest c.args.state.now.phase c.in-Recovering.recovery c.in-Recovering.last
    c.args.state.now.table.rows c.in-Recovering.is c.requires.sound.of_boot).0 in
    takes-waits (beside_of c.args.state.now) c.args.now c.in-Recovering.recovery c.in-Recovering.last (ap phase_of c.in-Recovering.is) there _
    (g.K.Keeper.content c.args.keeper.now) (g.K.Keeper.content c.open.new.keeper) (g.K.Keeper.faults c.args.keeper.now)
    (g.K.Keeper.faults c.open.new.keeper) c.args.log.now c.args.log.now
    (subst (λ (o : Option Opened). ForSome c.in-Recovering.recovery (λ r. OpensAt r c.args.now (Ok o) (g.K.Keeper.content c.args.keeper.now)
    (g.K.Keeper.content c.open.new.keeper) (g.K.Keeper.faults c.args.keeper.now) (g.K.Keeper.faults c.open.new.keeper))) c.in-None.is
    c.in_ok-open-in-Recovering.ensures.opens)
    (is-back c.args.state.now c.in-Recovering.recovery c.open.new.recovery c.in-Recovering.last c.args.now c.in-Recovering.is
    (c.in_ok-open-in-Recovering.ensures.left ∙ ap (λ (o : Option Opened). left_of c.in-Recovering.recovery (Ok o)) c.in-None.is))
    refl

pub returns-in-Some-clause-takes : goal.returns-in-Some-clause-takes
returns-in-Some-clause-takes g c =
    let there = (of-recovering c.args.state.now.longest c.args.state.now.phase c.in-Recovering.recovery c.in-Recovering.last
    c.args.state.now.table.rows c.in-Recovering.is c.requires.sound.of_boot).0 in
    takes-opens (beside_of c.args.state.now) c.args.now c.in-Recovering.recovery c.in-Recovering.last (ap phase_of c.in-Recovering.is) there
    (beside_of c.begin_serving.new.state) c.in-Some.opened (g.K.Keeper.content c.args.keeper.now) (g.K.Keeper.content c.open.new.keeper)
    (g.K.Keeper.faults c.args.keeper.now) (g.K.Keeper.faults c.open.new.keeper) c.args.log.now c.begin_serving.new.log
    (subst (λ (o : Option Opened). ForSome c.in-Recovering.recovery (λ r. OpensAt r c.args.now (Ok o) (g.K.Keeper.content c.args.keeper.now)
    (g.K.Keeper.content c.open.new.keeper) (g.K.Keeper.faults c.args.keeper.now) (g.K.Keeper.faults c.open.new.keeper))) c.in-Some.is
    c.in_ok-open-in-Recovering.ensures.opens)
    c.begin_serving.ensures.holds c.begin_serving.ensures.entries
