use Rattle.std.proofs.Common.{sym, subst}
use Rattle.nq_serving.proofs.TurnsLeave.{ran_booted, ran_none, running}
use Rattle.nq_serving.specs.Turning.{standing}
use Rattle.nq_clock.specs.Clocks.{clock_told}
use Rattle.nq_link.specs.Links.{link_told}
use Rattle.nq_server.specs.Holding.{keeper_in}
use Rattle.nq_server.specs.Stepping.{next_of}
use Rattle.nq_serving.specs.Extending.{extension_told}
use Rattle.nq_serving.proofs.serving.boot_and_run.Goals as goal

pub returns-in-Ok-clause-runs : goal.returns-in-Ok-clause-runs
returns-in-Ok-clause-runs g c =
    let clock_of = clock_told g.C.Clock.floor g.C.Clock.readings g.C.Clock.reads in
    let link_of = link_told g.L.Link.sent g.L.Link.waiting g.L.Link.faults g.L.Link.receives in
    let told = extension_told g.W.Extension.owns g.W.Extension.replies in
    let begun = c.new-node.result in
    let ended = c.take_turns-ended.new.node in
    let last = standing ended.server (next_of ended.out) (clock_of c.take_turns-ended.new.clock) (link_of c.take_turns-ended.new.link) in
    ran_booted g.K.Keeper.content g.K.Keeper.faults c.args.turns.policy told g.K.Keeper.follows g.K.Keeper.leaves c.args.boot.longest
    c.args.turns.most c.args.boot.now c.args.boot.keeper
    c.take_turns-ended.result c.into_keeper.result (clock_of c.args.clock.now) (clock_of c.take_turns-ended.new.clock) (link_of c.args.link.now)
    (link_of c.take_turns-ended.new.link) c.in-Ok.server c.boot.result c.in-Ok.is c.boot.ensures.boots c.boot.ensures.follows c.boot.ensures.leaves
    (running g.K.Keeper.content g.K.Keeper.faults c.args.turns.policy told g.K.Keeper.follows g.K.Keeper.leaves c.args.turns.most c.in-Ok.server
    begun.server (next_of begun.out) c.take_turns-ended.result c.into_keeper.result (clock_of c.args.clock.now) (link_of c.args.link.now) last
    c.new-node.ensures.server c.new-node.ensures.next c.into_keeper.ensures c.take_turns-ended.ensures.follows c.take_turns-ended.ensures.turns)

pub returns-in-Err-clause-runs : goal.returns-in-Err-clause-runs
returns-in-Err-clause-runs g c =
    let clock_of = clock_told g.C.Clock.floor g.C.Clock.readings g.C.Clock.reads in
    let link_of = link_told g.L.Link.sent g.L.Link.waiting g.L.Link.faults g.L.Link.receives in
    ran_none g.K.Keeper.content g.K.Keeper.faults c.args.turns.policy (extension_told g.W.Extension.owns g.W.Extension.replies) g.K.Keeper.follows
    g.K.Keeper.leaves c.args.boot.longest c.args.turns.most c.args.boot.now c.args.boot.keeper
    c.not_booted.result.end c.not_booted.result.left (clock_of c.args.clock.now) (link_of c.args.link.now) c.in-Err.fault c.boot.result c.in-Err.is
    c.boot.ensures.boots c.boot.ensures.follows c.boot.ensures.leaves c.not_booted.ensures.why c.not_booted.ensures.keeper c.not_booted.ensures.settled

pub returns-in-Ok-clause-follows : goal.returns-in-Ok-clause-follows
returns-in-Ok-clause-follows g c =
    let ended = c.take_turns-ended.new.node.server.keeper in
    g.met.K.Keeper.follows_on _ _ _ (subst (λ r. g.K.Keeper.follows c.args.boot.keeper
    (keeper_in r)) c.in-Ok.is c.boot.ensures.follows)
    (subst (λ k. g.K.Keeper.follows c.in-Ok.server.keeper k) (sym c.into_keeper.ensures)
    (subst (λ s. g.K.Keeper.follows s.keeper ended) c.new-node.ensures.server c.take_turns-ended.ensures.follows))

pub returns-in-Err-clause-follows : goal.returns-in-Err-clause-follows
returns-in-Err-clause-follows g c =
    subst (λ k. g.K.Keeper.follows c.args.boot.keeper k) (sym c.not_booted.ensures.keeper)
    (subst (λ r. g.K.Keeper.follows c.args.boot.keeper (keeper_in r)) c.in-Err.is c.boot.ensures.follows)
