use Rattle.std.proofs.Common.{◌≡◌, sym, subst}
use Rattle.nq_model.specs.protocol.Decided.{aside, later_aside}
use Rattle.nq_server.proofs.DecidedSteps.{does-nothing}
use Rattle.nq_server.specs.Deciding.{DoesAside, DoesIfFresh}
use Rattle.nq_server.specs.State.{beside_of, phase_of, server_of}
use Rattle.nq_server.proofs.aside.do_if_fresh.Goals as goal

pub returns-in-Done-clause-does : goal.returns-in-Done-clause-does
returns-in-Done-clause-does c =
    λ kept is counted.
    let held = beside_of c.args.state.now in
    subst (λ d. DoesIfFresh (server_of held kept) c.args.who c.args.request.now d held (beside_of c.done.new.state) c.args.log.now c.done.new.log)
    (sym c.in-Fresh.is)
    (subst (λ v. DoesAside (aside (server_of held kept) c.args.who c.args.request.now v) held (beside_of c.done.new.state) c.args.log.now
    c.done.new.log) (sym c.in-Done.is) (c.done.ensures.does kept is))

pub returns-in-TryLater-clause-does : goal.returns-in-TryLater-clause-does
returns-in-TryLater-clause-does c =
    λ kept is counted.
    let held = beside_of c.args.state.now in
    let phase = phase_of c.args.state.now.phase in
    let by_file = subst (λ file. c.args.notice ≡ (later_aside (server_of held kept) phase c.args.who file).notice
    → DoesAside (later_aside (server_of held kept) phase c.args.who file) held (beside_of c.put_off.new.state) c.args.log.now c.args.log.now)
    c.file_to_change.ensures (c.put_off.ensures.does kept) in
    subst (λ d. DoesIfFresh (server_of held kept) c.args.who c.args.request.now d held (beside_of c.put_off.new.state) c.args.log.now c.args.log.now)
    (sym c.in-Fresh.is)
    (subst (λ v. DoesAside (aside (server_of held kept) c.args.who c.args.request.now v) held (beside_of c.put_off.new.state) c.args.log.now
    c.args.log.now) (sym c.in-TryLater.is) (by_file counted))

pub returns-in_default-clause-does : goal.returns-in_default-clause-does
returns-in_default-clause-does c =
    λ kept is counted.
    let held = beside_of c.args.state.now in
    subst (λ d. DoesIfFresh (server_of held kept) c.args.who c.args.request.now d held held c.args.log.now c.args.log.now) (sym c.in-Fresh.is)
    (does-nothing (server_of held kept) c.args.who c.args.request.now c.in-Fresh.verdict c.args.log.now c.in_default.not-Done c.in_default.not-TryLater)
