use Rattle.std.proofs.Common.{sym, ap, ◌∙◌}
use Rattle.nq_keeper.proofs.Leaving.{one-of}
use Rattle.nq_model.specs.protocol.Kept.{host_row}
use Rattle.nq_model.specs.protocol.ServerStep.{admit, not_attached, perform}
use Rattle.nq_server.proofs.AdmittedSteps.{admits-old, admits-new, admits-same, stranger-keeps}
use Rattle.nq_server.proofs.LeasedSteps.{takes-does}
use Rattle.nq_server.proofs.TakenSteps.{takes-after, takes-dropped}
use Rattle.nq_server.specs.declared.received.Reason.TheVariants as reason
use Rattle.nq_server.specs.State.{beside_of, server_of}
use Rattle.nq_server.specs.Stepping.{next_of}
use Rattle.nq_server.proofs.requests.admit.Goals as goal

pub returns-then-is_older-clause-takes : goal.returns-then-is_older-clause-takes
returns-then-is_older-clause-takes g c =
    takes-dropped reason.OldIncarnation (λ kept. admit (server_of (beside_of c.args.state.now) kept) c.args.caller.who c.args.caller.xid
    (next_of c.args.out.now) c.args.request.now (host_row kept c.args.caller.who.host)) (g.K.Keeper.content c.args.keeper.now) _ _ _
    (beside_of c.args.state.now) c.args.out.now c.args.log.now c.in_ok-line.ensures.reads.0 c.in_ok-line.ensures.reads.1
    (λ kept told.
    ap (admit (server_of (beside_of c.args.state.now) kept) c.args.caller.who c.args.caller.xid (next_of c.args.out.now) c.args.request.now)
    (sym (c.in_ok-line.ensures.told kept told))
    ∙ admits-old (server_of (beside_of c.args.state.now) kept) c.args.caller.who c.args.caller.xid (next_of c.args.out.now) c.args.request.now
    c.in_ok-line.line c.requires.other (sym c.is_older.ensures ∙ c.if-is_older.true))

pub returns-then-is_newer-clause-takes : goal.returns-then-is_newer-clause-takes
returns-then-is_newer-clause-takes g c =
    takes-does (λ kept. admit (server_of (beside_of c.args.state.now) kept) c.args.caller.who c.args.caller.xid (next_of c.args.out.now)
    c.args.request.now (host_row kept c.args.caller.who.host)) (λ kept. not_attached (server_of (beside_of c.args.state.now) kept)
    c.args.caller.who c.args.caller.xid c.args.request.now) c.not_attached.result (g.K.Keeper.content c.args.keeper.now) _ _ _
    (beside_of c.args.state.now) (beside_of c.args.state.now) c.args.out.now c.not_attached.new.out c.args.log.now c.args.log.now
    c.in_ok-line.ensures.reads.0 c.in_ok-line.ensures.reads.1
    (λ kept. c.not_attached.ensures (beside_of c.args.state.now) kept c.args.log.now)
    (λ kept told.
    ap (admit (server_of (beside_of c.args.state.now) kept) c.args.caller.who c.args.caller.xid (next_of c.args.out.now) c.args.request.now)
    (sym (c.in_ok-line.ensures.told kept told))
    ∙ admits-new (server_of (beside_of c.args.state.now) kept) c.args.caller.who c.args.caller.xid (next_of c.args.out.now) c.args.request.now
    c.in_ok-line.line c.requires.other (sym c.is_older.ensures ∙ c.if-is_older.false) (sym c.is_newer.ensures ∙ c.if-is_newer.true))
    (λ kept. stranger-keeps (server_of (beside_of c.args.state.now) kept) c.args.caller.who c.args.caller.xid c.args.request.now)

pub returns-clause-takes : goal.returns-clause-takes
returns-clause-takes g c =
    takes-after (λ kept. admit (server_of (beside_of c.args.state.now) kept) c.args.caller.who c.args.caller.xid (next_of c.args.out.now)
    c.args.request.now (host_row kept c.args.caller.who.host)) (λ kept. perform (server_of (beside_of c.args.state.now) kept) c.args.caller.who
    c.args.caller.xid (next_of c.args.out.now) c.in_ok-line.line c.args.request.now) c.perform.result (g.K.Keeper.content c.args.keeper.now)
    (g.K.Keeper.content c.host.new.self) _ _ _ _ (beside_of c.args.state.now) _ c.args.out.now _ c.args.log.now _ c.in_ok-line.ensures.reads.0
    c.in_ok-line.ensures.reads.1
    (λ kept told.
    ap (admit (server_of (beside_of c.args.state.now) kept) c.args.caller.who c.args.caller.xid (next_of c.args.out.now) c.args.request.now)
    (sym (c.in_ok-line.ensures.told kept told))
    ∙ admits-same (server_of (beside_of c.args.state.now) kept) c.args.caller.who c.args.caller.xid (next_of c.args.out.now) c.args.request.now
    c.in_ok-line.line c.requires.other (sym c.is_older.ensures ∙ c.if-is_older.false) (sym c.is_newer.ensures ∙ c.if-is_newer.false))
    (c.perform.ensures.takes (λ kept. c.in_ok-line.line))

pub returns-clause-leaves : goal.returns-clause-leaves
returns-clause-leaves g c =
    λ kept told found left.
    one-of found kept _ _ (g.met.K.Keeper.parts _ c.host.new.self _ found c.host.ensures.follows c.perform.ensures.follows left)
    (c.host.ensures.leaves kept told found)
    (c.perform.ensures.leaves kept (c.in_ok-line.ensures.reads.0 ∙ told) found)

pub returns-clause-follows : goal.returns-clause-follows
returns-clause-follows g c = g.met.K.Keeper.follows_on _ c.host.new.self _ c.host.ensures.follows c.perform.ensures.follows
