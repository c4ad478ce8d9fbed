use Rattle.std.proofs.Common.{◌≡◌, [], ◌∷◌, ◌++◌, sym, subst, ◌∙◌}
use Rattle.std.proofs.lemmas.List.Elements.{All-head}
use Rattle.nq_datagrams.specs.Messages.{FitsMessage}
use Rattle.nq_datagrams.specs.Sent.{FitsPacket, sent}
use Rattle.nq_model.specs.protocol.Decided.{decided_step}
use Rattle.nq_model.specs.protocol.Message.{reply}
use Rattle.nq_model.specs.protocol.Server.{to_host}
use Rattle.nq_server.proofs.ConcludedSteps.{concluded, concluded-drop}
use Rattle.nq_server.specs.Deciding.{Concludes, warnings}
use Rattle.nq_server.specs.declared.received.EventTaken.TheVariants as took
use Rattle.nq_server.specs.State.{beside_of, server_of}
use Rattle.nq_server.proofs.deciding.conclude.Goals as goal

pub returns-in_default-clause-makes : goal.returns-in_default-clause-makes
returns-in_default-clause-makes c =
    λ kept before entries ready warns is.
    subst
    (λ reason. Concludes (decided_step (server_of (beside_of c.args.state.now) kept) c.args.caller.who c.args.caller.xid c.args.request.now
    c.args.decided.now) (took.Dropped reason) (beside_of c.args.state.now) before c.keep_warnings.new.out entries c.args.log.now)
    (sym c.drop_reason.ensures)
    (concluded-drop (server_of (beside_of c.args.state.now) kept) c.args.caller.who c.args.caller.xid c.args.request.now c.args.decided.now before
    c.keep_warnings.new.out entries c.args.log.now
    (sym c.answer_to.ensures.is ∙ c.in_default.is)
    (c.keep_warnings.ensures.first ∙ warns.told.first)
    (c.keep_warnings.ensures.kept before.datagrams (warnings (server_of (beside_of c.args.state.now) kept) c.args.caller.who c.args.request.now)
    ready.before warns.told.added)
    ready.entries)

pub returns-clause-makes : goal.returns-clause-makes
returns-clause-makes c =
    λ kept before entries ready warns is.
    concluded (server_of (beside_of c.args.state.now) kept) c.args.caller.who c.args.caller.xid c.args.request.now c.in-Some.said before
    c.keep_warnings.new.out c.end_reply.new.out entries c.args.log.now
    (c.end_reply.ensures.first ∙ c.keep_warnings.ensures.first ∙ warns.told.first)
    (subst (λ xid. c.end_reply.new.out.datagrams ≡ c.keep_warnings.new.out.datagrams
    ++ sent (to_host c.args.caller.who.host (reply xid c.in-Some.said)) ∷ []) c.requires.number c.end_reply.ensures.added)
    ready.entries
    (subst (λ xid. FitsMessage (reply xid c.in-Some.said)) c.requires.number (All-head FitsPacket _ [] c.end_reply.ensures.fit))
    c.args.decided.now
    (beside_of c.do_if_fresh.new.state)
    c.do_if_fresh.new.log
    (sym c.in-Some.ensures.is)
    (c.keep_warnings.ensures.kept before.datagrams (warnings (server_of (beside_of c.args.state.now) kept) c.args.caller.who c.args.request.now)
    ready.before warns.told.added)
    warns.told.fit
    (c.do_if_fresh.ensures.does kept is warns.counted)
