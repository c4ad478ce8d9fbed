use Rattle.std.proofs.Common.{sym, ap, ◌∙◌}
use Rattle.nq_model.specs.protocol.Kept.{find_name}
use Rattle.nq_model.specs.protocol.Message.{reply}
use Rattle.nq_model.specs.protocol.Server.{says}
use Rattle.nq_model.specs.protocol.ServerStep.{look_up}
use Rattle.nq_server.proofs.AnsweredSteps.{takes-answered, look-up-says}
use Rattle.nq_server.specs.Answering.{looked_up}
use Rattle.nq_server.specs.State.{server_of}
use Rattle.nq_server.proofs.looking.look_up.Goals as goal

pub returns-clause-takes : goal.returns-clause-takes
returns-clause-takes g c =
    λ held log.
    takes-answered c.args.who.host (reply c.args.xid c.looked_up-said.result) c.answer.result (λ kept. look_up (server_of held kept) c.args.who
    c.args.xid (find_name c.args.name.now kept.files)) (g.K.Keeper.content c.args.keeper.now) _ _ _ held c.args.out.now _ log
    c.in_ok-found.ensures.reads.0 c.in_ok-found.ensures.reads.1 c.answer.ensures
    (λ kept told.
    look-up-says (server_of held kept) c.args.who c.args.xid (find_name c.args.name.now kept.files)
    ∙ ap (λ row. says (server_of held kept) c.args.who.host (reply c.args.xid (looked_up c.args.who row))) (sym (c.in_ok-found.ensures.told kept told))
    ∙ ap (λ answer. says (server_of held kept) c.args.who.host (reply c.args.xid answer)) (sym c.looked_up-said.ensures))
