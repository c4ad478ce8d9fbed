use Rattle.std.proofs.Common.{sym, ap, ◌∙◌}
use Rattle.nq_model.specs.protocol.Kept.{find_file}
use Rattle.nq_model.specs.protocol.Message.{reply}
use Rattle.nq_model.specs.protocol.Server.{says}
use Rattle.nq_model.specs.protocol.ServerStep.{get_attr}
use Rattle.nq_server.proofs.AnsweredSteps.{takes-answered, get-attr-says}
use Rattle.nq_server.specs.Answering.{attributes}
use Rattle.nq_server.specs.State.{server_of}
use Rattle.nq_server.proofs.looking.get_attr.Goals as goal

pub returns-clause-takes : goal.returns-clause-takes
returns-clause-takes g c =
    λ held log.
    takes-answered c.args.who.host (reply c.args.xid c.attributes-said.result) c.answer.result (λ kept. get_attr (server_of held kept) c.args.who
    c.args.xid (find_file c.args.file kept.files)) (g.K.Keeper.content c.args.keeper.now) _ _ _ held c.args.out.now _ log
    c.in_ok-found.ensures.reads.0 c.in_ok-found.ensures.reads.1 c.answer.ensures
    (λ kept told.
    get-attr-says (server_of held kept) c.args.who c.args.xid (find_file c.args.file kept.files)
    ∙ ap (λ row. says (server_of held kept) c.args.who.host (reply c.args.xid (attributes c.args.who row))) (sym (c.in_ok-found.ensures.told kept told))
    ∙ ap (λ answer. says (server_of held kept) c.args.who.host (reply c.args.xid answer)) (sym c.attributes-said.ensures))
