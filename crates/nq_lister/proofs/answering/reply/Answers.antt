use Rattle.std.proofs.Common.{◌≡◌, rules, subst, sym}
use Rattle.std.specs.Prelude.{IfOk}
use Rattle.nq_directory.specs.Messages.{answer_bytes}
use Rattle.nq_lister.proofs.Telling.{tells_page}
use Rattle.nq_model.specs.protocol.Server.{serving}
use Rattle.nq_lister.proofs.answering.reply.Goals as goal

pub returns-then-is_serving-clause-told : goal.returns-then-is_serving-clause-told
returns-then-is_serving-clause-told g c = λ kept is.
    let phase : c.args.server.now.beside.phase ≡ serving = search rules in
    subst (λ a. IfOk c.page_reply.result (λ v. v.items ≡ answer_bytes c.args.request.now.xid c.args.request.now.who.inc a))
    (sym (tells_page c.args.server.now.beside.phase kept.files c.args.request.now phase)) (c.page_reply.ensures.told kept is)
