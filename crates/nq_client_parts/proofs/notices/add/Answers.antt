use Rattle.std.proofs.Common.{sym, subst, ◌∙◌}
use Rattle.nq_client_parts.specs.ByFile.{Ascends, IsPlace}
use Rattle.nq_client_parts.proofs.NoticeList.{added}
use Rattle.nq_model.specs.protocol.Client.{file_of_notice}
use Rattle.nq_client_parts.proofs.notices.add.Goals as goal

pub returns-clause-items : goal.returns-clause-items
returns-clause-items c =
    let at : IsPlace file_of_notice c.args.notice.file c.args.notices.now.items c.place_of-place.result =
    subst (λ f. IsPlace file_of_notice f c.args.notices.now.items c.place_of-place.result) c.file.ensures
    (subst (λ ks. IsPlace file_of_notice c.file.result ks c.place_of-place.result) c.deref.ensures.value c.place_of-place.ensures) in
    c.insert.ensures.items ∙ (added c.args.notice c.place_of-place.result c.args.notices.now.items c.requires.ascends at c.requires.absent).0

pub returns-clause-ascends : goal.returns-clause-ascends
returns-clause-ascends c =
    let at : IsPlace file_of_notice c.args.notice.file c.args.notices.now.items c.place_of-place.result =
    subst (λ f. IsPlace file_of_notice f c.args.notices.now.items c.place_of-place.result) c.file.ensures
    (subst (λ ks. IsPlace file_of_notice c.file.result ks c.place_of-place.result) c.deref.ensures.value c.place_of-place.ensures) in
    subst (Ascends file_of_notice) (sym c.insert.ensures.items) (added c.args.notice c.place_of-place.result c.args.notices.now.items
    c.requires.ascends at c.requires.absent).1
