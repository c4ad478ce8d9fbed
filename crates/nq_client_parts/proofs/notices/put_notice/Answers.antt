use Rattle.std.proofs.Common.{◌≡◌, sym, ap, ◌∙◌}
use Rattle.nq_client_parts.proofs.NoticeList.{of-file, absent, kept}
use Rattle.nq_model.specs.protocol.Client.{Notice, notice_on, drop_notice}
use Rattle.nq_client_parts.proofs.notices.put_notice.Goals as goal

pub joined-requires : goal.joined-requires
joined-requires c = λ x e. of-file c.file.result c.args.notices.now.items x (sym c.take_notice-waiting.ensures.found ∙ e) ∙ c.file.ensures

pub add-requires-clause-absent : goal.add-requires-clause-absent
add-requires-clause-absent c =
    let same : c.joined.result.file ≡ c.file.result = ap (λ (n : Notice). n.file) c.joined.ensures ∙ sym c.file.ensures in
    ap (λ f. notice_on f c.take_notice-waiting.new.notices.items) same
    ∙ ap (notice_on c.file.result) c.take_notice-waiting.ensures.items
    ∙ absent c.file.result c.args.notices.now.items

pub returns-clause-items : goal.returns-clause-items
returns-clause-items c =
    kept c.args.notice c.joined.result c.take_notice-waiting.result c.args.notices.now.items c.take_notice-waiting.new.notices.items c.add.new.notices.items
    (c.take_notice-waiting.ensures.found ∙ ap (λ f. notice_on f c.args.notices.now.items) c.file.ensures)
    c.joined.ensures
    (c.take_notice-waiting.ensures.items ∙ ap (λ f. drop_notice f c.args.notices.now.items) c.file.ensures)
    c.add.ensures.items
