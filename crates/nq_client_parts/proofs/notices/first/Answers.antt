use Rattle.std.proofs.Common.{◌≡◌, Some, sym, ap, ◌∙◌}
use Rattle.std.specs.List.{slice_get}
use Rattle.nq_client_parts.proofs.NoticeList.{first-least}
use Rattle.nq_client_parts.proofs.notices.first.Goals as goal

pub returns-in-Some : goal.returns-in-Some
returns-in-Some c =
    let got : slice_get c.args.notices.now 0 ≡ Some c.in-Some.notice.now = sym c.in-Some.ensures.value in
    ap Some c.file.ensures ∙ sym (first-least c.args.notices.now c.in-Some.notice.now c.requires got)
