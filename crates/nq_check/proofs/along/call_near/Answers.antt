use Rattle.std.proofs.Common.{◌∙◌, sym}
use Rattle.nq_check.proofs.Followed.{told_near}
use Rattle.nq_check.proofs.along.call_near.Goals as goal

pub returns-then-is_some : goal.returns-then-is_some
returns-then-is_some c =
    told_near c.args.by.now c.args.n c.args.whole.now c.args.place c.call_before-call.result c.requires.within c.call_before-call.ensures
    (sym c.is_some.ensures ∙ c.if-is_some.true)
