use Rattle.std.proofs.Common.{◌-◌, reverse, sym, ◌∙◌}
use Rattle.nq_model.specs.laws.ReportedTest.{names}
use Rattle.nq_rules.proofs.Places.{exists_there}
use Rattle.nq_check.proofs.settled.is_named_at.Goals as goal

pub returns-in-Some : goal.returns-in-Some
returns-in-Some c =
    λ t. exists_there (names (reverse c.args.linked.now.whole.now) c.args.by.now c.args.loss.now) c.args.answered.now (c.head_at-at.result - 1)
    c.in-Some.entry.now c.in-Some.ensures (sym c.names.ensures ∙ t)
