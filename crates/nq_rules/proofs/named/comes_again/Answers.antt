use Rattle.std.proofs.Common.{sym, ◌∙◌}
use Rattle.nq_model.specs.laws.ReportedTest.{is_same_span}
use Rattle.nq_rules.proofs.Places.{any_past}
use Rattle.nq_rules.proofs.named.comes_again.Goals as goal

pub loop-place-preserved : goal.loop-place-preserved
loop-place-preserved c =
    c.loop-place.invariant ∙ any_past (is_same_span c.args.span.now) c.args.spans.now.items c.loop-place.place c.span_at-other.result
    c.span_at-other.ensures (sym c.is_same_span.ensures ∙ c.if-is_same_span.false)
