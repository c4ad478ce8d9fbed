use Rattle.std.proofs.Common.{sym, ◌∙◌}
use Rattle.nq_model.specs.laws.ReportedTest.{is_name_of}
use Rattle.nq_rules.proofs.Places.{any_past}
use Rattle.nq_rules.proofs.named.are_names_of.Goals as goal

pub loop-place-preserved : goal.loop-place-preserved
loop-place-preserved c =
    c.loop-place.invariant ∙ any_past (is_name_of c.args.loss.now) c.args.spans.now.items c.loop-place.place c.span_at-span.result
    c.span_at-span.ensures (sym c.is_name_of.ensures ∙ c.if-is_name_of.false)
