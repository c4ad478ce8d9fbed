use Rattle.std.proofs.Common.{reverse, sym, ◌∙◌}
use Rattle.nq_rules.proofs.NameLosses.{names_one, names_again}
use Rattle.nq_rules.proofs.named.name_losses.Goals as goal

pub returns-then-comes_again : goal.returns-then-comes_again
returns-then-comes_again c =
    sym (c.loop-place.invariant
    ∙ names_again (reverse c.args.whole.now) (reverse c.args.before.now) c.args.by.now c.args.call.now c.args.spans.now.items c.loop-place.place
    c.span_at-span.result c.span_at-span.ensures (sym c.has_unnamed-is_first.ensures ∙ c.if-not-is_first.false)
    (sym c.comes_again.ensures ∙ c.if-comes_again.true))

pub loop-place-preserved : goal.loop-place-preserved
loop-place-preserved c =
    c.loop-place.invariant
    ∙ names_one (reverse c.args.whole.now) (reverse c.args.before.now) c.args.by.now c.args.call.now c.args.spans.now.items c.loop-place.place
    c.span_at-span.result c.span_at-span.ensures (sym c.has_unnamed-is_first.ensures ∙ c.if-not-is_first.false)
    (sym c.comes_again.ensures ∙ c.if-comes_again.false)
