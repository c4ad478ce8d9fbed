use Rattle.std.proofs.Common.{refl, sym, ◌∙◌}
use Rattle.nq_script.specs.ReadingAnswers.{lost_at}
use Rattle.nq_script.proofs.SpanWords.{spans_none, spans_more, spans_end}
use Rattle.nq_script.proofs.words.answers.take_lost.Goals as goal

pub returns-in_default-span_of : goal.returns-in_default-span_of
unfolding lost_at
returns-in_default-span_of c =
    let none = sym c.loop-word.invariant ∙ spans_none _ _ _ c.loop-word.spans.items c.in-Some.ensures.step c.in_default-span_of.ensures in
    rw none refl

pub loop-word-preserved : goal.loop-word-preserved
loop-word-preserved c =
    let items = c.loop-word.spans.items in
    rw c.in_ok-push.ensures.ok
    (sym (spans_more _ _ _ items c.in-Some-span_of.span c.in-Some.ensures.step c.in-Some-span_of.ensures) ∙ c.loop-word.invariant)

pub returns : goal.returns
unfolding lost_at
returns c =
    let all = sym c.loop-word.invariant ∙ spans_end c.loop-word.words c.loop-word.spans.items c.in_default.ensures.step in
    let done = c.in_default.ensures.done refl in
    rw (all, done) refl
