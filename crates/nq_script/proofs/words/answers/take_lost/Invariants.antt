use Rattle.std.proofs.Common.{◌≡◌, length}
use Rattle.nq_script.specs.ReadingAnswers.{spans_of}
use Rattle.nq_script.proofs.SpanWords.{with_spans}
use Rattle.nq_script.proofs.words.answers.take_lost.Given as goal

abbrev pub invariant-loop-word : goal.invariant-loop-word
invariant-loop-word l = with_spans l.spans.items (spans_of l.words) ≡ spans_of l.fn.words

abbrev pub decreases-loop-word : goal.decreases-loop-word
decreases-loop-word l = length l.words
