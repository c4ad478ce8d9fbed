use Rattle.std.proofs.Common.{◌<◌, length, arith, sym}
use Rattle.nq_script.proofs.SpanWords.{one_more, fit_more, within_has}
use Rattle.nq_script.proofs.words.writing.push_spans.Goals as goal
use Rattle.nq_script.proofs.words.writing.push_spans.Goals.{in-Some+in_ok-push_span, in_default}

pub loop-place-preserved : goal.loop-place-preserved
loop-place-preserved c = elim c.match-get.branch [
  | in-Some+in_ok-push_span w ↦
      let found = sym w.in-Some.ensures in
      let known = c.loop-place.invariant in
      rw w.out-is
      record {
        written = one_more _ _ _ _ _ _ found known.written w.in_ok-push_span.ensures.written;
        fits = fit_more _ _ _ found known.fits w.in_ok-push_span.ensures.fits;
      }
  | in_default w ↦
      let spans = c.args.spans.now.items in
      let within : c.loop-place.place < length spans = omega (arith, c.loop-place-test.true) in
      absurd (within_has spans c.loop-place.place within (sym w.in_default.ensures))
]
