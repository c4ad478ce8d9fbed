use Rattle.std.proofs.Common.{◌≡◌, ◌++◌, All, take, map}
use Rattle.std.specs.List.{flat_map}
use Rattle.nq_script.specs.Words.{spaced}
use Rattle.nq_script.specs.Forms.{FitsSpan, span_word}
use Rattle.nq_script.proofs.words.writing.push_spans.Given as goal

abbrev pub invariant-loop-place : goal.invariant-loop-place
invariant-loop-place l = record {
  written : l.out.items ≡ l.fn.out.items ++ flat_map spaced (map span_word (take l.place l.spans.items));
  fits : All FitsSpan (take l.place l.spans.items);
}
