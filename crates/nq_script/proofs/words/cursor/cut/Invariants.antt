use Rattle.std.proofs.Common.{◌≡◌, take, drop}
use Rattle.nq_script.specs.WordsReading.{cut, with_front}
use Rattle.nq_script.proofs.words.cursor.cut.Given as goal

abbrev pub invariant-loop-place : goal.invariant-loop-place
invariant-loop-place l = with_front (take l.place l.bytes) (cut l.stop (drop l.place l.bytes)) ≡ cut l.stop l.bytes
