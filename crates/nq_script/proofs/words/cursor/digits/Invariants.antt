use Rattle.std.proofs.Common.{◌≡◌, drop}
use Rattle.nq_script.specs.WordsReading.{digits_after}
use Rattle.nq_script.proofs.words.cursor.digits.Given as goal

abbrev pub invariant-loop-byte : goal.invariant-loop-byte
invariant-loop-byte l = digits_after l.number (drop l.byte-index l.word) ≡ digits_after 0 l.word
