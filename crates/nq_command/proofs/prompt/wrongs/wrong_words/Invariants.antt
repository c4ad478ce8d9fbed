use Rattle.std.proofs.Common.{◌≡◌, drop}
use Rattle.nq_command.specs.Wrongs.{wrong_words}
use Rattle.nq_command.proofs.prompt.wrongs.wrong_words.Given as goal

abbrev pub invariant-loop-field : goal.invariant-loop-field
invariant-loop-field l = wrong_words l.fn.fields l.fn.words ≡ wrong_words (drop l.field-index l.fields) l.words
