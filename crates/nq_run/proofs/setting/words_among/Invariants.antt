use Rattle.std.proofs.Common.{◌≡◌, map, take, string_bytes}
use Rattle.nq_run.proofs.setting.words_among.Given as goal

abbrev pub invariant-loop-word : goal.invariant-loop-word
invariant-loop-word l = l.words ≡ map (λ word. string_bytes word) (take l.word-index l.said)
