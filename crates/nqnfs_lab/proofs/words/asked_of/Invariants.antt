use denote.Text.{Utf8}
use denote.Shadow.{shadow}
use Rattle.nqnfs_lab.proofs.words.asked_of.Given as goal

-- the folder is text
abbrev pub invariant-loop-word : goal.invariant-loop-word
invariant-loop-word l = shadow (Utf8 l.web)
