use Rattle.std.proofs.Common.{◌≡◌, take}
use Rattle.std.specs.List.{flat_map}
use Rattle.nq_calling.specs.Losses.{lost_words}
use Rattle.nq_calling.proofs.losses.lost_text.Given as goal

abbrev pub invariant-loop-entry : goal.invariant-loop-entry
invariant-loop-entry l = l.text.items ≡ flat_map lost_words (take l.entry-index l.entry-items)
