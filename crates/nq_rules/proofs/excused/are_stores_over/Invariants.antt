use Rattle.std.proofs.Common.{◌≡◌, reverse, take}
use Rattle.nq_model.specs.laws.JournalTest.{each}
use Rattle.nq_model.specs.laws.CutOffTest.{is_store_over}
use Rattle.nq_rules.proofs.excused.are_stores_over.Given as goal

abbrev pub invariant-loop-entry : goal.invariant-loop-entry
invariant-loop-entry l = l.all ≡ each (is_store_over l.by l.on l.at) (reverse (take l.entry-index l.before))
