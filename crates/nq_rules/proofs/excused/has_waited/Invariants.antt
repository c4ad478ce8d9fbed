use Rattle.std.proofs.Common.{◌≡◌, reverse, take}
use Rattle.nq_model.specs.laws.JournalTest.{exists}
use Rattle.nq_model.specs.laws.CutOffTest.{is_long_wait}
use Rattle.nq_rules.specs.Grants.{given}
use Rattle.nq_rules.proofs.excused.has_waited.Given as goal

abbrev pub invariant-loop-entry : goal.invariant-loop-entry
invariant-loop-entry l = l.found ≡ exists (is_long_wait l.boot l.at (given l.grant)) (reverse (take l.entry-index l.before))
