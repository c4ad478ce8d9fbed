use Rattle.std.proofs.Common.{◌≡◌, false, reverse, take}
use Rattle.nq_model.specs.laws.JournalTest.{exists}
use Rattle.nq_rules.specs.Sought.{passes}
use Rattle.nq_rules.proofs.sought.is_among.Given as goal

abbrev pub invariant-loop-entry : goal.invariant-loop-entry
invariant-loop-entry l = exists (passes l.sought) (reverse (take l.entry-index l.entries)) ≡ false
