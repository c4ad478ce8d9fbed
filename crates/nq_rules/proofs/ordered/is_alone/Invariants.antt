use Rattle.std.proofs.Common.{◌≡◌, reverse, take}
use Rattle.nq_model.specs.laws.JournalTest.{each}
use Rattle.nq_model.specs.laws.OrderedTest.{is_no_other}
use Rattle.nq_rules.proofs.ordered.is_alone.Given as goal

abbrev pub invariant-loop-place : goal.invariant-loop-place
invariant-loop-place l = l.all ≡ each (is_no_other (reverse l.before) l.by l.n) (reverse (take l.place l.before))
