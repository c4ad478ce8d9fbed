use Rattle.std.proofs.Common.{◌≡◌, reverse, take}
use Rattle.nq_model.specs.laws.JournalTest.{exists}
use Rattle.nq_model.specs.laws.OrderedTest.{is_open_call}
use Rattle.nq_rules.proofs.calls.has_open.Given as goal

abbrev pub invariant-loop-place : goal.invariant-loop-place
invariant-loop-place l = l.found ≡ exists (is_open_call (reverse l.before) l.by) (reverse (take l.place l.before))
