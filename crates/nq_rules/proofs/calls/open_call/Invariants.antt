use Rattle.std.proofs.Common.{◌≡◌, reverse, take}
use Rattle.nq_model.specs.laws.OrderedTest.{open_call}
use Rattle.nq_rules.proofs.calls.open_call.Given as goal

abbrev pub invariant-loop-place : goal.invariant-loop-place
invariant-loop-place l = l.found ≡ open_call (reverse l.before) l.by (reverse (take l.place l.before))
