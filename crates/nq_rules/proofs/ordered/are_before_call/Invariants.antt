use Rattle.std.proofs.Common.{◌≡◌, reverse, take}
use Rattle.nq_model.specs.laws.JournalTest.{exists, is_call, throughout}
use Rattle.nq_model.specs.laws.OrderedTest.{is_before_call}
use Rattle.nq_rules.proofs.ordered.are_before_call.Given as goal

abbrev pub invariant-loop-place : goal.invariant-loop-place
invariant-loop-place l =
    (l.called ≡ exists (is_call l.by l.n) (reverse (take l.place l.before)))
    × (l.all ≡ throughout (is_before_call l.by l.n) (reverse (take l.place l.before)))
