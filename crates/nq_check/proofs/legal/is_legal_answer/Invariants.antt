use Rattle.std.proofs.Common.{◌≡◌, ◌≤◌, ◌+◌, length, reverse, take}
use Rattle.nq_model.specs.laws.JournalTest.{number_of}
use Rattle.nq_model.specs.laws.LegalTest.{is_counted_with}
use Rattle.nq_check.proofs.legal.is_legal_answer.Given as goal

abbrev pub invariant-loop-at : goal.invariant-loop-at
invariant-loop-at l =
    (l.number + l.at ≤ length l.linked.whole.now)
    × (number_of (is_counted_with (reverse l.linked.whole.now) l.by l.n l.v) (reverse l.linked.whole.now)
    ≡ number_of (is_counted_with (reverse l.linked.whole.now) l.by l.n l.v) (reverse (take l.at l.linked.whole.now)) + l.number)

abbrev pub decreases-loop-at : goal.decreases-loop-at
decreases-loop-at l = l.at
