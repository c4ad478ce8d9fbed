use Rattle.std.proofs.Common.{◌≡◌, ◌≤◌, reverse, take}
use Rattle.std.specs.Option.{option_or}
use Rattle.nq_model.specs.laws.Journal.{call_of}
use Rattle.nq_check.proofs.along.call_before.Given as goal

abbrev pub invariant-loop-at : goal.invariant-loop-at
invariant-loop-at l =
    (l.at ≤ l.place) × (call_of (reverse (take l.place l.whole)) l.by l.n ≡ option_or (call_of (reverse (take l.at l.whole)) l.by l.n) l.call)

abbrev pub decreases-loop-at : goal.decreases-loop-at
decreases-loop-at l = l.at
