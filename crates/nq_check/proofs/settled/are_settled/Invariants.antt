use Rattle.std.proofs.Common.{◌≡◌, ◌≤◌, reverse, take, true}
use Rattle.nq_model.specs.laws.JournalTest.{each}
use Rattle.nq_check.proofs.Delayed.{settles}
use Rattle.nq_check.proofs.settled.are_settled.Given as goal

abbrev pub invariant-loop-at : goal.invariant-loop-at
invariant-loop-at l =
    (l.at ≤ l.these.place)
    × (each (settles (reverse l.linked.whole.now) (reverse l.stores) (reverse (take l.these.place l.linked.whole.now)) l.these.who.now l.these.file)
    (reverse (take l.at l.linked.whole.now)) ≡ true
    → each (settles (reverse l.linked.whole.now) (reverse l.stores) (reverse (take l.these.place l.linked.whole.now)) l.these.who.now l.these.file)
    (reverse (take l.these.place l.linked.whole.now)) ≡ true)

abbrev pub decreases-loop-at : goal.decreases-loop-at
decreases-loop-at l = l.at
