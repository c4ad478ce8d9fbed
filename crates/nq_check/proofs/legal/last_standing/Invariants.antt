use Rattle.std.proofs.Common.{◌≤◌, reverse, take}
use Rattle.nq_model.specs.laws.StandsTest.{stands}
use Rattle.nq_check.specs.Tables.{NoneBetween}
use Rattle.nq_check.proofs.legal.last_standing.Given as goal

abbrev pub invariant-loop-at : goal.invariant-loop-at
invariant-loop-at l =
    (l.at ≤ l.place)
    × NoneBetween (stands (reverse l.linked.whole.now) (reverse (take l.place l.linked.whole.now)) l.read.who.now l.read.file l.read.block)
    l.linked.whole.now l.at l.place

abbrev pub decreases-loop-at : goal.decreases-loop-at
decreases-loop-at l = l.at
