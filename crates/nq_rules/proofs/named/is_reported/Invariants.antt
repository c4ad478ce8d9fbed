use Rattle.std.proofs.Common.{◌≡◌, reverse, take, drop}
use Rattle.nq_rules.specs.Named.{is_reported}
use Rattle.nq_rules.proofs.named.is_reported.Given as goal

abbrev pub invariant-loop-place : goal.invariant-loop-place
invariant-loop-place l =
    is_reported (reverse l.whole) (reverse (take l.from l.whole)) l.by l.loss (drop l.from l.whole) ≡ is_reported (reverse l.whole)
    (reverse (take l.place l.whole)) l.by l.loss (drop l.place l.whole)
