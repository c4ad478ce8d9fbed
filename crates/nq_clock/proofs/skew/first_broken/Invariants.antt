use Rattle.std.proofs.Common.{◌≡◌, drop}
use Rattle.nq_clock.specs.Counts.{first_broken}
use Rattle.nq_clock.proofs.skew.first_broken.Given as goal

abbrev pub invariant-loop-host : goal.invariant-loop-host
invariant-loop-host l = first_broken 0 l.hosts ≡ first_broken l.host (drop l.host l.hosts)
