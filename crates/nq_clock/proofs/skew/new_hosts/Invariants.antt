use Rattle.std.proofs.Common.{◌≡◌, ◌≤◌}
use Rattle.std.specs.Prelude.{replicate, vec_capacity}
use Rattle.nq_clock.specs.Counts.{no_counts}
use Rattle.nq_clock.proofs.skew.new_hosts.Given as goal

abbrev pub invariant-loop : goal.invariant-loop
invariant-loop l = (l.hosts.items ≡ replicate l.counter no_counts) × (l.count ≤ vec_capacity l.hosts)
