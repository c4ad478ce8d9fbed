use Rattle.std.proofs.Common.{◌≡◌, ◌+◌, ◌*◌, ◌++◌, length, ◌-◌}
use Rattle.nq_image.specs.Check.{tested}
use Rattle.nq_image.specs.Hosts.{hosts_checks, hosts_of}
use Rattle.nq_image.proofs.hosts.read_hosts.Given as goal

abbrev pub invariant-loop : goal.invariant-loop
invariant-loop l = record {
  size : length l.rest ≡ 32 * (l.fn.count - l.counter);
  at : l.at ≡ l.fn.place + 32 * l.counter;
  same : tested (hosts_checks (l.fn.count - l.counter) l.at l.rest) (l.hosts.items ++ hosts_of (l.fn.count - l.counter) l.rest)
      ≡ tested (hosts_checks l.fn.count l.fn.place l.fn.rows) (hosts_of l.fn.count l.fn.rows);
}
