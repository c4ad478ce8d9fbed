use Rattle.std.proofs.Common.{◌≡◌, ◌≤◌, ◌-◌, length, drop}
use Rattle.nq_disk.proofs.file_disk.read_from.Given as goal

abbrev pub invariant-loop-count : goal.invariant-loop-count
invariant-loop-count l = record {
  within : l.count ≤ length l.into;
  rest : drop l.count l.into ≡ drop l.count l.fn.into;
  long : length l.into
      ≡ length l.fn.into;
}

abbrev pub decreases-loop-count : goal.decreases-loop-count
decreases-loop-count l = length l.into - l.count
