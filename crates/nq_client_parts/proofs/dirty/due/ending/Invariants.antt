use Rattle.std.proofs.Common.{◌≡◌, drop, map}
use Rattle.nq_client_parts.specs.ByFile.{Ascends}
use Rattle.nq_client_parts.specs.Leases.{lease_in, file_of_row}
use Rattle.nq_model.specs.protocol.Send.{ending_in}
use Rattle.nq_client_parts.proofs.dirty.due.ending.Given as goal

abbrev pub invariant-loop-row : goal.invariant-loop-row
invariant-loop-row l = record {
  ascends : Ascends file_of_row (drop l.row-index l.rows);
  same : ending_in l.now (map lease_in (drop l.row-index l.rows)) l.dirty.dirty l.dirty.push ≡ ending_in l.now (map lease_in l.rows) l.dirty.dirty
      l.dirty.push;
}
