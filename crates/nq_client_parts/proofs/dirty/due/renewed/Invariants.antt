use Rattle.std.proofs.Common.{◌≡◌, drop, map}
use Rattle.nq_client_parts.specs.ByFile.{Ascends}
use Rattle.nq_client_parts.specs.Leases.{lease_in, file_of_row}
use Rattle.nq_model.specs.protocol.Send.{renewed_in}
use Rattle.nq_client_parts.proofs.dirty.due.renewed.Given as goal

abbrev pub invariant-loop-row : goal.invariant-loop-row
invariant-loop-row l = record {
  ascends : Ascends file_of_row (drop l.row-index l.rows);
  same : renewed_in l.now (map lease_in (drop l.row-index l.rows)) l.notices.items l.dirty.dirty l.dirty.push ≡ renewed_in l.now (map lease_in l.rows)
      l.notices.items l.dirty.dirty l.dirty.push;
}
