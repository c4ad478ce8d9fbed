use Rattle.std.proofs.Common.{◌≡◌, ◌<◌, ◌++◌, drop, length}
use Rattle.nq_lease.specs.Telling.{Grows}
use Rattle.nq_model.specs.protocol.Profile.{xid_end}
use Rattle.nq_name_server.specs.Sending.{all_sent}
use Rattle.nq_name_server.specs.Serving.{notice_after, notices, readers}
use Rattle.nq_name_server.proofs.notifying.tell_among.Given as goal

abbrev pub invariant-loop-row : goal.invariant-loop-row
invariant-loop-row l = record {
  first : l.out.first ≡ l.fn.out.first;
  grows : Grows l.fn.out.datagrams l.out.datagrams;
  told : l.fn.out.datagrams ++ all_sent (notices l.prefix l.xid (readers l.number l.host l.rows)) ≡ l.out.datagrams
      ++ all_sent (notices l.prefix l.next (readers l.number l.host (drop l.row-index l.rows)));
  counted : notice_after l.xid (length (readers l.number l.host l.rows)) ≡ notice_after l.next (length (readers l.number l.host (drop l.row-index l.rows)));
  small : l.next < xid_end;
}
