use Rattle.std.proofs.Common.{◌≡◌, ◌<◌, ◌+◌, ◌%◌, ◌++◌, All, drop, length, map}
use Rattle.nq_datagrams.specs.Sent.{FitsPacket, sent}
use Rattle.nq_lease.specs.Telling.{Grows, told_among}
use Rattle.nq_model.specs.protocol.Profile.{xid_end}
use Rattle.nq_model.specs.protocol.Server.{notices}
use Rattle.nq_lease.proofs.evict.notifying.tell_among.Given as goal

abbrev pub invariant-loop-row : goal.invariant-loop-row
invariant-loop-row l = record {
  first : l.out.first ≡ l.fn.out.first;
  grows : Grows l.fn.out.datagrams l.out.datagrams;
  told : l.fn.out.datagrams ++ map sent (notices l.fn.xid (told_among l.file l.host l.access l.rows)) ≡ l.out.datagrams
      ++ map sent (notices l.number (told_among l.file l.host l.access (drop l.row-index l.rows)));
  fit : All FitsPacket (notices l.number (told_among l.file l.host l.access (drop l.row-index l.rows)))
      → All FitsPacket (notices l.fn.xid (told_among l.file l.host l.access l.rows));
  counted : (l.fn.xid + length (told_among l.file l.host l.access l.rows)) % xid_end
      ≡ (l.number + length (told_among l.file l.host l.access (drop l.row-index l.rows))) % xid_end;
  small : l.number < xid_end;
}
