use Rattle.std.proofs.Common.{inr}
use Rattle.nqnfsd.proofs.serving.serve_disk.Goals as goal

pub returns-in-Err : goal.returns-in-Err
returns-in-Err g c = record {
  ends = inr (record {
    fault = c.in-Err.fault;
    refuses = c.in-Err.ensures.refuses;
    back = c.tell_fault.ensures.disk;
    so = c.tell_fault.ensures.end;
  });
}
