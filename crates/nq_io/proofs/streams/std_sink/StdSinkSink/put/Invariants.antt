use Rattle.std.proofs.Common.{◌≡◌, ◌≤◌, ◌-◌, length, take}
use Rattle.std.specs.Io.KnownBytes.{Appends}
use Rattle.nq_io.specs.Told.{with_end}
use Rattle.nq_io.specs.Known.{told_where}
use Rattle.nq_io.proofs.streams.std_sink.StdSinkSink.put.Given as goal

abbrev pub invariant-loop-written : goal.invariant-loop-written
invariant-loop-written g l = record {
  faults : l.self.faults ≡ l.fn.self.faults;
  tells : l.self.tells ≡ l.fn.self.tells;
  within : l.written ≤ length l.bytes;
  appended : Appends (g.W.Write.contents l.fn.self.writer) (g.W.Write.contents l.self.writer) (take l.written l.bytes);
  told : told_where l.self.tells (g.W.Write.contents l.self.writer) ≡ with_end (told_where l.fn.self.tells (g.W.Write.contents l.fn.self.writer))
      (take l.written l.bytes);
}

abbrev pub decreases-loop-written : goal.decreases-loop-written
decreases-loop-written g l = length l.bytes - l.written
