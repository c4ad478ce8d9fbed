use Rattle.std.proofs.Common.{◌++◌, All, take}
use Rattle.std.specs.List.{flat_map}
use Rattle.nq_journal.specs.Text.{Fits, head_line, entry_line}
use Rattle.nq_journal.proofs.Pieces.{IsGiven}
use Rattle.nq_journal.proofs.printing.print.Given as goal

abbrev pub invariant-loop-entry : goal.invariant-loop-entry
invariant-loop-entry g l = record {
  given :
      IsGiven (g.K.Sink.held l.fn.out) (g.K.Sink.held l.out) (g.K.Sink.faults l.fn.out) (g.K.Sink.faults l.out) l.text.items
      (head_line l.version ++ flat_map (entry_line l.version) (take l.entry-index l.entry-items));
  fits : All Fits (take l.entry-index l.entry-items);
}
