use Rattle.std.proofs.Common.{◌≤◌, ◌-◌, ◌^◌, length}
use Rattle.nq_book.specs.Texts.{ReadsOn, StopsOn}
use Rattle.nq_book.specs.declared.texts.BadLine.{BadLine}
use Rattle.nq_udp.specs.Book.{Listed, empty_book}
use Rattle.nq_book.proofs.texts.book_in.Given as goal

abbrev pub invariant-loop-line : goal.invariant-loop-line
invariant-loop-line l = record {
  reads : (end : Listed) → ReadsOn l.rest l.book end → ReadsOn l.text empty_book end;
  stops : (bad : BadLine) → StopsOn l.rest l.book l.number bad → StopsOn l.text empty_book 1 bad;
  bound : l.number ≤ 2 ^ 32 - 1;
}

abbrev pub decreases-loop-line : goal.decreases-loop-line
decreases-loop-line l = length l.rest
