use Rattle.std.proofs.Common.{◌≡◌, ◌+◌, ◌++◌, length}
use Rattle.nq_journal.specs.Parsing.{AreEntries, named}
use Rattle.nq_journal.proofs.Tails.{lines}
use Rattle.nq_journal.proofs.parsing.parse_rest.Given as goal

abbrev pub invariant-loop-line : goal.invariant-loop-line
invariant-loop-line l = record {
  are : AreEntries l.version l.journal.entries;
  split : l.fn.rest ≡ lines l.version l.journal.entries ++ l.rest;
  number : l.number ≡ named (length l.journal.entries + 2);
}

abbrev pub decreases-loop-line : goal.decreases-loop-line
decreases-loop-line l = length l.rest
