use Rattle.nq_check.specs.Tables.{AreTablesTo}
use Rattle.nq_check.proofs.tables.make_tables.Given as goal

abbrev pub invariant-loop-place : goal.invariant-loop-place
invariant-loop-place l = AreTablesTo l.whole l.place l.tables
