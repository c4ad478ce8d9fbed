-- Bytes that are not in a grammar.
use Rattle.nq_wire.specs.declared.fault.Garbage.{Garbage}

-- what is said of them
abbrev pub garbage : Garbage
garbage = record {}
