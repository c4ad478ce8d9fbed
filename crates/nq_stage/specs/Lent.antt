-- What stands in a datagram, as contracts see it.
use Rattle.std.specs.Prelude.{ℕ, List, Option, Some, None}
use Rattle.nq_stage.specs.declared.messages.LentStage.{LentStage}
use Rattle.nq_stage.specs.declared.reading.ProcedureCall.{ProcedureCall}
use Rattle.nq_stage.specs.Reading.{Stage}

-- a call: its number and its arguments
abbrev pub lent_call : Option ProcedureCall → Option (ℕ × List ℕ)
lent_call None = None
lent_call (Some called) = Some (called.xid, called.arguments.now)

-- a STAGE with the body that is lent
abbrev pub lent_stage : LentStage → Stage
lent_stage s = record { xid = s.xid; written = s.written; body = s.body.now }

-- the same, where there is one
abbrev pub lent_stages : Option LentStage → Option Stage
lent_stages None = None
lent_stages (Some s) = Some (lent_stage s)
