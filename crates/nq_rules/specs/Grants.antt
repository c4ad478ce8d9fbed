-- The last grant as the code has it.
use Rattle.std.specs.Prelude.{Option, Some, None}
use Rattle.nq_rules.specs.declared.excused.Granted.{Granted}
use Rattle.nq_model.specs.laws.CutOff.{Given}

-- when a grant was made, and its term
abbrev pub given : Option Granted → Option Given
given None = None
given (Some grant) = Some (record { time = grant.time; term = grant.term })
