-- Whether the server recovers.
use Rattle.std.specs.Prelude.{Bool, true, false}
use Rattle.nq_model.specs.protocol.Server.{Phase, serving, recovering}

-- whether the server recovers
abbrev pub recovers : Phase → Bool
recovers serving = false
recovers (recovering until heard last) = true
