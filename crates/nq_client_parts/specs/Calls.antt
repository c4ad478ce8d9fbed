-- What a client looks up in a call, or in the request under way.
use Rattle.std.specs.Prelude.{ℕ, List}
use Rattle.nq_base.specs.Block.{filled}
use Rattle.nq_base.specs.declared.Call.{Call}
use Rattle.nq_base.specs.declared.Request.{Request}

-- the block that a call writes; no other call is delayed
abbrev pub body_of_call : Call → List ℕ
body_of_call (Call.Write file block body) = body
body_of_call (Call.Put file block body) = body
body_of_call other = filled 0

-- the file whose delayed writes the reply to a request may lose, or 0
abbrev pub file_at_stake : Request → ℕ
file_at_stake (Request.Read who q file block want) = file
file_at_stake (Request.Write who seq file block first last push body) = file
file_at_stake (Request.GetLease who file want) = file
file_at_stake other = 0
