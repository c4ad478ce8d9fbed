-- What answers bring.
use Rattle.std.specs.Prelude.{ℕ, Bool, true, false, List, Option, Some, None}
use Rattle.nq_base.specs.declared.Answer.{Answer}
use Rattle.nq_base.specs.declared.Value.{Value}

-- the file that an answer brings
abbrev pub file_in : Answer → Option ℕ
file_in (Answer.Ok (Value.File file)) = Some file
file_in other = None

-- the block that an answer brings
abbrev pub body_in : Answer → Option (List ℕ)
body_in (Answer.Ok (Value.Body body)) = Some body
body_in other = None

-- whether an answer says that the file is gone
abbrev pub is_gone : Answer → Bool
is_gone Answer.Stale = true
is_gone other = false

-- whether a call was done
abbrev pub is_done : Answer → Bool
is_done (Answer.Ok value) = true
is_done other = false
