-- How a grant follows on what was held.
use Rattle.std.specs.Prelude.{Bool, true, false, Option, Some, None, if◌then◌else◌}
use Rattle.nq_base.specs.declared.Grant.{Grant}
use Rattle.nq_client_parts.specs.declared.holding.taken.Take.{Take}
use Rattle.nq_client_parts.specs.declared.holding.taken.Take.TheVariants.{First, Same, Broken}
use Rattle.nq_model.specs.protocol.Client.{Lease}
use Rattle.nq_model.specs.protocol.Hear.{breaks}

-- a grant is the first where nothing was held; else it breaks the chain or goes on in it
abbrev pub taking : Grant → Option Lease → Take
taking g None = First
taking g (Some lease) = if breaks g (Some lease) then Broken else Same

-- whether the chain is broken
abbrev pub is_broken : Take → Bool
is_broken First = false
is_broken Same = false
is_broken Broken = true
