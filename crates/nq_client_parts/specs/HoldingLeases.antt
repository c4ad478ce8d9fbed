-- What a client holds on a file, as a lease of the model.
use Rattle.std.specs.Prelude.{Bool, false, Option, Some, None}
use Rattle.nq_base.specs.declared.Mode.{Mode}
use Rattle.nq_base.specs.declared.Mode.TheVariants as modes
use Rattle.nq_client_parts.specs.declared.holding.held.Held.{Held}
use Rattle.nq_client_parts.specs.declared.holding.held.Held.TheVariants.{Nothing, NonCaching, Reading, Writing}
use Rattle.nq_client_parts.specs.declared.holding.lease.Lease as code
use Rattle.nq_model.specs.protocol.Client.{Lease}

-- a lease of a kind, as the model has it
abbrev pub of_kind : Mode → code.Lease → Lease
of_kind mode l = record {
  file = l.file;
  mode = mode;
  tag = l.tag;
  term = l.term;
  expiry = l.expiry;
  blocks = l.blocks;
  used = l.used;
}

-- the lease that is held, if one is
abbrev pub lease_of : Held → Option Lease
lease_of Nothing = None
lease_of (NonCaching l) = Some (of_kind modes.NonCaching l)
lease_of (Reading l) = Some (of_kind modes.Reading l)
lease_of (Writing l) = Some (of_kind modes.Writing l)

-- the lease that is held, without its kind
abbrev pub plain_lease : Held → Option code.Lease
plain_lease Nothing = None
plain_lease (NonCaching l) = Some l
plain_lease (Reading l) = Some l
plain_lease (Writing l) = Some l

-- the kind of the lease that is held
abbrev pub mode_of : Held → Option Mode
mode_of Nothing = None
mode_of (NonCaching l) = Some modes.NonCaching
mode_of (Reading l) = Some modes.Reading
mode_of (Writing l) = Some modes.Writing

-- whether a lease is held that passes a test
abbrev pub passes : (Lease → Bool) → Option Lease → Bool
passes test None = false
passes test (Some l) = test l
