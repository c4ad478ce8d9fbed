-- When a request is sent again.
use Rattle.std.specs.Prelude.{ℕ, ◌+◌, Bool, false, Option, Some, None, nat_le}
use Rattle.nq_model.specs.protocol.Client.{Ticket}
use Rattle.nq_model.specs.protocol.Profile.{patience}

-- whether the request under way is due to be sent again
abbrev pub is_due : (now : ℕ) → Option Ticket → Bool
is_due now None = false
is_due now (Some t) = nat_le (t.last + patience) now

-- a request that is sent now
abbrev pub sent_at : (now : ℕ) → Ticket → Ticket
sent_at now t = record t { last = now }
