-- What requests are answered that change nothing.
use Rattle.std.specs.Prelude.{◌≡◌, Option, Some, None}
use Rattle.nq_base.specs.declared.FileRow.{FileRow}
use Rattle.nq_base.specs.declared.Refusal.{Refusal}
use Rattle.nq_base.specs.declared.Reply.{Reply}
use Rattle.nq_base.specs.declared.Who.{Who}
use Rattle.nq_datagrams.specs.declared.to_server.Incoming.{Incoming}
use Rattle.nq_wire.specs.Outbox.{Datagrams}

-- a datagram that is no request
abbrev pub IsNoRequest : Incoming → Type 0
IsNoRequest (Incoming.Request xid r) = ⊥
IsNoRequest other = Unit {0}

-- the datagrams of an outbox are as before
abbrev pub IsSilent : (old new : Datagrams) → Type 0
IsSilent old new = (new.first ≡ old.first) × (new.datagrams ≡ old.datagrams)

-- the reply to LOOKUP, by the row of the file that has the name
abbrev pub looked_up : Who → Option FileRow → Reply
looked_up who None = Reply.Refused who.inc Refusal.NoEnt
looked_up who (Some row) = Reply.Lookup who.inc row.id row.blocks

-- the reply to GETATTR, by the row of the file
abbrev pub attributes : Who → Option FileRow → Reply
attributes who None = Reply.Refused who.inc Refusal.Stale
attributes who (Some row) = Reply.GetAttr who.inc row.blocks row.rev
