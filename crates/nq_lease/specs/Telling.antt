-- Whose holders are asked to give their leases up, and what an outbox gains by it.
use Rattle.std.specs.Prelude.{◌≡◌, ◌+◌, ◌%◌, ℕ, List, [], ◌∷◌, ◌++◌, Option, Some, None, Result, Ok, Err, All, filter, length, map}
use Rattle.nq_base.specs.declared.Access.{Access}
use Rattle.nq_base.specs.declared.Row.{Row}
use Rattle.nq_datagrams.specs.Sent.{FitsPacket, sent}
use Rattle.nq_lease.specs.declared.evict.notifying.NoticeTo.{NoticeTo}
use Rattle.nq_lease.specs.declared.evict.notifying.NoticeTo.TheVariants.{Others, Own}
use Rattle.nq_model.specs.protocol.Ask.{conflicts}
use Rattle.nq_model.specs.protocol.Profile.{xid_end}
use Rattle.nq_model.specs.protocol.Server.{notices}
use Rattle.nq_model.specs.protocol.Table.{find_row}
use Rattle.nq_wire.specs.Outbox.{Datagrams}

-- those of these rows that are in the way of what a host is about to do with a file
abbrev pub told_among : (file host : ℕ) → Access → List Row → List Row
told_among file host access rows = filter (conflicts file host access) rows

-- a row, if there is one
abbrev pub own_rows : Option Row → List Row
own_rows None = []
own_rows (Some row) = row ∷ []

-- the rows whose holders are told, in order of hosts
abbrev pub told_rows : (file : ℕ) → NoticeTo → List Row → List Row
told_rows file (Others host access) rows = told_among file host access rows
told_rows file (Own host) rows = own_rows (find_row file host rows)

-- a list begins with another
abbrev pub Grows : {A : Type 0} → (old new : List A) → Type 0
Grows {A} old new = (more : List A) × (new ≡ old ++ more)

-- the holders of these rows were told, with numbers from one on, and each notice is read again as it was sent
pub record AreTold (rows : List Row) (xid xid' : ℕ) (out out' : Datagrams) : Type 0 where
  pub first : out'.first ≡ out.first
  pub told : out'.datagrams ≡ out.datagrams ++ map sent (notices xid rows)
  pub fit : All FitsPacket (notices xid rows)
  pub counted : xid' ≡ (xid + length rows) % xid_end

-- some of the notices may be there
pub record MayBeTold (xid xid' : ℕ) (out out' : Datagrams) : Type 0 where
  pub first : out'.first ≡ out.first
  pub grows : Grows out.datagrams out'.datagrams
  pub number : xid' ≡ xid

-- what a call does that tells the holders of these rows, by its answer
abbrev pub Tells : {E : Type 0} → List Row → Result Unit E → (xid xid' : ℕ) → (out out' : Datagrams) → Type 0
Tells rows (Ok done) xid xid' out out' = AreTold rows xid xid' out out'
Tells rows (Err fault) xid xid' out out' = MayBeTold xid xid' out out'
