-- What the lease on a file lets its holder do.
use Rattle.std.specs.Prelude.{ℕ, Bool, false, ◌&&◌, Option, Some, None, nat_le, nat_lt, if◌then◌else◌}
use Rattle.nq_client_parts.specs.declared.leave.Leave.{Leave}
use Rattle.nq_model.specs.protocol.Client.{Lease, lets_read, lets_write}

-- whether a block is below a length
abbrev pub within : (blocks block : ℕ) → Leave
within blocks block = if nat_le blocks block then Leave.PastEnd else Leave.Granted

-- what a lease lets a read do
abbrev pub leave_to_read : (now block : ℕ) → Option Lease → Leave
leave_to_read now block None = Leave.None
leave_to_read now block (Some l) = if lets_read now l then within l.blocks block else Leave.None

-- what a lease lets a write do
abbrev pub leave_to_write : (now block : ℕ) → Option Lease → Leave
leave_to_write now block None = Leave.None
leave_to_write now block (Some l) = if lets_write now l then within l.blocks block else Leave.None

-- whether a lease is held that runs, lets its holder cache, and has the block
abbrev pub lets_read_block : (now block : ℕ) → Option Lease → Bool
lets_read_block now block None = false
lets_read_block now block (Some lease) = lets_read now lease && nat_lt block lease.blocks
