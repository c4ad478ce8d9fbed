-- A read that is answered at once is answered under a lease that runs by the reading of the clock in the turn directly before it.
use Rattle.std.specs.Prelude.{◌≡◌, ◌<◌, ◌≤◌, ℕ, true, List, Option, Some, None}
use Rattle.nq_base.specs.Entries.{EntryList}
use Rattle.nq_base.specs.declared.Answer.{Answer}
use Rattle.nq_base.specs.declared.Call.{Call}
use Rattle.nq_base.specs.declared.Value.{Value}
use Rattle.nq_calling.specs.Calling.{CallsNow}
use Rattle.nq_client.specs.Counted.{Counted}
use Rattle.nq_clock.specs.Clocks.{ClockTold}
use Rattle.nq_link.specs.Links.{LinkTold}
use Rattle.nq_model.specs.protocol.Client.{Client, Lease, lease_on}
use Rattle.nq_model.specs.protocol.Table.{caches}

-- the file that a call reads
abbrev pub file_read : Call → Option ℕ
file_read (Call.Read file block) = Some file
file_read (Call.Fetch file block) = Some file
file_read other = None

-- a client has a lease on a file, which lets it cache and runs at its time
pub record HoldsLease (c : Client) (file : ℕ) : Type 0 where
  pub lease : Lease
  pub held : lease_on file c.leases ≡ Some lease
  pub caches : caches lease.mode ≡ true
  pub runs : c.now < lease.expiry

-- likewise, and the lease runs by this reading of the clock, which the client has taken in
pub record RunsBy (reading : ℕ) (c : Client) (file : ℕ) : Type 0 where
  pub holds : HoldsLease c file
  pub taken_in : reading ≤ c.now
  pub runs : reading < holds.lease.expiry

-- A read of a file that is answered with a block, at once behind a turn: the lease runs by the one reading of the clock that the turn made
abbrev pub ReadsRun : Type 0
ReadsRun = (call : Call) (file : ℕ) (body : List ℕ) (next next' : ℕ) (clock clock' : ClockTold) (link link' : LinkTold) (client client' : Counted)
    (log log' : EntryList) → file_read call ≡ Some file
    → (now : CallsNow call (Answer.Ok (Value.Body body)) next next' clock clock' link link' client client' log log')
    → RunsBy now.turns.stages.reading now.between.client file
