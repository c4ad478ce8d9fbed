-- A server that recovers waits for the leases of the boot that served last, and after each write that it stores (Macklem
-- 1994).
use Rattle.std.specs.Prelude.{◌≡◌, ◌≤◌, ℕ, ◌+◌, List, Some, slice_get, Option}
use Rattle.nq_base.specs.declared.Entry.{Entry}
use Rattle.nq_base.specs.declared.Who.{Who}
use Rattle.nq_model.specs.protocol.Kept.{Kept}
use Rattle.nq_model.specs.protocol.Profile.{skew, write_slack}
use Rattle.nq_model.specs.protocol.Server.{recovering}
use Rattle.nq_model.specs.protocol.Table.{Table}
use Rattle.nq_model.specs.protocol.ServerAlone.{Coming, server_after, first_boot, booted_last, entries_since_boot}

-- the entries say that delayed writes were stored at this time
pub record WasStoredAt (entries : List Entry) (at : ℕ) : Type 0 where
  pub place : ℕ
  pub who : Who
  pub file : ℕ
  pub block : ℕ
  pub first : ℕ
  pub last : ℕ
  pub there : slice_get entries place ≡ Some (Entry.S who file block first last at)

-- the recovery ends only when the longest lease that the last boot granted has ended by the slowest clock, and the write
-- slack has passed after that. It ends only when the write slack has passed since the server last stored a write in it
pub record WaitsLong (booted longest until heard : ℕ) (entries : List Entry) : Type 0 where
  pub for_leases : booted + longest + (skew + write_slack) ≤ until
  pub for_writes : heard + write_slack ≤ until
  pub hears_writes : (at : ℕ) → WasStoredAt entries at → at ≤ heard

-- from whatever kept state a server boots, and whatever comes to it, it waits so long while it recovers
abbrev pub RecoveryWaits : Type 0
RecoveryWaits =
    (kept : Kept) (longest now : ℕ) (came : List Coming) (until heard : ℕ) (last : Option Table)
    → (server_after (first_boot kept longest now) came).phase ≡ recovering until heard last
    → WaitsLong
    (booted_last (first_boot kept longest now) came)
    (server_after (first_boot kept longest now) came).kept.longest
    until
    heard
    (entries_since_boot (first_boot kept longest now) came)
