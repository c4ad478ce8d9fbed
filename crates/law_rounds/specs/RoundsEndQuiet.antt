-- Once the network is calm, each delivery ends quietly: nobody waits for a reply, and nobody has anything to send.
use Rattle.std.specs.Prelude.{◌≡◌, ◌≤◌, ◌<◌, ℕ, ◌+◌, Bool, true, false, Some, None, length}
use Rattle.nq_base.specs.declared.Call.{Call}
use Rattle.nq_model.specs.protocol.Client.{Client, Lease, UnderWay, lease_on, notice_on, is_clean}
use Rattle.nq_model.specs.protocol.Lines.{Play}
use Rattle.nq_model.specs.protocol.Profile.{patience, renewal}
use Rattle.nq_model.specs.protocol.Stepped.{most_events, most_sent}
use Rattle.nq_model.specs.protocol.Table.{is_writing}

-- a play has no more events than a schedule may have, and no more packets than may have been sent before one
pub record IsSmall (p : Play) : Type 0 where
  pub events : length p.events ≤ most_events
  pub packets : length p.world.packets ≤ most_sent

-- a lease that lets its holder delay writes, over a file that has some, goes on for more than 3 ticks
pub record GoesOnFor (now : ℕ) (l : Lease) : Type 0 where
  pub writes : is_writing l.mode ≡ true
  pub late : now + renewal < l.expiry

-- whether a call waits for delayed writes to be stored: a sync does, and a put whose write was delayed
abbrev pub waits_to_store : (written : Bool) → Call → Bool
waits_to_store written (Call.Sync file) = true
waits_to_store written (Call.Put file block body) = written
waits_to_store written other = false

-- a client is attached, and has no request under way, no push and no notice that waits. If it has an open call it pauses, for 2 ticks at
-- the most, since a request was put off; and the call does not wait for delayed writes to be stored. Each file with delayed writes is held
-- under a lease that goes on
pub record IsQuiet (c : Client) : Type 0 where
  pub attached : c.attached ≡ true
  pub no_request : c.ticket ≡ None
  pub no_push : c.push ≡ None
  pub no_notice : (file : ℕ) → notice_on file c.notices ≡ None
  pub waits : (u : UnderWay) → c.call ≡ Some u → (c.now < c.pause) × (c.pause ≤ c.now + patience)
  pub no_sync : (u : UnderWay) → c.call ≡ Some u → waits_to_store u.written u.call ≡ false
  pub held : (file : ℕ) → is_clean c file ≡ false → (l : Lease) × (lease_on file c.leases ≡ Some l) × GoesOnFor c.now l
