-- What a client makes of a notice, in the steps of the code.
use Rattle.std.specs.Prelude.{◌≡◌, ℕ, ◌≤◌, ◌<◌, ◌+◌, ◌^◌, Bool, false, Option, Some, None}
use Rattle.nq_client.specs.declared.step.Step.{Step}
use Rattle.nq_model.specs.protocol.Client.{Ticket}
use Rattle.nq_model.specs.protocol.Hear.{wants_of}

-- whether a request under way wants a lease on the file
abbrev pub is_wanted : (file : ℕ) → Option Ticket → Bool
is_wanted file None = false
is_wanted file (Some t) = wants_of file t.request

-- nothing is sent yet, and the number of a request is left
pub record IsSilent (s : Step) : Type 0 where
  pub asks : s.asks ≡ false
  pub first : s.vacated ≡ None
  pub xid : s.state.xid + 1 < 2 ^ 32

-- what stays where a lease is given up for a notice: it takes at most one number of a request
pub record GivesUp (old new : Step) : Type 0 where
  pub asked : new.state.asked ≡ old.state.asked
  pub leases : old.state.leases.spare ≤ new.state.leases.spare
  pub cache : new.state.cache ≡ old.state.cache
  pub losses : new.state.losses ≡ old.state.losses
  pub dirty : new.state.dirty ≡ old.state.dirty
  pub entries : new.entries ≡ old.entries
  pub time : new.state.time ≡ old.state.time
  pub seq : new.state.seq ≡ old.state.seq
  pub number : new.state.number ≡ old.state.number
  pub xid : new.state.xid ≤ old.state.xid + 1
