-- What is made ready before delayed writes are lost.
use Rattle.std.specs.Prelude.{◌≡◌, ◌≤◌, ◌+◌, ℕ}
use Rattle.nq_client_parts.specs.Lost.{Loses}
use Rattle.nq_client_parts.specs.declared.losses.Losing.{Losing}
use Rattle.nq_client.specs.declared.state.State.{State}
use Rattle.nq_client.specs.declared.step.Step.{Step}
use Rattle.nq_model.specs.protocol.Hear.{losses_in}

-- the losses are found beside those that no answer named yet
abbrev pub IsReadyFor : Losing → (file : ℕ) → State → Type 0
IsReadyFor l file s = Loses l file (losses_in file s.dirty.dirty s.dirty.push) s.losses.items

-- nothing more is sent, and the notices stay
pub record SendsNothing (old new : Step) : Type 0 where
  pub asks : new.asks ≡ old.asks
  pub vacated : new.vacated ≡ old.vacated
  pub xid : new.state.xid ≡ old.state.xid
  pub notices : new.state.notices ≡ old.state.notices

-- the cache stays, and no room for leases is used
pub record Keeps (old new : Step) : Type 0 where
  pub leases : old.state.leases.spare ≤ new.state.leases.spare
  pub cache : new.state.cache ≡ old.state.cache

-- likewise, and it makes so many entries at most
pub record Uses (entries : ℕ) (old new : Step) : Type 0 where
  pub spare : old.entries.spare ≤ new.entries.spare + entries
  pub block : old.state.dirty.spare ≤ new.state.dirty.spare
  pub leases : old.state.leases.spare ≤ new.state.leases.spare
  pub cache : new.state.cache ≡ old.state.cache
