-- What is made ready before a datagram changes anything.
use Rattle.std.specs.Prelude.{◌≡◌, ◌≤◌, ◌<◌, ◌+◌, ◌^◌, ℕ, false, None, length, Result, Ok, Err}
use Rattle.nq_client.specs.Step.{HasRoom, step_of}
use Rattle.nq_client.specs.declared.step.Step.{Step}
use Rattle.nq_model.specs.protocol.Client.{ClientStep}
use Rattle.nq_model.specs.protocol.Hear.{all_dirty_in}

-- nothing is sent yet, numbers are left, and there is room: for the loss of all delayed writes of a file and four more
-- entries, for a block that becomes dirty, for a lease and for a revision
pub record IsPrepared (file : ℕ) (s : Step) : Type 0 where
  pub silent : s.asks ≡ false
  pub first : s.vacated ≡ None
  pub xid : s.state.xid + 1 < 2 ^ 32
  pub time : s.state.time < 2 ^ 62
  pub entries : length (all_dirty_in file s.state.dirty.dirty s.state.dirty.push) + 4 ≤ s.entries.spare
  pub block : 1 ≤ s.state.dirty.spare
  pub lease : 1 ≤ s.state.leases.spare
  pub revision : 1 ≤ s.state.cache.spare

-- what a part of a step leaves of the room: it makes so many entries at most
pub record Leaves (entries : ℕ) (old new : Step) : Type 0 where
  pub spare : old.entries.spare ≤ new.entries.spare + entries
  pub block : old.state.dirty.spare ≤ new.state.dirty.spare

-- a step came to this, with room for what the call under way may need
pub record Came (t : ClientStep) (new : Step) : Type 0 where
  pub step : step_of new ≡ t
  pub room : HasRoom new

-- what comes of a reply: a step, or nothing where memory is wanting
abbrev pub Comes : {A E : Type 0} → Result A E → ClientStep → (old new : Step) → Type 0
Comes (Ok x) t old new = Came t new
Comes (Err e) t old new = new ≡ old

-- a grant was taken, with room for three entries and a block that becomes dirty
pub record Took (t : ClientStep) (new : Step) : Type 0 where
  pub step : step_of new ≡ t
  pub spare : 3 ≤ new.entries.spare
  pub block : 1 ≤ new.state.dirty.spare

-- what comes of a grant: it is taken, or nothing where memory is wanting
abbrev pub Takes : {A E : Type 0} → Result A E → ClientStep → (old new : Step) → Type 0
Takes (Ok x) t old new = Took t new
Takes (Err e) t old new = new ≡ old
