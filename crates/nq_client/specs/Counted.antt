-- A client with its counts.
use Rattle.std.specs.Prelude.{ℕ, ◌≤◌, ◌<◌, ◌+◌, ◌*◌, ◌^◌}
use Rattle.nq_client.specs.State.{client_of}
use Rattle.nq_client.specs.Tied.{Tied}
use Rattle.nq_client.specs.declared.state.State.{State}
use Rattle.nq_model.specs.protocol.Client.{Client}
use Rattle.nq_model.specs.protocol.Profile.{most_taken_by_client}

-- A client, and how many calls, datagrams and ticks it took in.
pub record Counted : Type 0 where
  pub client : Client
  pub taken : ℕ

-- the client with its count
abbrev pub counted : State → (taken : ℕ) → Counted
counted s taken = record { client = client_of s; taken = taken }

-- the client's numbers are within what it took in, and delayed writes are under way exactly while their request is
pub record IsWithin (s : State) (taken : ℕ) : Type 0 where
  pub taken_few : taken ≤ most_taken_by_client
  pub time : s.time < 2 ^ 62
  pub calls : s.calls ≤ taken
  pub seq : s.seq ≤ 2 * taken + 1
  pub number : s.number ≤ 2 * taken + 1
  pub xid : s.xid ≤ 2 * taken + 2
  pub tied : Tied s.asked s.dirty.push
