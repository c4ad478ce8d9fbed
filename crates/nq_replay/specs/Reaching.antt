-- The limits on a run.
use Rattle.std.specs.Prelude.{◌≤◌, ◌<◌, ℕ}
use Rattle.nq_model.specs.protocol.Stepped.{most_events, most_sent}
use Rattle.nq_world.specs.declared.stepped.Limit.{Limit}

-- a limit is reached after so many events and packets; that of events is tested first
abbrev pub IsReached : Limit → (events packets : ℕ) → Type 0
IsReached Limit.Events events packets = most_events ≤ events
IsReached Limit.Packets events packets = (events < most_events) × (most_sent < packets)
