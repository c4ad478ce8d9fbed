use Rattle.std.specs.Prelude.{List, [], ◌∷◌, Some, None, true, false}
use Rattle.nq_base.specs.Block.{filled}
use Rattle.nq_base.specs.declared.Call.{Call}
use Rattle.nq_base.specs.declared.Entry.{Entry}
use Rattle.nq_base.specs.declared.Event.{Event}
use Rattle.nq_base.specs.declared.Mode.{Mode}
use Rattle.nq_base.specs.declared.Said.{Said}
use Rattle.nq_base.specs.declared.Told.{Told}
use Rattle.nq_laws.specs.Example.{Example}
use Rattle.nq_model.specs.protocol.Lines.{one, times, round, flow}

-- a cached read
abbrev pub a_cached_read : Example
a_cached_read = record {
  head = record { hosts = 1; term = 30; longest = 60; files = ((97 ∷ []), 1) ∷ [] };
  lines =
      one (Event.Call 0 (Call.Read 1 0)) ∷ one (Event.Deliver 0) ∷ one (Event.Deliver 1) ∷
      one (Event.Call 0 (Call.Read 1 0)) ∷ one (Event.Call 0 (Call.Read 1 1)) ∷ [];
  journal =
      Entry.A (record { host = 0; inc = 1 }) 3 Said.Range ∷ Entry.C (record { host = 0; inc = 1 }) 3 (Told.Read 1 1) ∷
      Entry.A (record { host = 0; inc = 1 }) 2 (Said.OkValue 0) ∷ Entry.R (record { host = 0; inc = 1 }) 2 1 0 0 None ∷
      Entry.C (record { host = 0; inc = 1 }) 2 (Told.Read 1 0) ∷
      Entry.A (record { host = 0; inc = 1 }) 1 (Said.OkBy 0 1) ∷ Entry.R (record { host = 0; inc = 1 }) 1 1 0 0 (Some 1) ∷
      Entry.G (record { host = 0; inc = 1 }) 1 Mode.Reading (record { boot = 1; number = 1 }) 30 0 ∷
      Entry.C (record { host = 0; inc = 1 }) 1 (Told.Read 1 0) ∷ [];
}

-- a fenced write in recovery
abbrev pub a_fenced_write_in_recovery : Example
a_fenced_write_in_recovery = record {
  head = record { hosts = 2; term = 5; longest = 60; files = ((97 ∷ []), 1) ∷ [] };
  lines =
      one (Event.Call 0 (Call.Write 1 0 (filled 5))) ∷ one (Event.Deliver 0) ∷ one (Event.Deliver 1) ∷ round 13 ∷
      one (Event.Call 1 (Call.Put 1 0 (filled 8))) ∷ one (Event.Deliver 8) ∷ one (Event.Deliver 9) ∷
      one (Event.Crash 60) ∷ one (Event.Deliver 2) ∷ one (Event.Deliver 10) ∷ round 68 ∷
      one (Event.Call 0 (Call.Fetch 1 0)) ∷ one (Event.Deliver 11) ∷ one (Event.Deliver 12) ∷ [];
  journal =
      Entry.A (record { host = 0; inc = 1 }) 2 (Said.OkBy 8 12) ∷
      Entry.R (record { host = 0; inc = 1 }) 2 1 0 8 (Some 12) ∷
      Entry.C (record { host = 0; inc = 1 }) 2 (Told.Fetch 1 0) ∷ Entry.O 2 81 13 81 ∷
      Entry.L (record { host = 0; inc = 1 }) 1 0 1 1 ∷ Entry.X 2 13 60 ∷
      Entry.A (record { host = 1; inc = 1 }) 1 Said.Ok ∷ Entry.W (record { host = 1; inc = 1 }) 1 0 1 8 true ∷
      Entry.C (record { host = 1; inc = 1 }) 1 (Told.Put 1 0 8) ∷ Entry.F (record { host = 0; inc = 1 }) 1 8 0 13 ∷
      Entry.A (record { host = 0; inc = 1 }) 1 Said.Ok ∷ Entry.W (record { host = 0; inc = 1 }) 1 0 1 5 false ∷
      Entry.G (record { host = 0; inc = 1 }) 1 Mode.Writing (record { boot = 1; number = 1 }) 5 0 ∷
      Entry.C (record { host = 0; inc = 1 }) 1 (Told.Write 1 0 5) ∷ [];
}

-- a grant after its ticket was cancelled
abbrev pub a_grant_after_its_ticket_was_cancelled : Example
a_grant_after_its_ticket_was_cancelled = record {
  head = record { hosts = 2; term = 30; longest = 60; files = ((97 ∷ []), 1) ∷ [] };
  lines =
      one (Event.Call 0 (Call.Read 1 0)) ∷ one (Event.Deliver 0) ∷ one (Event.Call 1 (Call.Put 1 0 (filled 9))) ∷
      one (Event.Deliver 2) ∷ one (Event.Deliver 3) ∷ one (Event.Deliver 1) ∷ one (Event.Deliver 5) ∷
      one (Event.Deliver 4) ∷ round 2 ∷ one (Event.Deliver 8) ∷ one (Event.Deliver 9) ∷ one (Event.Deliver 6) ∷
      one (Event.Deliver 10) ∷ [];
  journal =
      Entry.A (record { host = 0; inc = 1 }) 1 (Said.OkBy 9 10) ∷
      Entry.R (record { host = 0; inc = 1 }) 1 1 0 9 (Some 10) ∷
      Entry.G (record { host = 0; inc = 1 }) 1 Mode.Reading (record { boot = 1; number = 2 }) 30 2 ∷
      Entry.A (record { host = 1; inc = 1 }) 1 Said.Ok ∷ Entry.W (record { host = 1; inc = 1 }) 1 0 2 9 true ∷
      Entry.C (record { host = 1; inc = 1 }) 1 (Told.Put 1 0 9) ∷
      Entry.R (record { host = 0; inc = 1 }) 1 1 0 0 (Some 1) ∷
      Entry.G (record { host = 0; inc = 1 }) 1 Mode.Reading (record { boot = 1; number = 1 }) 30 0 ∷
      Entry.C (record { host = 0; inc = 1 }) 1 (Told.Read 1 0) ∷ [];
}

-- a late vacated message
abbrev pub a_late_vacated_message : Example
a_late_vacated_message = record {
  head = record { hosts = 2; term = 30; longest = 60; files = ((97 ∷ []), 1) ∷ [] };
  lines =
      one (Event.Call 0 (Call.Read 1 0)) ∷ one (Event.Deliver 0) ∷ one (Event.Deliver 1) ∷
      one (Event.Call 1 (Call.Put 1 0 (filled 9))) ∷ one (Event.Deliver 2) ∷ one (Event.Deliver 3) ∷
      one (Event.Deliver 5) ∷ one (Event.Call 0 (Call.Read 1 0)) ∷ one (Event.Deliver 6) ∷ one (Event.Deliver 7) ∷
      one (Event.Deliver 5) ∷ one (Event.Deliver 4) ∷ round 2 ∷ one (Event.Deliver 8) ∷ [];
  journal =
      Entry.A (record { host = 0; inc = 1 }) 2 (Said.OkBy 0 7) ∷ Entry.R (record { host = 0; inc = 1 }) 2 1 0 0 (Some 7) ∷
      Entry.G (record { host = 0; inc = 1 }) 1 Mode.Reading (record { boot = 1; number = 2 }) 30 0 ∷
      Entry.C (record { host = 0; inc = 1 }) 2 (Told.Read 1 0) ∷
      Entry.C (record { host = 1; inc = 1 }) 1 (Told.Put 1 0 9) ∷
      Entry.A (record { host = 0; inc = 1 }) 1 (Said.OkBy 0 1) ∷ Entry.R (record { host = 0; inc = 1 }) 1 1 0 0 (Some 1) ∷
      Entry.G (record { host = 0; inc = 1 }) 1 Mode.Reading (record { boot = 1; number = 1 }) 30 0 ∷
      Entry.C (record { host = 0; inc = 1 }) 1 (Told.Read 1 0) ∷ [];
}

-- a loss found while a put waits
abbrev pub a_loss_found_while_a_put_waits : Example
a_loss_found_while_a_put_waits = record {
  head = record { hosts = 1; term = 30; longest = 60; files = ((97 ∷ []), 1) ∷ [] };
  lines =
      one (Event.Call 0 (Call.Write 1 0 (filled 5))) ∷ one (Event.Deliver 0) ∷ one (Event.Deliver 1) ∷
      one (Event.Call 0 (Call.Sync 1)) ∷ one (Event.Deliver 2) ∷ one (Event.Deliver 3) ∷ round 27 ∷
      one (Event.Call 0 (Call.Write 1 0 (filled 6))) ∷ round 11 ∷ one (Event.Call 0 (Call.Put 1 0 (filled 7))) ∷
      one (Event.Deliver 4) ∷ one (Event.Deliver 10) ∷ one (Event.Deliver 11) ∷ one (Event.Deliver 12) ∷
      one (Event.Call 0 (Call.Sync 1)) ∷ [];
  journal =
      Entry.A (record { host = 0; inc = 1 }) 5 (Said.Lost (record { items = record { block = 0; first = 2; last = 2 } ∷ []; spare = 0 })) ∷
      Entry.C (record { host = 0; inc = 1 }) 5 (Told.Sync 1) ∷ Entry.A (record { host = 0; inc = 1 }) 4 Said.Ok ∷
      Entry.S (record { host = 0; inc = 1 }) 1 0 3 3 38 ∷ Entry.W (record { host = 0; inc = 1 }) 1 0 3 7 false ∷
      Entry.L (record { host = 0; inc = 1 }) 1 0 2 2 ∷
      Entry.G (record { host = 0; inc = 1 }) 1 Mode.Writing (record { boot = 1; number = 2 }) 30 38 ∷
      Entry.C (record { host = 0; inc = 1 }) 4 (Told.Put 1 0 7) ∷ Entry.F (record { host = 0; inc = 1 }) 1 33 0 38 ∷
      Entry.A (record { host = 0; inc = 1 }) 3 Said.Ok ∷ Entry.W (record { host = 0; inc = 1 }) 1 0 2 6 false ∷
      Entry.C (record { host = 0; inc = 1 }) 3 (Told.Write 1 0 6) ∷ Entry.A (record { host = 0; inc = 1 }) 2 Said.Ok ∷
      Entry.S (record { host = 0; inc = 1 }) 1 0 1 1 0 ∷ Entry.C (record { host = 0; inc = 1 }) 2 (Told.Sync 1) ∷
      Entry.A (record { host = 0; inc = 1 }) 1 Said.Ok ∷ Entry.W (record { host = 0; inc = 1 }) 1 0 1 5 false ∷
      Entry.G (record { host = 0; inc = 1 }) 1 Mode.Writing (record { boot = 1; number = 1 }) 30 0 ∷
      Entry.C (record { host = 0; inc = 1 }) 1 (Told.Write 1 0 5) ∷ [];
}

-- a purge by revision
abbrev pub a_purge_by_revision : Example
a_purge_by_revision = record {
  head = record { hosts = 2; term = 5; longest = 60; files = ((97 ∷ []), 2) ∷ [] };
  lines =
      one (Event.Call 0 (Call.Read 1 0)) ∷ one (Event.Deliver 0) ∷ one (Event.Deliver 1) ∷
      one (Event.Call 1 (Call.Write 1 0 (filled 9))) ∷ one (Event.Deliver 2) ∷ one (Event.Deliver 3) ∷
      one (Event.Deliver 5) ∷ one (Event.Deliver 4) ∷ round 2 ∷ one (Event.Deliver 6) ∷ one (Event.Deliver 7) ∷
      one (Event.Deliver 8) ∷ one (Event.Deliver 9) ∷ one (Event.Call 0 (Call.Read 1 1)) ∷ one (Event.Deliver 10) ∷
      one (Event.Deliver 11) ∷ round 5 ∷ one (Event.Call 0 (Call.Read 1 1)) ∷ one (Event.Deliver 12) ∷
      one (Event.Deliver 13) ∷ one (Event.Call 0 (Call.Read 1 0)) ∷ one (Event.Deliver 14) ∷ one (Event.Deliver 15) ∷ [];
  journal =
      Entry.A (record { host = 0; inc = 1 }) 4 (Said.OkBy 9 15) ∷
      Entry.R (record { host = 0; inc = 1 }) 4 1 0 9 (Some 15) ∷
      Entry.G (record { host = 0; inc = 1 }) 1 Mode.Reading (record { boot = 1; number = 6 }) 5 7 ∷
      Entry.C (record { host = 0; inc = 1 }) 4 (Told.Read 1 0) ∷
      Entry.A (record { host = 0; inc = 1 }) 3 (Said.OkBy 0 13) ∷
      Entry.R (record { host = 0; inc = 1 }) 3 1 1 0 (Some 13) ∷
      Entry.G (record { host = 0; inc = 1 }) 1 Mode.Reading (record { boot = 1; number = 5 }) 5 7 ∷
      Entry.C (record { host = 0; inc = 1 }) 3 (Told.Read 1 1) ∷
      Entry.A (record { host = 0; inc = 1 }) 2 (Said.OkBy 0 11) ∷
      Entry.R (record { host = 0; inc = 1 }) 2 1 1 0 (Some 11) ∷
      Entry.G (record { host = 0; inc = 1 }) 1 Mode.NonCaching (record { boot = 1; number = 4 }) 5 2 ∷
      Entry.C (record { host = 0; inc = 1 }) 2 (Told.Read 1 1) ∷ Entry.A (record { host = 1; inc = 1 }) 1 Said.Ok ∷
      Entry.W (record { host = 1; inc = 1 }) 1 0 1 9 true ∷
      Entry.G (record { host = 1; inc = 1 }) 1 Mode.NonCaching (record { boot = 1; number = 3 }) 3 2 ∷
      Entry.C (record { host = 1; inc = 1 }) 1 (Told.Write 1 0 9) ∷
      Entry.A (record { host = 0; inc = 1 }) 1 (Said.OkBy 0 1) ∷ Entry.R (record { host = 0; inc = 1 }) 1 1 0 0 (Some 1) ∷
      Entry.G (record { host = 0; inc = 1 }) 1 Mode.Reading (record { boot = 1; number = 1 }) 5 0 ∷
      Entry.C (record { host = 0; inc = 1 }) 1 (Told.Read 1 0) ∷ [];
}

-- a push dropped after a restart
abbrev pub a_push_dropped_after_a_restart : Example
a_push_dropped_after_a_restart = record {
  head = record { hosts = 1; term = 30; longest = 60; files = ((97 ∷ []), 1) ∷ [] };
  lines =
      one (Event.Call 0 (Call.Write 1 0 (filled 5))) ∷ one (Event.Deliver 0) ∷ one (Event.Deliver 1) ∷
      one (Event.Call 0 (Call.Sync 1)) ∷ one (Event.Restart 0) ∷ one (Event.Deliver 3) ∷ one (Event.Deliver 4) ∷
      one (Event.Deliver 2) ∷ one (Event.Call 0 (Call.Read 1 0)) ∷ one (Event.Deliver 5) ∷ one (Event.Deliver 6) ∷ [];
  journal =
      Entry.A (record { host = 0; inc = 2 }) 1 (Said.OkBy 0 6) ∷ Entry.R (record { host = 0; inc = 2 }) 1 1 0 0 (Some 6) ∷
      Entry.G (record { host = 0; inc = 2 }) 1 Mode.Reading (record { boot = 1; number = 2 }) 30 0 ∷
      Entry.C (record { host = 0; inc = 2 }) 1 (Told.Read 1 0) ∷ Entry.B (record { host = 0; inc = 2 }) ∷
      Entry.C (record { host = 0; inc = 1 }) 2 (Told.Sync 1) ∷ Entry.A (record { host = 0; inc = 1 }) 1 Said.Ok ∷
      Entry.W (record { host = 0; inc = 1 }) 1 0 1 5 false ∷
      Entry.G (record { host = 0; inc = 1 }) 1 Mode.Writing (record { boot = 1; number = 1 }) 30 0 ∷
      Entry.C (record { host = 0; inc = 1 }) 1 (Told.Write 1 0 5) ∷ [];
}

-- a push stored after a restart
abbrev pub a_push_stored_after_a_restart : Example
a_push_stored_after_a_restart = record {
  head = record { hosts = 1; term = 30; longest = 60; files = ((97 ∷ []), 1) ∷ [] };
  lines =
      one (Event.Call 0 (Call.Write 1 0 (filled 5))) ∷ one (Event.Deliver 0) ∷ one (Event.Deliver 1) ∷
      one (Event.Call 0 (Call.Sync 1)) ∷ one (Event.Restart 0) ∷ one (Event.Deliver 2) ∷ one (Event.Deliver 4) ∷
      one (Event.Deliver 3) ∷ one (Event.Deliver 5) ∷ one (Event.Call 0 (Call.Read 1 0)) ∷ one (Event.Deliver 6) ∷
      one (Event.Deliver 7) ∷ [];
  journal =
      Entry.A (record { host = 0; inc = 2 }) 1 (Said.OkBy 5 7) ∷ Entry.R (record { host = 0; inc = 2 }) 1 1 0 5 (Some 7) ∷
      Entry.G (record { host = 0; inc = 2 }) 1 Mode.Reading (record { boot = 1; number = 2 }) 30 0 ∷
      Entry.C (record { host = 0; inc = 2 }) 1 (Told.Read 1 0) ∷ Entry.S (record { host = 0; inc = 1 }) 1 0 1 1 0 ∷
      Entry.B (record { host = 0; inc = 2 }) ∷ Entry.C (record { host = 0; inc = 1 }) 2 (Told.Sync 1) ∷
      Entry.A (record { host = 0; inc = 1 }) 1 Said.Ok ∷ Entry.W (record { host = 0; inc = 1 }) 1 0 1 5 false ∷
      Entry.G (record { host = 0; inc = 1 }) 1 Mode.Writing (record { boot = 1; number = 1 }) 30 0 ∷
      Entry.C (record { host = 0; inc = 1 }) 1 (Told.Write 1 0 5) ∷ [];
}

-- a read executed twice
abbrev pub a_read_executed_twice : Example
a_read_executed_twice = record {
  head = record { hosts = 2; term = 30; longest = 60; files = ((97 ∷ []), 1) ∷ [] };
  lines =
      one (Event.Call 1 (Call.Fetch 1 0)) ∷ one (Event.Deliver 0) ∷ one (Event.Call 0 (Call.Put 1 0 (filled 7))) ∷
      one (Event.Deliver 2) ∷ one (Event.Deliver 0) ∷ one (Event.Deliver 4) ∷ one (Event.Deliver 1) ∷ [];
  journal =
      Entry.A (record { host = 1; inc = 1 }) 1 (Said.OkBy 7 4) ∷ Entry.R (record { host = 1; inc = 1 }) 1 1 0 7 (Some 4) ∷
      Entry.W (record { host = 0; inc = 1 }) 1 0 1 7 true ∷ Entry.C (record { host = 0; inc = 1 }) 1 (Told.Put 1 0 7) ∷
      Entry.R (record { host = 1; inc = 1 }) 1 1 0 0 (Some 1) ∷
      Entry.C (record { host = 1; inc = 1 }) 1 (Told.Fetch 1 0) ∷ [];
}

-- a recovery after a long term
abbrev pub a_recovery_after_a_long_term : Example
a_recovery_after_a_long_term = record {
  head = record { hosts = 1; term = 100; longest = 100; files = ((97 ∷ []), 1) ∷ [] };
  lines =
      one (Event.Call 0 (Call.Write 1 0 (filled 5))) ∷ one (Event.Deliver 0) ∷ one (Event.Deliver 1) ∷
      one (Event.Crash 5) ∷ round 108 ∷ one (Event.Deliver 2) ∷ one (Event.Deliver 8) ∷
      one (Event.Call 0 (Call.Read 1 0)) ∷ one (Event.Deliver 9) ∷ one (Event.Deliver 10) ∷ [];
  journal =
      Entry.A (record { host = 0; inc = 1 }) 2 (Said.OkBy 0 10) ∷
      Entry.R (record { host = 0; inc = 1 }) 2 1 0 0 (Some 10) ∷
      Entry.G (record { host = 0; inc = 1 }) 1 Mode.Reading (record { boot = 2; number = 1 }) 5 108 ∷
      Entry.C (record { host = 0; inc = 1 }) 2 (Told.Read 1 0) ∷ Entry.L (record { host = 0; inc = 1 }) 1 0 1 1 ∷
      Entry.O 2 108 0 108 ∷ Entry.X 2 0 100 ∷ Entry.A (record { host = 0; inc = 1 }) 1 Said.Ok ∷
      Entry.W (record { host = 0; inc = 1 }) 1 0 1 5 false ∷
      Entry.G (record { host = 0; inc = 1 }) 1 Mode.Writing (record { boot = 1; number = 1 }) 100 0 ∷
      Entry.C (record { host = 0; inc = 1 }) 1 (Told.Write 1 0 5) ∷ [];
}

-- a request sent again
abbrev pub a_request_sent_again : Example
a_request_sent_again = record {
  head = record { hosts = 1; term = 30; longest = 60; files = ((97 ∷ []), 1) ∷ [] };
  lines =
      one (Event.Call 0 (Call.Put 1 0 (filled 7))) ∷ round 2 ∷ one (Event.Deliver 1) ∷ one (Event.Deliver 0) ∷
      one (Event.Deliver 2) ∷ [];
  journal =
      Entry.A (record { host = 0; inc = 1 }) 1 Said.Ok ∷ Entry.W (record { host = 0; inc = 1 }) 1 0 1 7 true ∷
      Entry.C (record { host = 0; inc = 1 }) 1 (Told.Put 1 0 7) ∷ [];
}

-- a resize under a reading lease
abbrev pub a_resize_under_a_reading_lease : Example
a_resize_under_a_reading_lease = record {
  head = record { hosts = 2; term = 30; longest = 60; files = ((97 ∷ []), 2) ∷ [] };
  lines =
      one (Event.Call 1 (Call.Read 1 1)) ∷ one (Event.Deliver 0) ∷ one (Event.Deliver 1) ∷
      one (Event.Call 0 (Call.Resize 1 1)) ∷ one (Event.Deliver 2) ∷ one (Event.Deliver 3) ∷ one (Event.Deliver 5) ∷
      one (Event.Deliver 4) ∷ round 2 ∷ one (Event.Deliver 6) ∷ one (Event.Deliver 7) ∷
      one (Event.Call 1 (Call.Read 1 1)) ∷ one (Event.Deliver 8) ∷ one (Event.Deliver 9) ∷ [];
  journal =
      Entry.A (record { host = 1; inc = 1 }) 2 Said.Range ∷ Entry.C (record { host = 1; inc = 1 }) 2 (Told.Read 1 1) ∷
      Entry.A (record { host = 0; inc = 1 }) 1 Said.Ok ∷ Entry.Z (record { host = 0; inc = 1 }) 1 1 2 1 ∷
      Entry.C (record { host = 0; inc = 1 }) 1 (Told.Resize 1 1) ∷
      Entry.A (record { host = 1; inc = 1 }) 1 (Said.OkBy 0 1) ∷ Entry.R (record { host = 1; inc = 1 }) 1 1 1 0 (Some 1) ∷
      Entry.G (record { host = 1; inc = 1 }) 1 Mode.Reading (record { boot = 1; number = 1 }) 30 0 ∷
      Entry.C (record { host = 1; inc = 1 }) 1 (Told.Read 1 1) ∷ [];
}

-- a restart before the request arrives
abbrev pub a_restart_before_the_request_arrives : Example
a_restart_before_the_request_arrives = record {
  head = record { hosts = 1; term = 30; longest = 60; files = ((97 ∷ []), 1) ∷ [] };
  lines =
      one (Event.Call 0 (Call.Put 1 0 (filled 7))) ∷ one (Event.Restart 0) ∷ one (Event.Deliver 1) ∷
      one (Event.Deliver 2) ∷ one (Event.Deliver 0) ∷ one (Event.Call 0 (Call.Fetch 1 0)) ∷ one (Event.Deliver 3) ∷
      one (Event.Deliver 4) ∷ [];
  journal =
      Entry.A (record { host = 0; inc = 2 }) 1 (Said.OkBy 0 4) ∷ Entry.R (record { host = 0; inc = 2 }) 1 1 0 0 (Some 4) ∷
      Entry.C (record { host = 0; inc = 2 }) 1 (Told.Fetch 1 0) ∷ Entry.B (record { host = 0; inc = 2 }) ∷
      Entry.C (record { host = 0; inc = 1 }) 1 (Told.Put 1 0 7) ∷ [];
}

-- a write at the last slack tick
abbrev pub a_write_at_the_last_slack_tick : Example
a_write_at_the_last_slack_tick = record {
  head = record { hosts = 1; term = 5; longest = 60; files = ((97 ∷ []), 2) ∷ [] };
  lines =
      one (Event.Call 0 (Call.Write 1 0 (filled 5))) ∷ one (Event.Deliver 0) ∷ one (Event.Deliver 1) ∷
      one (Event.Call 0 (Call.Write 1 1 (filled 6))) ∷ round 12 ∷ one (Event.Deliver 2) ∷ round 5 ∷
      one (Event.Deliver 8) ∷ one (Event.Deliver 11) ∷ one (Event.Deliver 12) ∷ [];
  journal =
      Entry.L (record { host = 0; inc = 1 }) 1 1 2 2 ∷ Entry.F (record { host = 0; inc = 1 }) 1 8 12 17 ∷
      Entry.S (record { host = 0; inc = 1 }) 1 0 1 1 12 ∷ Entry.A (record { host = 0; inc = 1 }) 2 Said.Ok ∷
      Entry.W (record { host = 0; inc = 1 }) 1 1 2 6 false ∷ Entry.C (record { host = 0; inc = 1 }) 2 (Told.Write 1 1 6) ∷
      Entry.A (record { host = 0; inc = 1 }) 1 Said.Ok ∷ Entry.W (record { host = 0; inc = 1 }) 1 0 1 5 false ∷
      Entry.G (record { host = 0; inc = 1 }) 1 Mode.Writing (record { boot = 1; number = 1 }) 5 0 ∷
      Entry.C (record { host = 0; inc = 1 }) 1 (Told.Write 1 0 5) ∷ [];
}

-- an ordinary session
abbrev pub an_ordinary_session : Example
an_ordinary_session = record {
  head = record { hosts = 2; term = 30; longest = 60; files = [] };
  lines =
      one (Event.Call 0 (Call.Create (98 ∷ 105 ∷ 103 ∷ []) 40)) ∷ flow ∷
      one (Event.Call 0 (Call.Write 1 0 (filled 100))) ∷ flow ∷ one (Event.Call 0 (Call.Write 1 1 (filled 101))) ∷
      one (Event.Call 0 (Call.Write 1 2 (filled 102))) ∷ one (Event.Call 0 (Call.Write 1 3 (filled 103))) ∷
      one (Event.Call 0 (Call.Write 1 4 (filled 104))) ∷ one (Event.Call 0 (Call.Write 1 5 (filled 105))) ∷
      one (Event.Call 0 (Call.Write 1 6 (filled 106))) ∷ one (Event.Call 0 (Call.Write 1 7 (filled 107))) ∷
      one (Event.Call 0 (Call.Write 1 8 (filled 108))) ∷ one (Event.Call 0 (Call.Write 1 9 (filled 109))) ∷
      one (Event.Call 0 (Call.Write 1 10 (filled 110))) ∷ one (Event.Call 0 (Call.Write 1 11 (filled 111))) ∷
      one (Event.Call 0 (Call.Write 1 12 (filled 112))) ∷ one (Event.Call 0 (Call.Write 1 13 (filled 113))) ∷
      one (Event.Call 0 (Call.Write 1 14 (filled 114))) ∷ one (Event.Call 0 (Call.Write 1 15 (filled 115))) ∷
      one (Event.Call 0 (Call.Write 1 16 (filled 116))) ∷ one (Event.Call 0 (Call.Write 1 17 (filled 117))) ∷
      one (Event.Call 0 (Call.Write 1 18 (filled 118))) ∷ one (Event.Call 0 (Call.Write 1 19 (filled 119))) ∷
      one (Event.Call 0 (Call.Write 1 20 (filled 120))) ∷ one (Event.Call 0 (Call.Write 1 21 (filled 121))) ∷
      one (Event.Call 0 (Call.Write 1 22 (filled 122))) ∷ one (Event.Call 0 (Call.Write 1 23 (filled 123))) ∷
      one (Event.Call 0 (Call.Write 1 24 (filled 124))) ∷ one (Event.Call 0 (Call.Write 1 25 (filled 125))) ∷
      one (Event.Call 0 (Call.Write 1 26 (filled 126))) ∷ one (Event.Call 0 (Call.Write 1 27 (filled 127))) ∷
      one (Event.Call 0 (Call.Write 1 28 (filled 128))) ∷ one (Event.Call 0 (Call.Write 1 29 (filled 129))) ∷
      one (Event.Call 0 (Call.Write 1 30 (filled 130))) ∷ one (Event.Call 0 (Call.Write 1 31 (filled 131))) ∷
      one (Event.Call 0 (Call.Write 1 32 (filled 132))) ∷ one (Event.Call 0 (Call.Write 1 33 (filled 133))) ∷
      one (Event.Call 0 (Call.Write 1 34 (filled 134))) ∷ one (Event.Call 0 (Call.Write 1 35 (filled 135))) ∷
      one (Event.Call 0 (Call.Write 1 36 (filled 136))) ∷ one (Event.Call 0 (Call.Write 1 37 (filled 137))) ∷
      one (Event.Call 0 (Call.Write 1 38 (filled 138))) ∷ one (Event.Call 0 (Call.Write 1 39 (filled 139))) ∷
      one (Event.Call 0 (Call.Sync 1)) ∷ flow ∷ one (Event.Call 1 (Call.Lookup (98 ∷ 105 ∷ 103 ∷ []))) ∷ flow ∷
      one (Event.Call 1 (Call.Read 1 39)) ∷ flow ∷ round 2 ∷ flow ∷ round 28 ∷ one (Event.Call 1 (Call.Read 1 0)) ∷ flow ∷
      one (Event.Call 1 (Call.Read 1 0)) ∷ round 27 ∷ flow ∷ round 30 ∷ [];
  journal =
      Entry.G (record { host = 1; inc = 1 }) 1 Mode.Reading (record { boot = 1; number = 5 }) 30 57 ∷
      Entry.A (record { host = 1; inc = 1 }) 4 (Said.OkValue 100) ∷
      Entry.R (record { host = 1; inc = 1 }) 4 1 0 100 None ∷ Entry.C (record { host = 1; inc = 1 }) 4 (Told.Read 1 0) ∷
      Entry.A (record { host = 1; inc = 1 }) 3 (Said.OkBy 100 93) ∷
      Entry.R (record { host = 1; inc = 1 }) 3 1 0 100 (Some 93) ∷
      Entry.G (record { host = 1; inc = 1 }) 1 Mode.Reading (record { boot = 1; number = 4 }) 30 30 ∷
      Entry.C (record { host = 1; inc = 1 }) 3 (Told.Read 1 0) ∷
      Entry.A (record { host = 1; inc = 1 }) 2 (Said.OkBy 139 91) ∷
      Entry.R (record { host = 1; inc = 1 }) 2 1 39 139 (Some 91) ∷
      Entry.G (record { host = 1; inc = 1 }) 1 Mode.NonCaching (record { boot = 1; number = 3 }) 28 2 ∷
      Entry.C (record { host = 1; inc = 1 }) 2 (Told.Read 1 39) ∷
      Entry.A (record { host = 1; inc = 1 }) 1 (Said.OkValue 1) ∷
      Entry.C (record { host = 1; inc = 1 }) 1 (Told.Lookup (98 ∷ 105 ∷ 103 ∷ [])) ∷
      Entry.A (record { host = 0; inc = 1 }) 42 Said.Ok ∷ Entry.S (record { host = 0; inc = 1 }) 1 39 40 40 0 ∷
      Entry.S (record { host = 0; inc = 1 }) 1 38 39 39 0 ∷ Entry.S (record { host = 0; inc = 1 }) 1 37 38 38 0 ∷
      Entry.S (record { host = 0; inc = 1 }) 1 36 37 37 0 ∷ Entry.S (record { host = 0; inc = 1 }) 1 35 36 36 0 ∷
      Entry.S (record { host = 0; inc = 1 }) 1 34 35 35 0 ∷ Entry.S (record { host = 0; inc = 1 }) 1 33 34 34 0 ∷
      Entry.S (record { host = 0; inc = 1 }) 1 32 33 33 0 ∷ Entry.S (record { host = 0; inc = 1 }) 1 31 32 32 0 ∷
      Entry.S (record { host = 0; inc = 1 }) 1 30 31 31 0 ∷ Entry.S (record { host = 0; inc = 1 }) 1 29 30 30 0 ∷
      Entry.S (record { host = 0; inc = 1 }) 1 28 29 29 0 ∷ Entry.S (record { host = 0; inc = 1 }) 1 27 28 28 0 ∷
      Entry.S (record { host = 0; inc = 1 }) 1 26 27 27 0 ∷ Entry.S (record { host = 0; inc = 1 }) 1 25 26 26 0 ∷
      Entry.S (record { host = 0; inc = 1 }) 1 24 25 25 0 ∷ Entry.S (record { host = 0; inc = 1 }) 1 23 24 24 0 ∷
      Entry.S (record { host = 0; inc = 1 }) 1 22 23 23 0 ∷ Entry.S (record { host = 0; inc = 1 }) 1 21 22 22 0 ∷
      Entry.S (record { host = 0; inc = 1 }) 1 20 21 21 0 ∷ Entry.S (record { host = 0; inc = 1 }) 1 19 20 20 0 ∷
      Entry.S (record { host = 0; inc = 1 }) 1 18 19 19 0 ∷ Entry.S (record { host = 0; inc = 1 }) 1 17 18 18 0 ∷
      Entry.S (record { host = 0; inc = 1 }) 1 16 17 17 0 ∷ Entry.S (record { host = 0; inc = 1 }) 1 15 16 16 0 ∷
      Entry.S (record { host = 0; inc = 1 }) 1 14 15 15 0 ∷ Entry.S (record { host = 0; inc = 1 }) 1 13 14 14 0 ∷
      Entry.S (record { host = 0; inc = 1 }) 1 12 13 13 0 ∷ Entry.S (record { host = 0; inc = 1 }) 1 11 12 12 0 ∷
      Entry.S (record { host = 0; inc = 1 }) 1 10 11 11 0 ∷ Entry.S (record { host = 0; inc = 1 }) 1 9 10 10 0 ∷
      Entry.S (record { host = 0; inc = 1 }) 1 8 9 9 0 ∷ Entry.S (record { host = 0; inc = 1 }) 1 7 8 8 0 ∷
      Entry.S (record { host = 0; inc = 1 }) 1 6 7 7 0 ∷ Entry.S (record { host = 0; inc = 1 }) 1 5 6 6 0 ∷
      Entry.S (record { host = 0; inc = 1 }) 1 4 5 5 0 ∷ Entry.S (record { host = 0; inc = 1 }) 1 3 4 4 0 ∷
      Entry.S (record { host = 0; inc = 1 }) 1 2 3 3 0 ∷ Entry.S (record { host = 0; inc = 1 }) 1 1 2 2 0 ∷
      Entry.S (record { host = 0; inc = 1 }) 1 0 1 1 0 ∷ Entry.C (record { host = 0; inc = 1 }) 42 (Told.Sync 1) ∷
      Entry.A (record { host = 0; inc = 1 }) 41 Said.Ok ∷ Entry.W (record { host = 0; inc = 1 }) 1 39 40 139 false ∷
      Entry.C (record { host = 0; inc = 1 }) 41 (Told.Write 1 39 139) ∷
      Entry.A (record { host = 0; inc = 1 }) 40 Said.Ok ∷ Entry.W (record { host = 0; inc = 1 }) 1 38 39 138 false ∷
      Entry.C (record { host = 0; inc = 1 }) 40 (Told.Write 1 38 138) ∷
      Entry.A (record { host = 0; inc = 1 }) 39 Said.Ok ∷ Entry.W (record { host = 0; inc = 1 }) 1 37 38 137 false ∷
      Entry.C (record { host = 0; inc = 1 }) 39 (Told.Write 1 37 137) ∷
      Entry.A (record { host = 0; inc = 1 }) 38 Said.Ok ∷ Entry.W (record { host = 0; inc = 1 }) 1 36 37 136 false ∷
      Entry.C (record { host = 0; inc = 1 }) 38 (Told.Write 1 36 136) ∷
      Entry.A (record { host = 0; inc = 1 }) 37 Said.Ok ∷ Entry.W (record { host = 0; inc = 1 }) 1 35 36 135 false ∷
      Entry.C (record { host = 0; inc = 1 }) 37 (Told.Write 1 35 135) ∷
      Entry.A (record { host = 0; inc = 1 }) 36 Said.Ok ∷ Entry.W (record { host = 0; inc = 1 }) 1 34 35 134 false ∷
      Entry.C (record { host = 0; inc = 1 }) 36 (Told.Write 1 34 134) ∷
      Entry.A (record { host = 0; inc = 1 }) 35 Said.Ok ∷ Entry.W (record { host = 0; inc = 1 }) 1 33 34 133 false ∷
      Entry.C (record { host = 0; inc = 1 }) 35 (Told.Write 1 33 133) ∷
      Entry.A (record { host = 0; inc = 1 }) 34 Said.Ok ∷ Entry.W (record { host = 0; inc = 1 }) 1 32 33 132 false ∷
      Entry.C (record { host = 0; inc = 1 }) 34 (Told.Write 1 32 132) ∷
      Entry.A (record { host = 0; inc = 1 }) 33 Said.Ok ∷ Entry.W (record { host = 0; inc = 1 }) 1 31 32 131 false ∷
      Entry.C (record { host = 0; inc = 1 }) 33 (Told.Write 1 31 131) ∷
      Entry.A (record { host = 0; inc = 1 }) 32 Said.Ok ∷ Entry.W (record { host = 0; inc = 1 }) 1 30 31 130 false ∷
      Entry.C (record { host = 0; inc = 1 }) 32 (Told.Write 1 30 130) ∷
      Entry.A (record { host = 0; inc = 1 }) 31 Said.Ok ∷ Entry.W (record { host = 0; inc = 1 }) 1 29 30 129 false ∷
      Entry.C (record { host = 0; inc = 1 }) 31 (Told.Write 1 29 129) ∷
      Entry.A (record { host = 0; inc = 1 }) 30 Said.Ok ∷ Entry.W (record { host = 0; inc = 1 }) 1 28 29 128 false ∷
      Entry.C (record { host = 0; inc = 1 }) 30 (Told.Write 1 28 128) ∷
      Entry.A (record { host = 0; inc = 1 }) 29 Said.Ok ∷ Entry.W (record { host = 0; inc = 1 }) 1 27 28 127 false ∷
      Entry.C (record { host = 0; inc = 1 }) 29 (Told.Write 1 27 127) ∷
      Entry.A (record { host = 0; inc = 1 }) 28 Said.Ok ∷ Entry.W (record { host = 0; inc = 1 }) 1 26 27 126 false ∷
      Entry.C (record { host = 0; inc = 1 }) 28 (Told.Write 1 26 126) ∷
      Entry.A (record { host = 0; inc = 1 }) 27 Said.Ok ∷ Entry.W (record { host = 0; inc = 1 }) 1 25 26 125 false ∷
      Entry.C (record { host = 0; inc = 1 }) 27 (Told.Write 1 25 125) ∷
      Entry.A (record { host = 0; inc = 1 }) 26 Said.Ok ∷ Entry.W (record { host = 0; inc = 1 }) 1 24 25 124 false ∷
      Entry.C (record { host = 0; inc = 1 }) 26 (Told.Write 1 24 124) ∷
      Entry.A (record { host = 0; inc = 1 }) 25 Said.Ok ∷ Entry.W (record { host = 0; inc = 1 }) 1 23 24 123 false ∷
      Entry.C (record { host = 0; inc = 1 }) 25 (Told.Write 1 23 123) ∷
      Entry.A (record { host = 0; inc = 1 }) 24 Said.Ok ∷ Entry.W (record { host = 0; inc = 1 }) 1 22 23 122 false ∷
      Entry.C (record { host = 0; inc = 1 }) 24 (Told.Write 1 22 122) ∷
      Entry.A (record { host = 0; inc = 1 }) 23 Said.Ok ∷ Entry.W (record { host = 0; inc = 1 }) 1 21 22 121 false ∷
      Entry.C (record { host = 0; inc = 1 }) 23 (Told.Write 1 21 121) ∷
      Entry.A (record { host = 0; inc = 1 }) 22 Said.Ok ∷ Entry.W (record { host = 0; inc = 1 }) 1 20 21 120 false ∷
      Entry.C (record { host = 0; inc = 1 }) 22 (Told.Write 1 20 120) ∷
      Entry.A (record { host = 0; inc = 1 }) 21 Said.Ok ∷ Entry.W (record { host = 0; inc = 1 }) 1 19 20 119 false ∷
      Entry.C (record { host = 0; inc = 1 }) 21 (Told.Write 1 19 119) ∷
      Entry.A (record { host = 0; inc = 1 }) 20 Said.Ok ∷ Entry.W (record { host = 0; inc = 1 }) 1 18 19 118 false ∷
      Entry.C (record { host = 0; inc = 1 }) 20 (Told.Write 1 18 118) ∷
      Entry.A (record { host = 0; inc = 1 }) 19 Said.Ok ∷ Entry.W (record { host = 0; inc = 1 }) 1 17 18 117 false ∷
      Entry.C (record { host = 0; inc = 1 }) 19 (Told.Write 1 17 117) ∷
      Entry.A (record { host = 0; inc = 1 }) 18 Said.Ok ∷ Entry.W (record { host = 0; inc = 1 }) 1 16 17 116 false ∷
      Entry.C (record { host = 0; inc = 1 }) 18 (Told.Write 1 16 116) ∷
      Entry.A (record { host = 0; inc = 1 }) 17 Said.Ok ∷ Entry.W (record { host = 0; inc = 1 }) 1 15 16 115 false ∷
      Entry.C (record { host = 0; inc = 1 }) 17 (Told.Write 1 15 115) ∷
      Entry.A (record { host = 0; inc = 1 }) 16 Said.Ok ∷ Entry.W (record { host = 0; inc = 1 }) 1 14 15 114 false ∷
      Entry.C (record { host = 0; inc = 1 }) 16 (Told.Write 1 14 114) ∷
      Entry.A (record { host = 0; inc = 1 }) 15 Said.Ok ∷ Entry.W (record { host = 0; inc = 1 }) 1 13 14 113 false ∷
      Entry.C (record { host = 0; inc = 1 }) 15 (Told.Write 1 13 113) ∷
      Entry.A (record { host = 0; inc = 1 }) 14 Said.Ok ∷ Entry.W (record { host = 0; inc = 1 }) 1 12 13 112 false ∷
      Entry.C (record { host = 0; inc = 1 }) 14 (Told.Write 1 12 112) ∷
      Entry.A (record { host = 0; inc = 1 }) 13 Said.Ok ∷ Entry.W (record { host = 0; inc = 1 }) 1 11 12 111 false ∷
      Entry.C (record { host = 0; inc = 1 }) 13 (Told.Write 1 11 111) ∷
      Entry.A (record { host = 0; inc = 1 }) 12 Said.Ok ∷ Entry.W (record { host = 0; inc = 1 }) 1 10 11 110 false ∷
      Entry.C (record { host = 0; inc = 1 }) 12 (Told.Write 1 10 110) ∷
      Entry.A (record { host = 0; inc = 1 }) 11 Said.Ok ∷ Entry.W (record { host = 0; inc = 1 }) 1 9 10 109 false ∷
      Entry.C (record { host = 0; inc = 1 }) 11 (Told.Write 1 9 109) ∷ Entry.A (record { host = 0; inc = 1 }) 10 Said.Ok ∷
      Entry.W (record { host = 0; inc = 1 }) 1 8 9 108 false ∷
      Entry.C (record { host = 0; inc = 1 }) 10 (Told.Write 1 8 108) ∷ Entry.A (record { host = 0; inc = 1 }) 9 Said.Ok ∷
      Entry.W (record { host = 0; inc = 1 }) 1 7 8 107 false ∷
      Entry.C (record { host = 0; inc = 1 }) 9 (Told.Write 1 7 107) ∷ Entry.A (record { host = 0; inc = 1 }) 8 Said.Ok ∷
      Entry.W (record { host = 0; inc = 1 }) 1 6 7 106 false ∷
      Entry.C (record { host = 0; inc = 1 }) 8 (Told.Write 1 6 106) ∷ Entry.A (record { host = 0; inc = 1 }) 7 Said.Ok ∷
      Entry.W (record { host = 0; inc = 1 }) 1 5 6 105 false ∷
      Entry.C (record { host = 0; inc = 1 }) 7 (Told.Write 1 5 105) ∷ Entry.A (record { host = 0; inc = 1 }) 6 Said.Ok ∷
      Entry.W (record { host = 0; inc = 1 }) 1 4 5 104 false ∷
      Entry.C (record { host = 0; inc = 1 }) 6 (Told.Write 1 4 104) ∷ Entry.A (record { host = 0; inc = 1 }) 5 Said.Ok ∷
      Entry.W (record { host = 0; inc = 1 }) 1 3 4 103 false ∷
      Entry.C (record { host = 0; inc = 1 }) 5 (Told.Write 1 3 103) ∷ Entry.A (record { host = 0; inc = 1 }) 4 Said.Ok ∷
      Entry.W (record { host = 0; inc = 1 }) 1 2 3 102 false ∷
      Entry.C (record { host = 0; inc = 1 }) 4 (Told.Write 1 2 102) ∷ Entry.A (record { host = 0; inc = 1 }) 3 Said.Ok ∷
      Entry.W (record { host = 0; inc = 1 }) 1 1 2 101 false ∷
      Entry.C (record { host = 0; inc = 1 }) 3 (Told.Write 1 1 101) ∷ Entry.A (record { host = 0; inc = 1 }) 2 Said.Ok ∷
      Entry.W (record { host = 0; inc = 1 }) 1 0 1 100 false ∷
      Entry.G (record { host = 0; inc = 1 }) 1 Mode.Writing (record { boot = 1; number = 1 }) 30 0 ∷
      Entry.C (record { host = 0; inc = 1 }) 2 (Told.Write 1 0 100) ∷
      Entry.A (record { host = 0; inc = 1 }) 1 (Said.OkValue 1) ∷
      Entry.C (record { host = 0; inc = 1 }) 1 (Told.Create (98 ∷ 105 ∷ 103 ∷ []) 40) ∷ [];
}

-- cut off beyond write slack
abbrev pub cut_off_beyond_write_slack : Example
cut_off_beyond_write_slack = record {
  head = record { hosts = 2; term = 5; longest = 60; files = ((97 ∷ []), 1) ∷ [] };
  lines =
      one (Event.Call 0 (Call.Write 1 0 (filled 5))) ∷ one (Event.Deliver 0) ∷ one (Event.Deliver 1) ∷ round 13 ∷
      one (Event.Call 1 (Call.Put 1 0 (filled 8))) ∷ one (Event.Deliver 8) ∷ one (Event.Deliver 9) ∷
      one (Event.Deliver 2) ∷ one (Event.Deliver 10) ∷ one (Event.Call 0 (Call.Sync 1)) ∷
      one (Event.Call 0 (Call.Read 1 0)) ∷ one (Event.Deliver 11) ∷ one (Event.Deliver 12) ∷ [];
  journal =
      Entry.A (record { host = 0; inc = 1 }) 3 (Said.OkBy 8 12) ∷
      Entry.R (record { host = 0; inc = 1 }) 3 1 0 8 (Some 12) ∷
      Entry.G (record { host = 0; inc = 1 }) 1 Mode.Reading (record { boot = 1; number = 2 }) 5 13 ∷
      Entry.C (record { host = 0; inc = 1 }) 3 (Told.Read 1 0) ∷
      Entry.A (record { host = 0; inc = 1 }) 2 (Said.Lost (record { items = record { block = 0; first = 1; last = 1 } ∷ []; spare = 0 })) ∷
      Entry.C (record { host = 0; inc = 1 }) 2 (Told.Sync 1) ∷ Entry.L (record { host = 0; inc = 1 }) 1 0 1 1 ∷
      Entry.A (record { host = 1; inc = 1 }) 1 Said.Ok ∷ Entry.W (record { host = 1; inc = 1 }) 1 0 1 8 true ∷
      Entry.C (record { host = 1; inc = 1 }) 1 (Told.Put 1 0 8) ∷ Entry.F (record { host = 0; inc = 1 }) 1 8 0 13 ∷
      Entry.A (record { host = 0; inc = 1 }) 1 Said.Ok ∷ Entry.W (record { host = 0; inc = 1 }) 1 0 1 5 false ∷
      Entry.G (record { host = 0; inc = 1 }) 1 Mode.Writing (record { boot = 1; number = 1 }) 5 0 ∷
      Entry.C (record { host = 0; inc = 1 }) 1 (Told.Write 1 0 5) ∷ [];
}

-- delayed writes
abbrev pub delayed_writes : Example
delayed_writes = record {
  head = record { hosts = 1; term = 30; longest = 60; files = ((97 ∷ []), 1) ∷ [] };
  lines =
      one (Event.Call 0 (Call.Write 1 0 (filled 5))) ∷ one (Event.Deliver 0) ∷ one (Event.Deliver 1) ∷
      one (Event.Call 0 (Call.Write 1 0 (filled 6))) ∷ one (Event.Call 0 (Call.Write 1 0 (filled 7))) ∷
      one (Event.Call 0 (Call.Sync 1)) ∷ one (Event.Deliver 2) ∷ one (Event.Deliver 3) ∷ [];
  journal =
      Entry.A (record { host = 0; inc = 1 }) 4 Said.Ok ∷ Entry.S (record { host = 0; inc = 1 }) 1 0 1 3 0 ∷
      Entry.C (record { host = 0; inc = 1 }) 4 (Told.Sync 1) ∷ Entry.A (record { host = 0; inc = 1 }) 3 Said.Ok ∷
      Entry.W (record { host = 0; inc = 1 }) 1 0 3 7 false ∷ Entry.C (record { host = 0; inc = 1 }) 3 (Told.Write 1 0 7) ∷
      Entry.A (record { host = 0; inc = 1 }) 2 Said.Ok ∷ Entry.W (record { host = 0; inc = 1 }) 1 0 2 6 false ∷
      Entry.C (record { host = 0; inc = 1 }) 2 (Told.Write 1 0 6) ∷ Entry.A (record { host = 0; inc = 1 }) 1 Said.Ok ∷
      Entry.W (record { host = 0; inc = 1 }) 1 0 1 5 false ∷
      Entry.G (record { host = 0; inc = 1 }) 1 Mode.Writing (record { boot = 1; number = 1 }) 30 0 ∷
      Entry.C (record { host = 0; inc = 1 }) 1 (Told.Write 1 0 5) ∷ [];
}

-- empty
abbrev pub empty : Example
empty = record {
  head = record { hosts = 1; term = 30; longest = 60; files = [] };
  lines =
      [];
  journal =
      [];
}

-- no space
abbrev pub no_space : Example
no_space = record {
  head = record { hosts = 1; term = 30; longest = 60; files = ((102 ∷ 48 ∷ []), 1024) ∷ ((102 ∷ 49 ∷ []), 1024) ∷ ((102 ∷ 50 ∷ []), 1024) ∷ ((102 ∷ 51 ∷ []), 1024) ∷ ((102 ∷ 52 ∷ []), 1024) ∷ ((102 ∷ 53 ∷ []), 1024) ∷ ((102 ∷ 54 ∷ []), 1024) ∷ ((102 ∷ 55 ∷ []), 1024) ∷ ((102 ∷ 56 ∷ []), 1024) ∷ ((102 ∷ 57 ∷ []), 1024) ∷ ((102 ∷ 49 ∷ 48 ∷ []), 1024) ∷ ((102 ∷ 49 ∷ 49 ∷ []), 1024) ∷ ((102 ∷ 49 ∷ 50 ∷ []), 1024) ∷ ((102 ∷ 49 ∷ 51 ∷ []), 1024) ∷ ((102 ∷ 49 ∷ 52 ∷ []), 1024) ∷ ((102 ∷ 49 ∷ 53 ∷ []), 1024) ∷ [] };
  lines =
      one (Event.Call 0 (Call.Create (120 ∷ []) 1)) ∷ flow ∷ [];
  journal =
      Entry.A (record { host = 0; inc = 1 }) 1 Said.NoSpace ∷
      Entry.C (record { host = 0; inc = 1 }) 1 (Told.Create (120 ∷ []) 1) ∷ [];
}

-- one request three times
abbrev pub one_request_three_times : Example
one_request_three_times = record {
  head = record { hosts = 2; term = 30; longest = 60; files = ((97 ∷ []), 1) ∷ [] };
  lines =
      one (Event.Call 0 (Call.Put 1 0 (filled 7))) ∷ one (Event.Deliver 0) ∷
      one (Event.Call 1 (Call.Put 1 0 (filled 8))) ∷ one (Event.Deliver 2) ∷ one (Event.Deliver 0) ∷
      one (Event.Deliver 0) ∷ one (Event.Deliver 4) ∷ one (Event.Deliver 3) ∷ one (Event.Call 0 (Call.Fetch 1 0)) ∷
      one (Event.Deliver 6) ∷ one (Event.Deliver 7) ∷ one (Event.Deliver 5) ∷ [];
  journal =
      Entry.A (record { host = 0; inc = 1 }) 2 (Said.OkBy 8 7) ∷ Entry.R (record { host = 0; inc = 1 }) 2 1 0 8 (Some 7) ∷
      Entry.C (record { host = 0; inc = 1 }) 2 (Told.Fetch 1 0) ∷ Entry.A (record { host = 1; inc = 1 }) 1 Said.Ok ∷
      Entry.A (record { host = 0; inc = 1 }) 1 Said.Ok ∷ Entry.W (record { host = 1; inc = 1 }) 1 0 1 8 true ∷
      Entry.C (record { host = 1; inc = 1 }) 1 (Told.Put 1 0 8) ∷ Entry.W (record { host = 0; inc = 1 }) 1 0 1 7 true ∷
      Entry.C (record { host = 0; inc = 1 }) 1 (Told.Put 1 0 7) ∷ [];
}

-- put then fetch
abbrev pub put_then_fetch : Example
put_then_fetch = record {
  head = record { hosts = 2; term = 30; longest = 60; files = ((97 ∷ []), 1) ∷ [] };
  lines =
      one (Event.Call 0 (Call.Put 1 0 (filled 7))) ∷ one (Event.Deliver 0) ∷ one (Event.Deliver 1) ∷
      one (Event.Call 1 (Call.Fetch 1 0)) ∷ one (Event.Deliver 2) ∷ one (Event.Deliver 3) ∷ [];
  journal =
      Entry.A (record { host = 1; inc = 1 }) 1 (Said.OkBy 7 3) ∷ Entry.R (record { host = 1; inc = 1 }) 1 1 0 7 (Some 3) ∷
      Entry.C (record { host = 1; inc = 1 }) 1 (Told.Fetch 1 0) ∷ Entry.A (record { host = 0; inc = 1 }) 1 Said.Ok ∷
      Entry.W (record { host = 0; inc = 1 }) 1 0 1 7 true ∷ Entry.C (record { host = 0; inc = 1 }) 1 (Told.Put 1 0 7) ∷ [];
}

-- refusals
abbrev pub refusals : Example
refusals = record {
  head = record { hosts = 1; term = 30; longest = 60; files = ((97 ∷ []), 1) ∷ [] };
  lines =
      one (Event.Call 0 (Call.Create (97 ∷ []) 4)) ∷ one (Event.Call 0 (Call.Lookup (97 ∷ []))) ∷ flow ∷
      one (Event.Call 0 (Call.Lookup (122 ∷ 122 ∷ []))) ∷ flow ∷ one (Event.Call 0 (Call.Attr 1)) ∷ flow ∷
      one (Event.Call 0 (Call.Fetch 9 0)) ∷ flow ∷ one (Event.Call 0 (Call.Fetch 1 1)) ∷ flow ∷
      one (Event.Call 0 (Call.Create (99 ∷ []) 1025)) ∷ flow ∷ one (Event.Call 0 (Call.Create (99 ∷ []) 4)) ∷ flow ∷ [];
  journal =
      Entry.A (record { host = 0; inc = 1 }) 8 (Said.OkValue 2) ∷
      Entry.C (record { host = 0; inc = 1 }) 8 (Told.Create (99 ∷ []) 4) ∷
      Entry.A (record { host = 0; inc = 1 }) 7 Said.Range ∷
      Entry.C (record { host = 0; inc = 1 }) 7 (Told.Create (99 ∷ []) 1025) ∷
      Entry.A (record { host = 0; inc = 1 }) 6 Said.Range ∷ Entry.C (record { host = 0; inc = 1 }) 6 (Told.Fetch 1 1) ∷
      Entry.A (record { host = 0; inc = 1 }) 5 Said.Stale ∷ Entry.C (record { host = 0; inc = 1 }) 5 (Told.Fetch 9 0) ∷
      Entry.A (record { host = 0; inc = 1 }) 4 (Said.OkValue 1) ∷ Entry.C (record { host = 0; inc = 1 }) 4 (Told.Attr 1) ∷
      Entry.A (record { host = 0; inc = 1 }) 3 Said.NoEntry ∷
      Entry.C (record { host = 0; inc = 1 }) 3 (Told.Lookup (122 ∷ 122 ∷ [])) ∷
      Entry.A (record { host = 0; inc = 1 }) 1 Said.Exists ∷ Entry.A (record { host = 0; inc = 1 }) 2 Said.Busy ∷
      Entry.C (record { host = 0; inc = 1 }) 2 (Told.Lookup (97 ∷ [])) ∷
      Entry.C (record { host = 0; inc = 1 }) 1 (Told.Create (97 ∷ []) 4) ∷ [];
}

-- resize and remove
abbrev pub resize_and_remove : Example
resize_and_remove = record {
  head = record { hosts = 1; term = 30; longest = 60; files = ((97 ∷ []), 2) ∷ [] };
  lines =
      one (Event.Call 0 (Call.Write 1 1 (filled 5))) ∷ flow ∷ one (Event.Call 0 (Call.Resize 1 1)) ∷ flow ∷
      one (Event.Call 0 (Call.Resize 1 2)) ∷ flow ∷ one (Event.Call 0 (Call.Fetch 1 1)) ∷ flow ∷
      one (Event.Call 0 (Call.Remove 1)) ∷ flow ∷ one (Event.Call 0 (Call.Fetch 1 0)) ∷ flow ∷
      one (Event.Call 0 (Call.Create (97 ∷ []) 1)) ∷ flow ∷ [];
  journal =
      Entry.A (record { host = 0; inc = 1 }) 7 (Said.OkValue 2) ∷
      Entry.C (record { host = 0; inc = 1 }) 7 (Told.Create (97 ∷ []) 1) ∷
      Entry.A (record { host = 0; inc = 1 }) 6 Said.Stale ∷ Entry.C (record { host = 0; inc = 1 }) 6 (Told.Fetch 1 0) ∷
      Entry.A (record { host = 0; inc = 1 }) 5 Said.Ok ∷ Entry.Z (record { host = 0; inc = 1 }) 5 1 2 0 ∷
      Entry.C (record { host = 0; inc = 1 }) 5 (Told.Remove 1) ∷
      Entry.A (record { host = 0; inc = 1 }) 4 (Said.OkBy 0 9) ∷ Entry.R (record { host = 0; inc = 1 }) 4 1 1 0 (Some 9) ∷
      Entry.C (record { host = 0; inc = 1 }) 4 (Told.Fetch 1 1) ∷ Entry.A (record { host = 0; inc = 1 }) 3 Said.Ok ∷
      Entry.Z (record { host = 0; inc = 1 }) 3 1 1 2 ∷ Entry.C (record { host = 0; inc = 1 }) 3 (Told.Resize 1 2) ∷
      Entry.A (record { host = 0; inc = 1 }) 2 Said.Ok ∷ Entry.Z (record { host = 0; inc = 1 }) 2 1 2 1 ∷
      Entry.S (record { host = 0; inc = 1 }) 1 1 1 1 0 ∷ Entry.C (record { host = 0; inc = 1 }) 2 (Told.Resize 1 1) ∷
      Entry.A (record { host = 0; inc = 1 }) 1 Said.Ok ∷ Entry.W (record { host = 0; inc = 1 }) 1 1 1 5 false ∷
      Entry.G (record { host = 0; inc = 1 }) 1 Mode.Writing (record { boot = 1; number = 1 }) 30 0 ∷
      Entry.C (record { host = 0; inc = 1 }) 1 (Told.Write 1 1 5) ∷ [];
}

-- the last tick of a lease
abbrev pub the_last_tick_of_a_lease : Example
the_last_tick_of_a_lease = record {
  head = record { hosts = 1; term = 5; longest = 60; files = ((97 ∷ []), 1) ∷ [] };
  lines =
      one (Event.Call 0 (Call.Read 1 0)) ∷ one (Event.Deliver 0) ∷ one (Event.Deliver 1) ∷ round 4 ∷
      one (Event.Call 0 (Call.Read 1 0)) ∷ round 1 ∷ one (Event.Call 0 (Call.Read 1 0)) ∷ one (Event.Deliver 2) ∷
      one (Event.Deliver 3) ∷ [];
  journal =
      Entry.A (record { host = 0; inc = 1 }) 3 (Said.OkBy 0 3) ∷ Entry.R (record { host = 0; inc = 1 }) 3 1 0 0 (Some 3) ∷
      Entry.G (record { host = 0; inc = 1 }) 1 Mode.Reading (record { boot = 1; number = 2 }) 5 5 ∷
      Entry.C (record { host = 0; inc = 1 }) 3 (Told.Read 1 0) ∷
      Entry.A (record { host = 0; inc = 1 }) 2 (Said.OkValue 0) ∷ Entry.R (record { host = 0; inc = 1 }) 2 1 0 0 None ∷
      Entry.C (record { host = 0; inc = 1 }) 2 (Told.Read 1 0) ∷
      Entry.A (record { host = 0; inc = 1 }) 1 (Said.OkBy 0 1) ∷ Entry.R (record { host = 0; inc = 1 }) 1 1 0 0 (Some 1) ∷
      Entry.G (record { host = 0; inc = 1 }) 1 Mode.Reading (record { boot = 1; number = 1 }) 5 0 ∷
      Entry.C (record { host = 0; inc = 1 }) 1 (Told.Read 1 0) ∷ [];
}

-- three ticks ahead
abbrev pub three_ticks_ahead : Example
three_ticks_ahead = record {
  head = record { hosts = 1; term = 30; longest = 60; files = [] };
  lines =
      times 3 Event.ServerTick ∷ [];
  journal =
      [];
}

-- two crashes
abbrev pub two_crashes : Example
two_crashes = record {
  head = record { hosts = 2; term = 30; longest = 60; files = ((97 ∷ []), 1) ∷ [] };
  lines =
      one (Event.Call 0 (Call.Write 1 0 (filled 5))) ∷ one (Event.Deliver 0) ∷ one (Event.Deliver 1) ∷
      one (Event.Crash 60) ∷ one (Event.Call 1 (Call.Read 1 0)) ∷ one (Event.Deliver 2) ∷ one (Event.Deliver 3) ∷
      one (Event.Call 0 (Call.Sync 1)) ∷ one (Event.Crash 60) ∷ one (Event.Deliver 4) ∷ one (Event.Deliver 5) ∷ round 68 ∷
      one (Event.Deliver 6) ∷ one (Event.Deliver 61) ∷ [];
  journal =
      Entry.A (record { host = 1; inc = 1 }) 1 (Said.OkBy 5 61) ∷
      Entry.R (record { host = 1; inc = 1 }) 1 1 0 5 (Some 61) ∷
      Entry.G (record { host = 1; inc = 1 }) 1 Mode.Reading (record { boot = 3; number = 1 }) 30 68 ∷ Entry.O 3 68 0 68 ∷
      Entry.A (record { host = 0; inc = 1 }) 2 Said.Ok ∷ Entry.S (record { host = 0; inc = 1 }) 1 0 1 1 0 ∷
      Entry.X 3 0 60 ∷ Entry.C (record { host = 0; inc = 1 }) 2 (Told.Sync 1) ∷
      Entry.C (record { host = 1; inc = 1 }) 1 (Told.Read 1 0) ∷ Entry.X 2 0 60 ∷
      Entry.A (record { host = 0; inc = 1 }) 1 Said.Ok ∷ Entry.W (record { host = 0; inc = 1 }) 1 0 1 5 false ∷
      Entry.G (record { host = 0; inc = 1 }) 1 Mode.Writing (record { boot = 1; number = 1 }) 30 0 ∷
      Entry.C (record { host = 0; inc = 1 }) 1 (Told.Write 1 0 5) ∷ [];
}

-- write sharing
abbrev pub write_sharing : Example
write_sharing = record {
  head = record { hosts = 2; term = 30; longest = 60; files = ((97 ∷ []), 1) ∷ [] };
  lines =
      one (Event.Call 0 (Call.Write 1 0 (filled 5))) ∷ one (Event.Deliver 0) ∷ one (Event.Deliver 1) ∷
      one (Event.Call 1 (Call.Read 1 0)) ∷ one (Event.Deliver 2) ∷ one (Event.Deliver 4) ∷ one (Event.Deliver 3) ∷
      one (Event.Deliver 5) ∷ one (Event.Deliver 6) ∷ one (Event.Deliver 7) ∷ round 2 ∷ one (Event.Deliver 8) ∷
      one (Event.Deliver 9) ∷ one (Event.Call 0 (Call.Write 1 0 (filled 6))) ∷ one (Event.Deliver 10) ∷
      one (Event.Deliver 11) ∷ one (Event.Deliver 12) ∷ one (Event.Deliver 13) ∷ one (Event.Call 1 (Call.Read 1 0)) ∷
      one (Event.Deliver 14) ∷ one (Event.Deliver 15) ∷ [];
  journal =
      Entry.A (record { host = 1; inc = 1 }) 2 (Said.OkBy 6 15) ∷
      Entry.R (record { host = 1; inc = 1 }) 2 1 0 6 (Some 15) ∷
      Entry.C (record { host = 1; inc = 1 }) 2 (Told.Read 1 0) ∷ Entry.A (record { host = 0; inc = 1 }) 2 Said.Ok ∷
      Entry.W (record { host = 0; inc = 1 }) 1 0 2 6 true ∷
      Entry.G (record { host = 0; inc = 1 }) 1 Mode.NonCaching (record { boot = 1; number = 4 }) 30 2 ∷
      Entry.C (record { host = 0; inc = 1 }) 2 (Told.Write 1 0 6) ∷
      Entry.A (record { host = 1; inc = 1 }) 1 (Said.OkBy 5 9) ∷ Entry.R (record { host = 1; inc = 1 }) 1 1 0 5 (Some 9) ∷
      Entry.G (record { host = 1; inc = 1 }) 1 Mode.NonCaching (record { boot = 1; number = 3 }) 28 2 ∷
      Entry.S (record { host = 0; inc = 1 }) 1 0 1 1 0 ∷ Entry.C (record { host = 1; inc = 1 }) 1 (Told.Read 1 0) ∷
      Entry.A (record { host = 0; inc = 1 }) 1 Said.Ok ∷ Entry.W (record { host = 0; inc = 1 }) 1 0 1 5 false ∷
      Entry.G (record { host = 0; inc = 1 }) 1 Mode.Writing (record { boot = 1; number = 1 }) 30 0 ∷
      Entry.C (record { host = 0; inc = 1 }) 1 (Told.Write 1 0 5) ∷ [];
}

-- all of these
abbrev pub worked : List Example
worked =
    a_cached_read ∷ a_fenced_write_in_recovery ∷ a_grant_after_its_ticket_was_cancelled ∷ a_late_vacated_message ∷
    a_loss_found_while_a_put_waits ∷ a_purge_by_revision ∷ a_push_dropped_after_a_restart ∷
    a_push_stored_after_a_restart ∷ a_read_executed_twice ∷ a_recovery_after_a_long_term ∷ a_request_sent_again ∷
    a_resize_under_a_reading_lease ∷ a_restart_before_the_request_arrives ∷ a_write_at_the_last_slack_tick ∷
    an_ordinary_session ∷ cut_off_beyond_write_slack ∷ delayed_writes ∷ empty ∷ no_space ∷ one_request_three_times ∷
    put_then_fetch ∷ refusals ∷ resize_and_remove ∷ the_last_tick_of_a_lease ∷ three_ticks_ahead ∷ two_crashes ∷
    write_sharing ∷ []
