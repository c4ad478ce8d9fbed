use Rattle.std.specs.Prelude.{List, [], ◌∷◌, Some, None, true, false}
use Rattle.nq_base.specs.Block.{filled}
use Rattle.nq_base.specs.declared.Call.{Call}
use Rattle.nq_base.specs.declared.Entry.{Entry}
use Rattle.nq_base.specs.declared.Event.{Event}
use Rattle.nq_base.specs.declared.Mode.{Mode}
use Rattle.nq_base.specs.declared.Said.{Said}
use Rattle.nq_base.specs.declared.Told.{Told}
use Rattle.nq_laws.specs.Example.{Example}
use Rattle.nq_model.specs.protocol.Lines.{one, times, round, flow}

-- run 21
abbrev pub run_21 : Example
run_21 = record {
  head = record { hosts = 2; term = 5; longest = 60; files = ((126 ∷ 46 ∷ 126 ∷ []), 7) ∷ [] };
  lines =
      one (Event.Call 0 (Call.Sync 1)) ∷ round 3 ∷ one (Event.Restart 1) ∷ round 1 ∷ round 1 ∷ one (Event.Deliver 0) ∷
      one (Event.Call 0 (Call.Read 1 4)) ∷ one (Event.Deliver 1) ∷ times 7 (Event.ClientTick 1) ∷ one (Event.Deliver 2) ∷
      round 2 ∷ round 2 ∷ flow ∷ round 3 ∷ one (Event.Crash 60) ∷ times 7 (Event.ClientTick 1) ∷
      one (Event.Call 1 (Call.Put 1 0 (filled 1))) ∷ one (Event.Call 0 (Call.Sync 1)) ∷
      one (Event.Call 0 (Call.Write 1 0 (filled 2))) ∷ one (Event.Deliver 16) ∷ one (Event.Deliver 17) ∷
      one (Event.Deliver 18) ∷ one (Event.Deliver 19) ∷ round 2 ∷ one (Event.Deliver 20) ∷ one (Event.Deliver 21) ∷
      one (Event.Deliver 22) ∷ one (Event.Deliver 23) ∷ round 2 ∷ one (Event.Deliver 24) ∷ one (Event.Deliver 25) ∷
      one (Event.Deliver 26) ∷ one (Event.Deliver 27) ∷ flow ∷ round 1 ∷ round 5 ∷ one (Event.Deliver 28) ∷
      one (Event.Deliver 29) ∷ one (Event.Deliver 30) ∷ round 5 ∷ one (Event.Deliver 31) ∷ one (Event.Deliver 32) ∷
      one (Event.Deliver 33) ∷ one (Event.Deliver 34) ∷ one (Event.Deliver 35) ∷ one (Event.Deliver 36) ∷
      one (Event.Deliver 37) ∷ one (Event.Deliver 38) ∷ flow ∷ flow ∷ round 6 ∷ one (Event.Deliver 48) ∷
      one (Event.Deliver 49) ∷ flow ∷ [];
  journal =
      Entry.C (record { host = 0; inc = 1 }) 4 (Told.Write 1 0 2) ∷ Entry.A (record { host = 0; inc = 1 }) 3 Said.Ok ∷
      Entry.C (record { host = 0; inc = 1 }) 3 (Told.Sync 1) ∷ Entry.C (record { host = 1; inc = 2 }) 1 (Told.Put 1 0 1) ∷
      Entry.X 2 12 60 ∷ Entry.A (record { host = 0; inc = 1 }) 2 (Said.OkBy 0 10) ∷
      Entry.R (record { host = 0; inc = 1 }) 2 1 4 0 (Some 15) ∷
      Entry.G (record { host = 0; inc = 1 }) 1 Mode.Reading (record { boot = 1; number = 3 }) 5 9 ∷
      Entry.R (record { host = 0; inc = 1 }) 2 1 4 0 (Some 14) ∷
      Entry.G (record { host = 0; inc = 1 }) 1 Mode.Reading (record { boot = 1; number = 2 }) 5 9 ∷
      Entry.R (record { host = 0; inc = 1 }) 2 1 4 0 (Some 10) ∷
      Entry.G (record { host = 0; inc = 1 }) 1 Mode.Reading (record { boot = 1; number = 1 }) 5 9 ∷
      Entry.C (record { host = 0; inc = 1 }) 2 (Told.Read 1 4) ∷ Entry.B (record { host = 1; inc = 2 }) ∷
      Entry.A (record { host = 0; inc = 1 }) 1 Said.Ok ∷ Entry.C (record { host = 0; inc = 1 }) 1 (Told.Sync 1) ∷ [];
}

-- run 22
abbrev pub run_22 : Example
run_22 = record {
  head = record { hosts = 5; term = 30; longest = 60; files = ((97 ∷ []), 2) ∷ [] };
  lines =
      round 2 ∷ times 1 Event.ServerTick ∷ one (Event.Call 3 (Call.Write 1 0 (filled 1))) ∷
      one (Event.Call 1 (Call.Read 1 4294967295)) ∷ one (Event.Deliver 0) ∷ round 2 ∷ one (Event.Deliver 1) ∷
      one (Event.Deliver 2) ∷ one (Event.Deliver 3) ∷ one (Event.Deliver 4) ∷ one (Event.Deliver 5) ∷
      one (Event.Deliver 6) ∷ one (Event.Deliver 7) ∷ round 14 ∷ flow ∷ one (Event.Call 0 (Call.Sync 1)) ∷ flow ∷
      one (Event.Call 0 (Call.Read 1 0)) ∷ flow ∷ one (Event.Call 1 (Call.Sync 1)) ∷ flow ∷
      one (Event.Call 1 (Call.Read 1 0)) ∷ flow ∷ one (Event.Call 2 (Call.Sync 1)) ∷ flow ∷
      one (Event.Call 2 (Call.Read 1 0)) ∷ flow ∷ one (Event.Call 3 (Call.Sync 1)) ∷ flow ∷
      one (Event.Call 3 (Call.Read 1 0)) ∷ flow ∷ one (Event.Call 4 (Call.Sync 1)) ∷ flow ∷
      one (Event.Call 4 (Call.Read 1 0)) ∷ flow ∷ round 3 ∷ flow ∷ [];
  journal =
      Entry.A (record { host = 0; inc = 1 }) 2 (Said.OkBy 1 23) ∷
      Entry.R (record { host = 0; inc = 1 }) 2 1 0 1 (Some 23) ∷
      Entry.G (record { host = 0; inc = 1 }) 1 Mode.NonCaching (record { boot = 1; number = 8 }) 27 22 ∷
      Entry.A (record { host = 4; inc = 1 }) 2 (Said.OkBy 1 21) ∷
      Entry.R (record { host = 4; inc = 1 }) 2 1 0 1 (Some 21) ∷
      Entry.G (record { host = 4; inc = 1 }) 1 Mode.NonCaching (record { boot = 1; number = 7 }) 30 19 ∷
      Entry.C (record { host = 4; inc = 1 }) 2 (Told.Read 1 0) ∷ Entry.A (record { host = 4; inc = 1 }) 1 Said.Ok ∷
      Entry.C (record { host = 4; inc = 1 }) 1 (Told.Sync 1) ∷ Entry.A (record { host = 3; inc = 1 }) 3 (Said.OkBy 1 19) ∷
      Entry.R (record { host = 3; inc = 1 }) 3 1 0 1 (Some 19) ∷
      Entry.G (record { host = 3; inc = 1 }) 1 Mode.NonCaching (record { boot = 1; number = 6 }) 30 19 ∷
      Entry.C (record { host = 3; inc = 1 }) 3 (Told.Read 1 0) ∷ Entry.A (record { host = 3; inc = 1 }) 2 Said.Ok ∷
      Entry.C (record { host = 3; inc = 1 }) 2 (Told.Sync 1) ∷ Entry.A (record { host = 2; inc = 1 }) 2 (Said.OkBy 1 17) ∷
      Entry.R (record { host = 2; inc = 1 }) 2 1 0 1 (Some 17) ∷
      Entry.G (record { host = 2; inc = 1 }) 1 Mode.NonCaching (record { boot = 1; number = 5 }) 30 19 ∷
      Entry.C (record { host = 2; inc = 1 }) 2 (Told.Read 1 0) ∷ Entry.A (record { host = 2; inc = 1 }) 1 Said.Ok ∷
      Entry.C (record { host = 2; inc = 1 }) 1 (Told.Sync 1) ∷ Entry.A (record { host = 1; inc = 1 }) 3 (Said.OkBy 1 15) ∷
      Entry.R (record { host = 1; inc = 1 }) 3 1 0 1 (Some 15) ∷
      Entry.G (record { host = 1; inc = 1 }) 1 Mode.NonCaching (record { boot = 1; number = 4 }) 30 19 ∷
      Entry.C (record { host = 1; inc = 1 }) 3 (Told.Read 1 0) ∷ Entry.A (record { host = 1; inc = 1 }) 2 Said.Ok ∷
      Entry.C (record { host = 1; inc = 1 }) 2 (Told.Sync 1) ∷ Entry.S (record { host = 3; inc = 1 }) 1 0 1 1 19 ∷
      Entry.C (record { host = 0; inc = 1 }) 2 (Told.Read 1 0) ∷ Entry.A (record { host = 0; inc = 1 }) 1 Said.Ok ∷
      Entry.C (record { host = 0; inc = 1 }) 1 (Told.Sync 1) ∷ Entry.A (record { host = 1; inc = 1 }) 1 Said.Range ∷
      Entry.G (record { host = 3; inc = 1 }) 1 Mode.Writing (record { boot = 1; number = 2 }) 30 5 ∷
      Entry.A (record { host = 3; inc = 1 }) 1 Said.Ok ∷ Entry.W (record { host = 3; inc = 1 }) 1 0 1 1 false ∷
      Entry.G (record { host = 3; inc = 1 }) 1 Mode.Writing (record { boot = 1; number = 1 }) 30 3 ∷
      Entry.C (record { host = 1; inc = 1 }) 1 (Told.Read 1 4294967295) ∷
      Entry.C (record { host = 3; inc = 1 }) 1 (Told.Write 1 0 1) ∷ [];
}

-- run 23
abbrev pub run_23 : Example
run_23 = record {
  head = record { hosts = 2; term = 5; longest = 60; files = ((126 ∷ 46 ∷ 126 ∷ []), 3) ∷ ((120 ∷ 120 ∷ 120 ∷ 120 ∷ 120 ∷ 120 ∷ 120 ∷ 120 ∷ 120 ∷ 120 ∷ 120 ∷ 120 ∷ 120 ∷ 120 ∷ 120 ∷ 120 ∷ 120 ∷ 120 ∷ 120 ∷ 120 ∷ 120 ∷ 120 ∷ 120 ∷ 120 ∷ 120 ∷ 120 ∷ 120 ∷ 120 ∷ 120 ∷ 120 ∷ 120 ∷ 120 ∷ 120 ∷ 120 ∷ 120 ∷ 120 ∷ 120 ∷ 120 ∷ 120 ∷ 120 ∷ 120 ∷ 120 ∷ 120 ∷ 120 ∷ 120 ∷ 120 ∷ 120 ∷ 120 ∷ 120 ∷ 120 ∷ 120 ∷ 120 ∷ 120 ∷ 120 ∷ 120 ∷ 120 ∷ 120 ∷ 120 ∷ 120 ∷ 120 ∷ 120 ∷ 120 ∷ 120 ∷ 120 ∷ []), 1) ∷ [] };
  lines =
      one (Event.Call 1 (Call.Write 2 0 (filled 1))) ∷ round 2 ∷ one (Event.Deliver 0) ∷ one (Event.Deliver 1) ∷
      one (Event.Deliver 2) ∷ one (Event.Deliver 3) ∷ one (Event.Deliver 4) ∷ one (Event.Deliver 5) ∷
      one (Event.Call 1 (Call.Put 1 0 (filled 2))) ∷ round 2 ∷ one (Event.Deliver 6) ∷ one (Event.Deliver 7) ∷
      one (Event.Deliver 8) ∷ one (Event.Deliver 9) ∷ one (Event.Call 1 (Call.Write 2 0 (filled 3))) ∷
      one (Event.Call 1 (Call.Put 1 0 (filled 4))) ∷ one (Event.Call 0 (Call.Read 2 0)) ∷ one (Event.Deliver 11) ∷
      one (Event.Restart 0) ∷ one (Event.Deliver 14) ∷ one (Event.Deliver 15) ∷ one (Event.Call 0 (Call.Read 1 0)) ∷
      one (Event.Restart 0) ∷ one (Event.Deliver 17) ∷ one (Event.Deliver 18) ∷ one (Event.Deliver 10) ∷
      one (Event.Deliver 12) ∷ one (Event.Deliver 13) ∷ one (Event.Deliver 16) ∷ one (Event.Deliver 19) ∷
      one (Event.Deliver 20) ∷ one (Event.Deliver 21) ∷ one (Event.Deliver 22) ∷ times 1 (Event.ClientTick 1) ∷
      one (Event.Deliver 4) ∷ one (Event.Call 1 (Call.Put 1 0 (filled 7))) ∷
      one (Event.Call 0 (Call.Write 1 1 (filled 8))) ∷ one (Event.Deliver 23) ∷ round 2 ∷ one (Event.Deliver 24) ∷
      one (Event.Deliver 25) ∷ one (Event.Deliver 26) ∷ times 2 Event.ServerTick ∷ one (Event.Deliver 27) ∷
      one (Event.Deliver 28) ∷ one (Event.Call 1 (Call.Write 1 0 (filled 9))) ∷ one (Event.Deliver 29) ∷
      one (Event.Deliver 30) ∷ [];
  journal =
      Entry.A (record { host = 0; inc = 3 }) 1 Said.Ok ∷ Entry.W (record { host = 0; inc = 3 }) 1 1 1 8 false ∷
      Entry.C (record { host = 1; inc = 1 }) 6 (Told.Write 1 0 9) ∷ Entry.A (record { host = 1; inc = 1 }) 5 Said.Ok ∷
      Entry.G (record { host = 0; inc = 3 }) 1 Mode.Writing (record { boot = 1; number = 5 }) 5 6 ∷
      Entry.G (record { host = 0; inc = 3 }) 1 Mode.Writing (record { boot = 1; number = 4 }) 5 6 ∷
      Entry.W (record { host = 1; inc = 1 }) 1 0 5 7 true ∷ Entry.C (record { host = 0; inc = 3 }) 1 (Told.Write 1 1 8) ∷
      Entry.C (record { host = 1; inc = 1 }) 5 (Told.Put 1 0 7) ∷ Entry.A (record { host = 1; inc = 1 }) 4 Said.Ok ∷
      Entry.W (record { host = 1; inc = 1 }) 1 0 4 4 true ∷ Entry.S (record { host = 1; inc = 1 }) 2 0 3 3 4 ∷
      Entry.B (record { host = 0; inc = 3 }) ∷ Entry.C (record { host = 0; inc = 2 }) 1 (Told.Read 1 0) ∷
      Entry.B (record { host = 0; inc = 2 }) ∷ Entry.C (record { host = 0; inc = 1 }) 1 (Told.Read 2 0) ∷
      Entry.C (record { host = 1; inc = 1 }) 4 (Told.Put 1 0 4) ∷ Entry.A (record { host = 1; inc = 1 }) 3 Said.Ok ∷
      Entry.W (record { host = 1; inc = 1 }) 2 0 3 3 false ∷ Entry.C (record { host = 1; inc = 1 }) 3 (Told.Write 2 0 3) ∷
      Entry.A (record { host = 1; inc = 1 }) 2 Said.Ok ∷ Entry.W (record { host = 1; inc = 1 }) 1 0 2 2 true ∷
      Entry.C (record { host = 1; inc = 1 }) 2 (Told.Put 1 0 2) ∷ Entry.S (record { host = 1; inc = 1 }) 2 0 1 1 2 ∷
      Entry.A (record { host = 1; inc = 1 }) 1 Said.Ok ∷ Entry.W (record { host = 1; inc = 1 }) 2 0 1 1 false ∷
      Entry.G (record { host = 1; inc = 1 }) 2 Mode.Writing (record { boot = 1; number = 2 }) 5 2 ∷
      Entry.G (record { host = 1; inc = 1 }) 2 Mode.Writing (record { boot = 1; number = 1 }) 5 2 ∷
      Entry.C (record { host = 1; inc = 1 }) 1 (Told.Write 2 0 1) ∷ [];
}

-- run 24
abbrev pub run_24 : Example
run_24 = record {
  head = record { hosts = 3; term = 6; longest = 60; files = ((120 ∷ 120 ∷ 120 ∷ 120 ∷ 120 ∷ 120 ∷ 120 ∷ 120 ∷ 120 ∷ 120 ∷ 120 ∷ 120 ∷ 120 ∷ 120 ∷ 120 ∷ 120 ∷ 120 ∷ 120 ∷ 120 ∷ 120 ∷ 120 ∷ 120 ∷ 120 ∷ 120 ∷ 120 ∷ 120 ∷ 120 ∷ 120 ∷ 120 ∷ 120 ∷ 120 ∷ 120 ∷ 120 ∷ 120 ∷ 120 ∷ 120 ∷ 120 ∷ 120 ∷ 120 ∷ 120 ∷ 120 ∷ 120 ∷ 120 ∷ 120 ∷ 120 ∷ 120 ∷ 120 ∷ 120 ∷ 120 ∷ 120 ∷ 120 ∷ 120 ∷ 120 ∷ 120 ∷ 120 ∷ 120 ∷ 120 ∷ 120 ∷ 120 ∷ 120 ∷ 120 ∷ 120 ∷ 120 ∷ 120 ∷ []), 2) ∷ [] };
  lines =
      one (Event.Call 0 (Call.Write 1 0 (filled 1))) ∷ one (Event.Deliver 0) ∷ one (Event.Deliver 1) ∷
      one (Event.Call 0 (Call.Sync 1)) ∷ one (Event.Deliver 2) ∷ one (Event.Deliver 3) ∷ round 3 ∷
      one (Event.Call 0 (Call.Write 1 0 (filled 2))) ∷ one (Event.Call 0 (Call.Write 1 0 (filled 3))) ∷
      one (Event.Call 0 (Call.Write 1 0 (filled 4))) ∷ one (Event.Call 0 (Call.Put 1 0 (filled 5))) ∷
      times 12 (Event.ClientTick 1) ∷ times 12 (Event.ClientTick 2) ∷ times 10 (Event.ClientTick 0) ∷
      times 3 Event.ServerTick ∷ one (Event.Call 1 (Call.Write 1 0 (filled 6))) ∷ one (Event.Deliver 4) ∷
      one (Event.Deliver 5) ∷ one (Event.Deliver 6) ∷ one (Event.Deliver 7) ∷ one (Event.Deliver 8) ∷
      one (Event.Deliver 9) ∷ one (Event.Deliver 10) ∷ one (Event.Deliver 11) ∷ one (Event.Deliver 12) ∷
      one (Event.Deliver 13) ∷ one (Event.Deliver 14) ∷ one (Event.Deliver 15) ∷ one (Event.Deliver 16) ∷
      one (Event.Deliver 17) ∷ one (Event.Deliver 18) ∷ one (Event.Deliver 19) ∷ one (Event.Deliver 20) ∷
      one (Event.Deliver 21) ∷ one (Event.Call 2 (Call.Create (97 ∷ []) 2)) ∷ round 2 ∷ one (Event.Deliver 22) ∷
      one (Event.Deliver 23) ∷ one (Event.Deliver 24) ∷ one (Event.Deliver 25) ∷ one (Event.Deliver 26) ∷
      one (Event.Deliver 27) ∷ one (Event.Deliver 28) ∷ one (Event.Deliver 29) ∷ one (Event.Deliver 14) ∷ flow ∷
      one (Event.Call 0 (Call.Fetch 1 1)) ∷ [];
  journal =
      Entry.C (record { host = 0; inc = 1 }) 7 (Told.Fetch 1 1) ∷ Entry.A (record { host = 1; inc = 1 }) 1 Said.Ok ∷
      Entry.W (record { host = 1; inc = 1 }) 1 0 1 6 true ∷ Entry.A (record { host = 2; inc = 1 }) 1 (Said.OkValue 2) ∷
      Entry.G (record { host = 1; inc = 1 }) 1 Mode.NonCaching (record { boot = 1; number = 9 }) 4 8 ∷
      Entry.C (record { host = 2; inc = 1 }) 1 (Told.Create (97 ∷ []) 2) ∷
      Entry.A (record { host = 0; inc = 1 }) 6 Said.Ok ∷ Entry.S (record { host = 0; inc = 1 }) 1 0 2 5 6 ∷
      Entry.G (record { host = 0; inc = 1 }) 1 Mode.Writing (record { boot = 1; number = 7 }) 6 6 ∷
      Entry.G (record { host = 0; inc = 1 }) 1 Mode.Writing (record { boot = 1; number = 6 }) 6 6 ∷
      Entry.G (record { host = 0; inc = 1 }) 1 Mode.Writing (record { boot = 1; number = 5 }) 6 6 ∷
      Entry.G (record { host = 0; inc = 1 }) 1 Mode.Writing (record { boot = 1; number = 4 }) 6 6 ∷
      Entry.G (record { host = 0; inc = 1 }) 1 Mode.Writing (record { boot = 1; number = 3 }) 6 6 ∷
      Entry.G (record { host = 0; inc = 1 }) 1 Mode.Writing (record { boot = 1; number = 2 }) 6 6 ∷
      Entry.C (record { host = 1; inc = 1 }) 1 (Told.Write 1 0 6) ∷ Entry.W (record { host = 0; inc = 1 }) 1 0 5 5 false ∷
      Entry.C (record { host = 0; inc = 1 }) 6 (Told.Put 1 0 5) ∷ Entry.A (record { host = 0; inc = 1 }) 5 Said.Ok ∷
      Entry.W (record { host = 0; inc = 1 }) 1 0 4 4 false ∷ Entry.C (record { host = 0; inc = 1 }) 5 (Told.Write 1 0 4) ∷
      Entry.A (record { host = 0; inc = 1 }) 4 Said.Ok ∷ Entry.W (record { host = 0; inc = 1 }) 1 0 3 3 false ∷
      Entry.C (record { host = 0; inc = 1 }) 4 (Told.Write 1 0 3) ∷ Entry.A (record { host = 0; inc = 1 }) 3 Said.Ok ∷
      Entry.W (record { host = 0; inc = 1 }) 1 0 2 2 false ∷ Entry.C (record { host = 0; inc = 1 }) 3 (Told.Write 1 0 2) ∷
      Entry.A (record { host = 0; inc = 1 }) 2 Said.Ok ∷ Entry.S (record { host = 0; inc = 1 }) 1 0 1 1 0 ∷
      Entry.C (record { host = 0; inc = 1 }) 2 (Told.Sync 1) ∷ Entry.A (record { host = 0; inc = 1 }) 1 Said.Ok ∷
      Entry.W (record { host = 0; inc = 1 }) 1 0 1 1 false ∷
      Entry.G (record { host = 0; inc = 1 }) 1 Mode.Writing (record { boot = 1; number = 1 }) 6 0 ∷
      Entry.C (record { host = 0; inc = 1 }) 1 (Told.Write 1 0 1) ∷ [];
}

-- run 25
abbrev pub run_25 : Example
run_25 = record {
  head = record { hosts = 2; term = 5; longest = 60; files = ((97 ∷ []), 2) ∷ [] };
  lines =
      one (Event.Call 0 (Call.Write 1 0 (filled 1))) ∷ one (Event.Deliver 0) ∷ one (Event.Deliver 1) ∷ round 13 ∷
      one (Event.Call 1 (Call.Write 1 0 (filled 2))) ∷ one (Event.Deliver 8) ∷ one (Event.Deliver 9) ∷
      one (Event.Deliver 2) ∷ one (Event.Deliver 3) ∷ one (Event.Deliver 4) ∷ one (Event.Deliver 5) ∷
      one (Event.Deliver 6) ∷ one (Event.Deliver 7) ∷ one (Event.Deliver 10) ∷ one (Event.Deliver 11) ∷
      one (Event.Deliver 12) ∷ one (Event.Deliver 13) ∷ one (Event.Deliver 14) ∷ one (Event.Deliver 15) ∷
      one (Event.Call 0 (Call.Sync 1)) ∷ one (Event.Call 0 (Call.Put 1 0 (filled 5))) ∷ one (Event.Deliver 16) ∷
      one (Event.Deliver 17) ∷ one (Event.Deliver 18) ∷ one (Event.Deliver 19) ∷ one (Event.Deliver 20) ∷
      one (Event.Deliver 21) ∷ one (Event.Call 1 (Call.Write 1 0 (filled 5))) ∷ round 2 ∷ one (Event.Deliver 22) ∷
      one (Event.Deliver 23) ∷ one (Event.Deliver 0) ∷ round 2 ∷ one (Event.Deliver 24) ∷ one (Event.Deliver 25) ∷
      one (Event.Deliver 26) ∷ one (Event.Deliver 27) ∷ one (Event.Deliver 28) ∷ one (Event.Deliver 29) ∷
      one (Event.Deliver 30) ∷ one (Event.Deliver 31) ∷ one (Event.Deliver 32) ∷ one (Event.Deliver 33) ∷
      one (Event.Deliver 34) ∷ one (Event.Deliver 35) ∷ one (Event.Deliver 36) ∷ one (Event.Deliver 37) ∷
      one (Event.Deliver 38) ∷ one (Event.Deliver 39) ∷ times 2 Event.ServerTick ∷ round 2 ∷ one (Event.Deliver 40) ∷
      one (Event.Deliver 41) ∷ round 2 ∷ one (Event.Crash 60) ∷ one (Event.Call 0 (Call.Write 1 0 (filled 6))) ∷
      one (Event.Call 1 (Call.Read 1 1)) ∷ one (Event.Deliver 42) ∷ one (Event.Deliver 43) ∷ [];
  journal =
      Entry.C (record { host = 1; inc = 1 }) 3 (Told.Read 1 1) ∷
      Entry.C (record { host = 0; inc = 1 }) 4 (Told.Write 1 0 6) ∷ Entry.X 2 23 60 ∷
      Entry.A (record { host = 0; inc = 1 }) 3 Said.Ok ∷ Entry.W (record { host = 0; inc = 1 }) 1 0 4 5 true ∷
      Entry.S (record { host = 1; inc = 1 }) 1 0 2 2 17 ∷ Entry.A (record { host = 1; inc = 1 }) 2 Said.Ok ∷
      Entry.W (record { host = 1; inc = 1 }) 1 0 2 5 false ∷
      Entry.G (record { host = 1; inc = 1 }) 1 Mode.Writing (record { boot = 1; number = 3 }) 5 15 ∷
      Entry.C (record { host = 1; inc = 1 }) 2 (Told.Write 1 0 5) ∷ Entry.S (record { host = 1; inc = 1 }) 1 0 1 1 13 ∷
      Entry.C (record { host = 0; inc = 1 }) 3 (Told.Put 1 0 5) ∷
      Entry.A (record { host = 0; inc = 1 }) 2 (Said.Lost (record { items = record { block = 0; first = 1; last = 1 } ∷ []; spare = 0 })) ∷
      Entry.C (record { host = 0; inc = 1 }) 2 (Told.Sync 1) ∷ Entry.L (record { host = 0; inc = 1 }) 1 0 1 1 ∷
      Entry.A (record { host = 1; inc = 1 }) 1 Said.Ok ∷ Entry.W (record { host = 1; inc = 1 }) 1 0 1 2 false ∷
      Entry.G (record { host = 1; inc = 1 }) 1 Mode.Writing (record { boot = 1; number = 2 }) 5 13 ∷
      Entry.C (record { host = 1; inc = 1 }) 1 (Told.Write 1 0 2) ∷ Entry.F (record { host = 0; inc = 1 }) 1 8 0 13 ∷
      Entry.A (record { host = 0; inc = 1 }) 1 Said.Ok ∷ Entry.W (record { host = 0; inc = 1 }) 1 0 1 1 false ∷
      Entry.G (record { host = 0; inc = 1 }) 1 Mode.Writing (record { boot = 1; number = 1 }) 5 0 ∷
      Entry.C (record { host = 0; inc = 1 }) 1 (Told.Write 1 0 1) ∷ [];
}

-- run 26
abbrev pub run_26 : Example
run_26 = record {
  head = record { hosts = 3; term = 5; longest = 60; files = ((108 ∷ 111 ∷ 110 ∷ 103 ∷ 45 ∷ 110 ∷ 97 ∷ 109 ∷ 101 ∷ 95 ∷ 119 ∷ 105 ∷ 116 ∷ 104 ∷ 46 ∷ 100 ∷ 111 ∷ 116 ∷ 115 ∷ []), 2) ∷ [] };
  lines =
      one (Event.Call 0 (Call.Write 1 2 (filled 1))) ∷ one (Event.Deliver 0) ∷ one (Event.Deliver 1) ∷
      one (Event.Call 1 (Call.Attr 1)) ∷ one (Event.Deliver 2) ∷ one (Event.Deliver 3) ∷ round 4 ∷
      one (Event.Call 1 (Call.Write 1 0 (filled 2))) ∷ one (Event.Call 2 (Call.Write 1 0 (filled 3))) ∷
      one (Event.Deliver 4) ∷ one (Event.Deliver 1) ∷ one (Event.Deliver 5) ∷ one (Event.Deliver 6) ∷
      one (Event.Deliver 7) ∷ one (Event.Deliver 8) ∷ one (Event.Call 0 (Call.Write 1 0 (filled 4))) ∷ flow ∷
      one (Event.Restart 1) ∷ one (Event.Deliver 16) ∷ one (Event.Call 0 (Call.Write 1 1 (filled 5))) ∷
      one (Event.Deliver 17) ∷ one (Event.Deliver 18) ∷ flow ∷ one (Event.Deliver 6) ∷ flow ∷
      one (Event.Call 1 (Call.Write 1 0 (filled 6))) ∷ one (Event.Call 0 (Call.Fetch 1 0)) ∷ one (Event.Deliver 20) ∷
      one (Event.Deliver 21) ∷ one (Event.Deliver 22) ∷ one (Event.Deliver 23) ∷ one (Event.Deliver 4) ∷
      one (Event.Deliver 24) ∷ one (Event.Deliver 25) ∷ one (Event.Call 0 (Call.Read 1 0)) ∷
      one (Event.Call 1 (Call.Write 1 1 (filled 7))) ∷ one (Event.Deliver 26) ∷ one (Event.Deliver 28) ∷
      one (Event.Call 0 (Call.Lookup (98 ∷ []))) ∷ round 2 ∷ one (Event.Deliver 27) ∷ one (Event.Deliver 29) ∷
      one (Event.Deliver 30) ∷ one (Event.Deliver 31) ∷ one (Event.Deliver 32) ∷ one (Event.Deliver 33) ∷
      one (Event.Deliver 34) ∷ one (Event.Deliver 35) ∷ one (Event.Deliver 36) ∷ one (Event.Deliver 37) ∷
      one (Event.Deliver 38) ∷ one (Event.Deliver 39) ∷ [];
  journal =
      Entry.A (record { host = 2; inc = 1 }) 1 Said.Ok ∷ Entry.W (record { host = 2; inc = 1 }) 1 0 1 3 true ∷
      Entry.A (record { host = 0; inc = 1 }) 6 Said.NoEntry ∷ Entry.A (record { host = 1; inc = 2 }) 2 Said.Ok ∷
      Entry.G (record { host = 2; inc = 1 }) 1 Mode.NonCaching (record { boot = 1; number = 6 }) 3 6 ∷
      Entry.W (record { host = 1; inc = 2 }) 1 1 2 7 true ∷
      Entry.C (record { host = 0; inc = 1 }) 6 (Told.Lookup (98 ∷ [])) ∷
      Entry.A (record { host = 0; inc = 1 }) 5 (Said.OkBy 6 28) ∷
      Entry.R (record { host = 0; inc = 1 }) 5 1 0 6 (Some 28) ∷
      Entry.C (record { host = 1; inc = 2 }) 2 (Told.Write 1 1 7) ∷
      Entry.C (record { host = 0; inc = 1 }) 5 (Told.Read 1 0) ∷ Entry.A (record { host = 1; inc = 2 }) 1 Said.Ok ∷
      Entry.W (record { host = 1; inc = 2 }) 1 0 1 6 true ∷ Entry.A (record { host = 0; inc = 1 }) 4 (Said.OkBy 4 23) ∷
      Entry.R (record { host = 0; inc = 1 }) 4 1 0 4 (Some 23) ∷
      Entry.G (record { host = 1; inc = 2 }) 1 Mode.NonCaching (record { boot = 1; number = 5 }) 5 4 ∷
      Entry.C (record { host = 0; inc = 1 }) 4 (Told.Fetch 1 0) ∷
      Entry.C (record { host = 1; inc = 2 }) 1 (Told.Write 1 0 6) ∷ Entry.A (record { host = 0; inc = 1 }) 3 Said.Ok ∷
      Entry.W (record { host = 0; inc = 1 }) 1 1 2 5 true ∷ Entry.C (record { host = 0; inc = 1 }) 3 (Told.Write 1 1 5) ∷
      Entry.B (record { host = 1; inc = 2 }) ∷ Entry.A (record { host = 0; inc = 1 }) 2 Said.Ok ∷
      Entry.W (record { host = 0; inc = 1 }) 1 0 1 4 true ∷
      Entry.G (record { host = 0; inc = 1 }) 1 Mode.NonCaching (record { boot = 1; number = 4 }) 5 4 ∷
      Entry.C (record { host = 0; inc = 1 }) 2 (Told.Write 1 0 4) ∷
      Entry.C (record { host = 2; inc = 1 }) 1 (Told.Write 1 0 3) ∷
      Entry.C (record { host = 1; inc = 1 }) 2 (Told.Write 1 0 2) ∷
      Entry.A (record { host = 1; inc = 1 }) 1 (Said.OkValue 2) ∷ Entry.C (record { host = 1; inc = 1 }) 1 (Told.Attr 1) ∷
      Entry.A (record { host = 0; inc = 1 }) 1 Said.Range ∷
      Entry.G (record { host = 0; inc = 1 }) 1 Mode.Writing (record { boot = 1; number = 1 }) 5 0 ∷
      Entry.C (record { host = 0; inc = 1 }) 1 (Told.Write 1 2 1) ∷ [];
}

-- run 27
abbrev pub run_27 : Example
run_27 = record {
  head = record { hosts = 5; term = 7; longest = 60; files = ((120 ∷ 120 ∷ 120 ∷ 120 ∷ 120 ∷ 120 ∷ 120 ∷ 120 ∷ 120 ∷ 120 ∷ 120 ∷ 120 ∷ 120 ∷ 120 ∷ 120 ∷ 120 ∷ 120 ∷ 120 ∷ 120 ∷ 120 ∷ 120 ∷ 120 ∷ 120 ∷ 120 ∷ 120 ∷ 120 ∷ 120 ∷ 120 ∷ 120 ∷ 120 ∷ 120 ∷ 120 ∷ 120 ∷ 120 ∷ 120 ∷ 120 ∷ 120 ∷ 120 ∷ 120 ∷ 120 ∷ 120 ∷ 120 ∷ 120 ∷ 120 ∷ 120 ∷ 120 ∷ 120 ∷ 120 ∷ 120 ∷ 120 ∷ 120 ∷ 120 ∷ 120 ∷ 120 ∷ 120 ∷ 120 ∷ 120 ∷ 120 ∷ 120 ∷ 120 ∷ 120 ∷ 120 ∷ 120 ∷ 120 ∷ []), 4) ∷ ((99 ∷ []), 7) ∷ [] };
  lines =
      one (Event.Call 1 (Call.Write 2 0 (filled 1))) ∷ one (Event.Deliver 0) ∷ one (Event.Deliver 1) ∷
      one (Event.Call 1 (Call.Sync 2)) ∷ one (Event.Deliver 2) ∷ one (Event.Deliver 3) ∷ round 4 ∷
      one (Event.Call 1 (Call.Write 2 5 (filled 2))) ∷ one (Event.Call 1 (Call.Put 2 0 (filled 3))) ∷ round 13 ∷
      one (Event.Call 2 (Call.Write 2 0 (filled 4))) ∷ one (Event.Deliver 11) ∷ one (Event.Deliver 12) ∷
      one (Event.Deliver 4) ∷ one (Event.Deliver 5) ∷ one (Event.Deliver 6) ∷ one (Event.Deliver 7) ∷
      one (Event.Deliver 8) ∷ one (Event.Deliver 9) ∷ one (Event.Deliver 10) ∷ one (Event.Deliver 13) ∷
      one (Event.Deliver 14) ∷ one (Event.Deliver 15) ∷ one (Event.Deliver 16) ∷ one (Event.Deliver 17) ∷
      one (Event.Deliver 18) ∷ one (Event.Deliver 19) ∷ one (Event.Deliver 20) ∷ one (Event.Deliver 21) ∷
      one (Event.Deliver 22) ∷ one (Event.Deliver 23) ∷ one (Event.Deliver 24) ∷ one (Event.Deliver 25) ∷
      one (Event.Deliver 26) ∷ one (Event.Deliver 27) ∷ one (Event.Deliver 28) ∷ one (Event.Deliver 29) ∷
      one (Event.Deliver 30) ∷ one (Event.Deliver 31) ∷ flow ∷ one (Event.Call 3 (Call.Sync 3)) ∷
      one (Event.Call 2 (Call.Read 2 0)) ∷ one (Event.Deliver 32) ∷ one (Event.Deliver 33) ∷
      one (Event.Call 1 (Call.Write 2 2 (filled 5))) ∷ one (Event.Crash 60) ∷ one (Event.Call 0 (Call.Read 1 3)) ∷
      one (Event.Deliver 34) ∷ one (Event.Deliver 35) ∷ round 6 ∷ one (Event.Deliver 36) ∷ one (Event.Deliver 37) ∷
      one (Event.Deliver 38) ∷ one (Event.Deliver 39) ∷ [];
  journal =
      Entry.C (record { host = 0; inc = 1 }) 1 (Told.Read 1 3) ∷ Entry.X 2 17 60 ∷
      Entry.C (record { host = 1; inc = 1 }) 5 (Told.Write 2 2 5) ∷
      Entry.A (record { host = 2; inc = 1 }) 2 (Said.OkBy 4 33) ∷
      Entry.R (record { host = 2; inc = 1 }) 2 2 0 4 (Some 33) ∷
      Entry.G (record { host = 2; inc = 1 }) 2 Mode.NonCaching (record { boot = 1; number = 4 }) 7 17 ∷
      Entry.C (record { host = 2; inc = 1 }) 2 (Told.Read 2 0) ∷ Entry.A (record { host = 3; inc = 1 }) 1 Said.Ok ∷
      Entry.C (record { host = 3; inc = 1 }) 1 (Told.Sync 3) ∷
      Entry.A (record { host = 1; inc = 1 }) 4 (Said.Lost (record { items = record { block = 5; first = 2; last = 2 } ∷ record { block = 0; first = 3; last = 3 } ∷ []; spare = 0 })) ∷
      Entry.L (record { host = 1; inc = 1 }) 2 0 3 3 ∷ Entry.L (record { host = 1; inc = 1 }) 2 5 2 2 ∷
      Entry.S (record { host = 2; inc = 1 }) 2 0 1 1 17 ∷ Entry.A (record { host = 2; inc = 1 }) 1 Said.Ok ∷
      Entry.W (record { host = 2; inc = 1 }) 2 0 1 4 false ∷
      Entry.G (record { host = 2; inc = 1 }) 2 Mode.Writing (record { boot = 1; number = 2 }) 7 17 ∷
      Entry.C (record { host = 2; inc = 1 }) 1 (Told.Write 2 0 4) ∷ Entry.F (record { host = 1; inc = 1 }) 2 10 0 15 ∷
      Entry.W (record { host = 1; inc = 1 }) 2 0 3 3 false ∷ Entry.C (record { host = 1; inc = 1 }) 4 (Told.Put 2 0 3) ∷
      Entry.A (record { host = 1; inc = 1 }) 3 Said.Ok ∷ Entry.W (record { host = 1; inc = 1 }) 2 5 2 2 false ∷
      Entry.C (record { host = 1; inc = 1 }) 3 (Told.Write 2 5 2) ∷ Entry.A (record { host = 1; inc = 1 }) 2 Said.Ok ∷
      Entry.S (record { host = 1; inc = 1 }) 2 0 1 1 0 ∷ Entry.C (record { host = 1; inc = 1 }) 2 (Told.Sync 2) ∷
      Entry.A (record { host = 1; inc = 1 }) 1 Said.Ok ∷ Entry.W (record { host = 1; inc = 1 }) 2 0 1 1 false ∷
      Entry.G (record { host = 1; inc = 1 }) 2 Mode.Writing (record { boot = 1; number = 1 }) 7 0 ∷
      Entry.C (record { host = 1; inc = 1 }) 1 (Told.Write 2 0 1) ∷ [];
}

-- run 28
abbrev pub run_28 : Example
run_28 = record {
  head = record { hosts = 3; term = 15; longest = 60; files = ((99 ∷ []), 7) ∷ ((33 ∷ []), 3) ∷ [] };
  lines =
      round 2 ∷ one (Event.Call 2 (Call.Read 2 0)) ∷ round 1 ∷ one (Event.Deliver 0) ∷ one (Event.Deliver 1) ∷
      times 7 (Event.ClientTick 2) ∷ one (Event.Call 2 (Call.Sync 2)) ∷ one (Event.Call 0 (Call.Write 1 1 (filled 1))) ∷
      one (Event.Deliver 1) ∷ one (Event.Deliver 2) ∷ one (Event.Call 2 (Call.Write 2 0 (filled 2))) ∷
      one (Event.Deliver 3) ∷ one (Event.Call 0 (Call.Write 1 5 (filled 3))) ∷ round 6 ∷
      one (Event.Call 1 (Call.Write 1 0 (filled 4))) ∷ one (Event.Deliver 4) ∷ times 1 (Event.ClientTick 0) ∷
      one (Event.Deliver 5) ∷ one (Event.Deliver 6) ∷ one (Event.Deliver 7) ∷ one (Event.Deliver 8) ∷
      one (Event.Call 0 (Call.Write 1 0 (filled 5))) ∷ flow ∷ one (Event.Call 0 (Call.Read 1 0)) ∷
      one (Event.Deliver 22) ∷ one (Event.Deliver 23) ∷ round 5 ∷ one (Event.Deliver 24) ∷
      one (Event.Call 2 (Call.Attr 1)) ∷ one (Event.Call 0 (Call.Sync 1)) ∷ flow ∷ round 2 ∷ one (Event.Deliver 32) ∷
      one (Event.Deliver 33) ∷ one (Event.Call 2 (Call.Write 2 0 (filled 6))) ∷
      one (Event.Call 0 (Call.Create (97 ∷ []) 1)) ∷ times 2 Event.ServerTick ∷ one (Event.Deliver 34) ∷ flow ∷
      one (Event.Call 0 (Call.Read 1 6)) ∷ one (Event.Deliver 38) ∷ round 1 ∷ [];
  journal =
      Entry.R (record { host = 0; inc = 1 }) 7 1 6 0 (Some 39) ∷
      Entry.C (record { host = 0; inc = 1 }) 7 (Told.Read 1 6) ∷
      Entry.A (record { host = 0; inc = 1 }) 6 (Said.OkValue 3) ∷ Entry.S (record { host = 2; inc = 1 }) 2 0 2 2 18 ∷
      Entry.C (record { host = 0; inc = 1 }) 6 (Told.Create (97 ∷ []) 1) ∷
      Entry.A (record { host = 2; inc = 1 }) 5 Said.Ok ∷ Entry.W (record { host = 2; inc = 1 }) 2 0 2 6 false ∷
      Entry.C (record { host = 2; inc = 1 }) 5 (Told.Write 2 0 6) ∷ Entry.S (record { host = 2; inc = 1 }) 2 0 1 1 16 ∷
      Entry.A (record { host = 1; inc = 1 }) 1 Said.Ok ∷ Entry.A (record { host = 2; inc = 1 }) 4 (Said.OkValue 7) ∷
      Entry.W (record { host = 1; inc = 1 }) 1 0 1 4 true ∷
      Entry.G (record { host = 1; inc = 1 }) 1 Mode.NonCaching (record { boot = 1; number = 10 }) 10 14 ∷
      Entry.A (record { host = 0; inc = 1 }) 5 Said.Ok ∷ Entry.C (record { host = 0; inc = 1 }) 5 (Told.Sync 1) ∷
      Entry.C (record { host = 2; inc = 1 }) 4 (Told.Attr 1) ∷
      Entry.G (record { host = 1; inc = 1 }) 1 Mode.NonCaching (record { boot = 1; number = 9 }) 10 14 ∷
      Entry.A (record { host = 0; inc = 1 }) 4 (Said.OkBy 5 23) ∷
      Entry.R (record { host = 0; inc = 1 }) 4 1 0 5 (Some 23) ∷
      Entry.G (record { host = 0; inc = 1 }) 1 Mode.NonCaching (record { boot = 1; number = 8 }) 15 9 ∷
      Entry.C (record { host = 0; inc = 1 }) 4 (Told.Read 1 0) ∷ Entry.S (record { host = 0; inc = 1 }) 1 0 3 3 9 ∷
      Entry.S (record { host = 0; inc = 1 }) 1 5 2 2 9 ∷ Entry.S (record { host = 0; inc = 1 }) 1 1 1 1 9 ∷
      Entry.A (record { host = 2; inc = 1 }) 3 Said.Ok ∷ Entry.W (record { host = 2; inc = 1 }) 2 0 1 2 false ∷
      Entry.A (record { host = 0; inc = 1 }) 3 Said.Ok ∷ Entry.W (record { host = 0; inc = 1 }) 1 0 3 5 false ∷
      Entry.C (record { host = 0; inc = 1 }) 3 (Told.Write 1 0 5) ∷
      Entry.G (record { host = 2; inc = 1 }) 2 Mode.Writing (record { boot = 1; number = 6 }) 15 9 ∷
      Entry.G (record { host = 2; inc = 1 }) 2 Mode.Writing (record { boot = 1; number = 5 }) 15 9 ∷
      Entry.G (record { host = 2; inc = 1 }) 2 Mode.Writing (record { boot = 1; number = 4 }) 15 9 ∷
      Entry.G (record { host = 2; inc = 1 }) 2 Mode.Writing (record { boot = 1; number = 3 }) 15 9 ∷
      Entry.C (record { host = 1; inc = 1 }) 1 (Told.Write 1 0 4) ∷ Entry.A (record { host = 0; inc = 1 }) 2 Said.Ok ∷
      Entry.W (record { host = 0; inc = 1 }) 1 5 2 3 false ∷ Entry.C (record { host = 0; inc = 1 }) 2 (Told.Write 1 5 3) ∷
      Entry.A (record { host = 0; inc = 1 }) 1 Said.Ok ∷ Entry.W (record { host = 0; inc = 1 }) 1 1 1 1 false ∷
      Entry.C (record { host = 2; inc = 1 }) 3 (Told.Write 2 0 2) ∷
      Entry.G (record { host = 0; inc = 1 }) 1 Mode.Writing (record { boot = 1; number = 2 }) 15 3 ∷
      Entry.C (record { host = 0; inc = 1 }) 1 (Told.Write 1 1 1) ∷ Entry.A (record { host = 2; inc = 1 }) 2 Said.Ok ∷
      Entry.C (record { host = 2; inc = 1 }) 2 (Told.Sync 2) ∷ Entry.A (record { host = 2; inc = 1 }) 1 (Said.OkBy 0 1) ∷
      Entry.R (record { host = 2; inc = 1 }) 1 2 0 0 (Some 1) ∷
      Entry.G (record { host = 2; inc = 1 }) 2 Mode.Reading (record { boot = 1; number = 1 }) 15 3 ∷
      Entry.C (record { host = 2; inc = 1 }) 1 (Told.Read 2 0) ∷ [];
}

-- run 29
abbrev pub run_29 : Example
run_29 = record {
  head = record { hosts = 2; term = 10; longest = 60; files = ((108 ∷ 111 ∷ 110 ∷ 103 ∷ 45 ∷ 110 ∷ 97 ∷ 109 ∷ 101 ∷ 95 ∷ 119 ∷ 105 ∷ 116 ∷ 104 ∷ 46 ∷ 100 ∷ 111 ∷ 116 ∷ 115 ∷ []), 2) ∷ ((99 ∷ []), 1) ∷ ((120 ∷ 120 ∷ 120 ∷ 120 ∷ 120 ∷ 120 ∷ 120 ∷ 120 ∷ 120 ∷ 120 ∷ 120 ∷ 120 ∷ 120 ∷ 120 ∷ 120 ∷ 120 ∷ 120 ∷ 120 ∷ 120 ∷ 120 ∷ 120 ∷ 120 ∷ 120 ∷ 120 ∷ 120 ∷ 120 ∷ 120 ∷ 120 ∷ 120 ∷ 120 ∷ 120 ∷ 120 ∷ 120 ∷ 120 ∷ 120 ∷ 120 ∷ 120 ∷ 120 ∷ 120 ∷ 120 ∷ 120 ∷ 120 ∷ 120 ∷ 120 ∷ 120 ∷ 120 ∷ 120 ∷ 120 ∷ 120 ∷ 120 ∷ 120 ∷ 120 ∷ 120 ∷ 120 ∷ 120 ∷ 120 ∷ 120 ∷ 120 ∷ 120 ∷ 120 ∷ 120 ∷ 120 ∷ 120 ∷ 120 ∷ []), 3) ∷ [] };
  lines =
      round 68 ∷ one (Event.Call 1 (Call.Write 2 0 (filled 1))) ∷ one (Event.Deliver 0) ∷ one (Event.Deliver 1) ∷
      one (Event.Call 1 (Call.Write 3 0 (filled 2))) ∷ one (Event.Deliver 2) ∷ one (Event.Deliver 3) ∷
      one (Event.Call 1 (Call.Write 1 0 (filled 3))) ∷ one (Event.Deliver 4) ∷ one (Event.Deliver 5) ∷
      one (Event.Call 1 (Call.Write 2 0 (filled 4))) ∷ one (Event.Call 1 (Call.Write 3 0 (filled 5))) ∷
      one (Event.Call 1 (Call.Write 1 0 (filled 6))) ∷ one (Event.Call 1 (Call.Write 2 0 (filled 7))) ∷
      one (Event.Call 1 (Call.Write 3 0 (filled 8))) ∷ one (Event.Call 1 (Call.Write 1 0 (filled 9))) ∷
      one (Event.Call 0 (Call.Fetch 2 0)) ∷ one (Event.Restart 0) ∷ one (Event.Deliver 7) ∷ one (Event.Deliver 8) ∷
      one (Event.Call 0 (Call.Fetch 3 0)) ∷ one (Event.Deliver 6) ∷ one (Event.Deliver 9) ∷ one (Event.Restart 0) ∷
      one (Event.Deliver 12) ∷ one (Event.Deliver 13) ∷ one (Event.Call 0 (Call.Read 1 0)) ∷ one (Event.Deliver 10) ∷
      one (Event.Deliver 14) ∷ one (Event.Restart 0) ∷ one (Event.Deliver 18) ∷ one (Event.Deliver 19) ∷
      one (Event.Call 1 (Call.Sync 2)) ∷ one (Event.Deliver 11) ∷ one (Event.Deliver 15) ∷ one (Event.Deliver 16) ∷
      one (Event.Deliver 17) ∷ one (Event.Deliver 20) ∷ one (Event.Deliver 21) ∷ one (Event.Deliver 22) ∷
      one (Event.Deliver 23) ∷ one (Event.Deliver 24) ∷ one (Event.Deliver 25) ∷ one (Event.Deliver 26) ∷
      one (Event.Call 1 (Call.Create (126 ∷ 46 ∷ 126 ∷ []) 5)) ∷ one (Event.Call 0 (Call.Write 2 0 (filled 10))) ∷ [];
  journal =
      Entry.C (record { host = 0; inc = 4 }) 1 (Told.Write 2 0 10) ∷
      Entry.C (record { host = 1; inc = 1 }) 11 (Told.Create (126 ∷ 46 ∷ 126 ∷ []) 5) ∷
      Entry.A (record { host = 1; inc = 1 }) 10 Said.Ok ∷ Entry.S (record { host = 1; inc = 1 }) 2 0 1 7 68 ∷
      Entry.S (record { host = 1; inc = 1 }) 1 0 3 9 68 ∷ Entry.S (record { host = 1; inc = 1 }) 3 0 2 8 68 ∷
      Entry.C (record { host = 1; inc = 1 }) 10 (Told.Sync 2) ∷ Entry.B (record { host = 0; inc = 4 }) ∷
      Entry.C (record { host = 0; inc = 3 }) 1 (Told.Read 1 0) ∷ Entry.B (record { host = 0; inc = 3 }) ∷
      Entry.C (record { host = 0; inc = 2 }) 1 (Told.Fetch 3 0) ∷ Entry.B (record { host = 0; inc = 2 }) ∷
      Entry.C (record { host = 0; inc = 1 }) 1 (Told.Fetch 2 0) ∷ Entry.A (record { host = 1; inc = 1 }) 9 Said.Ok ∷
      Entry.W (record { host = 1; inc = 1 }) 1 0 9 9 false ∷ Entry.C (record { host = 1; inc = 1 }) 9 (Told.Write 1 0 9) ∷
      Entry.A (record { host = 1; inc = 1 }) 8 Said.Ok ∷ Entry.W (record { host = 1; inc = 1 }) 3 0 8 8 false ∷
      Entry.C (record { host = 1; inc = 1 }) 8 (Told.Write 3 0 8) ∷ Entry.A (record { host = 1; inc = 1 }) 7 Said.Ok ∷
      Entry.W (record { host = 1; inc = 1 }) 2 0 7 7 false ∷ Entry.C (record { host = 1; inc = 1 }) 7 (Told.Write 2 0 7) ∷
      Entry.A (record { host = 1; inc = 1 }) 6 Said.Ok ∷ Entry.W (record { host = 1; inc = 1 }) 1 0 6 6 false ∷
      Entry.C (record { host = 1; inc = 1 }) 6 (Told.Write 1 0 6) ∷ Entry.A (record { host = 1; inc = 1 }) 5 Said.Ok ∷
      Entry.W (record { host = 1; inc = 1 }) 3 0 5 5 false ∷ Entry.C (record { host = 1; inc = 1 }) 5 (Told.Write 3 0 5) ∷
      Entry.A (record { host = 1; inc = 1 }) 4 Said.Ok ∷ Entry.W (record { host = 1; inc = 1 }) 2 0 4 4 false ∷
      Entry.C (record { host = 1; inc = 1 }) 4 (Told.Write 2 0 4) ∷ Entry.A (record { host = 1; inc = 1 }) 3 Said.Ok ∷
      Entry.W (record { host = 1; inc = 1 }) 1 0 3 3 false ∷
      Entry.G (record { host = 1; inc = 1 }) 1 Mode.Writing (record { boot = 1; number = 3 }) 10 68 ∷
      Entry.C (record { host = 1; inc = 1 }) 3 (Told.Write 1 0 3) ∷ Entry.A (record { host = 1; inc = 1 }) 2 Said.Ok ∷
      Entry.W (record { host = 1; inc = 1 }) 3 0 2 2 false ∷
      Entry.G (record { host = 1; inc = 1 }) 3 Mode.Writing (record { boot = 1; number = 2 }) 10 68 ∷
      Entry.C (record { host = 1; inc = 1 }) 2 (Told.Write 3 0 2) ∷ Entry.A (record { host = 1; inc = 1 }) 1 Said.Ok ∷
      Entry.W (record { host = 1; inc = 1 }) 2 0 1 1 false ∷
      Entry.G (record { host = 1; inc = 1 }) 2 Mode.Writing (record { boot = 1; number = 1 }) 10 68 ∷
      Entry.C (record { host = 1; inc = 1 }) 1 (Told.Write 2 0 1) ∷ [];
}

-- run 30
abbrev pub run_30 : Example
run_30 = record {
  head = record { hosts = 2; term = 7; longest = 60; files = ((120 ∷ 120 ∷ 120 ∷ 120 ∷ 120 ∷ 120 ∷ 120 ∷ 120 ∷ 120 ∷ 120 ∷ 120 ∷ 120 ∷ 120 ∷ 120 ∷ 120 ∷ 120 ∷ 120 ∷ 120 ∷ 120 ∷ 120 ∷ 120 ∷ 120 ∷ 120 ∷ 120 ∷ 120 ∷ 120 ∷ 120 ∷ 120 ∷ 120 ∷ 120 ∷ 120 ∷ 120 ∷ 120 ∷ 120 ∷ 120 ∷ 120 ∷ 120 ∷ 120 ∷ 120 ∷ 120 ∷ 120 ∷ 120 ∷ 120 ∷ 120 ∷ 120 ∷ 120 ∷ 120 ∷ 120 ∷ 120 ∷ 120 ∷ 120 ∷ 120 ∷ 120 ∷ 120 ∷ 120 ∷ 120 ∷ 120 ∷ 120 ∷ 120 ∷ 120 ∷ 120 ∷ 120 ∷ 120 ∷ 120 ∷ []), 3) ∷ ((33 ∷ []), 4) ∷ ((126 ∷ 46 ∷ 126 ∷ []), 4) ∷ [] };
  lines =
      one (Event.Call 1 (Call.Write 1 0 (filled 1))) ∷ one (Event.Deliver 0) ∷ one (Event.Deliver 1) ∷
      one (Event.Call 1 (Call.Write 3 0 (filled 2))) ∷ one (Event.Deliver 2) ∷ one (Event.Deliver 3) ∷
      one (Event.Call 1 (Call.Write 2 0 (filled 3))) ∷ one (Event.Deliver 4) ∷ one (Event.Deliver 5) ∷
      one (Event.Call 1 (Call.Write 1 0 (filled 4))) ∷ one (Event.Call 1 (Call.Write 3 0 (filled 5))) ∷
      one (Event.Call 1 (Call.Write 2 0 (filled 6))) ∷ one (Event.Call 1 (Call.Put 1 0 (filled 7))) ∷
      one (Event.Call 0 (Call.Fetch 1 0)) ∷ one (Event.Deliver 7) ∷ one (Event.Restart 0) ∷ one (Event.Deliver 10) ∷
      one (Event.Deliver 11) ∷ one (Event.Call 0 (Call.Read 3 0)) ∷ one (Event.Restart 0) ∷ one (Event.Deliver 13) ∷
      one (Event.Deliver 14) ∷ one (Event.Call 0 (Call.Read 2 0)) ∷ one (Event.Restart 0) ∷ one (Event.Deliver 16) ∷
      one (Event.Deliver 17) ∷ one (Event.Deliver 6) ∷ one (Event.Deliver 8) ∷ one (Event.Deliver 9) ∷
      one (Event.Deliver 12) ∷ one (Event.Deliver 15) ∷ one (Event.Deliver 18) ∷ one (Event.Deliver 19) ∷
      one (Event.Call 0 (Call.Read 1 3)) ∷ one (Event.Deliver 20) ∷ one (Event.Call 1 (Call.Read 2 2)) ∷
      one (Event.Deliver 21) ∷ one (Event.Call 0 (Call.Write 1 0 (filled 10))) ∷ one (Event.Deliver 22) ∷
      one (Event.Deliver 23) ∷ one (Event.Deliver 24) ∷ one (Event.Deliver 25) ∷
      one (Event.Call 0 (Call.Write 1 0 (filled 11))) ∷ times 13 (Event.ClientTick 1) ∷ times 12 (Event.ClientTick 0) ∷
      times 3 Event.ServerTick ∷ [];
  journal =
      Entry.A (record { host = 0; inc = 4 }) 3 Said.Ok ∷ Entry.W (record { host = 0; inc = 4 }) 1 0 2 11 false ∷
      Entry.C (record { host = 0; inc = 4 }) 3 (Told.Write 1 0 11) ∷ Entry.A (record { host = 0; inc = 4 }) 2 Said.Ok ∷
      Entry.W (record { host = 0; inc = 4 }) 1 0 1 10 false ∷ Entry.A (record { host = 1; inc = 1 }) 8 (Said.OkBy 0 24) ∷
      Entry.G (record { host = 0; inc = 4 }) 1 Mode.Writing (record { boot = 1; number = 5 }) 7 0 ∷
      Entry.R (record { host = 1; inc = 1 }) 8 2 2 0 (Some 24) ∷
      Entry.G (record { host = 1; inc = 1 }) 2 Mode.Writing (record { boot = 1; number = 4 }) 7 0 ∷
      Entry.C (record { host = 0; inc = 4 }) 2 (Told.Write 1 0 10) ∷ Entry.A (record { host = 0; inc = 4 }) 1 Said.Range ∷
      Entry.C (record { host = 1; inc = 1 }) 8 (Told.Read 2 2) ∷
      Entry.C (record { host = 0; inc = 4 }) 1 (Told.Read 1 3) ∷ Entry.A (record { host = 1; inc = 1 }) 7 Said.Ok ∷
      Entry.S (record { host = 1; inc = 1 }) 1 0 1 7 0 ∷ Entry.B (record { host = 0; inc = 4 }) ∷
      Entry.C (record { host = 0; inc = 3 }) 1 (Told.Read 2 0) ∷ Entry.B (record { host = 0; inc = 3 }) ∷
      Entry.C (record { host = 0; inc = 2 }) 1 (Told.Read 3 0) ∷ Entry.B (record { host = 0; inc = 2 }) ∷
      Entry.C (record { host = 0; inc = 1 }) 1 (Told.Fetch 1 0) ∷ Entry.W (record { host = 1; inc = 1 }) 1 0 7 7 false ∷
      Entry.C (record { host = 1; inc = 1 }) 7 (Told.Put 1 0 7) ∷ Entry.A (record { host = 1; inc = 1 }) 6 Said.Ok ∷
      Entry.W (record { host = 1; inc = 1 }) 2 0 6 6 false ∷ Entry.C (record { host = 1; inc = 1 }) 6 (Told.Write 2 0 6) ∷
      Entry.A (record { host = 1; inc = 1 }) 5 Said.Ok ∷ Entry.W (record { host = 1; inc = 1 }) 3 0 5 5 false ∷
      Entry.C (record { host = 1; inc = 1 }) 5 (Told.Write 3 0 5) ∷ Entry.A (record { host = 1; inc = 1 }) 4 Said.Ok ∷
      Entry.W (record { host = 1; inc = 1 }) 1 0 4 4 false ∷ Entry.C (record { host = 1; inc = 1 }) 4 (Told.Write 1 0 4) ∷
      Entry.A (record { host = 1; inc = 1 }) 3 Said.Ok ∷ Entry.W (record { host = 1; inc = 1 }) 2 0 3 3 false ∷
      Entry.G (record { host = 1; inc = 1 }) 2 Mode.Writing (record { boot = 1; number = 3 }) 7 0 ∷
      Entry.C (record { host = 1; inc = 1 }) 3 (Told.Write 2 0 3) ∷ Entry.A (record { host = 1; inc = 1 }) 2 Said.Ok ∷
      Entry.W (record { host = 1; inc = 1 }) 3 0 2 2 false ∷
      Entry.G (record { host = 1; inc = 1 }) 3 Mode.Writing (record { boot = 1; number = 2 }) 7 0 ∷
      Entry.C (record { host = 1; inc = 1 }) 2 (Told.Write 3 0 2) ∷ Entry.A (record { host = 1; inc = 1 }) 1 Said.Ok ∷
      Entry.W (record { host = 1; inc = 1 }) 1 0 1 1 false ∷
      Entry.G (record { host = 1; inc = 1 }) 1 Mode.Writing (record { boot = 1; number = 1 }) 7 0 ∷
      Entry.C (record { host = 1; inc = 1 }) 1 (Told.Write 1 0 1) ∷ [];
}

-- run 31
abbrev pub run_31 : Example
run_31 = record {
  head = record { hosts = 2; term = 5; longest = 60; files = ((33 ∷ []), 7) ∷ ((99 ∷ []), 1) ∷ [] };
  lines =
      round 1 ∷ round 2 ∷ one (Event.Call 0 (Call.Sync 2)) ∷ flow ∷ flow ∷ flow ∷
      one (Event.Call 1 (Call.Write 1 0 (filled 1))) ∷ flow ∷ flow ∷ one (Event.Call 0 (Call.Write 2 1 (filled 2))) ∷
      one (Event.Call 1 (Call.Read 1 0)) ∷ round 2 ∷ one (Event.Deliver 2) ∷ one (Event.Call 1 (Call.Fetch 1 0)) ∷
      one (Event.Call 1 (Call.Read 1 0)) ∷ round 2 ∷ one (Event.Deliver 3) ∷ one (Event.Deliver 4) ∷
      one (Event.Deliver 5) ∷ one (Event.Deliver 6) ∷ one (Event.Deliver 7) ∷ one (Event.Deliver 8) ∷
      one (Event.Deliver 9) ∷ one (Event.Deliver 10) ∷ one (Event.Deliver 11) ∷ round 14 ∷ flow ∷
      one (Event.Call 0 (Call.Sync 1)) ∷ flow ∷ one (Event.Call 0 (Call.Read 1 0)) ∷ flow ∷
      one (Event.Call 0 (Call.Sync 2)) ∷ flow ∷ one (Event.Call 0 (Call.Read 2 0)) ∷ flow ∷
      one (Event.Call 1 (Call.Sync 1)) ∷ flow ∷ one (Event.Call 1 (Call.Read 1 0)) ∷ flow ∷
      one (Event.Call 1 (Call.Sync 2)) ∷ flow ∷ one (Event.Call 1 (Call.Read 2 0)) ∷ flow ∷ round 3 ∷ flow ∷ [];
  journal =
      Entry.A (record { host = 1; inc = 1 }) 8 (Said.OkBy 0 19) ∷
      Entry.R (record { host = 1; inc = 1 }) 8 2 0 0 (Some 19) ∷
      Entry.G (record { host = 1; inc = 1 }) 2 Mode.Reading (record { boot = 1; number = 8 }) 5 21 ∷
      Entry.C (record { host = 1; inc = 1 }) 8 (Told.Read 2 0) ∷ Entry.A (record { host = 1; inc = 1 }) 7 Said.Ok ∷
      Entry.C (record { host = 1; inc = 1 }) 7 (Told.Sync 2) ∷ Entry.A (record { host = 1; inc = 1 }) 6 (Said.OkBy 1 17) ∷
      Entry.R (record { host = 1; inc = 1 }) 6 1 0 1 (Some 17) ∷
      Entry.G (record { host = 1; inc = 1 }) 1 Mode.Reading (record { boot = 1; number = 7 }) 5 21 ∷
      Entry.C (record { host = 1; inc = 1 }) 6 (Told.Read 1 0) ∷ Entry.A (record { host = 1; inc = 1 }) 5 Said.Ok ∷
      Entry.C (record { host = 1; inc = 1 }) 5 (Told.Sync 1) ∷ Entry.A (record { host = 0; inc = 1 }) 6 (Said.OkBy 0 15) ∷
      Entry.R (record { host = 0; inc = 1 }) 6 2 0 0 (Some 15) ∷
      Entry.G (record { host = 0; inc = 1 }) 2 Mode.Reading (record { boot = 1; number = 6 }) 5 21 ∷
      Entry.C (record { host = 0; inc = 1 }) 6 (Told.Read 2 0) ∷ Entry.A (record { host = 0; inc = 1 }) 5 Said.Ok ∷
      Entry.C (record { host = 0; inc = 1 }) 5 (Told.Sync 2) ∷ Entry.A (record { host = 0; inc = 1 }) 4 (Said.OkBy 1 13) ∷
      Entry.R (record { host = 0; inc = 1 }) 4 1 0 1 (Some 13) ∷
      Entry.G (record { host = 0; inc = 1 }) 1 Mode.Reading (record { boot = 1; number = 5 }) 5 21 ∷
      Entry.C (record { host = 0; inc = 1 }) 4 (Told.Read 1 0) ∷ Entry.A (record { host = 0; inc = 1 }) 3 Said.Ok ∷
      Entry.C (record { host = 0; inc = 1 }) 3 (Told.Sync 1) ∷ Entry.F (record { host = 0; inc = 1 }) 2 15 5 20 ∷
      Entry.F (record { host = 1; inc = 1 }) 1 11 7 16 ∷
      Entry.G (record { host = 0; inc = 1 }) 2 Mode.Writing (record { boot = 1; number = 4 }) 5 7 ∷
      Entry.A (record { host = 0; inc = 1 }) 2 Said.Range ∷ Entry.S (record { host = 1; inc = 1 }) 1 0 1 1 7 ∷
      Entry.G (record { host = 0; inc = 1 }) 2 Mode.Writing (record { boot = 1; number = 3 }) 5 7 ∷
      Entry.A (record { host = 1; inc = 1 }) 4 (Said.OkValue 1) ∷ Entry.R (record { host = 1; inc = 1 }) 4 1 0 1 None ∷
      Entry.C (record { host = 1; inc = 1 }) 4 (Told.Read 1 0) ∷
      Entry.A (record { host = 1; inc = 1 }) 3 (Said.OkValue 1) ∷ Entry.R (record { host = 1; inc = 1 }) 3 1 0 1 None ∷
      Entry.C (record { host = 1; inc = 1 }) 3 (Told.Fetch 1 0) ∷
      Entry.G (record { host = 0; inc = 1 }) 2 Mode.Writing (record { boot = 1; number = 2 }) 5 5 ∷
      Entry.A (record { host = 1; inc = 1 }) 2 (Said.OkValue 1) ∷ Entry.R (record { host = 1; inc = 1 }) 2 1 0 1 None ∷
      Entry.C (record { host = 1; inc = 1 }) 2 (Told.Read 1 0) ∷
      Entry.C (record { host = 0; inc = 1 }) 2 (Told.Write 2 1 2) ∷ Entry.A (record { host = 1; inc = 1 }) 1 Said.Ok ∷
      Entry.W (record { host = 1; inc = 1 }) 1 0 1 1 false ∷
      Entry.G (record { host = 1; inc = 1 }) 1 Mode.Writing (record { boot = 1; number = 1 }) 5 3 ∷
      Entry.C (record { host = 1; inc = 1 }) 1 (Told.Write 1 0 1) ∷ Entry.A (record { host = 0; inc = 1 }) 1 Said.Ok ∷
      Entry.C (record { host = 0; inc = 1 }) 1 (Told.Sync 2) ∷ [];
}

-- run 32
abbrev pub run_32 : Example
run_32 = record {
  head = record { hosts = 4; term = 5; longest = 60; files = ((126 ∷ 46 ∷ 126 ∷ []), 4) ∷ ((120 ∷ 120 ∷ 120 ∷ 120 ∷ 120 ∷ 120 ∷ 120 ∷ 120 ∷ 120 ∷ 120 ∷ 120 ∷ 120 ∷ 120 ∷ 120 ∷ 120 ∷ 120 ∷ 120 ∷ 120 ∷ 120 ∷ 120 ∷ 120 ∷ 120 ∷ 120 ∷ 120 ∷ 120 ∷ 120 ∷ 120 ∷ 120 ∷ 120 ∷ 120 ∷ 120 ∷ 120 ∷ 120 ∷ 120 ∷ 120 ∷ 120 ∷ 120 ∷ 120 ∷ 120 ∷ 120 ∷ 120 ∷ 120 ∷ 120 ∷ 120 ∷ 120 ∷ 120 ∷ 120 ∷ 120 ∷ 120 ∷ 120 ∷ 120 ∷ 120 ∷ 120 ∷ 120 ∷ 120 ∷ 120 ∷ 120 ∷ 120 ∷ 120 ∷ 120 ∷ 120 ∷ 120 ∷ 120 ∷ 120 ∷ []), 3) ∷ [] };
  lines =
      one (Event.Call 0 (Call.Read 1 0)) ∷ one (Event.Deliver 0) ∷ one (Event.Deliver 1) ∷
      one (Event.Call 0 (Call.Read 1 0)) ∷ one (Event.Call 0 (Call.Read 1 0)) ∷ one (Event.Call 0 (Call.Read 1 0)) ∷
      one (Event.Call 0 (Call.Write 1 0 (filled 2))) ∷ one (Event.Deliver 2) ∷ one (Event.Deliver 3) ∷
      one (Event.Call 3 (Call.Read 1 0)) ∷ one (Event.Deliver 4) ∷ one (Event.Deliver 5) ∷ one (Event.Deliver 6) ∷
      one (Event.Deliver 7) ∷ one (Event.Deliver 8) ∷ one (Event.Deliver 9) ∷ round 2 ∷ one (Event.Deliver 10) ∷
      one (Event.Deliver 11) ∷ one (Event.Call 3 (Call.Put 1 0 (filled 5))) ∷ one (Event.Deliver 12) ∷
      one (Event.Deliver 13) ∷ one (Event.Call 0 (Call.Read 1 0)) ∷ one (Event.Deliver 14) ∷ one (Event.Deliver 15) ∷
      one (Event.Call 0 (Call.Read 1 0)) ∷ one (Event.Deliver 16) ∷ one (Event.Deliver 17) ∷ round 8 ∷
      one (Event.Call 0 (Call.Fetch 1 0)) ∷ one (Event.Deliver 18) ∷ one (Event.Deliver 19) ∷
      one (Event.Call 0 (Call.Read 1 0)) ∷ one (Event.Deliver 20) ∷ one (Event.Deliver 21) ∷
      one (Event.Call 0 (Call.Read 1 0)) ∷ one (Event.Call 0 (Call.Read 1 0)) ∷ one (Event.Call 0 (Call.Fetch 1 0)) ∷
      one (Event.Call 0 (Call.Read 1 0)) ∷ flow ∷ one (Event.Call 2 (Call.Write 1 0 (filled 7))) ∷
      one (Event.Call 1 (Call.Read 1 2)) ∷ times 7 (Event.ClientTick 1) ∷ one (Event.Deliver 22) ∷ [];
  journal =
      Entry.C (record { host = 1; inc = 1 }) 1 (Told.Read 1 2) ∷
      Entry.C (record { host = 2; inc = 1 }) 1 (Told.Write 1 0 7) ∷
      Entry.A (record { host = 0; inc = 1 }) 13 (Said.OkValue 5) ∷ Entry.R (record { host = 0; inc = 1 }) 13 1 0 5 None ∷
      Entry.C (record { host = 0; inc = 1 }) 13 (Told.Read 1 0) ∷
      Entry.A (record { host = 0; inc = 1 }) 12 (Said.OkValue 5) ∷ Entry.R (record { host = 0; inc = 1 }) 12 1 0 5 None ∷
      Entry.C (record { host = 0; inc = 1 }) 12 (Told.Fetch 1 0) ∷
      Entry.A (record { host = 0; inc = 1 }) 11 (Said.OkValue 5) ∷ Entry.R (record { host = 0; inc = 1 }) 11 1 0 5 None ∷
      Entry.C (record { host = 0; inc = 1 }) 11 (Told.Read 1 0) ∷
      Entry.A (record { host = 0; inc = 1 }) 10 (Said.OkValue 5) ∷ Entry.R (record { host = 0; inc = 1 }) 10 1 0 5 None ∷
      Entry.C (record { host = 0; inc = 1 }) 10 (Told.Read 1 0) ∷
      Entry.A (record { host = 0; inc = 1 }) 9 (Said.OkBy 5 21) ∷
      Entry.R (record { host = 0; inc = 1 }) 9 1 0 5 (Some 21) ∷
      Entry.G (record { host = 0; inc = 1 }) 1 Mode.Reading (record { boot = 1; number = 6 }) 5 10 ∷
      Entry.C (record { host = 0; inc = 1 }) 9 (Told.Read 1 0) ∷
      Entry.A (record { host = 0; inc = 1 }) 8 (Said.OkBy 5 19) ∷
      Entry.R (record { host = 0; inc = 1 }) 8 1 0 5 (Some 19) ∷
      Entry.C (record { host = 0; inc = 1 }) 8 (Told.Fetch 1 0) ∷
      Entry.A (record { host = 0; inc = 1 }) 7 (Said.OkBy 5 17) ∷
      Entry.R (record { host = 0; inc = 1 }) 7 1 0 5 (Some 17) ∷
      Entry.C (record { host = 0; inc = 1 }) 7 (Told.Read 1 0) ∷
      Entry.A (record { host = 0; inc = 1 }) 6 (Said.OkBy 5 15) ∷
      Entry.R (record { host = 0; inc = 1 }) 6 1 0 5 (Some 15) ∷
      Entry.G (record { host = 0; inc = 1 }) 1 Mode.NonCaching (record { boot = 1; number = 5 }) 5 2 ∷
      Entry.C (record { host = 0; inc = 1 }) 6 (Told.Read 1 0) ∷ Entry.A (record { host = 3; inc = 1 }) 2 Said.Ok ∷
      Entry.W (record { host = 3; inc = 1 }) 1 0 1 5 true ∷ Entry.C (record { host = 3; inc = 1 }) 2 (Told.Put 1 0 5) ∷
      Entry.A (record { host = 3; inc = 1 }) 1 (Said.OkBy 2 11) ∷
      Entry.R (record { host = 3; inc = 1 }) 1 1 0 2 (Some 11) ∷
      Entry.G (record { host = 3; inc = 1 }) 1 Mode.NonCaching (record { boot = 1; number = 4 }) 3 2 ∷
      Entry.S (record { host = 0; inc = 1 }) 1 0 1 1 0 ∷ Entry.C (record { host = 3; inc = 1 }) 1 (Told.Read 1 0) ∷
      Entry.A (record { host = 0; inc = 1 }) 5 Said.Ok ∷ Entry.W (record { host = 0; inc = 1 }) 1 0 1 2 false ∷
      Entry.G (record { host = 0; inc = 1 }) 1 Mode.Writing (record { boot = 1; number = 2 }) 5 0 ∷
      Entry.C (record { host = 0; inc = 1 }) 5 (Told.Write 1 0 2) ∷
      Entry.A (record { host = 0; inc = 1 }) 4 (Said.OkValue 0) ∷ Entry.R (record { host = 0; inc = 1 }) 4 1 0 0 None ∷
      Entry.C (record { host = 0; inc = 1 }) 4 (Told.Read 1 0) ∷
      Entry.A (record { host = 0; inc = 1 }) 3 (Said.OkValue 0) ∷ Entry.R (record { host = 0; inc = 1 }) 3 1 0 0 None ∷
      Entry.C (record { host = 0; inc = 1 }) 3 (Told.Read 1 0) ∷
      Entry.A (record { host = 0; inc = 1 }) 2 (Said.OkValue 0) ∷ Entry.R (record { host = 0; inc = 1 }) 2 1 0 0 None ∷
      Entry.C (record { host = 0; inc = 1 }) 2 (Told.Read 1 0) ∷
      Entry.A (record { host = 0; inc = 1 }) 1 (Said.OkBy 0 1) ∷ Entry.R (record { host = 0; inc = 1 }) 1 1 0 0 (Some 1) ∷
      Entry.G (record { host = 0; inc = 1 }) 1 Mode.Reading (record { boot = 1; number = 1 }) 5 0 ∷
      Entry.C (record { host = 0; inc = 1 }) 1 (Told.Read 1 0) ∷ [];
}

-- run 33
abbrev pub run_33 : Example
run_33 = record {
  head = record { hosts = 4; term = 60; longest = 60; files = ((99 ∷ []), 1) ∷ ((97 ∷ []), 2) ∷ [] };
  lines =
      one (Event.Restart 2) ∷ flow ∷ one (Event.Call 1 (Call.Write 1 0 (filled 1))) ∷ one (Event.Deliver 2) ∷
      one (Event.Call 2 (Call.Fetch 2 0)) ∷ round 2 ∷ one (Event.Deliver 3) ∷ one (Event.Deliver 4) ∷
      one (Event.Deliver 5) ∷ one (Event.Deliver 6) ∷ one (Event.Deliver 7) ∷ one (Event.Deliver 8) ∷
      one (Event.Deliver 9) ∷ round 14 ∷ flow ∷ one (Event.Call 0 (Call.Sync 1)) ∷ flow ∷
      one (Event.Call 0 (Call.Read 1 0)) ∷ flow ∷ flow ∷ flow ∷ one (Event.Call 1 (Call.Sync 1)) ∷ flow ∷
      one (Event.Call 1 (Call.Read 1 0)) ∷ flow ∷ one (Event.Call 1 (Call.Sync 2)) ∷ flow ∷
      one (Event.Call 1 (Call.Read 2 0)) ∷ flow ∷ one (Event.Call 2 (Call.Sync 1)) ∷ flow ∷
      one (Event.Call 2 (Call.Read 1 0)) ∷ flow ∷ one (Event.Call 2 (Call.Sync 2)) ∷ flow ∷
      one (Event.Call 2 (Call.Read 2 0)) ∷ flow ∷ one (Event.Call 3 (Call.Sync 1)) ∷ flow ∷
      one (Event.Call 3 (Call.Read 1 0)) ∷ flow ∷ one (Event.Call 3 (Call.Sync 2)) ∷ flow ∷
      one (Event.Call 3 (Call.Read 2 0)) ∷ flow ∷ round 3 ∷ flow ∷ [];
  journal =
      Entry.A (record { host = 0; inc = 1 }) 2 (Said.OkBy 1 29) ∷
      Entry.R (record { host = 0; inc = 1 }) 2 1 0 1 (Some 29) ∷
      Entry.G (record { host = 0; inc = 1 }) 1 Mode.NonCaching (record { boot = 1; number = 10 }) 57 19 ∷
      Entry.A (record { host = 3; inc = 1 }) 4 (Said.OkBy 0 27) ∷
      Entry.R (record { host = 3; inc = 1 }) 4 2 0 0 (Some 27) ∷
      Entry.G (record { host = 3; inc = 1 }) 2 Mode.Reading (record { boot = 1; number = 9 }) 60 16 ∷
      Entry.C (record { host = 3; inc = 1 }) 4 (Told.Read 2 0) ∷ Entry.A (record { host = 3; inc = 1 }) 3 Said.Ok ∷
      Entry.C (record { host = 3; inc = 1 }) 3 (Told.Sync 2) ∷ Entry.A (record { host = 3; inc = 1 }) 2 (Said.OkBy 1 25) ∷
      Entry.R (record { host = 3; inc = 1 }) 2 1 0 1 (Some 25) ∷
      Entry.G (record { host = 3; inc = 1 }) 1 Mode.NonCaching (record { boot = 1; number = 8 }) 60 16 ∷
      Entry.C (record { host = 3; inc = 1 }) 2 (Told.Read 1 0) ∷ Entry.A (record { host = 3; inc = 1 }) 1 Said.Ok ∷
      Entry.C (record { host = 3; inc = 1 }) 1 (Told.Sync 1) ∷ Entry.A (record { host = 2; inc = 2 }) 5 (Said.OkBy 0 23) ∷
      Entry.R (record { host = 2; inc = 2 }) 5 2 0 0 (Some 23) ∷
      Entry.G (record { host = 2; inc = 2 }) 2 Mode.Reading (record { boot = 1; number = 7 }) 60 16 ∷
      Entry.C (record { host = 2; inc = 2 }) 5 (Told.Read 2 0) ∷ Entry.A (record { host = 2; inc = 2 }) 4 Said.Ok ∷
      Entry.C (record { host = 2; inc = 2 }) 4 (Told.Sync 2) ∷ Entry.A (record { host = 2; inc = 2 }) 3 (Said.OkBy 1 21) ∷
      Entry.R (record { host = 2; inc = 2 }) 3 1 0 1 (Some 21) ∷
      Entry.G (record { host = 2; inc = 2 }) 1 Mode.NonCaching (record { boot = 1; number = 6 }) 60 16 ∷
      Entry.C (record { host = 2; inc = 2 }) 3 (Told.Read 1 0) ∷ Entry.A (record { host = 2; inc = 2 }) 2 Said.Ok ∷
      Entry.C (record { host = 2; inc = 2 }) 2 (Told.Sync 1) ∷ Entry.A (record { host = 1; inc = 1 }) 5 (Said.OkBy 0 19) ∷
      Entry.R (record { host = 1; inc = 1 }) 5 2 0 0 (Some 19) ∷
      Entry.G (record { host = 1; inc = 1 }) 2 Mode.Reading (record { boot = 1; number = 5 }) 60 16 ∷
      Entry.C (record { host = 1; inc = 1 }) 5 (Told.Read 2 0) ∷ Entry.A (record { host = 1; inc = 1 }) 4 Said.Ok ∷
      Entry.C (record { host = 1; inc = 1 }) 4 (Told.Sync 2) ∷ Entry.A (record { host = 1; inc = 1 }) 3 (Said.OkBy 1 17) ∷
      Entry.R (record { host = 1; inc = 1 }) 3 1 0 1 (Some 17) ∷
      Entry.G (record { host = 1; inc = 1 }) 1 Mode.NonCaching (record { boot = 1; number = 4 }) 60 16 ∷
      Entry.C (record { host = 1; inc = 1 }) 3 (Told.Read 1 0) ∷ Entry.A (record { host = 1; inc = 1 }) 2 Said.Ok ∷
      Entry.C (record { host = 1; inc = 1 }) 2 (Told.Sync 1) ∷ Entry.S (record { host = 1; inc = 1 }) 1 0 1 1 16 ∷
      Entry.C (record { host = 0; inc = 1 }) 2 (Told.Read 1 0) ∷ Entry.A (record { host = 0; inc = 1 }) 1 Said.Ok ∷
      Entry.C (record { host = 0; inc = 1 }) 1 (Told.Sync 1) ∷ Entry.A (record { host = 2; inc = 2 }) 1 (Said.OkBy 0 7) ∷
      Entry.R (record { host = 2; inc = 2 }) 1 2 0 0 (Some 9) ∷
      Entry.G (record { host = 1; inc = 1 }) 1 Mode.Writing (record { boot = 1; number = 2 }) 60 2 ∷
      Entry.R (record { host = 2; inc = 2 }) 1 2 0 0 (Some 7) ∷ Entry.A (record { host = 1; inc = 1 }) 1 Said.Ok ∷
      Entry.W (record { host = 1; inc = 1 }) 1 0 1 1 false ∷ Entry.C (record { host = 2; inc = 2 }) 1 (Told.Fetch 2 0) ∷
      Entry.G (record { host = 1; inc = 1 }) 1 Mode.Writing (record { boot = 1; number = 1 }) 60 0 ∷
      Entry.C (record { host = 1; inc = 1 }) 1 (Told.Write 1 0 1) ∷ Entry.B (record { host = 2; inc = 2 }) ∷ [];
}

-- run 34
abbrev pub run_34 : Example
run_34 = record {
  head = record { hosts = 2; term = 5; longest = 60; files = ((97 ∷ []), 4) ∷ [] };
  lines =
      one (Event.Call 0 (Call.Write 1 0 (filled 1))) ∷ one (Event.Deliver 0) ∷ one (Event.Deliver 1) ∷
      one (Event.Call 0 (Call.Write 1 0 (filled 2))) ∷ round 3 ∷ one (Event.Deliver 2) ∷ round 4 ∷
      times 2 Event.ServerTick ∷ one (Event.Deliver 5) ∷ one (Event.Deliver 6) ∷ round 2 ∷
      one (Event.Call 0 (Call.Write 1 2 (filled 3))) ∷ round 1 ∷ one (Event.Call 1 (Call.Write 1 0 (filled 4))) ∷
      one (Event.Deliver 8) ∷ one (Event.Deliver 9) ∷ one (Event.Deliver 10) ∷ one (Event.Deliver 11) ∷
      one (Event.Call 0 (Call.Write 1 0 (filled 5))) ∷ one (Event.Deliver 12) ∷ one (Event.Deliver 13) ∷
      one (Event.Deliver 14) ∷ one (Event.Deliver 15) ∷ round 2 ∷ one (Event.Deliver 16) ∷ one (Event.Deliver 17) ∷
      one (Event.Deliver 18) ∷ one (Event.Deliver 19) ∷ one (Event.Call 0 (Call.Fetch 1 0)) ∷
      one (Event.Call 1 (Call.Write 1 0 (filled 8))) ∷ round 2 ∷ one (Event.Deliver 20) ∷ one (Event.Deliver 21) ∷
      one (Event.Deliver 22) ∷ one (Event.Deliver 23) ∷ one (Event.Deliver 24) ∷ one (Event.Deliver 25) ∷
      one (Event.Deliver 26) ∷ one (Event.Deliver 27) ∷ one (Event.Call 0 (Call.Read 1 0)) ∷ one (Event.Deliver 28) ∷
      one (Event.Deliver 29) ∷ one (Event.Call 0 (Call.Write 4294967295 0 (filled 9))) ∷
      one (Event.Call 1 (Call.Write 1 2 (filled 10))) ∷ one (Event.Deliver 30) ∷ one (Event.Deliver 31) ∷
      one (Event.Deliver 32) ∷ one (Event.Deliver 33) ∷ times 1 (Event.ClientTick 1) ∷
      one (Event.Call 0 (Call.Read 1 3)) ∷ one (Event.Deliver 34) ∷ one (Event.Call 1 (Call.Sync 1)) ∷
      one (Event.Deliver 35) ∷ one (Event.Deliver 22) ∷ one (Event.Deliver 36) ∷ one (Event.Call 1 (Call.Fetch 0 0)) ∷
      round 2 ∷ one (Event.Deliver 37) ∷ one (Event.Deliver 38) ∷ one (Event.Deliver 39) ∷ one (Event.Deliver 40) ∷ [];
  journal =
      Entry.A (record { host = 1; inc = 1 }) 5 Said.Stale ∷ Entry.C (record { host = 1; inc = 1 }) 5 (Told.Fetch 0 0) ∷
      Entry.R (record { host = 0; inc = 1 }) 5 1 0 8 (Some 36) ∷
      Entry.A (record { host = 0; inc = 1 }) 8 (Said.OkBy 0 35) ∷ Entry.A (record { host = 1; inc = 1 }) 4 Said.Ok ∷
      Entry.C (record { host = 1; inc = 1 }) 4 (Told.Sync 1) ∷ Entry.R (record { host = 0; inc = 1 }) 8 1 3 0 (Some 35) ∷
      Entry.C (record { host = 0; inc = 1 }) 8 (Told.Read 1 3) ∷ Entry.A (record { host = 1; inc = 1 }) 3 Said.Ok ∷
      Entry.A (record { host = 0; inc = 1 }) 7 Said.Stale ∷ Entry.W (record { host = 1; inc = 1 }) 1 2 3 10 true ∷
      Entry.C (record { host = 1; inc = 1 }) 3 (Told.Write 1 2 10) ∷
      Entry.C (record { host = 0; inc = 1 }) 7 (Told.Write 4294967295 0 9) ∷
      Entry.A (record { host = 0; inc = 1 }) 6 (Said.OkBy 8 29) ∷
      Entry.R (record { host = 0; inc = 1 }) 6 1 0 8 (Some 29) ∷
      Entry.C (record { host = 0; inc = 1 }) 6 (Told.Read 1 0) ∷ Entry.A (record { host = 1; inc = 1 }) 2 Said.Ok ∷
      Entry.A (record { host = 0; inc = 1 }) 5 (Said.OkBy 4 24) ∷
      Entry.R (record { host = 0; inc = 1 }) 5 1 0 8 (Some 26) ∷ Entry.W (record { host = 1; inc = 1 }) 1 0 2 8 true ∷
      Entry.R (record { host = 0; inc = 1 }) 5 1 0 4 (Some 24) ∷
      Entry.C (record { host = 1; inc = 1 }) 2 (Told.Write 1 0 8) ∷
      Entry.C (record { host = 0; inc = 1 }) 5 (Told.Fetch 1 0) ∷ Entry.A (record { host = 1; inc = 1 }) 1 Said.Ok ∷
      Entry.W (record { host = 1; inc = 1 }) 1 0 1 4 true ∷
      Entry.G (record { host = 1; inc = 1 }) 1 Mode.NonCaching (record { boot = 1; number = 4 }) 3 14 ∷
      Entry.A (record { host = 0; inc = 1 }) 3 Said.Ok ∷ Entry.W (record { host = 0; inc = 1 }) 1 2 3 3 true ∷
      Entry.G (record { host = 0; inc = 1 }) 1 Mode.NonCaching (record { boot = 1; number = 3 }) 5 12 ∷
      Entry.A (record { host = 0; inc = 1 }) 4 Said.Busy ∷ Entry.C (record { host = 0; inc = 1 }) 4 (Told.Write 1 0 5) ∷
      Entry.C (record { host = 1; inc = 1 }) 1 (Told.Write 1 0 4) ∷
      Entry.C (record { host = 0; inc = 1 }) 3 (Told.Write 1 2 3) ∷ Entry.S (record { host = 0; inc = 1 }) 1 0 1 2 3 ∷
      Entry.A (record { host = 0; inc = 1 }) 2 Said.Ok ∷ Entry.W (record { host = 0; inc = 1 }) 1 0 2 2 false ∷
      Entry.C (record { host = 0; inc = 1 }) 2 (Told.Write 1 0 2) ∷ Entry.A (record { host = 0; inc = 1 }) 1 Said.Ok ∷
      Entry.W (record { host = 0; inc = 1 }) 1 0 1 1 false ∷
      Entry.G (record { host = 0; inc = 1 }) 1 Mode.Writing (record { boot = 1; number = 1 }) 5 0 ∷
      Entry.C (record { host = 0; inc = 1 }) 1 (Told.Write 1 0 1) ∷ [];
}

-- run 35
abbrev pub run_35 : Example
run_35 = record {
  head = record { hosts = 3; term = 10; longest = 60; files = ((98 ∷ []), 3) ∷ [] };
  lines =
      one (Event.Call 0 (Call.Write 1 2 (filled 1))) ∷ one (Event.Call 2 (Call.Write 1 0 (filled 2))) ∷
      one (Event.Deliver 0) ∷ one (Event.Call 1 (Call.Read 1 1)) ∷ one (Event.Deliver 1) ∷ one (Event.Deliver 2) ∷
      one (Event.Deliver 3) ∷ one (Event.Deliver 4) ∷ one (Event.Deliver 5) ∷ one (Event.Deliver 6) ∷
      one (Event.Deliver 7) ∷ one (Event.Deliver 8) ∷ one (Event.Deliver 9) ∷ one (Event.Deliver 10) ∷ round 2 ∷
      one (Event.Deliver 11) ∷ one (Event.Deliver 12) ∷ one (Event.Deliver 13) ∷ one (Event.Deliver 14) ∷
      one (Event.Deliver 15) ∷ one (Event.Deliver 16) ∷ one (Event.Call 1 (Call.Read 1 2)) ∷ one (Event.Deliver 17) ∷
      one (Event.Deliver 18) ∷ one (Event.Call 1 (Call.Read 1 1)) ∷ one (Event.Deliver 19) ∷ one (Event.Deliver 20) ∷
      one (Event.Call 1 (Call.Read 1 0)) ∷ one (Event.Deliver 21) ∷ one (Event.Deliver 22) ∷ round 9 ∷
      one (Event.Call 1 (Call.Put 1 1 (filled 3))) ∷ one (Event.Deliver 23) ∷ one (Event.Deliver 24) ∷
      one (Event.Call 2 (Call.Put 1 0 (filled 5))) ∷ one (Event.Deliver 25) ∷ one (Event.Deliver 26) ∷
      one (Event.Call 1 (Call.Put 1 2 (filled 7))) ∷ one (Event.Deliver 27) ∷ one (Event.Deliver 28) ∷
      one (Event.Call 1 (Call.Read 1 2)) ∷ one (Event.Deliver 29) ∷ one (Event.Deliver 30) ∷
      one (Event.Call 1 (Call.Read 1 1)) ∷ one (Event.Deliver 31) ∷ one (Event.Deliver 32) ∷ round 13 ∷
      one (Event.Call 1 (Call.Fetch 1 1)) ∷ one (Event.Deliver 33) ∷ one (Event.Deliver 34) ∷
      one (Event.Call 1 (Call.Read 1 2)) ∷ one (Event.Deliver 35) ∷ one (Event.Deliver 36) ∷
      one (Event.Call 1 (Call.Fetch 1 1)) ∷ one (Event.Call 1 (Call.Fetch 1 0)) ∷ one (Event.Deliver 37) ∷
      one (Event.Deliver 38) ∷ one (Event.Call 1 (Call.Fetch 1 1)) ∷ one (Event.Call 1 (Call.Read 1 2)) ∷
      one (Event.Deliver 12) ∷ [];
  journal =
      Entry.A (record { host = 1; inc = 1 }) 14 (Said.OkValue 7) ∷ Entry.R (record { host = 1; inc = 1 }) 14 1 2 7 None ∷
      Entry.C (record { host = 1; inc = 1 }) 14 (Told.Read 1 2) ∷
      Entry.A (record { host = 1; inc = 1 }) 13 (Said.OkValue 3) ∷ Entry.R (record { host = 1; inc = 1 }) 13 1 1 3 None ∷
      Entry.C (record { host = 1; inc = 1 }) 13 (Told.Fetch 1 1) ∷
      Entry.A (record { host = 1; inc = 1 }) 12 (Said.OkBy 5 38) ∷
      Entry.R (record { host = 1; inc = 1 }) 12 1 0 5 (Some 38) ∷
      Entry.C (record { host = 1; inc = 1 }) 12 (Told.Fetch 1 0) ∷
      Entry.A (record { host = 1; inc = 1 }) 11 (Said.OkValue 3) ∷ Entry.R (record { host = 1; inc = 1 }) 11 1 1 3 None ∷
      Entry.C (record { host = 1; inc = 1 }) 11 (Told.Fetch 1 1) ∷
      Entry.A (record { host = 1; inc = 1 }) 10 (Said.OkBy 7 36) ∷
      Entry.R (record { host = 1; inc = 1 }) 10 1 2 7 (Some 36) ∷
      Entry.G (record { host = 1; inc = 1 }) 1 Mode.Reading (record { boot = 1; number = 8 }) 10 24 ∷
      Entry.C (record { host = 1; inc = 1 }) 10 (Told.Read 1 2) ∷
      Entry.A (record { host = 1; inc = 1 }) 9 (Said.OkBy 3 34) ∷
      Entry.R (record { host = 1; inc = 1 }) 9 1 1 3 (Some 34) ∷
      Entry.C (record { host = 1; inc = 1 }) 9 (Told.Fetch 1 1) ∷
      Entry.A (record { host = 1; inc = 1 }) 8 (Said.OkBy 3 32) ∷
      Entry.R (record { host = 1; inc = 1 }) 8 1 1 3 (Some 32) ∷
      Entry.G (record { host = 1; inc = 1 }) 1 Mode.Reading (record { boot = 1; number = 7 }) 10 11 ∷
      Entry.C (record { host = 1; inc = 1 }) 8 (Told.Read 1 1) ∷
      Entry.A (record { host = 1; inc = 1 }) 7 (Said.OkBy 7 30) ∷
      Entry.R (record { host = 1; inc = 1 }) 7 1 2 7 (Some 30) ∷
      Entry.G (record { host = 1; inc = 1 }) 1 Mode.Reading (record { boot = 1; number = 6 }) 10 11 ∷
      Entry.C (record { host = 1; inc = 1 }) 7 (Told.Read 1 2) ∷ Entry.A (record { host = 1; inc = 1 }) 6 Said.Ok ∷
      Entry.W (record { host = 1; inc = 1 }) 1 2 2 7 true ∷ Entry.C (record { host = 1; inc = 1 }) 6 (Told.Put 1 2 7) ∷
      Entry.A (record { host = 2; inc = 1 }) 2 Said.Ok ∷ Entry.W (record { host = 2; inc = 1 }) 1 0 2 5 true ∷
      Entry.C (record { host = 2; inc = 1 }) 2 (Told.Put 1 0 5) ∷ Entry.A (record { host = 1; inc = 1 }) 5 Said.Ok ∷
      Entry.W (record { host = 1; inc = 1 }) 1 1 1 3 true ∷ Entry.C (record { host = 1; inc = 1 }) 5 (Told.Put 1 1 3) ∷
      Entry.A (record { host = 1; inc = 1 }) 4 (Said.OkBy 2 22) ∷
      Entry.R (record { host = 1; inc = 1 }) 4 1 0 2 (Some 22) ∷
      Entry.C (record { host = 1; inc = 1 }) 4 (Told.Read 1 0) ∷
      Entry.A (record { host = 1; inc = 1 }) 3 (Said.OkBy 0 20) ∷
      Entry.R (record { host = 1; inc = 1 }) 3 1 1 0 (Some 20) ∷
      Entry.C (record { host = 1; inc = 1 }) 3 (Told.Read 1 1) ∷
      Entry.A (record { host = 1; inc = 1 }) 2 (Said.OkBy 1 18) ∷
      Entry.R (record { host = 1; inc = 1 }) 2 1 2 1 (Some 18) ∷
      Entry.C (record { host = 1; inc = 1 }) 2 (Told.Read 1 2) ∷ Entry.A (record { host = 2; inc = 1 }) 1 Said.Ok ∷
      Entry.W (record { host = 2; inc = 1 }) 1 0 1 2 true ∷ Entry.A (record { host = 1; inc = 1 }) 1 (Said.OkBy 0 13) ∷
      Entry.G (record { host = 2; inc = 1 }) 1 Mode.NonCaching (record { boot = 1; number = 5 }) 8 2 ∷
      Entry.R (record { host = 1; inc = 1 }) 1 1 1 0 (Some 13) ∷
      Entry.G (record { host = 1; inc = 1 }) 1 Mode.NonCaching (record { boot = 1; number = 4 }) 8 2 ∷
      Entry.S (record { host = 0; inc = 1 }) 1 2 1 1 0 ∷ Entry.A (record { host = 0; inc = 1 }) 1 Said.Ok ∷
      Entry.W (record { host = 0; inc = 1 }) 1 2 1 1 false ∷ Entry.C (record { host = 1; inc = 1 }) 1 (Told.Read 1 1) ∷
      Entry.G (record { host = 0; inc = 1 }) 1 Mode.Writing (record { boot = 1; number = 1 }) 10 0 ∷
      Entry.C (record { host = 2; inc = 1 }) 1 (Told.Write 1 0 2) ∷
      Entry.C (record { host = 0; inc = 1 }) 1 (Told.Write 1 2 1) ∷ [];
}

-- run 36
abbrev pub run_36 : Example
run_36 = record {
  head = record { hosts = 2; term = 5; longest = 60; files = ((33 ∷ []), 1) ∷ [] };
  lines =
      round 2 ∷ flow ∷ one (Event.Call 1 (Call.Attr 1)) ∷ round 1 ∷ one (Event.Call 0 (Call.Read 1 0)) ∷
      one (Event.Deliver 0) ∷ one (Event.Deliver 1) ∷ one (Event.Deliver 2) ∷ one (Event.Deliver 3) ∷
      one (Event.Call 1 (Call.Read 1 0)) ∷ one (Event.Deliver 4) ∷ one (Event.Deliver 5) ∷
      one (Event.Call 1 (Call.Read 1 0)) ∷ one (Event.Call 1 (Call.Read 1 0)) ∷ round 6 ∷
      one (Event.Call 0 (Call.Write 1 0 (filled 2))) ∷ one (Event.Deliver 6) ∷ one (Event.Deliver 7) ∷
      one (Event.Deliver 8) ∷ one (Event.Deliver 9) ∷ one (Event.Deliver 10) ∷ one (Event.Deliver 11) ∷
      one (Event.Deliver 12) ∷ one (Event.Deliver 13) ∷ one (Event.Deliver 14) ∷ one (Event.Deliver 15) ∷ round 2 ∷
      one (Event.Deliver 16) ∷ one (Event.Deliver 17) ∷ one (Event.Call 0 (Call.Write 1 0 (filled 4))) ∷
      one (Event.Call 1 (Call.Put 1 0 (filled 5))) ∷ one (Event.Deliver 18) ∷ one (Event.Deliver 19) ∷
      one (Event.Deliver 20) ∷ one (Event.Deliver 21) ∷ one (Event.Deliver 22) ∷ one (Event.Deliver 23) ∷ round 2 ∷
      one (Event.Deliver 24) ∷ one (Event.Deliver 25) ∷ one (Event.Call 1 (Call.Read 1 0)) ∷ one (Event.Deliver 26) ∷
      one (Event.Deliver 27) ∷ one (Event.Call 1 (Call.Read 1 0)) ∷ one (Event.Call 1 (Call.Read 1 0)) ∷
      one (Event.Call 1 (Call.Fetch 1 0)) ∷ one (Event.Call 1 (Call.Read 1 0)) ∷ one (Event.Call 1 (Call.Fetch 1 0)) ∷
      one (Event.Call 1 (Call.Read 1 0)) ∷ one (Event.Call 1 (Call.Read 1 0)) ∷
      one (Event.Call 1 (Call.Lookup (98 ∷ []))) ∷ flow ∷ times 2 Event.ServerTick ∷ flow ∷ flow ∷
      one (Event.Call 0 (Call.Sync 1)) ∷ one (Event.Call 1 (Call.Attr 1)) ∷ one (Event.Call 0 (Call.Read 1 0)) ∷ round 2 ∷
      [];
  journal =
      Entry.C (record { host = 0; inc = 1 }) 5 (Told.Read 1 0) ∷ Entry.C (record { host = 1; inc = 1 }) 15 (Told.Attr 1) ∷
      Entry.A (record { host = 0; inc = 1 }) 4 Said.Ok ∷ Entry.C (record { host = 0; inc = 1 }) 4 (Told.Sync 1) ∷
      Entry.A (record { host = 1; inc = 1 }) 14 Said.NoEntry ∷
      Entry.C (record { host = 1; inc = 1 }) 14 (Told.Lookup (98 ∷ [])) ∷
      Entry.A (record { host = 1; inc = 1 }) 13 (Said.OkValue 5) ∷ Entry.R (record { host = 1; inc = 1 }) 13 1 0 5 None ∷
      Entry.C (record { host = 1; inc = 1 }) 13 (Told.Read 1 0) ∷
      Entry.A (record { host = 1; inc = 1 }) 12 (Said.OkValue 5) ∷ Entry.R (record { host = 1; inc = 1 }) 12 1 0 5 None ∷
      Entry.C (record { host = 1; inc = 1 }) 12 (Told.Read 1 0) ∷
      Entry.A (record { host = 1; inc = 1 }) 11 (Said.OkValue 5) ∷ Entry.R (record { host = 1; inc = 1 }) 11 1 0 5 None ∷
      Entry.C (record { host = 1; inc = 1 }) 11 (Told.Fetch 1 0) ∷
      Entry.A (record { host = 1; inc = 1 }) 10 (Said.OkValue 5) ∷ Entry.R (record { host = 1; inc = 1 }) 10 1 0 5 None ∷
      Entry.C (record { host = 1; inc = 1 }) 10 (Told.Read 1 0) ∷
      Entry.A (record { host = 1; inc = 1 }) 9 (Said.OkValue 5) ∷ Entry.R (record { host = 1; inc = 1 }) 9 1 0 5 None ∷
      Entry.C (record { host = 1; inc = 1 }) 9 (Told.Fetch 1 0) ∷
      Entry.A (record { host = 1; inc = 1 }) 8 (Said.OkValue 5) ∷ Entry.R (record { host = 1; inc = 1 }) 8 1 0 5 None ∷
      Entry.C (record { host = 1; inc = 1 }) 8 (Told.Read 1 0) ∷
      Entry.A (record { host = 1; inc = 1 }) 7 (Said.OkValue 5) ∷ Entry.R (record { host = 1; inc = 1 }) 7 1 0 5 None ∷
      Entry.C (record { host = 1; inc = 1 }) 7 (Told.Read 1 0) ∷
      Entry.A (record { host = 1; inc = 1 }) 6 (Said.OkBy 5 27) ∷
      Entry.R (record { host = 1; inc = 1 }) 6 1 0 5 (Some 27) ∷
      Entry.G (record { host = 1; inc = 1 }) 1 Mode.Reading (record { boot = 1; number = 7 }) 5 13 ∷
      Entry.C (record { host = 1; inc = 1 }) 6 (Told.Read 1 0) ∷ Entry.A (record { host = 1; inc = 1 }) 5 Said.Ok ∷
      Entry.W (record { host = 1; inc = 1 }) 1 0 2 5 true ∷ Entry.S (record { host = 0; inc = 1 }) 1 0 1 2 11 ∷
      Entry.C (record { host = 1; inc = 1 }) 5 (Told.Put 1 0 5) ∷ Entry.A (record { host = 0; inc = 1 }) 3 Said.Ok ∷
      Entry.W (record { host = 0; inc = 1 }) 1 0 2 4 false ∷ Entry.C (record { host = 0; inc = 1 }) 3 (Told.Write 1 0 4) ∷
      Entry.A (record { host = 0; inc = 1 }) 2 Said.Ok ∷ Entry.W (record { host = 0; inc = 1 }) 1 0 1 2 false ∷
      Entry.G (record { host = 0; inc = 1 }) 1 Mode.Writing (record { boot = 1; number = 6 }) 5 11 ∷
      Entry.G (record { host = 1; inc = 1 }) 1 Mode.Reading (record { boot = 1; number = 5 }) 5 9 ∷
      Entry.G (record { host = 1; inc = 1 }) 1 Mode.Reading (record { boot = 1; number = 4 }) 5 9 ∷
      Entry.G (record { host = 1; inc = 1 }) 1 Mode.Reading (record { boot = 1; number = 3 }) 5 9 ∷
      Entry.C (record { host = 0; inc = 1 }) 2 (Told.Write 1 0 2) ∷
      Entry.A (record { host = 1; inc = 1 }) 4 (Said.OkValue 0) ∷ Entry.R (record { host = 1; inc = 1 }) 4 1 0 0 None ∷
      Entry.C (record { host = 1; inc = 1 }) 4 (Told.Read 1 0) ∷
      Entry.A (record { host = 1; inc = 1 }) 3 (Said.OkValue 0) ∷ Entry.R (record { host = 1; inc = 1 }) 3 1 0 0 None ∷
      Entry.C (record { host = 1; inc = 1 }) 3 (Told.Read 1 0) ∷
      Entry.A (record { host = 1; inc = 1 }) 2 (Said.OkBy 0 5) ∷ Entry.R (record { host = 1; inc = 1 }) 2 1 0 0 (Some 5) ∷
      Entry.G (record { host = 1; inc = 1 }) 1 Mode.Reading (record { boot = 1; number = 2 }) 5 3 ∷
      Entry.C (record { host = 1; inc = 1 }) 2 (Told.Read 1 0) ∷
      Entry.A (record { host = 0; inc = 1 }) 1 (Said.OkBy 0 3) ∷
      Entry.A (record { host = 1; inc = 1 }) 1 (Said.OkValue 1) ∷
      Entry.R (record { host = 0; inc = 1 }) 1 1 0 0 (Some 3) ∷
      Entry.G (record { host = 0; inc = 1 }) 1 Mode.Reading (record { boot = 1; number = 1 }) 5 3 ∷
      Entry.C (record { host = 0; inc = 1 }) 1 (Told.Read 1 0) ∷ Entry.C (record { host = 1; inc = 1 }) 1 (Told.Attr 1) ∷
      [];
}

-- run 37
abbrev pub run_37 : Example
run_37 = record {
  head = record { hosts = 2; term = 5; longest = 60; files = ((126 ∷ 46 ∷ 126 ∷ []), 1) ∷ ((120 ∷ 120 ∷ 120 ∷ 120 ∷ 120 ∷ 120 ∷ 120 ∷ 120 ∷ 120 ∷ 120 ∷ 120 ∷ 120 ∷ 120 ∷ 120 ∷ 120 ∷ 120 ∷ 120 ∷ 120 ∷ 120 ∷ 120 ∷ 120 ∷ 120 ∷ 120 ∷ 120 ∷ 120 ∷ 120 ∷ 120 ∷ 120 ∷ 120 ∷ 120 ∷ 120 ∷ 120 ∷ 120 ∷ 120 ∷ 120 ∷ 120 ∷ 120 ∷ 120 ∷ 120 ∷ 120 ∷ 120 ∷ 120 ∷ 120 ∷ 120 ∷ 120 ∷ 120 ∷ 120 ∷ 120 ∷ 120 ∷ 120 ∷ 120 ∷ 120 ∷ 120 ∷ 120 ∷ 120 ∷ 120 ∷ 120 ∷ 120 ∷ 120 ∷ 120 ∷ 120 ∷ 120 ∷ 120 ∷ 120 ∷ []), 1) ∷ [] };
  lines =
      one (Event.Call 0 (Call.Read 2 4294967295)) ∷ one (Event.Call 1 (Call.Put 1 0 (filled 4294967295))) ∷ round 2 ∷
      round 6 ∷ one (Event.Deliver 0) ∷ one (Event.Deliver 1) ∷ one (Event.Deliver 2) ∷ flow ∷
      one (Event.Call 1 (Call.Write 1 0 (filled 2))) ∷ flow ∷ one (Event.Call 1 (Call.Sync 1)) ∷
      times 3 (Event.ClientTick 0) ∷ flow ∷ round 2 ∷ flow ∷ round 2 ∷ one (Event.Call 1 (Call.Write 1 0 (filled 3))) ∷
      flow ∷ flow ∷ flow ∷ flow ∷ flow ∷ flow ∷ times 2 Event.ServerTick ∷ flow ∷ one (Event.Call 1 (Call.Read 2 0)) ∷
      flow ∷ round 1 ∷ flow ∷ one (Event.Call 1 (Call.Write 1 0 (filled 4))) ∷ times 2 (Event.ClientTick 0) ∷ flow ∷
      one (Event.Call 1 (Call.Write 2 0 (filled 5))) ∷ one (Event.Call 0 (Call.Sync 1)) ∷ flow ∷ flow ∷ flow ∷ round 2 ∷
      one (Event.Deliver 34) ∷ one (Event.Deliver 35) ∷ one (Event.Deliver 36) ∷ one (Event.Deliver 37) ∷ round 14 ∷
      flow ∷ one (Event.Call 0 (Call.Sync 1)) ∷ flow ∷ one (Event.Call 0 (Call.Read 1 0)) ∷ flow ∷ flow ∷ flow ∷
      one (Event.Call 1 (Call.Sync 1)) ∷ flow ∷ one (Event.Call 1 (Call.Read 1 0)) ∷ flow ∷
      one (Event.Call 1 (Call.Sync 2)) ∷ flow ∷ one (Event.Call 1 (Call.Read 2 0)) ∷ flow ∷ round 3 ∷ flow ∷ [];
  journal =
      Entry.A (record { host = 0; inc = 1 }) 4 (Said.OkBy 4 61) ∷
      Entry.R (record { host = 0; inc = 1 }) 4 1 0 4 (Some 61) ∷
      Entry.G (record { host = 0; inc = 1 }) 1 Mode.NonCaching (record { boot = 1; number = 16 }) 2 34 ∷
      Entry.A (record { host = 1; inc = 1 }) 11 (Said.OkBy 5 59) ∷
      Entry.R (record { host = 1; inc = 1 }) 11 2 0 5 (Some 59) ∷
      Entry.G (record { host = 1; inc = 1 }) 2 Mode.Reading (record { boot = 1; number = 15 }) 5 31 ∷
      Entry.C (record { host = 1; inc = 1 }) 11 (Told.Read 2 0) ∷ Entry.A (record { host = 1; inc = 1 }) 10 Said.Ok ∷
      Entry.C (record { host = 1; inc = 1 }) 10 (Told.Sync 2) ∷
      Entry.A (record { host = 1; inc = 1 }) 9 (Said.OkBy 4 57) ∷
      Entry.R (record { host = 1; inc = 1 }) 9 1 0 4 (Some 57) ∷
      Entry.G (record { host = 1; inc = 1 }) 1 Mode.NonCaching (record { boot = 1; number = 14 }) 5 31 ∷
      Entry.C (record { host = 1; inc = 1 }) 9 (Told.Read 1 0) ∷ Entry.A (record { host = 1; inc = 1 }) 8 Said.Ok ∷
      Entry.C (record { host = 1; inc = 1 }) 8 (Told.Sync 1) ∷ Entry.C (record { host = 0; inc = 1 }) 4 (Told.Read 1 0) ∷
      Entry.A (record { host = 0; inc = 1 }) 3 Said.Ok ∷ Entry.C (record { host = 0; inc = 1 }) 3 (Told.Sync 1) ∷
      Entry.G (record { host = 1; inc = 1 }) 1 Mode.Writing (record { boot = 1; number = 12 }) 5 31 ∷
      Entry.G (record { host = 1; inc = 1 }) 1 Mode.Writing (record { boot = 1; number = 11 }) 5 31 ∷
      Entry.G (record { host = 1; inc = 1 }) 1 Mode.Writing (record { boot = 1; number = 10 }) 5 31 ∷
      Entry.G (record { host = 1; inc = 1 }) 1 Mode.Writing (record { boot = 1; number = 9 }) 5 31 ∷
      Entry.G (record { host = 1; inc = 1 }) 1 Mode.Writing (record { boot = 1; number = 8 }) 5 31 ∷
      Entry.G (record { host = 1; inc = 1 }) 1 Mode.Writing (record { boot = 1; number = 7 }) 5 31 ∷
      Entry.G (record { host = 1; inc = 1 }) 1 Mode.Writing (record { boot = 1; number = 6 }) 5 31 ∷
      Entry.F (record { host = 1; inc = 1 }) 2 23 17 29 ∷ Entry.F (record { host = 1; inc = 1 }) 1 23 17 28 ∷
      Entry.S (record { host = 1; inc = 1 }) 2 0 5 5 17 ∷ Entry.S (record { host = 1; inc = 1 }) 1 0 4 4 17 ∷
      Entry.A (record { host = 1; inc = 1 }) 7 Said.Ok ∷ Entry.W (record { host = 1; inc = 1 }) 2 0 5 5 false ∷
      Entry.G (record { host = 1; inc = 1 }) 2 Mode.Writing (record { boot = 1; number = 5 }) 5 15 ∷
      Entry.A (record { host = 0; inc = 1 }) 2 Said.Ok ∷ Entry.C (record { host = 0; inc = 1 }) 2 (Told.Sync 1) ∷
      Entry.C (record { host = 1; inc = 1 }) 7 (Told.Write 2 0 5) ∷ Entry.A (record { host = 1; inc = 1 }) 6 Said.Ok ∷
      Entry.W (record { host = 1; inc = 1 }) 1 0 4 4 false ∷ Entry.C (record { host = 1; inc = 1 }) 6 (Told.Write 1 0 4) ∷
      Entry.G (record { host = 1; inc = 1 }) 1 Mode.Writing (record { boot = 1; number = 4 }) 5 15 ∷
      Entry.A (record { host = 1; inc = 1 }) 5 (Said.OkBy 0 29) ∷
      Entry.R (record { host = 1; inc = 1 }) 5 2 0 0 (Some 29) ∷
      Entry.G (record { host = 1; inc = 1 }) 2 Mode.Reading (record { boot = 1; number = 3 }) 5 14 ∷
      Entry.C (record { host = 1; inc = 1 }) 5 (Told.Read 2 0) ∷ Entry.S (record { host = 1; inc = 1 }) 1 0 3 3 12 ∷
      Entry.A (record { host = 1; inc = 1 }) 4 Said.Ok ∷ Entry.W (record { host = 1; inc = 1 }) 1 0 3 3 false ∷
      Entry.C (record { host = 1; inc = 1 }) 4 (Told.Write 1 0 3) ∷
      Entry.G (record { host = 1; inc = 1 }) 1 Mode.Writing (record { boot = 1; number = 2 }) 5 10 ∷
      Entry.A (record { host = 1; inc = 1 }) 3 Said.Ok ∷ Entry.S (record { host = 1; inc = 1 }) 1 0 2 2 8 ∷
      Entry.C (record { host = 1; inc = 1 }) 3 (Told.Sync 1) ∷ Entry.A (record { host = 1; inc = 1 }) 2 Said.Ok ∷
      Entry.W (record { host = 1; inc = 1 }) 1 0 2 2 false ∷
      Entry.G (record { host = 1; inc = 1 }) 1 Mode.Writing (record { boot = 1; number = 1 }) 5 8 ∷
      Entry.C (record { host = 1; inc = 1 }) 2 (Told.Write 1 0 2) ∷ Entry.A (record { host = 1; inc = 1 }) 1 Said.Ok ∷
      Entry.A (record { host = 0; inc = 1 }) 1 Said.Range ∷ Entry.W (record { host = 1; inc = 1 }) 1 0 1 4294967295 true ∷
      Entry.C (record { host = 1; inc = 1 }) 1 (Told.Put 1 0 4294967295) ∷
      Entry.C (record { host = 0; inc = 1 }) 1 (Told.Read 2 4294967295) ∷ [];
}

-- run 38
abbrev pub run_38 : Example
run_38 = record {
  head = record { hosts = 1; term = 7; longest = 60; files = ((98 ∷ []), 1) ∷ ((126 ∷ 46 ∷ 126 ∷ []), 1) ∷ ((108 ∷ 111 ∷ 110 ∷ 103 ∷ 45 ∷ 110 ∷ 97 ∷ 109 ∷ 101 ∷ 95 ∷ 119 ∷ 105 ∷ 116 ∷ 104 ∷ 46 ∷ 100 ∷ 111 ∷ 116 ∷ 115 ∷ []), 1) ∷ [] };
  lines =
      one (Event.Call 0 (Call.Put 1 0 (filled 1))) ∷ one (Event.Deliver 0) ∷ one (Event.Deliver 1) ∷
      times 1 Event.ServerTick ∷ times 2 Event.ServerTick ∷ one (Event.Call 0 (Call.Sync 1)) ∷
      times 2 (Event.ClientTick 0) ∷ one (Event.Call 0 (Call.Put 3 0 (filled 2))) ∷ one (Event.Deliver 2) ∷
      one (Event.Deliver 3) ∷ one (Event.Call 0 (Call.Sync 1)) ∷ one (Event.Call 0 (Call.Write 3 0 (filled 4))) ∷
      one (Event.Deliver 4) ∷ one (Event.Deliver 5) ∷ one (Event.Call 0 (Call.Put 1 0 (filled 5))) ∷
      one (Event.Deliver 6) ∷ one (Event.Call 0 (Call.Put 1 0 (filled 6))) ∷ one (Event.Call 0 (Call.Sync 1)) ∷
      one (Event.Deliver 7) ∷ one (Event.Call 0 (Call.Write 1 0 (filled 7))) ∷ one (Event.Call 0 (Call.Read 2 0)) ∷
      one (Event.Deliver 8) ∷ one (Event.Deliver 9) ∷ one (Event.Call 0 (Call.Write 1 0 (filled 8))) ∷
      one (Event.Call 0 (Call.Read 1 0)) ∷ one (Event.Call 0 (Call.Write 1 0 (filled 9))) ∷
      one (Event.Call 0 (Call.Write 2 0 (filled 10))) ∷ one (Event.Deliver 10) ∷ one (Event.Deliver 11) ∷ round 4 ∷
      one (Event.Deliver 12) ∷ one (Event.Call 0 (Call.Put 1 0 (filled 11))) ∷ one (Event.Deliver 13) ∷
      one (Event.Deliver 14) ∷ times 2 (Event.ClientTick 0) ∷ one (Event.Deliver 15) ∷ times 1 Event.ServerTick ∷
      one (Event.Deliver 16) ∷ one (Event.Deliver 17) ∷ one (Event.Deliver 18) ∷ one (Event.Deliver 19) ∷
      one (Event.Deliver 20) ∷ round 2 ∷ one (Event.Deliver 21) ∷ one (Event.Deliver 22) ∷ one (Event.Deliver 23) ∷
      round 14 ∷ flow ∷ one (Event.Call 0 (Call.Sync 1)) ∷ flow ∷ one (Event.Call 0 (Call.Read 1 0)) ∷ flow ∷
      one (Event.Call 0 (Call.Sync 2)) ∷ flow ∷ one (Event.Call 0 (Call.Read 2 0)) ∷ flow ∷ round 3 ∷ flow ∷ [];
  journal =
      Entry.A (record { host = 0; inc = 1 }) 19 (Said.OkBy 10 27) ∷
      Entry.R (record { host = 0; inc = 1 }) 19 2 0 10 (Some 27) ∷
      Entry.G (record { host = 0; inc = 1 }) 2 Mode.Reading (record { boot = 1; number = 5 }) 7 24 ∷
      Entry.C (record { host = 0; inc = 1 }) 19 (Told.Read 2 0) ∷ Entry.A (record { host = 0; inc = 1 }) 18 Said.Ok ∷
      Entry.C (record { host = 0; inc = 1 }) 18 (Told.Sync 2) ∷
      Entry.A (record { host = 0; inc = 1 }) 17 (Said.OkBy 11 25) ∷
      Entry.R (record { host = 0; inc = 1 }) 17 1 0 11 (Some 25) ∷
      Entry.G (record { host = 0; inc = 1 }) 1 Mode.Reading (record { boot = 1; number = 4 }) 7 24 ∷
      Entry.C (record { host = 0; inc = 1 }) 17 (Told.Read 1 0) ∷ Entry.A (record { host = 0; inc = 1 }) 16 Said.Ok ∷
      Entry.C (record { host = 0; inc = 1 }) 16 (Told.Sync 1) ∷ Entry.F (record { host = 0; inc = 1 }) 3 13 8 20 ∷
      Entry.F (record { host = 0; inc = 1 }) 2 13 8 19 ∷ Entry.F (record { host = 0; inc = 1 }) 1 13 7 18 ∷
      Entry.S (record { host = 0; inc = 1 }) 3 0 3 3 8 ∷ Entry.S (record { host = 0; inc = 1 }) 2 0 8 8 8 ∷
      Entry.A (record { host = 0; inc = 1 }) 15 Said.Ok ∷ Entry.S (record { host = 0; inc = 1 }) 1 0 9 9 7 ∷
      Entry.W (record { host = 0; inc = 1 }) 1 0 9 11 false ∷
      Entry.C (record { host = 0; inc = 1 }) 15 (Told.Put 1 0 11) ∷ Entry.S (record { host = 0; inc = 1 }) 1 0 5 7 7 ∷
      Entry.A (record { host = 0; inc = 1 }) 14 Said.Ok ∷ Entry.W (record { host = 0; inc = 1 }) 2 0 8 10 false ∷
      Entry.G (record { host = 0; inc = 1 }) 2 Mode.Writing (record { boot = 1; number = 3 }) 7 3 ∷
      Entry.C (record { host = 0; inc = 1 }) 14 (Told.Write 2 0 10) ∷ Entry.A (record { host = 0; inc = 1 }) 13 Said.Ok ∷
      Entry.W (record { host = 0; inc = 1 }) 1 0 7 9 false ∷
      Entry.C (record { host = 0; inc = 1 }) 13 (Told.Write 1 0 9) ∷
      Entry.A (record { host = 0; inc = 1 }) 12 (Said.OkValue 8) ∷ Entry.R (record { host = 0; inc = 1 }) 12 1 0 8 None ∷
      Entry.C (record { host = 0; inc = 1 }) 12 (Told.Read 1 0) ∷ Entry.A (record { host = 0; inc = 1 }) 11 Said.Ok ∷
      Entry.W (record { host = 0; inc = 1 }) 1 0 6 8 false ∷
      Entry.C (record { host = 0; inc = 1 }) 11 (Told.Write 1 0 8) ∷ Entry.A (record { host = 0; inc = 1 }) 9 Said.Ok ∷
      Entry.W (record { host = 0; inc = 1 }) 1 0 5 7 false ∷
      Entry.G (record { host = 0; inc = 1 }) 1 Mode.Writing (record { boot = 1; number = 2 }) 7 3 ∷
      Entry.A (record { host = 0; inc = 1 }) 10 Said.Busy ∷ Entry.C (record { host = 0; inc = 1 }) 10 (Told.Read 2 0) ∷
      Entry.C (record { host = 0; inc = 1 }) 9 (Told.Write 1 0 7) ∷ Entry.A (record { host = 0; inc = 1 }) 6 Said.Ok ∷
      Entry.A (record { host = 0; inc = 1 }) 8 Said.Busy ∷ Entry.C (record { host = 0; inc = 1 }) 8 (Told.Sync 1) ∷
      Entry.A (record { host = 0; inc = 1 }) 7 Said.Busy ∷ Entry.C (record { host = 0; inc = 1 }) 7 (Told.Put 1 0 6) ∷
      Entry.W (record { host = 0; inc = 1 }) 1 0 4 5 true ∷ Entry.C (record { host = 0; inc = 1 }) 6 (Told.Put 1 0 5) ∷
      Entry.A (record { host = 0; inc = 1 }) 5 Said.Ok ∷ Entry.W (record { host = 0; inc = 1 }) 3 0 3 4 false ∷
      Entry.G (record { host = 0; inc = 1 }) 3 Mode.Writing (record { boot = 1; number = 1 }) 7 3 ∷
      Entry.C (record { host = 0; inc = 1 }) 5 (Told.Write 3 0 4) ∷ Entry.A (record { host = 0; inc = 1 }) 4 Said.Ok ∷
      Entry.C (record { host = 0; inc = 1 }) 4 (Told.Sync 1) ∷ Entry.A (record { host = 0; inc = 1 }) 3 Said.Ok ∷
      Entry.W (record { host = 0; inc = 1 }) 3 0 2 2 true ∷ Entry.C (record { host = 0; inc = 1 }) 3 (Told.Put 3 0 2) ∷
      Entry.A (record { host = 0; inc = 1 }) 2 Said.Ok ∷ Entry.C (record { host = 0; inc = 1 }) 2 (Told.Sync 1) ∷
      Entry.A (record { host = 0; inc = 1 }) 1 Said.Ok ∷ Entry.W (record { host = 0; inc = 1 }) 1 0 1 1 true ∷
      Entry.C (record { host = 0; inc = 1 }) 1 (Told.Put 1 0 1) ∷ [];
}

-- run 39
abbrev pub run_39 : Example
run_39 = record {
  head = record { hosts = 2; term = 6; longest = 60; files = ((98 ∷ []), 2) ∷ [] };
  lines =
      one (Event.Call 0 (Call.Read 1 0)) ∷ one (Event.Deliver 0) ∷ one (Event.Deliver 1) ∷
      one (Event.Call 0 (Call.Read 1 1)) ∷ one (Event.Deliver 2) ∷ one (Event.Deliver 3) ∷
      one (Event.Call 0 (Call.Read 1 1)) ∷ one (Event.Call 0 (Call.Read 1 0)) ∷
      one (Event.Call 0 (Call.Write 1 0 (filled 1))) ∷ one (Event.Deliver 4) ∷ one (Event.Deliver 5) ∷
      one (Event.Call 0 (Call.Sync 1)) ∷ one (Event.Deliver 6) ∷ one (Event.Deliver 7) ∷ round 10 ∷
      one (Event.Call 1 (Call.Write 1 1 (filled 3))) ∷ one (Event.Deliver 8) ∷ one (Event.Deliver 9) ∷
      one (Event.Deliver 10) ∷ one (Event.Deliver 11) ∷ one (Event.Deliver 12) ∷ one (Event.Deliver 13) ∷
      one (Event.Deliver 14) ∷ one (Event.Deliver 15) ∷ one (Event.Deliver 16) ∷ one (Event.Deliver 17) ∷
      one (Event.Deliver 18) ∷ one (Event.Deliver 19) ∷ round 2 ∷ one (Event.Deliver 20) ∷ one (Event.Deliver 21) ∷
      one (Event.Deliver 22) ∷ one (Event.Deliver 23) ∷ one (Event.Call 1 (Call.Write 1 0 (filled 5))) ∷
      one (Event.Deliver 24) ∷ one (Event.Deliver 25) ∷ one (Event.Call 0 (Call.Read 1 0)) ∷ one (Event.Deliver 26) ∷
      one (Event.Deliver 27) ∷ one (Event.Call 0 (Call.Read 1 1)) ∷ one (Event.Deliver 28) ∷ one (Event.Deliver 29) ∷
      round 9 ∷ one (Event.Call 0 (Call.Read 1 0)) ∷ one (Event.Deliver 30) ∷ one (Event.Deliver 31) ∷
      one (Event.Call 0 (Call.Fetch 1 1)) ∷ one (Event.Deliver 32) ∷ one (Event.Deliver 33) ∷
      one (Event.Call 0 (Call.Read 1 1)) ∷ one (Event.Deliver 34) ∷ one (Event.Deliver 35) ∷
      one (Event.Call 0 (Call.Read 1 0)) ∷ one (Event.Call 0 (Call.Read 1 0)) ∷ one (Event.Call 0 (Call.Read 1 1)) ∷
      one (Event.Call 1 (Call.Write 1 0 (filled 6))) ∷ one (Event.Deliver 36) ∷ one (Event.Call 0 (Call.Read 1 1)) ∷
      one (Event.Deliver 37) ∷ flow ∷ [];
  journal =
      Entry.A (record { host = 0; inc = 1 }) 15 (Said.OkValue 3) ∷ Entry.R (record { host = 0; inc = 1 }) 15 1 1 3 None ∷
      Entry.C (record { host = 0; inc = 1 }) 15 (Told.Read 1 1) ∷
      Entry.C (record { host = 1; inc = 1 }) 3 (Told.Write 1 0 6) ∷
      Entry.A (record { host = 0; inc = 1 }) 14 (Said.OkValue 3) ∷ Entry.R (record { host = 0; inc = 1 }) 14 1 1 3 None ∷
      Entry.C (record { host = 0; inc = 1 }) 14 (Told.Read 1 1) ∷
      Entry.A (record { host = 0; inc = 1 }) 13 (Said.OkValue 5) ∷ Entry.R (record { host = 0; inc = 1 }) 13 1 0 5 None ∷
      Entry.C (record { host = 0; inc = 1 }) 13 (Told.Read 1 0) ∷
      Entry.A (record { host = 0; inc = 1 }) 12 (Said.OkValue 5) ∷ Entry.R (record { host = 0; inc = 1 }) 12 1 0 5 None ∷
      Entry.C (record { host = 0; inc = 1 }) 12 (Told.Read 1 0) ∷
      Entry.A (record { host = 0; inc = 1 }) 11 (Said.OkBy 3 35) ∷
      Entry.R (record { host = 0; inc = 1 }) 11 1 1 3 (Some 35) ∷
      Entry.G (record { host = 0; inc = 1 }) 1 Mode.Reading (record { boot = 1; number = 12 }) 6 21 ∷
      Entry.C (record { host = 0; inc = 1 }) 11 (Told.Read 1 1) ∷
      Entry.A (record { host = 0; inc = 1 }) 10 (Said.OkBy 3 33) ∷
      Entry.R (record { host = 0; inc = 1 }) 10 1 1 3 (Some 33) ∷
      Entry.C (record { host = 0; inc = 1 }) 10 (Told.Fetch 1 1) ∷
      Entry.A (record { host = 0; inc = 1 }) 9 (Said.OkBy 5 31) ∷
      Entry.R (record { host = 0; inc = 1 }) 9 1 0 5 (Some 31) ∷
      Entry.G (record { host = 0; inc = 1 }) 1 Mode.Reading (record { boot = 1; number = 11 }) 6 21 ∷
      Entry.C (record { host = 0; inc = 1 }) 9 (Told.Read 1 0) ∷
      Entry.A (record { host = 0; inc = 1 }) 8 (Said.OkBy 3 29) ∷
      Entry.R (record { host = 0; inc = 1 }) 8 1 1 3 (Some 29) ∷
      Entry.C (record { host = 0; inc = 1 }) 8 (Told.Read 1 1) ∷
      Entry.A (record { host = 0; inc = 1 }) 7 (Said.OkBy 5 27) ∷
      Entry.R (record { host = 0; inc = 1 }) 7 1 0 5 (Some 27) ∷
      Entry.G (record { host = 0; inc = 1 }) 1 Mode.NonCaching (record { boot = 1; number = 10 }) 6 12 ∷
      Entry.C (record { host = 0; inc = 1 }) 7 (Told.Read 1 0) ∷ Entry.A (record { host = 1; inc = 1 }) 2 Said.Ok ∷
      Entry.W (record { host = 1; inc = 1 }) 1 0 2 5 true ∷ Entry.C (record { host = 1; inc = 1 }) 2 (Told.Write 1 0 5) ∷
      Entry.A (record { host = 1; inc = 1 }) 1 Said.Ok ∷ Entry.W (record { host = 1; inc = 1 }) 1 1 1 3 true ∷
      Entry.G (record { host = 1; inc = 1 }) 1 Mode.NonCaching (record { boot = 1; number = 9 }) 4 12 ∷
      Entry.G (record { host = 0; inc = 1 }) 1 Mode.Writing (record { boot = 1; number = 7 }) 6 10 ∷
      Entry.G (record { host = 0; inc = 1 }) 1 Mode.Writing (record { boot = 1; number = 6 }) 6 10 ∷
      Entry.G (record { host = 0; inc = 1 }) 1 Mode.Writing (record { boot = 1; number = 5 }) 6 10 ∷
      Entry.G (record { host = 0; inc = 1 }) 1 Mode.Writing (record { boot = 1; number = 4 }) 6 10 ∷
      Entry.C (record { host = 1; inc = 1 }) 1 (Told.Write 1 1 3) ∷ Entry.A (record { host = 0; inc = 1 }) 6 Said.Ok ∷
      Entry.S (record { host = 0; inc = 1 }) 1 0 1 1 0 ∷ Entry.C (record { host = 0; inc = 1 }) 6 (Told.Sync 1) ∷
      Entry.A (record { host = 0; inc = 1 }) 5 Said.Ok ∷ Entry.W (record { host = 0; inc = 1 }) 1 0 1 1 false ∷
      Entry.G (record { host = 0; inc = 1 }) 1 Mode.Writing (record { boot = 1; number = 3 }) 6 0 ∷
      Entry.C (record { host = 0; inc = 1 }) 5 (Told.Write 1 0 1) ∷
      Entry.A (record { host = 0; inc = 1 }) 4 (Said.OkValue 0) ∷ Entry.R (record { host = 0; inc = 1 }) 4 1 0 0 None ∷
      Entry.C (record { host = 0; inc = 1 }) 4 (Told.Read 1 0) ∷
      Entry.A (record { host = 0; inc = 1 }) 3 (Said.OkValue 0) ∷ Entry.R (record { host = 0; inc = 1 }) 3 1 1 0 None ∷
      Entry.C (record { host = 0; inc = 1 }) 3 (Told.Read 1 1) ∷
      Entry.A (record { host = 0; inc = 1 }) 2 (Said.OkBy 0 3) ∷ Entry.R (record { host = 0; inc = 1 }) 2 1 1 0 (Some 3) ∷
      Entry.G (record { host = 0; inc = 1 }) 1 Mode.Reading (record { boot = 1; number = 2 }) 6 0 ∷
      Entry.C (record { host = 0; inc = 1 }) 2 (Told.Read 1 1) ∷
      Entry.A (record { host = 0; inc = 1 }) 1 (Said.OkBy 0 1) ∷ Entry.R (record { host = 0; inc = 1 }) 1 1 0 0 (Some 1) ∷
      Entry.G (record { host = 0; inc = 1 }) 1 Mode.Reading (record { boot = 1; number = 1 }) 6 0 ∷
      Entry.C (record { host = 0; inc = 1 }) 1 (Told.Read 1 0) ∷ [];
}

-- run 40
abbrev pub run_40 : Example
run_40 = record {
  head = record { hosts = 1; term = 15; longest = 60; files = ((98 ∷ []), 1) ∷ ((108 ∷ 111 ∷ 110 ∷ 103 ∷ 45 ∷ 110 ∷ 97 ∷ 109 ∷ 101 ∷ 95 ∷ 119 ∷ 105 ∷ 116 ∷ 104 ∷ 46 ∷ 100 ∷ 111 ∷ 116 ∷ 115 ∷ []), 2) ∷ [] };
  lines =
      one (Event.Call 0 (Call.Sync 2)) ∷ round 1 ∷ one (Event.Call 0 (Call.Read 1 0)) ∷ one (Event.Deliver 0) ∷ round 1 ∷
      one (Event.Deliver 1) ∷ one (Event.Call 0 (Call.Read 1 0)) ∷ round 2 ∷ one (Event.Call 0 (Call.Read 1 0)) ∷
      one (Event.Call 0 (Call.Read 1 0)) ∷ one (Event.Call 0 (Call.Read 1 0)) ∷ one (Event.Call 0 (Call.Read 1 0)) ∷
      one (Event.Call 0 (Call.Put 1 0 (filled 1))) ∷ one (Event.Deliver 2) ∷ one (Event.Deliver 3) ∷
      one (Event.Call 0 (Call.Write 1 0 (filled 4))) ∷ one (Event.Deliver 4) ∷ one (Event.Deliver 5) ∷
      one (Event.Call 0 (Call.Put 1 0 (filled 5))) ∷ one (Event.Deliver 6) ∷ one (Event.Deliver 7) ∷
      one (Event.Call 0 (Call.Put 1 0 (filled 7))) ∷ one (Event.Deliver 8) ∷ one (Event.Deliver 9) ∷
      one (Event.Call 0 (Call.Read 1 0)) ∷ one (Event.Call 0 (Call.Read 1 0)) ∷ one (Event.Call 0 (Call.Fetch 1 0)) ∷
      one (Event.Call 0 (Call.Read 1 0)) ∷ one (Event.Call 0 (Call.Read 1 0)) ∷ one (Event.Call 0 (Call.Read 1 0)) ∷
      one (Event.Call 0 (Call.Fetch 1 0)) ∷ one (Event.Call 0 (Call.Fetch 1 0)) ∷ times 7 (Event.ClientTick 0) ∷
      one (Event.Call 0 (Call.Write 1 0 (filled 8))) ∷ times 2 Event.ServerTick ∷
      one (Event.Call 0 (Call.Write 1 0 (filled 9))) ∷ one (Event.Deliver 8) ∷ one (Event.Deliver 10) ∷
      one (Event.Call 0 (Call.Put 2 0 (filled 10))) ∷ one (Event.Deliver 11) ∷ one (Event.Deliver 12) ∷
      one (Event.Call 0 (Call.Fetch 3 0)) ∷ one (Event.Deliver 13) ∷ one (Event.Deliver 14) ∷
      one (Event.Call 0 (Call.Write 1 0 (filled 11))) ∷ round 30 ∷ one (Event.Crash 60) ∷
      one (Event.Call 0 (Call.Write 2 0 (filled 12))) ∷ one (Event.Deliver 15) ∷ one (Event.Deliver 16) ∷
      one (Event.Deliver 17) ∷ one (Event.Deliver 18) ∷ round 3 ∷ round 2 ∷ round 2 ∷ round 13 ∷ one (Event.Deliver 20) ∷
      one (Event.Deliver 21) ∷ one (Event.Crash 60) ∷ one (Event.Deliver 22) ∷ one (Event.Deliver 23) ∷ round 3 ∷ [];
  journal =
      Entry.X 3 56 60 ∷ Entry.C (record { host = 0; inc = 1 }) 25 (Told.Write 2 0 12) ∷ Entry.X 2 36 60 ∷
      Entry.F (record { host = 0; inc = 1 }) 1 22 4 27 ∷ Entry.A (record { host = 0; inc = 1 }) 24 Said.Ok ∷
      Entry.W (record { host = 0; inc = 1 }) 1 0 8 11 false ∷
      Entry.C (record { host = 0; inc = 1 }) 24 (Told.Write 1 0 11) ∷
      Entry.A (record { host = 0; inc = 1 }) 23 Said.Stale ∷ Entry.C (record { host = 0; inc = 1 }) 23 (Told.Fetch 3 0) ∷
      Entry.A (record { host = 0; inc = 1 }) 22 Said.Ok ∷ Entry.W (record { host = 0; inc = 1 }) 2 0 7 10 true ∷
      Entry.C (record { host = 0; inc = 1 }) 22 (Told.Put 2 0 10) ∷ Entry.A (record { host = 0; inc = 1 }) 21 Said.Ok ∷
      Entry.W (record { host = 0; inc = 1 }) 1 0 6 9 false ∷
      Entry.C (record { host = 0; inc = 1 }) 21 (Told.Write 1 0 9) ∷ Entry.A (record { host = 0; inc = 1 }) 20 Said.Ok ∷
      Entry.W (record { host = 0; inc = 1 }) 1 0 5 8 false ∷
      Entry.C (record { host = 0; inc = 1 }) 20 (Told.Write 1 0 8) ∷
      Entry.A (record { host = 0; inc = 1 }) 19 (Said.OkValue 7) ∷ Entry.R (record { host = 0; inc = 1 }) 19 1 0 7 None ∷
      Entry.C (record { host = 0; inc = 1 }) 19 (Told.Fetch 1 0) ∷
      Entry.A (record { host = 0; inc = 1 }) 18 (Said.OkValue 7) ∷ Entry.R (record { host = 0; inc = 1 }) 18 1 0 7 None ∷
      Entry.C (record { host = 0; inc = 1 }) 18 (Told.Fetch 1 0) ∷
      Entry.A (record { host = 0; inc = 1 }) 17 (Said.OkValue 7) ∷ Entry.R (record { host = 0; inc = 1 }) 17 1 0 7 None ∷
      Entry.C (record { host = 0; inc = 1 }) 17 (Told.Read 1 0) ∷
      Entry.A (record { host = 0; inc = 1 }) 16 (Said.OkValue 7) ∷ Entry.R (record { host = 0; inc = 1 }) 16 1 0 7 None ∷
      Entry.C (record { host = 0; inc = 1 }) 16 (Told.Read 1 0) ∷
      Entry.A (record { host = 0; inc = 1 }) 15 (Said.OkValue 7) ∷ Entry.R (record { host = 0; inc = 1 }) 15 1 0 7 None ∷
      Entry.C (record { host = 0; inc = 1 }) 15 (Told.Read 1 0) ∷
      Entry.A (record { host = 0; inc = 1 }) 14 (Said.OkValue 7) ∷ Entry.R (record { host = 0; inc = 1 }) 14 1 0 7 None ∷
      Entry.C (record { host = 0; inc = 1 }) 14 (Told.Fetch 1 0) ∷
      Entry.A (record { host = 0; inc = 1 }) 13 (Said.OkValue 7) ∷ Entry.R (record { host = 0; inc = 1 }) 13 1 0 7 None ∷
      Entry.C (record { host = 0; inc = 1 }) 13 (Told.Read 1 0) ∷
      Entry.A (record { host = 0; inc = 1 }) 12 (Said.OkValue 7) ∷ Entry.R (record { host = 0; inc = 1 }) 12 1 0 7 None ∷
      Entry.C (record { host = 0; inc = 1 }) 12 (Told.Read 1 0) ∷ Entry.A (record { host = 0; inc = 1 }) 11 Said.Ok ∷
      Entry.S (record { host = 0; inc = 1 }) 1 0 4 4 4 ∷ Entry.W (record { host = 0; inc = 1 }) 1 0 4 7 false ∷
      Entry.C (record { host = 0; inc = 1 }) 11 (Told.Put 1 0 7) ∷ Entry.A (record { host = 0; inc = 1 }) 10 Said.Ok ∷
      Entry.S (record { host = 0; inc = 1 }) 1 0 2 3 4 ∷ Entry.W (record { host = 0; inc = 1 }) 1 0 3 5 false ∷
      Entry.C (record { host = 0; inc = 1 }) 10 (Told.Put 1 0 5) ∷ Entry.A (record { host = 0; inc = 1 }) 9 Said.Ok ∷
      Entry.W (record { host = 0; inc = 1 }) 1 0 2 4 false ∷
      Entry.G (record { host = 0; inc = 1 }) 1 Mode.Writing (record { boot = 1; number = 2 }) 15 4 ∷
      Entry.C (record { host = 0; inc = 1 }) 9 (Told.Write 1 0 4) ∷ Entry.A (record { host = 0; inc = 1 }) 8 Said.Ok ∷
      Entry.W (record { host = 0; inc = 1 }) 1 0 1 1 true ∷ Entry.C (record { host = 0; inc = 1 }) 8 (Told.Put 1 0 1) ∷
      Entry.A (record { host = 0; inc = 1 }) 7 (Said.OkValue 0) ∷ Entry.R (record { host = 0; inc = 1 }) 7 1 0 0 None ∷
      Entry.C (record { host = 0; inc = 1 }) 7 (Told.Read 1 0) ∷
      Entry.A (record { host = 0; inc = 1 }) 6 (Said.OkValue 0) ∷ Entry.R (record { host = 0; inc = 1 }) 6 1 0 0 None ∷
      Entry.C (record { host = 0; inc = 1 }) 6 (Told.Read 1 0) ∷
      Entry.A (record { host = 0; inc = 1 }) 5 (Said.OkValue 0) ∷ Entry.R (record { host = 0; inc = 1 }) 5 1 0 0 None ∷
      Entry.C (record { host = 0; inc = 1 }) 5 (Told.Read 1 0) ∷
      Entry.A (record { host = 0; inc = 1 }) 4 (Said.OkValue 0) ∷ Entry.R (record { host = 0; inc = 1 }) 4 1 0 0 None ∷
      Entry.C (record { host = 0; inc = 1 }) 4 (Told.Read 1 0) ∷
      Entry.A (record { host = 0; inc = 1 }) 3 (Said.OkValue 0) ∷ Entry.R (record { host = 0; inc = 1 }) 3 1 0 0 None ∷
      Entry.C (record { host = 0; inc = 1 }) 3 (Told.Read 1 0) ∷
      Entry.A (record { host = 0; inc = 1 }) 2 (Said.OkBy 0 1) ∷ Entry.R (record { host = 0; inc = 1 }) 2 1 0 0 (Some 1) ∷
      Entry.G (record { host = 0; inc = 1 }) 1 Mode.Reading (record { boot = 1; number = 1 }) 15 1 ∷
      Entry.C (record { host = 0; inc = 1 }) 2 (Told.Read 1 0) ∷ Entry.A (record { host = 0; inc = 1 }) 1 Said.Ok ∷
      Entry.C (record { host = 0; inc = 1 }) 1 (Told.Sync 2) ∷ [];
}

-- all of these
abbrev pub mixed_two : List Example
mixed_two =
    run_21 ∷ run_22 ∷ run_23 ∷ run_24 ∷ run_25 ∷ run_26 ∷ run_27 ∷ run_28 ∷ run_29 ∷ run_30 ∷ run_31 ∷ run_32 ∷ run_33 ∷
    run_34 ∷ run_35 ∷ run_36 ∷ run_37 ∷ run_38 ∷ run_39 ∷ run_40 ∷ []
