use Rattle.std.specs.Prelude.{List, [], ◌∷◌, Some, None, true, false}
use Rattle.nq_base.specs.Block.{filled}
use Rattle.nq_base.specs.declared.Call.{Call}
use Rattle.nq_base.specs.declared.Entry.{Entry}
use Rattle.nq_base.specs.declared.Event.{Event}
use Rattle.nq_base.specs.declared.Mode.{Mode}
use Rattle.nq_base.specs.declared.Said.{Said}
use Rattle.nq_base.specs.declared.Told.{Told}
use Rattle.nq_laws.specs.Example.{Example}
use Rattle.nq_model.specs.protocol.Lines.{one, times, round, flow}

-- run 41
abbrev pub run_41 : Example
run_41 = record {
  head = record { hosts = 1; term = 5; longest = 5; files = ((33 ∷ []), 2) ∷ [] };
  lines =
      flow ∷ one (Event.Call 0 (Call.Lookup (99 ∷ []))) ∷ one (Event.Deliver 0) ∷ one (Event.Call 0 (Call.Read 1 0)) ∷
      one (Event.Deliver 1) ∷ round 2 ∷ round 14 ∷ flow ∷ one (Event.Call 0 (Call.Sync 1)) ∷ flow ∷
      one (Event.Call 0 (Call.Read 1 0)) ∷ flow ∷ round 3 ∷ flow ∷ [];
  journal =
      Entry.A (record { host = 0; inc = 1 }) 4 (Said.OkBy 0 3) ∷ Entry.R (record { host = 0; inc = 1 }) 4 1 0 0 (Some 3) ∷
      Entry.G (record { host = 0; inc = 1 }) 1 Mode.Reading (record { boot = 1; number = 1 }) 5 16 ∷
      Entry.C (record { host = 0; inc = 1 }) 4 (Told.Read 1 0) ∷ Entry.A (record { host = 0; inc = 1 }) 3 Said.Ok ∷
      Entry.C (record { host = 0; inc = 1 }) 3 (Told.Sync 1) ∷ Entry.A (record { host = 0; inc = 1 }) 1 Said.NoEntry ∷
      Entry.A (record { host = 0; inc = 1 }) 2 Said.Busy ∷ Entry.C (record { host = 0; inc = 1 }) 2 (Told.Read 1 0) ∷
      Entry.C (record { host = 0; inc = 1 }) 1 (Told.Lookup (99 ∷ [])) ∷ [];
}

-- run 42
abbrev pub run_42 : Example
run_42 = record {
  head = record { hosts = 3; term = 60; longest = 5; files = ((120 ∷ 120 ∷ 120 ∷ 120 ∷ 120 ∷ 120 ∷ 120 ∷ 120 ∷ 120 ∷ 120 ∷ 120 ∷ 120 ∷ 120 ∷ 120 ∷ 120 ∷ 120 ∷ 120 ∷ 120 ∷ 120 ∷ 120 ∷ 120 ∷ 120 ∷ 120 ∷ 120 ∷ 120 ∷ 120 ∷ 120 ∷ 120 ∷ 120 ∷ 120 ∷ 120 ∷ 120 ∷ 120 ∷ 120 ∷ 120 ∷ 120 ∷ 120 ∷ 120 ∷ 120 ∷ 120 ∷ 120 ∷ 120 ∷ 120 ∷ 120 ∷ 120 ∷ 120 ∷ 120 ∷ 120 ∷ 120 ∷ 120 ∷ 120 ∷ 120 ∷ 120 ∷ 120 ∷ 120 ∷ 120 ∷ 120 ∷ 120 ∷ 120 ∷ 120 ∷ 120 ∷ 120 ∷ 120 ∷ 120 ∷ []), 1) ∷ [] };
  lines =
      times 3 Event.ServerTick ∷ round 4 ∷ one (Event.Call 2 (Call.Put 1 0 (filled 1))) ∷ round 2 ∷
      one (Event.Deliver 0) ∷ one (Event.Deliver 1) ∷ one (Event.Deliver 2) ∷ one (Event.Deliver 3) ∷
      one (Event.Call 2 (Call.Write 1 0 (filled 2))) ∷ round 3 ∷ one (Event.Call 1 (Call.Resize 1 1)) ∷
      one (Event.Deliver 6) ∷ one (Event.Deliver 7) ∷ one (Event.Deliver 4) ∷ one (Event.Deliver 5) ∷
      one (Event.Deliver 8) ∷ one (Event.Deliver 9) ∷ one (Event.Deliver 10) ∷ one (Event.Deliver 11) ∷
      one (Event.Call 2 (Call.Remove 1)) ∷ one (Event.Deliver 12) ∷ one (Event.Deliver 13) ∷
      one (Event.Call 2 (Call.Create (108 ∷ 111 ∷ 110 ∷ 103 ∷ 45 ∷ 110 ∷ 97 ∷ 109 ∷ 101 ∷ 95 ∷ 119 ∷ 105 ∷ 116 ∷ 104 ∷ 46 ∷ 100 ∷ 111 ∷ 116 ∷ 115 ∷ []) 3)) ∷
      one (Event.Deliver 14) ∷ [];
  journal =
      Entry.C (record { host = 2; inc = 1 }) 4 (Told.Create (108 ∷ 111 ∷ 110 ∷ 103 ∷ 45 ∷ 110 ∷ 97 ∷ 109 ∷ 101 ∷ 95 ∷ 119 ∷ 105 ∷ 116 ∷ 104 ∷ 46 ∷ 100 ∷ 111 ∷ 116 ∷ 115 ∷ []) 3) ∷
      Entry.A (record { host = 2; inc = 1 }) 3 Said.Ok ∷ Entry.Z (record { host = 2; inc = 1 }) 3 1 1 0 ∷
      Entry.C (record { host = 2; inc = 1 }) 3 (Told.Remove 1) ∷ Entry.S (record { host = 2; inc = 1 }) 1 0 2 2 12 ∷
      Entry.A (record { host = 2; inc = 1 }) 2 Said.Ok ∷ Entry.W (record { host = 2; inc = 1 }) 1 0 2 2 false ∷
      Entry.G (record { host = 2; inc = 1 }) 1 Mode.Writing (record { boot = 1; number = 2 }) 5 12 ∷
      Entry.G (record { host = 2; inc = 1 }) 1 Mode.Writing (record { boot = 1; number = 1 }) 5 12 ∷
      Entry.A (record { host = 1; inc = 1 }) 1 Said.Ok ∷ Entry.Z (record { host = 1; inc = 1 }) 1 1 1 1 ∷
      Entry.C (record { host = 1; inc = 1 }) 1 (Told.Resize 1 1) ∷
      Entry.C (record { host = 2; inc = 1 }) 2 (Told.Write 1 0 2) ∷ Entry.A (record { host = 2; inc = 1 }) 1 Said.Ok ∷
      Entry.W (record { host = 2; inc = 1 }) 1 0 1 1 true ∷ Entry.C (record { host = 2; inc = 1 }) 1 (Told.Put 1 0 1) ∷ [];
}

-- run 43
abbrev pub run_43 : Example
run_43 = record {
  head = record { hosts = 2; term = 6; longest = 5; files = ((108 ∷ 111 ∷ 110 ∷ 103 ∷ 45 ∷ 110 ∷ 97 ∷ 109 ∷ 101 ∷ 95 ∷ 119 ∷ 105 ∷ 116 ∷ 104 ∷ 46 ∷ 100 ∷ 111 ∷ 116 ∷ 115 ∷ []), 1) ∷ [] };
  lines =
      one (Event.Crash 5) ∷ round 1 ∷ one (Event.Call 0 (Call.Sync 1)) ∷ one (Event.Call 1 (Call.Put 1 0 (filled 1))) ∷
      one (Event.Call 0 (Call.Put 1 0 (filled 2))) ∷ round 2 ∷ one (Event.Deliver 0) ∷ one (Event.Deliver 1) ∷
      one (Event.Deliver 2) ∷ one (Event.Deliver 3) ∷ one (Event.Deliver 4) ∷ one (Event.Deliver 5) ∷
      one (Event.Deliver 6) ∷ one (Event.Deliver 7) ∷ round 14 ∷ flow ∷ one (Event.Call 0 (Call.Sync 1)) ∷ flow ∷
      one (Event.Call 0 (Call.Read 1 0)) ∷ flow ∷ one (Event.Call 1 (Call.Sync 1)) ∷ flow ∷
      one (Event.Call 1 (Call.Read 1 0)) ∷ flow ∷ round 3 ∷ flow ∷ [];
  journal =
      Entry.A (record { host = 1; inc = 1 }) 3 (Said.OkBy 1 39) ∷
      Entry.R (record { host = 1; inc = 1 }) 3 1 0 1 (Some 39) ∷
      Entry.G (record { host = 1; inc = 1 }) 1 Mode.Reading (record { boot = 2; number = 2 }) 5 17 ∷
      Entry.C (record { host = 1; inc = 1 }) 3 (Told.Read 1 0) ∷ Entry.A (record { host = 1; inc = 1 }) 2 Said.Ok ∷
      Entry.C (record { host = 1; inc = 1 }) 2 (Told.Sync 1) ∷ Entry.A (record { host = 0; inc = 1 }) 4 (Said.OkBy 1 37) ∷
      Entry.R (record { host = 0; inc = 1 }) 4 1 0 1 (Some 37) ∷
      Entry.G (record { host = 0; inc = 1 }) 1 Mode.Reading (record { boot = 2; number = 1 }) 5 17 ∷
      Entry.C (record { host = 0; inc = 1 }) 4 (Told.Read 1 0) ∷ Entry.A (record { host = 0; inc = 1 }) 3 Said.Ok ∷
      Entry.C (record { host = 0; inc = 1 }) 3 (Told.Sync 1) ∷ Entry.A (record { host = 1; inc = 1 }) 1 Said.Ok ∷
      Entry.A (record { host = 0; inc = 1 }) 2 Said.Ok ∷ Entry.W (record { host = 1; inc = 1 }) 1 0 2 1 true ∷
      Entry.W (record { host = 0; inc = 1 }) 1 0 2 2 true ∷ Entry.O 2 13 0 13 ∷
      Entry.C (record { host = 0; inc = 1 }) 2 (Told.Put 1 0 2) ∷
      Entry.C (record { host = 1; inc = 1 }) 1 (Told.Put 1 0 1) ∷ Entry.A (record { host = 0; inc = 1 }) 1 Said.Ok ∷
      Entry.C (record { host = 0; inc = 1 }) 1 (Told.Sync 1) ∷ Entry.X 2 0 5 ∷ [];
}

-- run 44
abbrev pub run_44 : Example
run_44 = record {
  head = record { hosts = 1; term = 6; longest = 100; files = ((97 ∷ []), 1) ∷ [] };
  lines =
      round 3 ∷ flow ∷ one (Event.Call 0 (Call.Write 1 0 (filled 1))) ∷ one (Event.Deliver 0) ∷
      one (Event.Call 0 (Call.Write 1 0 (filled 2))) ∷ one (Event.Deliver 1) ∷
      one (Event.Call 0 (Call.Write 1 0 (filled 3))) ∷ one (Event.Call 0 (Call.Write 1 0 (filled 4))) ∷
      one (Event.Call 0 (Call.Sync 1)) ∷ one (Event.Deliver 1) ∷ one (Event.Deliver 2) ∷ round 1 ∷ one (Event.Deliver 3) ∷
      round 2 ∷ one (Event.Deliver 4) ∷ one (Event.Deliver 5) ∷ one (Event.Call 0 (Call.Write 1 0 (filled 5))) ∷ round 2 ∷
      round 14 ∷ flow ∷ one (Event.Call 0 (Call.Sync 1)) ∷ flow ∷ one (Event.Call 0 (Call.Read 1 0)) ∷ flow ∷ round 3 ∷
      flow ∷ [];
  journal =
      Entry.A (record { host = 0; inc = 1 }) 8 (Said.OkBy 4 21) ∷
      Entry.R (record { host = 0; inc = 1 }) 8 1 0 4 (Some 21) ∷
      Entry.G (record { host = 0; inc = 1 }) 1 Mode.Reading (record { boot = 1; number = 3 }) 6 22 ∷
      Entry.C (record { host = 0; inc = 1 }) 8 (Told.Read 1 0) ∷
      Entry.A (record { host = 0; inc = 1 }) 7 (Said.Lost (record { items = record { block = 0; first = 4; last = 4 } ∷ []; spare = 0 })) ∷
      Entry.C (record { host = 0; inc = 1 }) 7 (Told.Sync 1) ∷ Entry.L (record { host = 0; inc = 1 }) 1 0 4 4 ∷
      Entry.F (record { host = 0; inc = 1 }) 1 15 3 20 ∷ Entry.A (record { host = 0; inc = 1 }) 6 Said.Ok ∷
      Entry.W (record { host = 0; inc = 1 }) 1 0 4 5 false ∷ Entry.C (record { host = 0; inc = 1 }) 6 (Told.Write 1 0 5) ∷
      Entry.G (record { host = 0; inc = 1 }) 1 Mode.Writing (record { boot = 1; number = 2 }) 6 6 ∷
      Entry.A (record { host = 0; inc = 1 }) 5 Said.Ok ∷ Entry.S (record { host = 0; inc = 1 }) 1 0 1 3 3 ∷
      Entry.C (record { host = 0; inc = 1 }) 5 (Told.Sync 1) ∷ Entry.A (record { host = 0; inc = 1 }) 4 Said.Ok ∷
      Entry.W (record { host = 0; inc = 1 }) 1 0 3 4 false ∷ Entry.C (record { host = 0; inc = 1 }) 4 (Told.Write 1 0 4) ∷
      Entry.A (record { host = 0; inc = 1 }) 3 Said.Ok ∷ Entry.W (record { host = 0; inc = 1 }) 1 0 2 3 false ∷
      Entry.C (record { host = 0; inc = 1 }) 3 (Told.Write 1 0 3) ∷ Entry.A (record { host = 0; inc = 1 }) 1 Said.Ok ∷
      Entry.W (record { host = 0; inc = 1 }) 1 0 1 1 false ∷ Entry.A (record { host = 0; inc = 1 }) 2 Said.Busy ∷
      Entry.C (record { host = 0; inc = 1 }) 2 (Told.Write 1 0 2) ∷
      Entry.G (record { host = 0; inc = 1 }) 1 Mode.Writing (record { boot = 1; number = 1 }) 6 3 ∷
      Entry.C (record { host = 0; inc = 1 }) 1 (Told.Write 1 0 1) ∷ [];
}

-- run 45
abbrev pub run_45 : Example
run_45 = record {
  head = record { hosts = 4; term = 61; longest = 5; files = ((97 ∷ []), 1) ∷ [] };
  lines =
      times 2 Event.ServerTick ∷ one (Event.Call 3 (Call.Sync 1)) ∷ one (Event.Call 1 (Call.Write 1 0 (filled 1))) ∷
      one (Event.Call 3 (Call.Write 1 2 (filled 2))) ∷ one (Event.Deliver 1) ∷
      one (Event.Call 2 (Call.Write 1 0 (filled 3))) ∷ one (Event.Call 0 (Call.Write 1 0 (filled 4))) ∷
      one (Event.Deliver 0) ∷ one (Event.Deliver 2) ∷ one (Event.Deliver 3) ∷ one (Event.Deliver 4) ∷
      one (Event.Deliver 5) ∷ one (Event.Deliver 3) ∷ one (Event.Deliver 6) ∷
      one (Event.Call 3 (Call.Put 1 0 (filled 5))) ∷ one (Event.Deliver 7) ∷ one (Event.Deliver 8) ∷ round 1 ∷
      one (Event.Deliver 13) ∷ one (Event.Deliver 12) ∷ one (Event.Deliver 9) ∷ one (Event.Deliver 10) ∷
      one (Event.Restart 3) ∷ one (Event.Deliver 11) ∷ one (Event.Deliver 6) ∷ one (Event.Deliver 14) ∷
      one (Event.Deliver 15) ∷ one (Event.Deliver 3) ∷ one (Event.Deliver 7) ∷ one (Event.Deliver 16) ∷
      one (Event.Deliver 17) ∷ one (Event.Deliver 18) ∷ times 1 Event.ServerTick ∷ one (Event.Deliver 13) ∷
      one (Event.Deliver 19) ∷ one (Event.Deliver 21) ∷ one (Event.Deliver 20) ∷ round 1 ∷ one (Event.Deliver 21) ∷
      one (Event.Deliver 22) ∷ [];
  journal =
      Entry.G (record { host = 1; inc = 1 }) 1 Mode.NonCaching (record { boot = 1; number = 6 }) 2 5 ∷
      Entry.G (record { host = 2; inc = 1 }) 1 Mode.NonCaching (record { boot = 1; number = 5 }) 4 3 ∷
      Entry.W (record { host = 3; inc = 1 }) 1 0 1 5 true ∷ Entry.B (record { host = 3; inc = 2 }) ∷
      Entry.C (record { host = 3; inc = 1 }) 3 (Told.Put 1 0 5) ∷ Entry.A (record { host = 3; inc = 1 }) 2 Said.Range ∷
      Entry.C (record { host = 0; inc = 1 }) 1 (Told.Write 1 0 4) ∷
      Entry.C (record { host = 2; inc = 1 }) 1 (Told.Write 1 0 3) ∷
      Entry.G (record { host = 3; inc = 1 }) 1 Mode.Writing (record { boot = 1; number = 1 }) 5 2 ∷
      Entry.C (record { host = 3; inc = 1 }) 2 (Told.Write 1 2 2) ∷
      Entry.C (record { host = 1; inc = 1 }) 1 (Told.Write 1 0 1) ∷ Entry.A (record { host = 3; inc = 1 }) 1 Said.Ok ∷
      Entry.C (record { host = 3; inc = 1 }) 1 (Told.Sync 1) ∷ [];
}

-- run 46
abbrev pub run_46 : Example
run_46 = record {
  head = record { hosts = 2; term = 5; longest = 60; files = ((98 ∷ []), 1) ∷ ((33 ∷ []), 7) ∷ ((108 ∷ 111 ∷ 110 ∷ 103 ∷ 45 ∷ 110 ∷ 97 ∷ 109 ∷ 101 ∷ 95 ∷ 119 ∷ 105 ∷ 116 ∷ 104 ∷ 46 ∷ 100 ∷ 111 ∷ 116 ∷ 115 ∷ []), 1) ∷ [] };
  lines =
      round 1 ∷ round 2 ∷ times 1 Event.ServerTick ∷ flow ∷ one (Event.Call 0 (Call.Put 1 0 (filled 1))) ∷
      one (Event.Deliver 0) ∷ one (Event.Deliver 1) ∷ one (Event.Call 0 (Call.Write 3 0 (filled 3))) ∷ round 3 ∷
      one (Event.Call 1 (Call.Resize 3 1)) ∷ one (Event.Deliver 4) ∷ one (Event.Deliver 5) ∷ one (Event.Crash 37) ∷
      one (Event.Deliver 2) ∷ one (Event.Deliver 3) ∷ one (Event.Deliver 6) ∷ one (Event.Deliver 7) ∷
      one (Event.Call 1 (Call.Read 1 0)) ∷ flow ∷ one (Event.Call 0 (Call.Read 2 0)) ∷ round 2 ∷ one (Event.Deliver 10) ∷
      flow ∷ flow ∷ round 1 ∷ round 2 ∷ one (Event.Deliver 14) ∷ one (Event.Deliver 15) ∷ one (Event.Deliver 16) ∷
      one (Event.Deliver 17) ∷ round 14 ∷ flow ∷ flow ∷ flow ∷ flow ∷ flow ∷ flow ∷ flow ∷ flow ∷ flow ∷ round 3 ∷ flow ∷
      [];
  journal =
      Entry.A (record { host = 0; inc = 1 }) 3 Said.Busy ∷ Entry.C (record { host = 0; inc = 1 }) 3 (Told.Read 2 0) ∷
      Entry.C (record { host = 1; inc = 1 }) 2 (Told.Read 1 0) ∷ Entry.X 2 7 60 ∷
      Entry.A (record { host = 1; inc = 1 }) 1 Said.Ok ∷ Entry.Z (record { host = 1; inc = 1 }) 1 3 1 1 ∷
      Entry.C (record { host = 1; inc = 1 }) 1 (Told.Resize 3 1) ∷
      Entry.C (record { host = 0; inc = 1 }) 2 (Told.Write 3 0 3) ∷ Entry.A (record { host = 0; inc = 1 }) 1 Said.Ok ∷
      Entry.W (record { host = 0; inc = 1 }) 1 0 1 1 true ∷ Entry.C (record { host = 0; inc = 1 }) 1 (Told.Put 1 0 1) ∷ [];
}

-- run 47
abbrev pub run_47 : Example
run_47 = record {
  head = record { hosts = 3; term = 60; longest = 8; files = ((108 ∷ 111 ∷ 110 ∷ 103 ∷ 45 ∷ 110 ∷ 97 ∷ 109 ∷ 101 ∷ 95 ∷ 119 ∷ 105 ∷ 116 ∷ 104 ∷ 46 ∷ 100 ∷ 111 ∷ 116 ∷ 115 ∷ []), 4) ∷ [] };
  lines =
      one (Event.Call 0 (Call.Write 1 0 (filled 1))) ∷ one (Event.Deliver 0) ∷ one (Event.Deliver 1) ∷
      one (Event.Call 0 (Call.Write 1 0 (filled 2))) ∷ one (Event.Call 0 (Call.Put 1 1 (filled 3))) ∷ round 16 ∷
      one (Event.Call 1 (Call.Resize 1 1)) ∷ one (Event.Deliver 11) ∷ one (Event.Deliver 12) ∷ one (Event.Crash 8) ∷
      one (Event.Deliver 2) ∷ one (Event.Deliver 3) ∷ one (Event.Deliver 4) ∷ one (Event.Deliver 5) ∷
      one (Event.Deliver 6) ∷ one (Event.Deliver 7) ∷ one (Event.Deliver 8) ∷ one (Event.Deliver 9) ∷
      one (Event.Deliver 10) ∷ one (Event.Deliver 13) ∷ one (Event.Deliver 14) ∷ one (Event.Deliver 15) ∷
      one (Event.Deliver 16) ∷ one (Event.Deliver 17) ∷ one (Event.Deliver 18) ∷ one (Event.Deliver 19) ∷
      one (Event.Deliver 20) ∷ one (Event.Deliver 21) ∷ one (Event.Call 0 (Call.Sync 1)) ∷
      one (Event.Call 0 (Call.Sync 1)) ∷ one (Event.Call 1 (Call.Sync 1)) ∷ one (Event.Call 2 (Call.Read 1 0)) ∷
      one (Event.Deliver 22) ∷ times 2 Event.ServerTick ∷ [];
  journal =
      Entry.C (record { host = 2; inc = 1 }) 1 (Told.Read 1 0) ∷ Entry.A (record { host = 1; inc = 1 }) 2 Said.Ok ∷
      Entry.C (record { host = 1; inc = 1 }) 2 (Told.Sync 1) ∷ Entry.A (record { host = 0; inc = 1 }) 5 Said.Ok ∷
      Entry.C (record { host = 0; inc = 1 }) 5 (Told.Sync 1) ∷ Entry.A (record { host = 0; inc = 1 }) 4 Said.Ok ∷
      Entry.C (record { host = 0; inc = 1 }) 4 (Told.Sync 1) ∷
      Entry.A (record { host = 0; inc = 1 }) 3 (Said.Lost (record { items = record { block = 0; first = 1; last = 2 } ∷ record { block = 1; first = 3; last = 3 } ∷ []; spare = 0 })) ∷
      Entry.L (record { host = 0; inc = 1 }) 1 1 3 3 ∷ Entry.L (record { host = 0; inc = 1 }) 1 0 1 2 ∷ Entry.X 2 16 8 ∷
      Entry.A (record { host = 1; inc = 1 }) 1 Said.Ok ∷ Entry.Z (record { host = 1; inc = 1 }) 1 1 4 1 ∷
      Entry.C (record { host = 1; inc = 1 }) 1 (Told.Resize 1 1) ∷ Entry.F (record { host = 0; inc = 1 }) 1 11 0 16 ∷
      Entry.W (record { host = 0; inc = 1 }) 1 1 3 3 false ∷ Entry.C (record { host = 0; inc = 1 }) 3 (Told.Put 1 1 3) ∷
      Entry.A (record { host = 0; inc = 1 }) 2 Said.Ok ∷ Entry.W (record { host = 0; inc = 1 }) 1 0 2 2 false ∷
      Entry.C (record { host = 0; inc = 1 }) 2 (Told.Write 1 0 2) ∷ Entry.A (record { host = 0; inc = 1 }) 1 Said.Ok ∷
      Entry.W (record { host = 0; inc = 1 }) 1 0 1 1 false ∷
      Entry.G (record { host = 0; inc = 1 }) 1 Mode.Writing (record { boot = 1; number = 1 }) 8 0 ∷
      Entry.C (record { host = 0; inc = 1 }) 1 (Told.Write 1 0 1) ∷ [];
}

-- run 48
abbrev pub run_48 : Example
run_48 = record {
  head = record { hosts = 5; term = 8; longest = 5; files = ((99 ∷ []), 1) ∷ [] };
  lines =
      one (Event.Call 1 (Call.Write 1 0 (filled 1))) ∷ one (Event.Deliver 0) ∷ one (Event.Deliver 1) ∷
      one (Event.Call 1 (Call.Write 1 0 (filled 2))) ∷ one (Event.Call 1 (Call.Write 1 0 (filled 3))) ∷
      one (Event.Call 1 (Call.Put 1 0 (filled 4))) ∷ round 13 ∷ one (Event.Call 3 (Call.Write 1 0 (filled 5))) ∷
      one (Event.Deliver 9) ∷ one (Event.Deliver 10) ∷ one (Event.Deliver 2) ∷ one (Event.Deliver 3) ∷
      one (Event.Deliver 4) ∷ one (Event.Deliver 5) ∷ one (Event.Deliver 6) ∷ one (Event.Deliver 7) ∷
      one (Event.Deliver 8) ∷ one (Event.Deliver 11) ∷ one (Event.Deliver 12) ∷ one (Event.Deliver 13) ∷
      one (Event.Deliver 14) ∷ one (Event.Deliver 15) ∷ one (Event.Deliver 16) ∷ one (Event.Deliver 17) ∷
      one (Event.Call 1 (Call.Write 1 0 (filled 6))) ∷ one (Event.Deliver 18) ∷ one (Event.Deliver 19) ∷
      one (Event.Deliver 20) ∷ one (Event.Deliver 21) ∷ one (Event.Deliver 22) ∷ one (Event.Deliver 23) ∷
      times 3 (Event.ClientTick 4) ∷ one (Event.Call 1 (Call.Fetch 1 0)) ∷ times 1 (Event.ClientTick 1) ∷
      times 2 Event.ServerTick ∷ [];
  journal =
      Entry.A (record { host = 1; inc = 1 }) 6 Said.Busy ∷ Entry.C (record { host = 1; inc = 1 }) 6 (Told.Fetch 1 0) ∷
      Entry.S (record { host = 3; inc = 1 }) 1 0 1 1 13 ∷ Entry.C (record { host = 1; inc = 1 }) 5 (Told.Write 1 0 6) ∷
      Entry.A (record { host = 1; inc = 1 }) 4 (Said.Lost (record { items = record { block = 0; first = 1; last = 4 } ∷ []; spare = 0 })) ∷
      Entry.L (record { host = 1; inc = 1 }) 1 0 1 4 ∷ Entry.A (record { host = 3; inc = 1 }) 1 Said.Ok ∷
      Entry.W (record { host = 3; inc = 1 }) 1 0 1 5 false ∷
      Entry.G (record { host = 3; inc = 1 }) 1 Mode.Writing (record { boot = 1; number = 2 }) 5 13 ∷
      Entry.C (record { host = 3; inc = 1 }) 1 (Told.Write 1 0 5) ∷ Entry.F (record { host = 1; inc = 1 }) 1 8 0 13 ∷
      Entry.W (record { host = 1; inc = 1 }) 1 0 4 4 false ∷ Entry.C (record { host = 1; inc = 1 }) 4 (Told.Put 1 0 4) ∷
      Entry.A (record { host = 1; inc = 1 }) 3 Said.Ok ∷ Entry.W (record { host = 1; inc = 1 }) 1 0 3 3 false ∷
      Entry.C (record { host = 1; inc = 1 }) 3 (Told.Write 1 0 3) ∷ Entry.A (record { host = 1; inc = 1 }) 2 Said.Ok ∷
      Entry.W (record { host = 1; inc = 1 }) 1 0 2 2 false ∷ Entry.C (record { host = 1; inc = 1 }) 2 (Told.Write 1 0 2) ∷
      Entry.A (record { host = 1; inc = 1 }) 1 Said.Ok ∷ Entry.W (record { host = 1; inc = 1 }) 1 0 1 1 false ∷
      Entry.G (record { host = 1; inc = 1 }) 1 Mode.Writing (record { boot = 1; number = 1 }) 5 0 ∷
      Entry.C (record { host = 1; inc = 1 }) 1 (Told.Write 1 0 1) ∷ [];
}

-- run 49
abbrev pub run_49 : Example
run_49 = record {
  head = record { hosts = 2; term = 30; longest = 8; files = ((98 ∷ []), 2) ∷ ((97 ∷ []), 2) ∷ [] };
  lines =
      flow ∷
      one (Event.Call 1 (Call.Lookup (108 ∷ 111 ∷ 110 ∷ 103 ∷ 45 ∷ 110 ∷ 97 ∷ 109 ∷ 101 ∷ 95 ∷ 119 ∷ 105 ∷ 116 ∷ 104 ∷ 46 ∷ 100 ∷ 111 ∷ 116 ∷ 115 ∷ []))) ∷
      one (Event.Deliver 0) ∷ one (Event.Deliver 1) ∷ one (Event.Call 0 (Call.Read 1 1)) ∷ round 2 ∷
      one (Event.Deliver 2) ∷ one (Event.Deliver 3) ∷ one (Event.Deliver 4) ∷ one (Event.Deliver 5) ∷ round 14 ∷ flow ∷
      one (Event.Call 0 (Call.Sync 1)) ∷ flow ∷ one (Event.Call 0 (Call.Read 1 0)) ∷ flow ∷
      one (Event.Call 0 (Call.Sync 2)) ∷ flow ∷ one (Event.Call 0 (Call.Read 2 0)) ∷ flow ∷
      one (Event.Call 1 (Call.Sync 1)) ∷ flow ∷ one (Event.Call 1 (Call.Read 1 0)) ∷ flow ∷
      one (Event.Call 1 (Call.Sync 2)) ∷ flow ∷ one (Event.Call 1 (Call.Read 2 0)) ∷ flow ∷ round 3 ∷ flow ∷ [];
  journal =
      Entry.A (record { host = 1; inc = 1 }) 5 (Said.OkBy 0 13) ∷
      Entry.R (record { host = 1; inc = 1 }) 5 2 0 0 (Some 13) ∷
      Entry.G (record { host = 1; inc = 1 }) 2 Mode.Reading (record { boot = 1; number = 6 }) 8 16 ∷
      Entry.C (record { host = 1; inc = 1 }) 5 (Told.Read 2 0) ∷ Entry.A (record { host = 1; inc = 1 }) 4 Said.Ok ∷
      Entry.C (record { host = 1; inc = 1 }) 4 (Told.Sync 2) ∷ Entry.A (record { host = 1; inc = 1 }) 3 (Said.OkBy 0 11) ∷
      Entry.R (record { host = 1; inc = 1 }) 3 1 0 0 (Some 11) ∷
      Entry.G (record { host = 1; inc = 1 }) 1 Mode.Reading (record { boot = 1; number = 5 }) 8 16 ∷
      Entry.C (record { host = 1; inc = 1 }) 3 (Told.Read 1 0) ∷ Entry.A (record { host = 1; inc = 1 }) 2 Said.Ok ∷
      Entry.C (record { host = 1; inc = 1 }) 2 (Told.Sync 1) ∷ Entry.A (record { host = 0; inc = 1 }) 5 (Said.OkBy 0 9) ∷
      Entry.R (record { host = 0; inc = 1 }) 5 2 0 0 (Some 9) ∷
      Entry.G (record { host = 0; inc = 1 }) 2 Mode.Reading (record { boot = 1; number = 4 }) 8 16 ∷
      Entry.C (record { host = 0; inc = 1 }) 5 (Told.Read 2 0) ∷ Entry.A (record { host = 0; inc = 1 }) 4 Said.Ok ∷
      Entry.C (record { host = 0; inc = 1 }) 4 (Told.Sync 2) ∷ Entry.A (record { host = 0; inc = 1 }) 3 (Said.OkBy 0 7) ∷
      Entry.R (record { host = 0; inc = 1 }) 3 1 0 0 (Some 7) ∷
      Entry.G (record { host = 0; inc = 1 }) 1 Mode.Reading (record { boot = 1; number = 3 }) 8 16 ∷
      Entry.C (record { host = 0; inc = 1 }) 3 (Told.Read 1 0) ∷ Entry.A (record { host = 0; inc = 1 }) 2 Said.Ok ∷
      Entry.C (record { host = 0; inc = 1 }) 2 (Told.Sync 1) ∷ Entry.A (record { host = 0; inc = 1 }) 1 (Said.OkBy 0 4) ∷
      Entry.R (record { host = 0; inc = 1 }) 1 1 1 0 (Some 5) ∷
      Entry.G (record { host = 0; inc = 1 }) 1 Mode.Reading (record { boot = 1; number = 2 }) 8 2 ∷
      Entry.R (record { host = 0; inc = 1 }) 1 1 1 0 (Some 4) ∷
      Entry.G (record { host = 0; inc = 1 }) 1 Mode.Reading (record { boot = 1; number = 1 }) 8 2 ∷
      Entry.C (record { host = 0; inc = 1 }) 1 (Told.Read 1 1) ∷ Entry.A (record { host = 1; inc = 1 }) 1 Said.NoEntry ∷
      Entry.C (record { host = 1; inc = 1 }) 1 (Told.Lookup (108 ∷ 111 ∷ 110 ∷ 103 ∷ 45 ∷ 110 ∷ 97 ∷ 109 ∷ 101 ∷ 95 ∷ 119 ∷ 105 ∷ 116 ∷ 104 ∷ 46 ∷ 100 ∷ 111 ∷ 116 ∷ 115 ∷ [])) ∷
      [];
}

-- run 50
abbrev pub run_50 : Example
run_50 = record {
  head = record { hosts = 2; term = 61; longest = 5; files = ((98 ∷ []), 4) ∷ ((99 ∷ []), 2) ∷ [] };
  lines =
      one (Event.Call 0 (Call.Write 1 0 (filled 1))) ∷ one (Event.Deliver 0) ∷ one (Event.Deliver 1) ∷
      one (Event.Call 0 (Call.Put 1 2 (filled 2))) ∷ round 13 ∷ one (Event.Call 1 (Call.Write 1 1 (filled 4))) ∷
      one (Event.Deliver 9) ∷ one (Event.Deliver 10) ∷ one (Event.Crash 5) ∷ round 13 ∷ one (Event.Deliver 2) ∷
      one (Event.Deliver 3) ∷ one (Event.Deliver 4) ∷ one (Event.Deliver 5) ∷ one (Event.Deliver 6) ∷
      one (Event.Deliver 7) ∷ one (Event.Deliver 8) ∷ one (Event.Deliver 11) ∷ one (Event.Deliver 12) ∷
      one (Event.Deliver 13) ∷ one (Event.Deliver 14) ∷ one (Event.Deliver 15) ∷ one (Event.Deliver 16) ∷
      one (Event.Deliver 17) ∷ one (Event.Deliver 18) ∷ one (Event.Deliver 19) ∷ one (Event.Deliver 20) ∷
      one (Event.Deliver 21) ∷ one (Event.Deliver 22) ∷ one (Event.Deliver 23) ∷ one (Event.Deliver 24) ∷
      one (Event.Deliver 25) ∷ one (Event.Deliver 26) ∷ one (Event.Deliver 27) ∷ one (Event.Deliver 28) ∷
      one (Event.Deliver 29) ∷ one (Event.Deliver 30) ∷ one (Event.Deliver 31) ∷ one (Event.Deliver 32) ∷
      one (Event.Deliver 33) ∷ round 1 ∷ one (Event.Deliver 16) ∷ one (Event.Call 0 (Call.Read 2 1)) ∷
      one (Event.Deliver 44) ∷ one (Event.Call 1 (Call.Read 1 0)) ∷ [];
  journal =
      Entry.C (record { host = 1; inc = 1 }) 2 (Told.Read 1 0) ∷
      Entry.C (record { host = 0; inc = 1 }) 3 (Told.Read 2 1) ∷ Entry.L (record { host = 1; inc = 1 }) 1 1 1 1 ∷
      Entry.A (record { host = 0; inc = 1 }) 2 (Said.Lost (record { items = record { block = 0; first = 1; last = 1 } ∷ record { block = 2; first = 2; last = 2 } ∷ []; spare = 0 })) ∷
      Entry.L (record { host = 0; inc = 1 }) 1 2 2 2 ∷ Entry.L (record { host = 0; inc = 1 }) 1 0 1 1 ∷
      Entry.O 2 26 13 26 ∷ Entry.X 2 13 5 ∷ Entry.A (record { host = 1; inc = 1 }) 1 Said.Ok ∷
      Entry.W (record { host = 1; inc = 1 }) 1 1 1 4 false ∷
      Entry.G (record { host = 1; inc = 1 }) 1 Mode.Writing (record { boot = 1; number = 2 }) 5 13 ∷
      Entry.C (record { host = 1; inc = 1 }) 1 (Told.Write 1 1 4) ∷ Entry.F (record { host = 0; inc = 1 }) 1 8 0 13 ∷
      Entry.W (record { host = 0; inc = 1 }) 1 2 2 2 false ∷ Entry.C (record { host = 0; inc = 1 }) 2 (Told.Put 1 2 2) ∷
      Entry.A (record { host = 0; inc = 1 }) 1 Said.Ok ∷ Entry.W (record { host = 0; inc = 1 }) 1 0 1 1 false ∷
      Entry.G (record { host = 0; inc = 1 }) 1 Mode.Writing (record { boot = 1; number = 1 }) 5 0 ∷
      Entry.C (record { host = 0; inc = 1 }) 1 (Told.Write 1 0 1) ∷ [];
}

-- run 51
abbrev pub run_51 : Example
run_51 = record {
  head = record { hosts = 3; term = 61; longest = 5; files = ((120 ∷ 120 ∷ 120 ∷ 120 ∷ 120 ∷ 120 ∷ 120 ∷ 120 ∷ 120 ∷ 120 ∷ 120 ∷ 120 ∷ 120 ∷ 120 ∷ 120 ∷ 120 ∷ 120 ∷ 120 ∷ 120 ∷ 120 ∷ 120 ∷ 120 ∷ 120 ∷ 120 ∷ 120 ∷ 120 ∷ 120 ∷ 120 ∷ 120 ∷ 120 ∷ 120 ∷ 120 ∷ 120 ∷ 120 ∷ 120 ∷ 120 ∷ 120 ∷ 120 ∷ 120 ∷ 120 ∷ 120 ∷ 120 ∷ 120 ∷ 120 ∷ 120 ∷ 120 ∷ 120 ∷ 120 ∷ 120 ∷ 120 ∷ 120 ∷ 120 ∷ 120 ∷ 120 ∷ 120 ∷ 120 ∷ 120 ∷ 120 ∷ 120 ∷ 120 ∷ 120 ∷ 120 ∷ 120 ∷ 120 ∷ []), 4) ∷ [] };
  lines =
      one (Event.Call 0 (Call.Fetch 1 2)) ∷ one (Event.Deliver 0) ∷ one (Event.Deliver 1) ∷
      one (Event.Call 2 (Call.Fetch 1 0)) ∷ flow ∷ round 2 ∷ one (Event.Call 1 (Call.Write 1 0 (filled 1))) ∷
      one (Event.Restart 1) ∷ one (Event.Call 0 (Call.Remove 1)) ∷ one (Event.Call 2 (Call.Write 1 1 (filled 2))) ∷
      one (Event.Deliver 4) ∷ one (Event.Deliver 5) ∷ flow ∷ one (Event.Call 0 (Call.Read 1 0)) ∷ one (Event.Deliver 12) ∷
      one (Event.Call 1 (Call.Read 9 0)) ∷ one (Event.Call 2 (Call.Read 1 0)) ∷ one (Event.Deliver 13) ∷
      one (Event.Deliver 14) ∷ one (Event.Deliver 15) ∷ round 5 ∷ one (Event.Deliver 16) ∷
      one (Event.Call 1 (Call.Put 9 0 (filled 3))) ∷ one (Event.Deliver 17) ∷ flow ∷ times 2 Event.ServerTick ∷
      one (Event.Deliver 1) ∷ round 1 ∷ one (Event.Call 1 (Call.Remove 1)) ∷ one (Event.Deliver 28) ∷
      one (Event.Deliver 29) ∷ one (Event.Call 2 (Call.Resize 1 4)) ∷ one (Event.Deliver 30) ∷ round 2 ∷
      one (Event.Deliver 31) ∷ one (Event.Call 0 (Call.Read 1 0)) ∷ one (Event.Deliver 32) ∷
      times 7 (Event.ClientTick 1) ∷ one (Event.Deliver 33) ∷ one (Event.Restart 1) ∷ [];
  journal =
      Entry.B (record { host = 1; inc = 3 }) ∷ Entry.C (record { host = 0; inc = 1 }) 4 (Told.Read 1 0) ∷
      Entry.A (record { host = 2; inc = 1 }) 4 Said.Stale ∷ Entry.C (record { host = 2; inc = 1 }) 4 (Told.Resize 1 4) ∷
      Entry.A (record { host = 1; inc = 2 }) 3 Said.Stale ∷ Entry.C (record { host = 1; inc = 2 }) 3 (Told.Remove 1) ∷
      Entry.A (record { host = 1; inc = 2 }) 2 Said.Stale ∷ Entry.A (record { host = 2; inc = 1 }) 3 Said.Stale ∷
      Entry.C (record { host = 1; inc = 2 }) 2 (Told.Put 9 0 3) ∷ Entry.A (record { host = 1; inc = 2 }) 1 Said.Stale ∷
      Entry.A (record { host = 0; inc = 1 }) 3 Said.Stale ∷ Entry.C (record { host = 2; inc = 1 }) 3 (Told.Read 1 0) ∷
      Entry.C (record { host = 1; inc = 2 }) 1 (Told.Read 9 0) ∷
      Entry.C (record { host = 0; inc = 1 }) 3 (Told.Read 1 0) ∷ Entry.A (record { host = 2; inc = 1 }) 2 Said.Stale ∷
      Entry.A (record { host = 0; inc = 1 }) 2 Said.Ok ∷ Entry.Z (record { host = 0; inc = 1 }) 2 1 4 0 ∷
      Entry.G (record { host = 1; inc = 1 }) 1 Mode.Writing (record { boot = 1; number = 1 }) 5 2 ∷
      Entry.C (record { host = 2; inc = 1 }) 2 (Told.Write 1 1 2) ∷
      Entry.C (record { host = 0; inc = 1 }) 2 (Told.Remove 1) ∷ Entry.B (record { host = 1; inc = 2 }) ∷
      Entry.C (record { host = 1; inc = 1 }) 1 (Told.Write 1 0 1) ∷
      Entry.A (record { host = 2; inc = 1 }) 1 (Said.OkBy 0 3) ∷ Entry.R (record { host = 2; inc = 1 }) 1 1 0 0 (Some 3) ∷
      Entry.C (record { host = 2; inc = 1 }) 1 (Told.Fetch 1 0) ∷
      Entry.A (record { host = 0; inc = 1 }) 1 (Said.OkBy 0 1) ∷ Entry.R (record { host = 0; inc = 1 }) 1 1 2 0 (Some 1) ∷
      Entry.C (record { host = 0; inc = 1 }) 1 (Told.Fetch 1 2) ∷ [];
}

-- run 52
abbrev pub run_52 : Example
run_52 = record {
  head = record { hosts = 2; term = 30; longest = 60; files = ((98 ∷ []), 3) ∷ ((108 ∷ 111 ∷ 110 ∷ 103 ∷ 45 ∷ 110 ∷ 97 ∷ 109 ∷ 101 ∷ 95 ∷ 119 ∷ 105 ∷ 116 ∷ 104 ∷ 46 ∷ 100 ∷ 111 ∷ 116 ∷ 115 ∷ []), 1) ∷ [] };
  lines =
      round 1 ∷ round 2 ∷ one (Event.Call 1 (Call.Sync 2)) ∷ one (Event.Call 1 (Call.Read 1 0)) ∷ flow ∷
      one (Event.Call 1 (Call.Write 2 0 (filled 1))) ∷ flow ∷ one (Event.Call 1 (Call.Write 1 0 (filled 2))) ∷ flow ∷
      round 5 ∷ one (Event.Call 0 (Call.Attr 1)) ∷ times 1 Event.ServerTick ∷ one (Event.Deliver 6) ∷
      one (Event.Deliver 7) ∷ flow ∷ round 2 ∷ round 14 ∷ flow ∷ one (Event.Call 0 (Call.Sync 1)) ∷ flow ∷
      one (Event.Call 0 (Call.Read 1 0)) ∷ flow ∷ flow ∷ flow ∷ one (Event.Call 1 (Call.Sync 1)) ∷ flow ∷
      one (Event.Call 1 (Call.Read 1 0)) ∷ flow ∷ one (Event.Call 1 (Call.Sync 2)) ∷ flow ∷
      one (Event.Call 1 (Call.Read 2 0)) ∷ flow ∷ round 3 ∷ flow ∷ [];
  journal =
      Entry.A (record { host = 0; inc = 1 }) 3 (Said.OkBy 2 19) ∷
      Entry.R (record { host = 0; inc = 1 }) 3 1 0 2 (Some 19) ∷
      Entry.G (record { host = 0; inc = 1 }) 1 Mode.NonCaching (record { boot = 1; number = 6 }) 27 28 ∷
      Entry.A (record { host = 1; inc = 1 }) 8 (Said.OkValue 1) ∷ Entry.R (record { host = 1; inc = 1 }) 8 2 0 1 None ∷
      Entry.C (record { host = 1; inc = 1 }) 8 (Told.Read 2 0) ∷ Entry.A (record { host = 1; inc = 1 }) 7 Said.Ok ∷
      Entry.S (record { host = 1; inc = 1 }) 2 0 1 1 25 ∷ Entry.C (record { host = 1; inc = 1 }) 7 (Told.Sync 2) ∷
      Entry.A (record { host = 1; inc = 1 }) 6 (Said.OkBy 2 15) ∷
      Entry.R (record { host = 1; inc = 1 }) 6 1 0 2 (Some 15) ∷
      Entry.G (record { host = 1; inc = 1 }) 1 Mode.NonCaching (record { boot = 1; number = 5 }) 30 25 ∷
      Entry.C (record { host = 1; inc = 1 }) 6 (Told.Read 1 0) ∷ Entry.A (record { host = 1; inc = 1 }) 5 Said.Ok ∷
      Entry.C (record { host = 1; inc = 1 }) 5 (Told.Sync 1) ∷ Entry.S (record { host = 1; inc = 1 }) 1 0 2 2 25 ∷
      Entry.C (record { host = 0; inc = 1 }) 3 (Told.Read 1 0) ∷ Entry.A (record { host = 0; inc = 1 }) 2 Said.Ok ∷
      Entry.C (record { host = 0; inc = 1 }) 2 (Told.Sync 1) ∷ Entry.A (record { host = 0; inc = 1 }) 1 (Said.OkValue 3) ∷
      Entry.C (record { host = 0; inc = 1 }) 1 (Told.Attr 1) ∷ Entry.A (record { host = 1; inc = 1 }) 4 Said.Ok ∷
      Entry.W (record { host = 1; inc = 1 }) 1 0 2 2 false ∷
      Entry.G (record { host = 1; inc = 1 }) 1 Mode.Writing (record { boot = 1; number = 3 }) 30 3 ∷
      Entry.C (record { host = 1; inc = 1 }) 4 (Told.Write 1 0 2) ∷ Entry.A (record { host = 1; inc = 1 }) 3 Said.Ok ∷
      Entry.W (record { host = 1; inc = 1 }) 2 0 1 1 false ∷
      Entry.G (record { host = 1; inc = 1 }) 2 Mode.Writing (record { boot = 1; number = 2 }) 30 3 ∷
      Entry.C (record { host = 1; inc = 1 }) 3 (Told.Write 2 0 1) ∷
      Entry.A (record { host = 1; inc = 1 }) 2 (Said.OkBy 0 1) ∷ Entry.R (record { host = 1; inc = 1 }) 2 1 0 0 (Some 1) ∷
      Entry.G (record { host = 1; inc = 1 }) 1 Mode.Reading (record { boot = 1; number = 1 }) 30 3 ∷
      Entry.C (record { host = 1; inc = 1 }) 2 (Told.Read 1 0) ∷ Entry.A (record { host = 1; inc = 1 }) 1 Said.Ok ∷
      Entry.C (record { host = 1; inc = 1 }) 1 (Told.Sync 2) ∷ [];
}

-- run 53
abbrev pub run_53 : Example
run_53 = record {
  head = record { hosts = 2; term = 60; longest = 5; files = ((99 ∷ []), 3) ∷ [] };
  lines =
      flow ∷ one (Event.Call 0 (Call.Sync 1)) ∷ one (Event.Call 0 (Call.Read 1 2)) ∷ one (Event.Deliver 0) ∷ round 2 ∷
      one (Event.Deliver 1) ∷ one (Event.Deliver 2) ∷ one (Event.Call 0 (Call.Fetch 1 0)) ∷
      one (Event.Call 1 (Call.Read 1 0)) ∷ one (Event.Deliver 3) ∷ one (Event.Deliver 4) ∷ flow ∷
      one (Event.Call 0 (Call.Read 1 0)) ∷ one (Event.Call 1 (Call.Read 1 0)) ∷ flow ∷
      one (Event.Call 0 (Call.Put 1 1 (filled 1))) ∷ one (Event.Deliver 10) ∷ one (Event.Deliver 11) ∷
      one (Event.Deliver 12) ∷ one (Event.Deliver 13) ∷ one (Event.Call 1 (Call.Sync 1)) ∷
      one (Event.Call 1 (Call.Write 1 2 (filled 2))) ∷ one (Event.Deliver 14) ∷ one (Event.Deliver 15) ∷
      one (Event.Deliver 16) ∷ one (Event.Deliver 17) ∷ round 3 ∷ one (Event.Deliver 18) ∷ one (Event.Deliver 19) ∷
      one (Event.Deliver 20) ∷ one (Event.Deliver 21) ∷ one (Event.Call 0 (Call.Resize 1 3)) ∷ one (Event.Deliver 22) ∷
      one (Event.Deliver 23) ∷ one (Event.Deliver 24) ∷ times 1 Event.ServerTick ∷ one (Event.Call 1 (Call.Sync 1)) ∷
      flow ∷ round 6 ∷ one (Event.Call 0 (Call.Put 1 0 (filled 3))) ∷ [];
  journal =
      Entry.C (record { host = 0; inc = 1 }) 7 (Told.Put 1 0 3) ∷ Entry.A (record { host = 0; inc = 1 }) 6 Said.Ok ∷
      Entry.A (record { host = 1; inc = 1 }) 5 Said.Ok ∷ Entry.C (record { host = 1; inc = 1 }) 5 (Told.Sync 1) ∷
      Entry.A (record { host = 1; inc = 1 }) 4 Said.Ok ∷ Entry.Z (record { host = 0; inc = 1 }) 6 1 3 3 ∷
      Entry.W (record { host = 1; inc = 1 }) 1 2 1 2 true ∷ Entry.C (record { host = 0; inc = 1 }) 6 (Told.Resize 1 3) ∷
      Entry.A (record { host = 0; inc = 1 }) 5 Said.Ok ∷
      Entry.G (record { host = 1; inc = 1 }) 1 Mode.NonCaching (record { boot = 1; number = 6 }) 2 5 ∷
      Entry.W (record { host = 0; inc = 1 }) 1 1 2 1 true ∷ Entry.C (record { host = 1; inc = 1 }) 4 (Told.Write 1 2 2) ∷
      Entry.A (record { host = 1; inc = 1 }) 3 Said.Ok ∷ Entry.C (record { host = 1; inc = 1 }) 3 (Told.Sync 1) ∷
      Entry.C (record { host = 0; inc = 1 }) 5 (Told.Put 1 1 1) ∷
      Entry.A (record { host = 0; inc = 1 }) 4 (Said.OkBy 0 9) ∷ Entry.R (record { host = 0; inc = 1 }) 4 1 0 0 (Some 9) ∷
      Entry.G (record { host = 0; inc = 1 }) 1 Mode.Reading (record { boot = 1; number = 4 }) 5 2 ∷
      Entry.A (record { host = 1; inc = 1 }) 2 (Said.OkValue 0) ∷ Entry.R (record { host = 1; inc = 1 }) 2 1 0 0 None ∷
      Entry.C (record { host = 1; inc = 1 }) 2 (Told.Read 1 0) ∷
      Entry.C (record { host = 0; inc = 1 }) 4 (Told.Read 1 0) ∷
      Entry.A (record { host = 1; inc = 1 }) 1 (Said.OkBy 0 7) ∷
      Entry.A (record { host = 0; inc = 1 }) 3 (Said.OkBy 0 6) ∷ Entry.R (record { host = 1; inc = 1 }) 1 1 0 0 (Some 7) ∷
      Entry.G (record { host = 1; inc = 1 }) 1 Mode.Reading (record { boot = 1; number = 3 }) 5 2 ∷
      Entry.R (record { host = 0; inc = 1 }) 3 1 0 0 (Some 6) ∷ Entry.C (record { host = 1; inc = 1 }) 1 (Told.Read 1 0) ∷
      Entry.C (record { host = 0; inc = 1 }) 3 (Told.Fetch 1 0) ∷
      Entry.R (record { host = 0; inc = 1 }) 2 1 2 0 (Some 3) ∷
      Entry.G (record { host = 0; inc = 1 }) 1 Mode.Reading (record { boot = 1; number = 2 }) 5 2 ∷
      Entry.A (record { host = 0; inc = 1 }) 2 (Said.OkBy 0 1) ∷ Entry.R (record { host = 0; inc = 1 }) 2 1 2 0 (Some 1) ∷
      Entry.G (record { host = 0; inc = 1 }) 1 Mode.Reading (record { boot = 1; number = 1 }) 5 0 ∷
      Entry.C (record { host = 0; inc = 1 }) 2 (Told.Read 1 2) ∷ Entry.A (record { host = 0; inc = 1 }) 1 Said.Ok ∷
      Entry.C (record { host = 0; inc = 1 }) 1 (Told.Sync 1) ∷ [];
}

-- run 54
abbrev pub run_54 : Example
run_54 = record {
  head = record { hosts = 4; term = 600; longest = 5; files = ((108 ∷ 111 ∷ 110 ∷ 103 ∷ 45 ∷ 110 ∷ 97 ∷ 109 ∷ 101 ∷ 95 ∷ 119 ∷ 105 ∷ 116 ∷ 104 ∷ 46 ∷ 100 ∷ 111 ∷ 116 ∷ 115 ∷ []), 1) ∷ ((99 ∷ []), 7) ∷ [] };
  lines =
      one (Event.Call 1 (Call.Write 1 0 (filled 1))) ∷ one (Event.Deliver 0) ∷ one (Event.Deliver 1) ∷
      one (Event.Call 1 (Call.Put 1 0 (filled 2))) ∷ one (Event.Call 3 (Call.Write 1 0 (filled 4))) ∷
      one (Event.Deliver 2) ∷ one (Event.Deliver 3) ∷ one (Event.Deliver 4) ∷ one (Event.Deliver 5) ∷
      one (Event.Deliver 6) ∷ one (Event.Deliver 7) ∷ one (Event.Call 1 (Call.Put 1 0 (filled 5))) ∷ round 2 ∷
      one (Event.Deliver 8) ∷ one (Event.Deliver 9) ∷ one (Event.Deliver 10) ∷ one (Event.Deliver 11) ∷
      one (Event.Deliver 12) ∷ one (Event.Deliver 13) ∷ one (Event.Deliver 14) ∷ one (Event.Deliver 15) ∷
      one (Event.Call 3 (Call.Read 1 0)) ∷ one (Event.Deliver 16) ∷ one (Event.Deliver 17) ∷
      one (Event.Call 1 (Call.Write 1 0 (filled 6))) ∷ one (Event.Deliver 18) ∷
      one (Event.Call 3 (Call.Create (97 ∷ []) 1)) ∷ one (Event.Call 2 (Call.Write 2 5 (filled 7))) ∷
      one (Event.Call 0 (Call.Put 2 6 (filled 8))) ∷ one (Event.Deliver 19) ∷ flow ∷ one (Event.Call 3 (Call.Read 1 0)) ∷
      one (Event.Deliver 32) ∷ one (Event.Deliver 33) ∷ one (Event.Call 3 (Call.Fetch 3 0)) ∷ one (Event.Deliver 34) ∷
      one (Event.Call 2 (Call.Write 3 0 (filled 4294967295))) ∷ one (Event.Deliver 35) ∷
      one (Event.Call 1 (Call.Write 2 0 (filled 10))) ∷ [];
  journal =
      Entry.C (record { host = 1; inc = 1 }) 5 (Told.Write 2 0 10) ∷
      Entry.A (record { host = 3; inc = 1 }) 5 (Said.OkBy 0 35) ∷
      Entry.C (record { host = 2; inc = 1 }) 2 (Told.Write 3 0 4294967295) ∷
      Entry.R (record { host = 3; inc = 1 }) 5 3 0 0 (Some 35) ∷
      Entry.C (record { host = 3; inc = 1 }) 5 (Told.Fetch 3 0) ∷
      Entry.A (record { host = 3; inc = 1 }) 4 (Said.OkBy 6 33) ∷
      Entry.R (record { host = 3; inc = 1 }) 4 1 0 6 (Some 33) ∷
      Entry.C (record { host = 3; inc = 1 }) 4 (Told.Read 1 0) ∷ Entry.S (record { host = 2; inc = 1 }) 2 5 1 1 2 ∷
      Entry.A (record { host = 1; inc = 1 }) 4 Said.Ok ∷ Entry.A (record { host = 2; inc = 1 }) 1 Said.Ok ∷
      Entry.W (record { host = 2; inc = 1 }) 2 5 1 7 false ∷ Entry.A (record { host = 3; inc = 1 }) 3 (Said.OkValue 3) ∷
      Entry.W (record { host = 1; inc = 1 }) 1 0 4 6 true ∷
      Entry.G (record { host = 2; inc = 1 }) 2 Mode.Writing (record { boot = 1; number = 5 }) 5 2 ∷
      Entry.C (record { host = 0; inc = 1 }) 1 (Told.Put 2 6 8) ∷
      Entry.C (record { host = 2; inc = 1 }) 1 (Told.Write 2 5 7) ∷
      Entry.C (record { host = 3; inc = 1 }) 3 (Told.Create (97 ∷ []) 1) ∷
      Entry.G (record { host = 1; inc = 1 }) 1 Mode.NonCaching (record { boot = 1; number = 4 }) 5 2 ∷
      Entry.C (record { host = 1; inc = 1 }) 4 (Told.Write 1 0 6) ∷
      Entry.A (record { host = 3; inc = 1 }) 2 (Said.OkBy 4 17) ∷
      Entry.R (record { host = 3; inc = 1 }) 2 1 0 4 (Some 17) ∷
      Entry.C (record { host = 3; inc = 1 }) 2 (Told.Read 1 0) ∷ Entry.A (record { host = 3; inc = 1 }) 1 Said.Ok ∷
      Entry.W (record { host = 3; inc = 1 }) 1 0 1 4 true ∷ Entry.A (record { host = 1; inc = 1 }) 3 Said.Ok ∷
      Entry.G (record { host = 3; inc = 1 }) 1 Mode.NonCaching (record { boot = 1; number = 3 }) 3 2 ∷
      Entry.W (record { host = 1; inc = 1 }) 1 0 3 5 true ∷ Entry.C (record { host = 1; inc = 1 }) 3 (Told.Put 1 0 5) ∷
      Entry.A (record { host = 1; inc = 1 }) 2 Said.Ok ∷ Entry.S (record { host = 1; inc = 1 }) 1 0 1 2 0 ∷
      Entry.C (record { host = 3; inc = 1 }) 1 (Told.Write 1 0 4) ∷ Entry.W (record { host = 1; inc = 1 }) 1 0 2 2 false ∷
      Entry.C (record { host = 1; inc = 1 }) 2 (Told.Put 1 0 2) ∷ Entry.A (record { host = 1; inc = 1 }) 1 Said.Ok ∷
      Entry.W (record { host = 1; inc = 1 }) 1 0 1 1 false ∷
      Entry.G (record { host = 1; inc = 1 }) 1 Mode.Writing (record { boot = 1; number = 1 }) 5 0 ∷
      Entry.C (record { host = 1; inc = 1 }) 1 (Told.Write 1 0 1) ∷ [];
}

-- run 55
abbrev pub run_55 : Example
run_55 = record {
  head = record { hosts = 2; term = 60; longest = 5; files = ((33 ∷ []), 2) ∷ ((99 ∷ []), 2) ∷ [] };
  lines =
      round 1 ∷ one (Event.Call 0 (Call.Read 2 1)) ∷ one (Event.Deliver 0) ∷ round 5 ∷ one (Event.Deliver 1) ∷
      one (Event.Call 0 (Call.Write 1 0 (filled 0))) ∷ one (Event.Call 1 (Call.Fetch 1 0)) ∷ one (Event.Deliver 2) ∷
      one (Event.Deliver 3) ∷ flow ∷ one (Event.Call 1 (Call.Write 1 0 (filled 2))) ∷ round 1 ∷ times 1 Event.ServerTick ∷
      flow ∷ one (Event.Call 1 (Call.Put 1 4294967295 (filled 3))) ∷ one (Event.Call 0 (Call.Write 1 0 (filled 4))) ∷
      one (Event.Deliver 14) ∷ one (Event.Deliver 15) ∷ flow ∷ one (Event.Call 0 (Call.Read 1 0)) ∷
      one (Event.Call 0 (Call.Write 1 0 (filled 5))) ∷ round 2 ∷ one (Event.Deliver 9) ∷
      one (Event.Call 0 (Call.Resize 2 3)) ∷ one (Event.Deliver 16) ∷ one (Event.Deliver 17) ∷ one (Event.Deliver 18) ∷
      one (Event.Deliver 19) ∷ one (Event.Deliver 20) ∷ one (Event.Deliver 21) ∷ one (Event.Deliver 22) ∷
      times 1 Event.ServerTick ∷ one (Event.Deliver 23) ∷ one (Event.Call 0 (Call.Read 1 0)) ∷ one (Event.Deliver 24) ∷
      one (Event.Deliver 25) ∷ one (Event.Call 0 (Call.Fetch 2 0)) ∷ one (Event.Deliver 26) ∷ flow ∷ round 1 ∷ [];
  journal =
      Entry.A (record { host = 0; inc = 1 }) 8 (Said.OkBy 0 27) ∷
      Entry.R (record { host = 0; inc = 1 }) 8 2 0 0 (Some 27) ∷
      Entry.C (record { host = 0; inc = 1 }) 8 (Told.Fetch 2 0) ∷
      Entry.A (record { host = 0; inc = 1 }) 7 (Said.OkBy 5 25) ∷
      Entry.R (record { host = 0; inc = 1 }) 7 1 0 5 (Some 25) ∷
      Entry.G (record { host = 0; inc = 1 }) 1 Mode.Reading (record { boot = 1; number = 6 }) 5 11 ∷
      Entry.C (record { host = 0; inc = 1 }) 7 (Told.Read 1 0) ∷ Entry.A (record { host = 0; inc = 1 }) 6 Said.Ok ∷
      Entry.Z (record { host = 0; inc = 1 }) 6 2 2 3 ∷ Entry.S (record { host = 0; inc = 1 }) 1 0 2 3 10 ∷
      Entry.C (record { host = 0; inc = 1 }) 6 (Told.Resize 2 3) ∷ Entry.A (record { host = 0; inc = 1 }) 5 Said.Ok ∷
      Entry.W (record { host = 0; inc = 1 }) 1 0 3 5 false ∷ Entry.C (record { host = 0; inc = 1 }) 5 (Told.Write 1 0 5) ∷
      Entry.A (record { host = 0; inc = 1 }) 4 (Said.OkValue 4) ∷ Entry.R (record { host = 0; inc = 1 }) 4 1 0 4 None ∷
      Entry.C (record { host = 0; inc = 1 }) 4 (Told.Read 1 0) ∷ Entry.A (record { host = 0; inc = 1 }) 3 Said.Ok ∷
      Entry.W (record { host = 0; inc = 1 }) 1 0 2 4 false ∷
      Entry.G (record { host = 0; inc = 1 }) 1 Mode.Writing (record { boot = 1; number = 5 }) 5 8 ∷
      Entry.C (record { host = 0; inc = 1 }) 3 (Told.Write 1 0 4) ∷ Entry.A (record { host = 1; inc = 1 }) 3 Said.Busy ∷
      Entry.C (record { host = 1; inc = 1 }) 3 (Told.Put 1 4294967295 3) ∷
      Entry.A (record { host = 1; inc = 1 }) 2 Said.Busy ∷ Entry.C (record { host = 1; inc = 1 }) 2 (Told.Write 1 0 2) ∷
      Entry.S (record { host = 0; inc = 1 }) 1 0 1 1 6 ∷ Entry.A (record { host = 0; inc = 1 }) 2 Said.Ok ∷
      Entry.W (record { host = 0; inc = 1 }) 1 0 1 0 false ∷
      Entry.G (record { host = 0; inc = 1 }) 1 Mode.Writing (record { boot = 1; number = 4 }) 5 6 ∷
      Entry.R (record { host = 0; inc = 1 }) 1 2 1 0 (Some 7) ∷
      Entry.G (record { host = 0; inc = 1 }) 2 Mode.Reading (record { boot = 1; number = 3 }) 5 6 ∷
      Entry.R (record { host = 0; inc = 1 }) 1 2 1 0 (Some 6) ∷
      Entry.G (record { host = 0; inc = 1 }) 2 Mode.Reading (record { boot = 1; number = 2 }) 5 6 ∷
      Entry.C (record { host = 1; inc = 1 }) 1 (Told.Fetch 1 0) ∷
      Entry.C (record { host = 0; inc = 1 }) 2 (Told.Write 1 0 0) ∷
      Entry.A (record { host = 0; inc = 1 }) 1 (Said.OkBy 0 1) ∷ Entry.R (record { host = 0; inc = 1 }) 1 2 1 0 (Some 1) ∷
      Entry.G (record { host = 0; inc = 1 }) 2 Mode.Reading (record { boot = 1; number = 1 }) 5 1 ∷
      Entry.C (record { host = 0; inc = 1 }) 1 (Told.Read 2 1) ∷ [];
}

-- run 56
abbrev pub run_56 : Example
run_56 = record {
  head = record { hosts = 3; term = 600; longest = 5; files = ((120 ∷ 120 ∷ 120 ∷ 120 ∷ 120 ∷ 120 ∷ 120 ∷ 120 ∷ 120 ∷ 120 ∷ 120 ∷ 120 ∷ 120 ∷ 120 ∷ 120 ∷ 120 ∷ 120 ∷ 120 ∷ 120 ∷ 120 ∷ 120 ∷ 120 ∷ 120 ∷ 120 ∷ 120 ∷ 120 ∷ 120 ∷ 120 ∷ 120 ∷ 120 ∷ 120 ∷ 120 ∷ 120 ∷ 120 ∷ 120 ∷ 120 ∷ 120 ∷ 120 ∷ 120 ∷ 120 ∷ 120 ∷ 120 ∷ 120 ∷ 120 ∷ 120 ∷ 120 ∷ 120 ∷ 120 ∷ 120 ∷ 120 ∷ 120 ∷ 120 ∷ 120 ∷ 120 ∷ 120 ∷ 120 ∷ 120 ∷ 120 ∷ 120 ∷ 120 ∷ 120 ∷ 120 ∷ 120 ∷ 120 ∷ []), 3) ∷ [] };
  lines =
      one (Event.Call 1 (Call.Write 1 0 (filled 1))) ∷ one (Event.Deliver 0) ∷ one (Event.Deliver 1) ∷
      one (Event.Call 1 (Call.Put 1 0 (filled 2))) ∷ round 13 ∷ one (Event.Call 2 (Call.Remove 1)) ∷
      one (Event.Deliver 9) ∷ one (Event.Deliver 10) ∷ one (Event.Deliver 2) ∷ one (Event.Deliver 3) ∷
      one (Event.Deliver 4) ∷ one (Event.Deliver 5) ∷ one (Event.Deliver 6) ∷ one (Event.Deliver 7) ∷
      one (Event.Deliver 8) ∷ one (Event.Deliver 11) ∷ one (Event.Deliver 12) ∷ one (Event.Deliver 13) ∷
      one (Event.Deliver 14) ∷ one (Event.Deliver 15) ∷ one (Event.Deliver 16) ∷ one (Event.Deliver 17) ∷
      one (Event.Call 1 (Call.Remove 1)) ∷ one (Event.Deliver 18) ∷ one (Event.Deliver 19) ∷ round 2 ∷
      one (Event.Call 1 (Call.Write 1 0 (filled 4))) ∷ one (Event.Deliver 20) ∷ one (Event.Deliver 21) ∷
      one (Event.Call 1 (Call.Write 9 0 (filled 5))) ∷ one (Event.Call 2 (Call.Read 0 1)) ∷ one (Event.Deliver 23) ∷
      round 2 ∷ one (Event.Deliver 24) ∷ one (Event.Deliver 26) ∷ one (Event.Deliver 27) ∷
      one (Event.Call 2 (Call.Put 9 0 (filled 6))) ∷ one (Event.Deliver 28) ∷ one (Event.Deliver 29) ∷
      times 2 Event.ServerTick ∷ one (Event.Call 0 (Call.Put 9 0 (filled 7))) ∷
      one (Event.Call 2 (Call.Put 4294967295 0 (filled 8))) ∷ one (Event.Deliver 31) ∷ one (Event.Deliver 32) ∷ round 2 ∷
      one (Event.Deliver 22) ∷ one (Event.Deliver 25) ∷ one (Event.Deliver 33) ∷ one (Event.Deliver 34) ∷
      one (Event.Deliver 35) ∷ one (Event.Deliver 36) ∷ one (Event.Deliver 37) ∷ one (Event.Deliver 38) ∷ round 14 ∷
      flow ∷ round 3 ∷ flow ∷ [];
  journal =
      Entry.A (record { host = 0; inc = 1 }) 1 Said.Stale ∷ Entry.A (record { host = 1; inc = 1 }) 5 Said.Stale ∷
      Entry.A (record { host = 2; inc = 1 }) 4 Said.Stale ∷
      Entry.C (record { host = 2; inc = 1 }) 4 (Told.Put 4294967295 0 8) ∷
      Entry.C (record { host = 0; inc = 1 }) 1 (Told.Put 9 0 7) ∷ Entry.A (record { host = 2; inc = 1 }) 3 Said.Stale ∷
      Entry.C (record { host = 2; inc = 1 }) 3 (Told.Put 9 0 6) ∷ Entry.A (record { host = 2; inc = 1 }) 2 Said.Stale ∷
      Entry.C (record { host = 2; inc = 1 }) 2 (Told.Read 0 1) ∷
      Entry.C (record { host = 1; inc = 1 }) 5 (Told.Write 9 0 5) ∷ Entry.A (record { host = 1; inc = 1 }) 4 Said.Stale ∷
      Entry.C (record { host = 1; inc = 1 }) 4 (Told.Write 1 0 4) ∷ Entry.A (record { host = 1; inc = 1 }) 3 Said.Stale ∷
      Entry.C (record { host = 1; inc = 1 }) 3 (Told.Remove 1) ∷
      Entry.A (record { host = 1; inc = 1 }) 2 (Said.Lost (record { items = record { block = 0; first = 1; last = 2 } ∷ []; spare = 0 })) ∷
      Entry.L (record { host = 1; inc = 1 }) 1 0 1 2 ∷ Entry.A (record { host = 2; inc = 1 }) 1 Said.Ok ∷
      Entry.Z (record { host = 2; inc = 1 }) 1 1 3 0 ∷ Entry.C (record { host = 2; inc = 1 }) 1 (Told.Remove 1) ∷
      Entry.F (record { host = 1; inc = 1 }) 1 8 0 13 ∷ Entry.W (record { host = 1; inc = 1 }) 1 0 2 2 false ∷
      Entry.C (record { host = 1; inc = 1 }) 2 (Told.Put 1 0 2) ∷ Entry.A (record { host = 1; inc = 1 }) 1 Said.Ok ∷
      Entry.W (record { host = 1; inc = 1 }) 1 0 1 1 false ∷
      Entry.G (record { host = 1; inc = 1 }) 1 Mode.Writing (record { boot = 1; number = 1 }) 5 0 ∷
      Entry.C (record { host = 1; inc = 1 }) 1 (Told.Write 1 0 1) ∷ [];
}

-- run 57
abbrev pub run_57 : Example
run_57 = record {
  head = record { hosts = 2; term = 12; longest = 6; files = ((126 ∷ 46 ∷ 126 ∷ []), 4) ∷ [] };
  lines =
      one (Event.Call 0 (Call.Fetch 1 3)) ∷ one (Event.Deliver 0) ∷ one (Event.Call 1 (Call.Write 1 3 (filled 1))) ∷
      one (Event.Deliver 1) ∷ round 2 ∷ one (Event.Deliver 2) ∷ one (Event.Deliver 3) ∷ one (Event.Deliver 4) ∷
      one (Event.Deliver 5) ∷ flow ∷ round 2 ∷ one (Event.Deliver 6) ∷ one (Event.Deliver 7) ∷ round 2 ∷
      one (Event.Deliver 8) ∷ one (Event.Deliver 9) ∷ flow ∷ one (Event.Call 1 (Call.Read 1 4294967295)) ∷
      one (Event.Call 0 (Call.Lookup (97 ∷ []))) ∷ one (Event.Call 1 (Call.Write 1 2 (filled 2))) ∷ round 2 ∷
      one (Event.Deliver 10) ∷ one (Event.Deliver 11) ∷ one (Event.Deliver 12) ∷ one (Event.Deliver 13) ∷
      one (Event.Deliver 14) ∷ one (Event.Deliver 15) ∷ one (Event.Call 0 (Call.Resize 1 1)) ∷ one (Event.Deliver 16) ∷
      round 2 ∷ one (Event.Deliver 17) ∷ one (Event.Deliver 18) ∷ one (Event.Deliver 19) ∷ one (Event.Deliver 20) ∷
      one (Event.Deliver 21) ∷ one (Event.Deliver 22) ∷ one (Event.Deliver 23) ∷ one (Event.Deliver 24) ∷
      one (Event.Deliver 25) ∷ round 14 ∷ flow ∷ one (Event.Call 0 (Call.Sync 1)) ∷ flow ∷
      one (Event.Call 0 (Call.Read 1 0)) ∷ flow ∷ one (Event.Call 1 (Call.Sync 1)) ∷ flow ∷
      one (Event.Call 1 (Call.Read 1 0)) ∷ flow ∷ round 3 ∷ flow ∷ [];
  journal =
      Entry.A (record { host = 1; inc = 1 }) 5 (Said.OkBy 0 43) ∷
      Entry.R (record { host = 1; inc = 1 }) 5 1 0 0 (Some 43) ∷
      Entry.G (record { host = 1; inc = 1 }) 1 Mode.Reading (record { boot = 1; number = 5 }) 6 24 ∷
      Entry.C (record { host = 1; inc = 1 }) 5 (Told.Read 1 0) ∷ Entry.A (record { host = 1; inc = 1 }) 4 Said.Ok ∷
      Entry.C (record { host = 1; inc = 1 }) 4 (Told.Sync 1) ∷ Entry.A (record { host = 0; inc = 1 }) 5 (Said.OkBy 0 41) ∷
      Entry.R (record { host = 0; inc = 1 }) 5 1 0 0 (Some 41) ∷
      Entry.G (record { host = 0; inc = 1 }) 1 Mode.Reading (record { boot = 1; number = 4 }) 6 24 ∷
      Entry.C (record { host = 0; inc = 1 }) 5 (Told.Read 1 0) ∷ Entry.A (record { host = 0; inc = 1 }) 4 Said.Ok ∷
      Entry.C (record { host = 0; inc = 1 }) 4 (Told.Sync 1) ∷ Entry.A (record { host = 0; inc = 1 }) 3 Said.Ok ∷
      Entry.Z (record { host = 0; inc = 1 }) 3 1 4 1 ∷ Entry.C (record { host = 0; inc = 1 }) 3 (Told.Resize 1 1) ∷
      Entry.A (record { host = 0; inc = 1 }) 2 Said.NoEntry ∷ Entry.S (record { host = 1; inc = 1 }) 1 2 2 2 8 ∷
      Entry.A (record { host = 1; inc = 1 }) 3 Said.Ok ∷ Entry.W (record { host = 1; inc = 1 }) 1 2 2 2 false ∷
      Entry.C (record { host = 1; inc = 1 }) 3 (Told.Write 1 2 2) ∷
      Entry.C (record { host = 0; inc = 1 }) 2 (Told.Lookup (97 ∷ [])) ∷
      Entry.A (record { host = 1; inc = 1 }) 2 Said.Range ∷
      Entry.C (record { host = 1; inc = 1 }) 2 (Told.Read 1 4294967295) ∷
      Entry.G (record { host = 1; inc = 1 }) 1 Mode.Writing (record { boot = 1; number = 3 }) 6 6 ∷
      Entry.S (record { host = 1; inc = 1 }) 1 3 1 1 4 ∷ Entry.A (record { host = 1; inc = 1 }) 1 Said.Ok ∷
      Entry.W (record { host = 1; inc = 1 }) 1 3 1 1 false ∷
      Entry.G (record { host = 1; inc = 1 }) 1 Mode.Writing (record { boot = 1; number = 2 }) 6 2 ∷
      Entry.G (record { host = 1; inc = 1 }) 1 Mode.Writing (record { boot = 1; number = 1 }) 6 2 ∷
      Entry.A (record { host = 0; inc = 1 }) 1 (Said.OkBy 0 1) ∷
      Entry.C (record { host = 1; inc = 1 }) 1 (Told.Write 1 3 1) ∷
      Entry.R (record { host = 0; inc = 1 }) 1 1 3 0 (Some 1) ∷
      Entry.C (record { host = 0; inc = 1 }) 1 (Told.Fetch 1 3) ∷ [];
}

-- run 58
abbrev pub run_58 : Example
run_58 = record {
  head = record { hosts = 4; term = 60; longest = 5; files = ((99 ∷ []), 4) ∷ [] };
  lines =
      round 1 ∷ round 2 ∷ one (Event.Crash 5) ∷ round 3 ∷ flow ∷ one (Event.Call 3 (Call.Sync 1)) ∷
      one (Event.Call 3 (Call.Sync 1)) ∷ one (Event.Restart 2) ∷ flow ∷ flow ∷ one (Event.Call 1 (Call.Fetch 1 0)) ∷
      times 7 (Event.ClientTick 3) ∷ round 2 ∷ flow ∷ flow ∷ flow ∷ flow ∷
      one (Event.Call 0 (Call.Write 1 0 (filled 1))) ∷ one (Event.Deliver 6) ∷ flow ∷
      one (Event.Call 3 (Call.Write 1 2 (filled 2))) ∷ one (Event.Call 3 (Call.Write 1 0 (filled 3))) ∷
      one (Event.Call 2 (Call.Remove 1)) ∷ one (Event.Deliver 8) ∷ round 2 ∷ one (Event.Deliver 9) ∷
      one (Event.Deliver 10) ∷ one (Event.Deliver 11) ∷ one (Event.Deliver 12) ∷ one (Event.Deliver 13) ∷
      one (Event.Deliver 14) ∷ one (Event.Deliver 15) ∷ one (Event.Deliver 16) ∷ one (Event.Deliver 17) ∷
      one (Event.Deliver 18) ∷ one (Event.Deliver 19) ∷ round 2 ∷ one (Event.Deliver 20) ∷ one (Event.Deliver 21) ∷
      one (Event.Deliver 22) ∷ one (Event.Deliver 23) ∷ one (Event.Deliver 24) ∷ one (Event.Deliver 25) ∷
      one (Event.Deliver 26) ∷ one (Event.Deliver 27) ∷ flow ∷ round 6 ∷ flow ∷ flow ∷ flow ∷
      one (Event.Call 0 (Call.Write 1 3 (filled 9))) ∷ round 1 ∷ flow ∷ flow ∷ flow ∷ one (Event.Call 0 (Call.Read 1 2)) ∷
      one (Event.Call 2 (Call.Sync 1)) ∷ one (Event.Deliver 68) ∷ one (Event.Deliver 69) ∷ [];
  journal =
      Entry.A (record { host = 0; inc = 1 }) 3 (Said.OkBy 0 69) ∷
      Entry.R (record { host = 0; inc = 1 }) 3 1 2 0 (Some 69) ∷ Entry.A (record { host = 2; inc = 2 }) 2 Said.Busy ∷
      Entry.C (record { host = 2; inc = 2 }) 2 (Told.Sync 1) ∷ Entry.C (record { host = 0; inc = 1 }) 3 (Told.Read 1 2) ∷
      Entry.A (record { host = 0; inc = 1 }) 2 Said.Ok ∷ Entry.W (record { host = 0; inc = 1 }) 1 3 2 9 true ∷
      Entry.G (record { host = 0; inc = 1 }) 1 Mode.NonCaching (record { boot = 2; number = 3 }) 5 19 ∷
      Entry.C (record { host = 0; inc = 1 }) 2 (Told.Write 1 3 9) ∷ Entry.S (record { host = 0; inc = 1 }) 1 0 1 1 18 ∷
      Entry.A (record { host = 0; inc = 1 }) 1 Said.Ok ∷ Entry.W (record { host = 0; inc = 1 }) 1 0 1 1 false ∷
      Entry.G (record { host = 0; inc = 1 }) 1 Mode.Writing (record { boot = 2; number = 1 }) 5 18 ∷ Entry.O 2 16 3 16 ∷
      Entry.C (record { host = 2; inc = 2 }) 1 (Told.Remove 1) ∷ Entry.A (record { host = 3; inc = 1 }) 4 Said.Busy ∷
      Entry.C (record { host = 3; inc = 1 }) 4 (Told.Write 1 0 3) ∷
      Entry.C (record { host = 3; inc = 1 }) 3 (Told.Write 1 2 2) ∷
      Entry.C (record { host = 0; inc = 1 }) 1 (Told.Write 1 0 1) ∷
      Entry.C (record { host = 1; inc = 1 }) 1 (Told.Fetch 1 0) ∷ Entry.B (record { host = 2; inc = 2 }) ∷
      Entry.A (record { host = 3; inc = 1 }) 2 Said.Ok ∷ Entry.C (record { host = 3; inc = 1 }) 2 (Told.Sync 1) ∷
      Entry.A (record { host = 3; inc = 1 }) 1 Said.Ok ∷ Entry.C (record { host = 3; inc = 1 }) 1 (Told.Sync 1) ∷
      Entry.X 2 3 5 ∷ [];
}

-- run 59
abbrev pub run_59 : Example
run_59 = record {
  head = record { hosts = 5; term = 8; longest = 6; files = ((108 ∷ 111 ∷ 110 ∷ 103 ∷ 45 ∷ 110 ∷ 97 ∷ 109 ∷ 101 ∷ 95 ∷ 119 ∷ 105 ∷ 116 ∷ 104 ∷ 46 ∷ 100 ∷ 111 ∷ 116 ∷ 115 ∷ []), 7) ∷ ((126 ∷ 46 ∷ 126 ∷ []), 3) ∷ [] };
  lines =
      one (Event.Call 2 (Call.Write 1 0 (filled 1))) ∷ one (Event.Deliver 0) ∷ one (Event.Deliver 1) ∷
      one (Event.Call 2 (Call.Resize 1 2)) ∷ one (Event.Deliver 2) ∷ round 2 ∷ one (Event.Deliver 3) ∷
      one (Event.Deliver 4) ∷ one (Event.Deliver 5) ∷ one (Event.Deliver 6) ∷ one (Event.Deliver 7) ∷
      one (Event.Deliver 7) ∷ one (Event.Call 3 (Call.Remove 1)) ∷ one (Event.Restart 0) ∷ one (Event.Deliver 6) ∷
      one (Event.Deliver 3) ∷ one (Event.Deliver 8) ∷ round 2 ∷ one (Event.Deliver 9) ∷ one (Event.Deliver 10) ∷
      one (Event.Deliver 11) ∷ one (Event.Deliver 12) ∷ one (Event.Deliver 13) ∷ one (Event.Deliver 14) ∷
      one (Event.Deliver 15) ∷ one (Event.Deliver 16) ∷ one (Event.Deliver 17) ∷ one (Event.Call 0 (Call.Read 1 0)) ∷
      round 1 ∷ one (Event.Deliver 18) ∷ one (Event.Deliver 19) ∷ one (Event.Restart 0) ∷ one (Event.Deliver 20) ∷
      round 3 ∷ round 1 ∷ one (Event.Deliver 21) ∷ one (Event.Call 0 (Call.Sync 1)) ∷
      one (Event.Call 2 (Call.Write 1 0 (filled 2))) ∷ one (Event.Deliver 22) ∷ one (Event.Deliver 12) ∷
      one (Event.Deliver 23) ∷ one (Event.Call 1 (Call.Put 2 4294967295 (filled 3))) ∷ one (Event.Deliver 24) ∷ round 1 ∷
      round 6 ∷ one (Event.Call 0 (Call.Sync 2)) ∷ one (Event.Deliver 25) ∷ one (Event.Call 4 (Call.Fetch 2 0)) ∷
      one (Event.Call 0 (Call.Read 2 2)) ∷ one (Event.Deliver 26) ∷ one (Event.Deliver 27) ∷ flow ∷ round 3 ∷
      one (Event.Call 1 (Call.Read 2 0)) ∷ [];
  journal =
      Entry.C (record { host = 1; inc = 1 }) 2 (Told.Read 2 0) ∷
      Entry.A (record { host = 0; inc = 3 }) 3 (Said.OkBy 0 57) ∷
      Entry.A (record { host = 4; inc = 1 }) 1 (Said.OkBy 0 56) ∷ Entry.A (record { host = 1; inc = 1 }) 1 Said.Range ∷
      Entry.A (record { host = 2; inc = 1 }) 3 Said.Stale ∷ Entry.R (record { host = 0; inc = 3 }) 3 2 2 0 (Some 57) ∷
      Entry.G (record { host = 0; inc = 3 }) 2 Mode.Reading (record { boot = 1; number = 3 }) 6 16 ∷
      Entry.R (record { host = 4; inc = 1 }) 1 2 0 0 (Some 56) ∷ Entry.A (record { host = 3; inc = 1 }) 1 Said.Ok ∷
      Entry.C (record { host = 0; inc = 3 }) 3 (Told.Read 2 2) ∷
      Entry.C (record { host = 4; inc = 1 }) 1 (Told.Fetch 2 0) ∷ Entry.A (record { host = 0; inc = 3 }) 2 Said.Ok ∷
      Entry.C (record { host = 0; inc = 3 }) 2 (Told.Sync 2) ∷
      Entry.C (record { host = 1; inc = 1 }) 1 (Told.Put 2 4294967295 3) ∷
      Entry.Z (record { host = 3; inc = 1 }) 1 1 2 0 ∷ Entry.C (record { host = 2; inc = 1 }) 3 (Told.Write 1 0 2) ∷
      Entry.A (record { host = 0; inc = 3 }) 1 Said.Ok ∷ Entry.C (record { host = 0; inc = 3 }) 1 (Told.Sync 1) ∷
      Entry.B (record { host = 0; inc = 3 }) ∷ Entry.A (record { host = 0; inc = 2 }) 1 (Said.OkBy 1 19) ∷
      Entry.R (record { host = 0; inc = 2 }) 1 1 0 1 (Some 19) ∷
      Entry.G (record { host = 0; inc = 2 }) 1 Mode.Reading (record { boot = 1; number = 2 }) 6 5 ∷
      Entry.C (record { host = 0; inc = 2 }) 1 (Told.Read 1 0) ∷ Entry.B (record { host = 0; inc = 2 }) ∷
      Entry.C (record { host = 3; inc = 1 }) 1 (Told.Remove 1) ∷ Entry.A (record { host = 2; inc = 1 }) 2 Said.Ok ∷
      Entry.Z (record { host = 2; inc = 1 }) 2 1 7 2 ∷ Entry.S (record { host = 2; inc = 1 }) 1 0 1 1 0 ∷
      Entry.C (record { host = 2; inc = 1 }) 2 (Told.Resize 1 2) ∷ Entry.A (record { host = 2; inc = 1 }) 1 Said.Ok ∷
      Entry.W (record { host = 2; inc = 1 }) 1 0 1 1 false ∷
      Entry.G (record { host = 2; inc = 1 }) 1 Mode.Writing (record { boot = 1; number = 1 }) 6 0 ∷
      Entry.C (record { host = 2; inc = 1 }) 1 (Told.Write 1 0 1) ∷ [];
}

-- run 60
abbrev pub run_60 : Example
run_60 = record {
  head = record { hosts = 2; term = 12; longest = 5; files = ((120 ∷ 120 ∷ 120 ∷ 120 ∷ 120 ∷ 120 ∷ 120 ∷ 120 ∷ 120 ∷ 120 ∷ 120 ∷ 120 ∷ 120 ∷ 120 ∷ 120 ∷ 120 ∷ 120 ∷ 120 ∷ 120 ∷ 120 ∷ 120 ∷ 120 ∷ 120 ∷ 120 ∷ 120 ∷ 120 ∷ 120 ∷ 120 ∷ 120 ∷ 120 ∷ 120 ∷ 120 ∷ 120 ∷ 120 ∷ 120 ∷ 120 ∷ 120 ∷ 120 ∷ 120 ∷ 120 ∷ 120 ∷ 120 ∷ 120 ∷ 120 ∷ 120 ∷ 120 ∷ 120 ∷ 120 ∷ 120 ∷ 120 ∷ 120 ∷ 120 ∷ 120 ∷ 120 ∷ 120 ∷ 120 ∷ 120 ∷ 120 ∷ 120 ∷ 120 ∷ 120 ∷ 120 ∷ 120 ∷ 120 ∷ []), 1) ∷ ((97 ∷ []), 4) ∷ [] };
  lines =
      one (Event.Call 0 (Call.Write 2 0 (filled 1))) ∷ one (Event.Deliver 0) ∷ one (Event.Deliver 1) ∷
      one (Event.Call 0 (Call.Put 2 1 (filled 2))) ∷ round 13 ∷ one (Event.Call 1 (Call.Remove 2)) ∷
      one (Event.Deliver 9) ∷ one (Event.Deliver 10) ∷ one (Event.Deliver 2) ∷ one (Event.Deliver 3) ∷
      one (Event.Deliver 4) ∷ one (Event.Deliver 5) ∷ one (Event.Deliver 6) ∷ one (Event.Deliver 7) ∷
      one (Event.Deliver 8) ∷ one (Event.Deliver 11) ∷ one (Event.Deliver 12) ∷ one (Event.Deliver 13) ∷
      one (Event.Deliver 14) ∷ one (Event.Deliver 15) ∷ one (Event.Deliver 16) ∷ one (Event.Deliver 17) ∷
      one (Event.Call 0 (Call.Write 2 0 (filled 4))) ∷ one (Event.Deliver 18) ∷ one (Event.Deliver 19) ∷
      one (Event.Call 1 (Call.Read 1 0)) ∷ one (Event.Deliver 20) ∷ one (Event.Deliver 21) ∷
      one (Event.Call 1 (Call.Fetch 1 0)) ∷ one (Event.Call 0 (Call.Read 1 0)) ∷ round 2 ∷ one (Event.Deliver 22) ∷
      one (Event.Deliver 23) ∷ one (Event.Deliver 24) ∷ one (Event.Deliver 25) ∷ one (Event.Deliver 26) ∷
      one (Event.Deliver 27) ∷ round 14 ∷ flow ∷ one (Event.Call 0 (Call.Sync 1)) ∷ flow ∷
      one (Event.Call 0 (Call.Read 1 0)) ∷ flow ∷ one (Event.Call 1 (Call.Sync 1)) ∷ flow ∷
      one (Event.Call 1 (Call.Read 1 0)) ∷ flow ∷ round 3 ∷ flow ∷ [];
  journal =
      Entry.A (record { host = 1; inc = 1 }) 5 (Said.OkBy 0 31) ∷
      Entry.R (record { host = 1; inc = 1 }) 5 1 0 0 (Some 31) ∷
      Entry.G (record { host = 1; inc = 1 }) 1 Mode.Reading (record { boot = 1; number = 7 }) 5 29 ∷
      Entry.C (record { host = 1; inc = 1 }) 5 (Told.Read 1 0) ∷ Entry.A (record { host = 1; inc = 1 }) 4 Said.Ok ∷
      Entry.C (record { host = 1; inc = 1 }) 4 (Told.Sync 1) ∷ Entry.A (record { host = 0; inc = 1 }) 6 (Said.OkBy 0 29) ∷
      Entry.R (record { host = 0; inc = 1 }) 6 1 0 0 (Some 29) ∷
      Entry.G (record { host = 0; inc = 1 }) 1 Mode.Reading (record { boot = 1; number = 6 }) 5 29 ∷
      Entry.C (record { host = 0; inc = 1 }) 6 (Told.Read 1 0) ∷ Entry.A (record { host = 0; inc = 1 }) 5 Said.Ok ∷
      Entry.C (record { host = 0; inc = 1 }) 5 (Told.Sync 1) ∷ Entry.A (record { host = 0; inc = 1 }) 4 (Said.OkBy 0 25) ∷
      Entry.G (record { host = 1; inc = 1 }) 1 Mode.Reading (record { boot = 1; number = 5 }) 5 15 ∷
      Entry.R (record { host = 0; inc = 1 }) 4 1 0 0 (Some 26) ∷
      Entry.G (record { host = 0; inc = 1 }) 1 Mode.Reading (record { boot = 1; number = 4 }) 5 15 ∷
      Entry.R (record { host = 0; inc = 1 }) 4 1 0 0 (Some 25) ∷
      Entry.G (record { host = 0; inc = 1 }) 1 Mode.Reading (record { boot = 1; number = 3 }) 5 15 ∷
      Entry.C (record { host = 0; inc = 1 }) 4 (Told.Read 1 0) ∷
      Entry.A (record { host = 1; inc = 1 }) 3 (Said.OkValue 0) ∷ Entry.R (record { host = 1; inc = 1 }) 3 1 0 0 None ∷
      Entry.C (record { host = 1; inc = 1 }) 3 (Told.Fetch 1 0) ∷
      Entry.A (record { host = 1; inc = 1 }) 2 (Said.OkBy 0 21) ∷
      Entry.R (record { host = 1; inc = 1 }) 2 1 0 0 (Some 21) ∷
      Entry.G (record { host = 1; inc = 1 }) 1 Mode.Reading (record { boot = 1; number = 2 }) 5 13 ∷
      Entry.C (record { host = 1; inc = 1 }) 2 (Told.Read 1 0) ∷ Entry.A (record { host = 0; inc = 1 }) 3 Said.Stale ∷
      Entry.C (record { host = 0; inc = 1 }) 3 (Told.Write 2 0 4) ∷
      Entry.A (record { host = 0; inc = 1 }) 2 (Said.Lost (record { items = record { block = 0; first = 1; last = 1 } ∷ record { block = 1; first = 2; last = 2 } ∷ []; spare = 0 })) ∷
      Entry.L (record { host = 0; inc = 1 }) 2 1 2 2 ∷ Entry.L (record { host = 0; inc = 1 }) 2 0 1 1 ∷
      Entry.A (record { host = 1; inc = 1 }) 1 Said.Ok ∷ Entry.Z (record { host = 1; inc = 1 }) 1 2 4 0 ∷
      Entry.C (record { host = 1; inc = 1 }) 1 (Told.Remove 2) ∷ Entry.F (record { host = 0; inc = 1 }) 2 8 0 13 ∷
      Entry.W (record { host = 0; inc = 1 }) 2 1 2 2 false ∷ Entry.C (record { host = 0; inc = 1 }) 2 (Told.Put 2 1 2) ∷
      Entry.A (record { host = 0; inc = 1 }) 1 Said.Ok ∷ Entry.W (record { host = 0; inc = 1 }) 2 0 1 1 false ∷
      Entry.G (record { host = 0; inc = 1 }) 2 Mode.Writing (record { boot = 1; number = 1 }) 5 0 ∷
      Entry.C (record { host = 0; inc = 1 }) 1 (Told.Write 2 0 1) ∷ [];
}

-- run 61
abbrev pub run_61 : Example
run_61 = record {
  head = record { hosts = 4; term = 100; longest = 20; files = ((98 ∷ []), 2) ∷ ((126 ∷ 46 ∷ 126 ∷ []), 4) ∷ [] };
  lines =
      round 6 ∷ flow ∷ one (Event.Call 1 (Call.Write 1 0 (filled 1))) ∷ flow ∷
      one (Event.Call 1 (Call.Put 1 0 (filled 2))) ∷ one (Event.Deliver 2) ∷ flow ∷ one (Event.Call 1 (Call.Sync 1)) ∷
      one (Event.Call 0 (Call.Write 1 0 (filled 3))) ∷ one (Event.Deliver 4) ∷ one (Event.Deliver 6) ∷
      one (Event.Deliver 2) ∷ times 1 Event.ServerTick ∷ round 1 ∷ round 1 ∷ round 2 ∷ one (Event.Deliver 7) ∷
      one (Event.Deliver 8) ∷ one (Event.Deliver 9) ∷ one (Event.Deliver 10) ∷ one (Event.Deliver 11) ∷
      one (Event.Deliver 12) ∷ one (Event.Deliver 13) ∷ one (Event.Deliver 14) ∷ one (Event.Deliver 15) ∷
      one (Event.Call 2 (Call.Write 1 0 (filled 4))) ∷ one (Event.Deliver 16) ∷ round 2 ∷ one (Event.Deliver 17) ∷
      one (Event.Deliver 18) ∷ one (Event.Deliver 19) ∷ one (Event.Deliver 20) ∷ one (Event.Deliver 21) ∷
      one (Event.Deliver 22) ∷ one (Event.Deliver 23) ∷ one (Event.Deliver 24) ∷ one (Event.Deliver 25) ∷
      times 1 Event.ServerTick ∷ one (Event.Call 3 (Call.Attr 1)) ∷ round 1 ∷ round 2 ∷ one (Event.Deliver 26) ∷
      one (Event.Deliver 27) ∷ one (Event.Deliver 28) ∷ one (Event.Deliver 29) ∷ one (Event.Deliver 20) ∷
      one (Event.Deliver 30) ∷
      one (Event.Call 1 (Call.Create (120 ∷ 120 ∷ 120 ∷ 120 ∷ 120 ∷ 120 ∷ 120 ∷ 120 ∷ 120 ∷ 120 ∷ 120 ∷ 120 ∷ 120 ∷ 120 ∷ 120 ∷ 120 ∷ 120 ∷ 120 ∷ 120 ∷ 120 ∷ 120 ∷ 120 ∷ 120 ∷ 120 ∷ 120 ∷ 120 ∷ 120 ∷ 120 ∷ 120 ∷ 120 ∷ 120 ∷ 120 ∷ 120 ∷ 120 ∷ 120 ∷ 120 ∷ 120 ∷ 120 ∷ 120 ∷ 120 ∷ 120 ∷ 120 ∷ 120 ∷ 120 ∷ 120 ∷ 120 ∷ 120 ∷ 120 ∷ 120 ∷ 120 ∷ 120 ∷ 120 ∷ 120 ∷ 120 ∷ 120 ∷ 120 ∷ 120 ∷ 120 ∷ 120 ∷ 120 ∷ 120 ∷ 120 ∷ 120 ∷ 120 ∷ []) 3)) ∷
      one (Event.Call 0 (Call.Read 1 0)) ∷ one (Event.Deliver 31) ∷ flow ∷
      one (Event.Call 1 (Call.Write 3 1 (filled 5))) ∷ one (Event.Deliver 36) ∷ one (Event.Deliver 37) ∷ flow ∷
      one (Event.Call 0 (Call.Write 1 0 (filled 6))) ∷ one (Event.Deliver 38) ∷ one (Event.Deliver 39) ∷
      one (Event.Call 3 (Call.Write 2 0 (filled 7))) ∷ [];
  journal =
      Entry.C (record { host = 3; inc = 1 }) 2 (Told.Write 2 0 7) ∷ Entry.A (record { host = 0; inc = 1 }) 3 Said.Ok ∷
      Entry.W (record { host = 0; inc = 1 }) 1 0 2 6 true ∷ Entry.C (record { host = 0; inc = 1 }) 3 (Told.Write 1 0 6) ∷
      Entry.A (record { host = 1; inc = 1 }) 5 Said.Ok ∷ Entry.W (record { host = 1; inc = 1 }) 3 1 3 5 false ∷
      Entry.G (record { host = 1; inc = 1 }) 3 Mode.Writing (record { boot = 1; number = 6 }) 20 17 ∷
      Entry.C (record { host = 1; inc = 1 }) 5 (Told.Write 3 1 5) ∷
      Entry.A (record { host = 0; inc = 1 }) 2 (Said.OkBy 3 35) ∷
      Entry.A (record { host = 1; inc = 1 }) 4 (Said.OkValue 3) ∷
      Entry.R (record { host = 0; inc = 1 }) 2 1 0 3 (Some 35) ∷
      Entry.C (record { host = 0; inc = 1 }) 2 (Told.Read 1 0) ∷
      Entry.C (record { host = 1; inc = 1 }) 4 (Told.Create (120 ∷ 120 ∷ 120 ∷ 120 ∷ 120 ∷ 120 ∷ 120 ∷ 120 ∷ 120 ∷ 120 ∷ 120 ∷ 120 ∷ 120 ∷ 120 ∷ 120 ∷ 120 ∷ 120 ∷ 120 ∷ 120 ∷ 120 ∷ 120 ∷ 120 ∷ 120 ∷ 120 ∷ 120 ∷ 120 ∷ 120 ∷ 120 ∷ 120 ∷ 120 ∷ 120 ∷ 120 ∷ 120 ∷ 120 ∷ 120 ∷ 120 ∷ 120 ∷ 120 ∷ 120 ∷ 120 ∷ 120 ∷ 120 ∷ 120 ∷ 120 ∷ 120 ∷ 120 ∷ 120 ∷ 120 ∷ 120 ∷ 120 ∷ 120 ∷ 120 ∷ 120 ∷ 120 ∷ 120 ∷ 120 ∷ 120 ∷ 120 ∷ 120 ∷ 120 ∷ 120 ∷ 120 ∷ 120 ∷ 120 ∷ []) 3) ∷
      Entry.A (record { host = 3; inc = 1 }) 1 (Said.OkValue 2) ∷ Entry.C (record { host = 3; inc = 1 }) 1 (Told.Attr 1) ∷
      Entry.A (record { host = 0; inc = 1 }) 1 Said.Ok ∷ Entry.W (record { host = 0; inc = 1 }) 1 0 1 3 true ∷
      Entry.A (record { host = 2; inc = 1 }) 1 Said.Ok ∷ Entry.W (record { host = 2; inc = 1 }) 1 0 1 4 true ∷
      Entry.G (record { host = 2; inc = 1 }) 1 Mode.NonCaching (record { boot = 1; number = 5 }) 18 13 ∷
      Entry.G (record { host = 0; inc = 1 }) 1 Mode.NonCaching (record { boot = 1; number = 4 }) 13 13 ∷
      Entry.G (record { host = 2; inc = 1 }) 1 Mode.NonCaching (record { boot = 1; number = 3 }) 20 11 ∷
      Entry.C (record { host = 2; inc = 1 }) 1 (Told.Write 1 0 4) ∷
      Entry.C (record { host = 0; inc = 1 }) 1 (Told.Write 1 0 3) ∷ Entry.A (record { host = 1; inc = 1 }) 3 Said.Ok ∷
      Entry.C (record { host = 1; inc = 1 }) 3 (Told.Sync 1) ∷ Entry.A (record { host = 1; inc = 1 }) 2 Said.Ok ∷
      Entry.S (record { host = 1; inc = 1 }) 1 0 1 2 6 ∷ Entry.W (record { host = 1; inc = 1 }) 1 0 2 2 false ∷
      Entry.C (record { host = 1; inc = 1 }) 2 (Told.Put 1 0 2) ∷ Entry.A (record { host = 1; inc = 1 }) 1 Said.Ok ∷
      Entry.W (record { host = 1; inc = 1 }) 1 0 1 1 false ∷
      Entry.G (record { host = 1; inc = 1 }) 1 Mode.Writing (record { boot = 1; number = 1 }) 20 6 ∷
      Entry.C (record { host = 1; inc = 1 }) 1 (Told.Write 1 0 1) ∷ [];
}

-- run 62
abbrev pub run_62 : Example
run_62 = record {
  head = record { hosts = 2; term = 5; longest = 5; files = ((97 ∷ []), 7) ∷ [] };
  lines =
      one (Event.Call 0 (Call.Resize 1 2)) ∷ round 2 ∷ one (Event.Deliver 0) ∷ one (Event.Deliver 1) ∷
      one (Event.Deliver 2) ∷ one (Event.Deliver 3) ∷ times 1 (Event.ClientTick 1) ∷
      one (Event.Call 0 (Call.Write 1 1 (filled 1))) ∷ one (Event.Call 1 (Call.Put 1 0 (filled 2))) ∷
      one (Event.Deliver 4) ∷ one (Event.Deliver 5) ∷ one (Event.Crash 5) ∷ one (Event.Deliver 6) ∷
      one (Event.Deliver 7) ∷ one (Event.Deliver 8) ∷ one (Event.Deliver 9) ∷ one (Event.Deliver 10) ∷
      one (Event.Deliver 11) ∷ round 13 ∷ one (Event.Call 0 (Call.Sync 1)) ∷ one (Event.Deliver 12) ∷
      one (Event.Deliver 13) ∷ round 2 ∷ one (Event.Call 0 (Call.Write 1 0 (filled 3))) ∷
      one (Event.Call 0 (Call.Sync 1)) ∷ one (Event.Deliver 14) ∷ round 2 ∷ one (Event.Deliver 15) ∷
      one (Event.Deliver 16) ∷ one (Event.Deliver 17) ∷ one (Event.Deliver 18) ∷ one (Event.Deliver 19) ∷
      one (Event.Deliver 20) ∷ one (Event.Deliver 21) ∷ one (Event.Deliver 22) ∷ one (Event.Deliver 23) ∷
      one (Event.Deliver 24) ∷ one (Event.Deliver 25) ∷ one (Event.Deliver 26) ∷ one (Event.Deliver 27) ∷
      one (Event.Deliver 28) ∷ one (Event.Deliver 29) ∷ one (Event.Deliver 30) ∷ one (Event.Deliver 31) ∷
      one (Event.Deliver 32) ∷ one (Event.Deliver 33) ∷ round 14 ∷ flow ∷ one (Event.Call 0 (Call.Sync 1)) ∷ flow ∷
      one (Event.Call 0 (Call.Read 1 0)) ∷ flow ∷ one (Event.Call 1 (Call.Sync 1)) ∷ flow ∷
      one (Event.Call 1 (Call.Read 1 0)) ∷ flow ∷ round 3 ∷ flow ∷ [];
  journal =
      Entry.A (record { host = 1; inc = 1 }) 3 (Said.OkBy 3 55) ∷
      Entry.R (record { host = 1; inc = 1 }) 3 1 0 3 (Some 55) ∷
      Entry.G (record { host = 1; inc = 1 }) 1 Mode.NonCaching (record { boot = 2; number = 12 }) 2 36 ∷
      Entry.C (record { host = 1; inc = 1 }) 3 (Told.Read 1 0) ∷ Entry.A (record { host = 1; inc = 1 }) 2 Said.Ok ∷
      Entry.C (record { host = 1; inc = 1 }) 2 (Told.Sync 1) ∷ Entry.A (record { host = 0; inc = 1 }) 7 (Said.OkBy 3 49) ∷
      Entry.R (record { host = 0; inc = 1 }) 7 1 0 3 (Some 49) ∷
      Entry.G (record { host = 0; inc = 1 }) 1 Mode.Writing (record { boot = 2; number = 10 }) 5 33 ∷
      Entry.C (record { host = 0; inc = 1 }) 7 (Told.Read 1 0) ∷ Entry.A (record { host = 0; inc = 1 }) 6 Said.Ok ∷
      Entry.C (record { host = 0; inc = 1 }) 6 (Told.Sync 1) ∷
      Entry.G (record { host = 0; inc = 1 }) 1 Mode.Writing (record { boot = 2; number = 9 }) 5 33 ∷
      Entry.G (record { host = 0; inc = 1 }) 1 Mode.Writing (record { boot = 2; number = 8 }) 5 33 ∷
      Entry.G (record { host = 0; inc = 1 }) 1 Mode.Writing (record { boot = 2; number = 7 }) 5 33 ∷
      Entry.G (record { host = 0; inc = 1 }) 1 Mode.Writing (record { boot = 2; number = 6 }) 5 33 ∷
      Entry.G (record { host = 0; inc = 1 }) 1 Mode.Writing (record { boot = 2; number = 5 }) 5 33 ∷
      Entry.G (record { host = 0; inc = 1 }) 1 Mode.Writing (record { boot = 2; number = 4 }) 5 33 ∷
      Entry.G (record { host = 0; inc = 1 }) 1 Mode.Writing (record { boot = 2; number = 3 }) 5 33 ∷
      Entry.F (record { host = 0; inc = 1 }) 1 27 19 32 ∷ Entry.S (record { host = 0; inc = 1 }) 1 0 2 2 19 ∷
      Entry.A (record { host = 0; inc = 1 }) 4 Said.Ok ∷ Entry.W (record { host = 0; inc = 1 }) 1 0 2 3 false ∷
      Entry.G (record { host = 0; inc = 1 }) 1 Mode.Writing (record { boot = 2; number = 2 }) 5 19 ∷
      Entry.G (record { host = 0; inc = 1 }) 1 Mode.Writing (record { boot = 2; number = 1 }) 5 19 ∷
      Entry.A (record { host = 1; inc = 1 }) 1 Said.Ok ∷ Entry.A (record { host = 0; inc = 1 }) 5 Said.Busy ∷
      Entry.C (record { host = 0; inc = 1 }) 5 (Told.Sync 1) ∷
      Entry.C (record { host = 0; inc = 1 }) 4 (Told.Write 1 0 3) ∷ Entry.W (record { host = 1; inc = 1 }) 1 0 2 2 true ∷
      Entry.A (record { host = 0; inc = 1 }) 3 Said.Ok ∷ Entry.C (record { host = 0; inc = 1 }) 3 (Told.Sync 1) ∷
      Entry.O 2 15 2 15 ∷ Entry.S (record { host = 0; inc = 1 }) 1 1 1 1 2 ∷
      Entry.A (record { host = 0; inc = 1 }) 2 Said.Ok ∷ Entry.W (record { host = 0; inc = 1 }) 1 1 1 1 false ∷
      Entry.X 2 2 5 ∷ Entry.G (record { host = 0; inc = 1 }) 1 Mode.Writing (record { boot = 1; number = 1 }) 5 2 ∷
      Entry.C (record { host = 1; inc = 1 }) 1 (Told.Put 1 0 2) ∷
      Entry.C (record { host = 0; inc = 1 }) 2 (Told.Write 1 1 1) ∷ Entry.A (record { host = 0; inc = 1 }) 1 Said.Ok ∷
      Entry.Z (record { host = 0; inc = 1 }) 1 1 7 2 ∷ Entry.C (record { host = 0; inc = 1 }) 1 (Told.Resize 1 2) ∷ [];
}

-- run 63
abbrev pub run_63 : Example
run_63 = record {
  head = record { hosts = 3; term = 8; longest = 60; files = ((33 ∷ []), 2) ∷ ((126 ∷ 46 ∷ 126 ∷ []), 3) ∷ [] };
  lines =
      one (Event.Call 1 (Call.Resize 1 1)) ∷ one (Event.Call 0 (Call.Put 1 1 (filled 1))) ∷
      one (Event.Call 2 (Call.Read 1 0)) ∷ one (Event.Deliver 0) ∷ round 5 ∷ one (Event.Deliver 1) ∷
      one (Event.Deliver 8) ∷ one (Event.Deliver 2) ∷ one (Event.Deliver 3) ∷ one (Event.Deliver 0) ∷ flow ∷
      times 2 Event.ServerTick ∷ one (Event.Call 0 (Call.Write 1 0 (filled 2))) ∷ one (Event.Deliver 19) ∷
      one (Event.Deliver 3) ∷ round 2 ∷ one (Event.Deliver 20) ∷ one (Event.Deliver 21) ∷ one (Event.Deliver 22) ∷
      one (Event.Deliver 23) ∷ one (Event.Deliver 24) ∷ one (Event.Deliver 25) ∷ one (Event.Deliver 26) ∷ round 14 ∷
      flow ∷ one (Event.Call 0 (Call.Sync 1)) ∷ flow ∷ one (Event.Call 0 (Call.Read 1 0)) ∷ flow ∷
      one (Event.Call 0 (Call.Sync 2)) ∷ flow ∷ one (Event.Call 0 (Call.Read 2 0)) ∷ flow ∷
      one (Event.Call 1 (Call.Sync 1)) ∷ flow ∷ one (Event.Call 1 (Call.Read 1 0)) ∷ flow ∷ flow ∷ flow ∷
      one (Event.Call 2 (Call.Sync 1)) ∷ flow ∷ one (Event.Call 2 (Call.Read 1 0)) ∷ flow ∷
      one (Event.Call 2 (Call.Sync 2)) ∷ flow ∷ one (Event.Call 2 (Call.Read 2 0)) ∷ flow ∷ round 3 ∷ flow ∷ [];
  journal =
      Entry.A (record { host = 1; inc = 1 }) 3 (Said.OkBy 2 56) ∷
      Entry.R (record { host = 1; inc = 1 }) 3 1 0 2 (Some 56) ∷
      Entry.G (record { host = 1; inc = 1 }) 1 Mode.NonCaching (record { boot = 1; number = 17 }) 5 26 ∷
      Entry.A (record { host = 2; inc = 1 }) 5 (Said.OkBy 0 54) ∷
      Entry.R (record { host = 2; inc = 1 }) 5 2 0 0 (Some 54) ∷
      Entry.G (record { host = 2; inc = 1 }) 2 Mode.Reading (record { boot = 1; number = 16 }) 8 23 ∷
      Entry.C (record { host = 2; inc = 1 }) 5 (Told.Read 2 0) ∷ Entry.A (record { host = 2; inc = 1 }) 4 Said.Ok ∷
      Entry.C (record { host = 2; inc = 1 }) 4 (Told.Sync 2) ∷ Entry.A (record { host = 2; inc = 1 }) 3 (Said.OkBy 2 52) ∷
      Entry.R (record { host = 2; inc = 1 }) 3 1 0 2 (Some 52) ∷
      Entry.G (record { host = 2; inc = 1 }) 1 Mode.NonCaching (record { boot = 1; number = 15 }) 8 23 ∷
      Entry.C (record { host = 2; inc = 1 }) 3 (Told.Read 1 0) ∷ Entry.A (record { host = 2; inc = 1 }) 2 Said.Ok ∷
      Entry.C (record { host = 2; inc = 1 }) 2 (Told.Sync 1) ∷ Entry.C (record { host = 1; inc = 1 }) 3 (Told.Read 1 0) ∷
      Entry.A (record { host = 1; inc = 1 }) 2 Said.Ok ∷ Entry.C (record { host = 1; inc = 1 }) 2 (Told.Sync 1) ∷
      Entry.A (record { host = 0; inc = 1 }) 6 (Said.OkBy 0 46) ∷
      Entry.R (record { host = 0; inc = 1 }) 6 2 0 0 (Some 46) ∷
      Entry.G (record { host = 0; inc = 1 }) 2 Mode.Reading (record { boot = 1; number = 13 }) 8 23 ∷
      Entry.C (record { host = 0; inc = 1 }) 6 (Told.Read 2 0) ∷ Entry.A (record { host = 0; inc = 1 }) 5 Said.Ok ∷
      Entry.C (record { host = 0; inc = 1 }) 5 (Told.Sync 2) ∷ Entry.A (record { host = 0; inc = 1 }) 4 (Said.OkValue 2) ∷
      Entry.R (record { host = 0; inc = 1 }) 4 1 0 2 None ∷ Entry.C (record { host = 0; inc = 1 }) 4 (Told.Read 1 0) ∷
      Entry.A (record { host = 0; inc = 1 }) 3 Said.Ok ∷ Entry.S (record { host = 0; inc = 1 }) 1 0 2 2 23 ∷
      Entry.C (record { host = 0; inc = 1 }) 3 (Told.Sync 1) ∷ Entry.A (record { host = 0; inc = 1 }) 2 Said.Ok ∷
      Entry.W (record { host = 0; inc = 1 }) 1 0 2 2 false ∷
      Entry.G (record { host = 0; inc = 1 }) 1 Mode.Writing (record { boot = 1; number = 12 }) 8 23 ∷
      Entry.G (record { host = 0; inc = 1 }) 1 Mode.Writing (record { boot = 1; number = 11 }) 8 23 ∷
      Entry.G (record { host = 0; inc = 1 }) 1 Mode.Writing (record { boot = 1; number = 10 }) 8 23 ∷
      Entry.G (record { host = 0; inc = 1 }) 1 Mode.Writing (record { boot = 1; number = 9 }) 8 23 ∷
      Entry.G (record { host = 0; inc = 1 }) 1 Mode.Writing (record { boot = 1; number = 8 }) 8 23 ∷
      Entry.G (record { host = 0; inc = 1 }) 1 Mode.Writing (record { boot = 1; number = 7 }) 8 23 ∷
      Entry.G (record { host = 0; inc = 1 }) 1 Mode.Writing (record { boot = 1; number = 6 }) 8 23 ∷
      Entry.G (record { host = 0; inc = 1 }) 1 Mode.Writing (record { boot = 1; number = 5 }) 8 23 ∷
      Entry.C (record { host = 0; inc = 1 }) 2 (Told.Write 1 0 2) ∷
      Entry.A (record { host = 2; inc = 1 }) 1 (Said.OkBy 0 12) ∷ Entry.A (record { host = 0; inc = 1 }) 1 Said.Range ∷
      Entry.R (record { host = 2; inc = 1 }) 1 1 0 0 (Some 18) ∷
      Entry.G (record { host = 2; inc = 1 }) 1 Mode.Reading (record { boot = 1; number = 3 }) 8 5 ∷
      Entry.R (record { host = 2; inc = 1 }) 1 1 0 0 (Some 16) ∷
      Entry.G (record { host = 2; inc = 1 }) 1 Mode.Reading (record { boot = 1; number = 2 }) 8 5 ∷
      Entry.A (record { host = 1; inc = 1 }) 1 Said.Ok ∷ Entry.R (record { host = 2; inc = 1 }) 1 1 0 0 (Some 12) ∷
      Entry.G (record { host = 2; inc = 1 }) 1 Mode.Reading (record { boot = 1; number = 1 }) 8 5 ∷
      Entry.Z (record { host = 1; inc = 1 }) 1 1 2 1 ∷ Entry.C (record { host = 2; inc = 1 }) 1 (Told.Read 1 0) ∷
      Entry.C (record { host = 0; inc = 1 }) 1 (Told.Put 1 1 1) ∷
      Entry.C (record { host = 1; inc = 1 }) 1 (Told.Resize 1 1) ∷ [];
}

-- run 64
abbrev pub run_64 : Example
run_64 = record {
  head = record { hosts = 2; term = 5; longest = 60; files = ((33 ∷ []), 1) ∷ [] };
  lines =
      one (Event.Call 1 (Call.Read 1 0)) ∷ one (Event.Deliver 0) ∷ one (Event.Deliver 1) ∷
      one (Event.Call 1 (Call.Read 1 0)) ∷ one (Event.Call 1 (Call.Read 1 0)) ∷ one (Event.Call 1 (Call.Read 1 0)) ∷
      one (Event.Call 1 (Call.Read 1 0)) ∷ one (Event.Call 1 (Call.Write 1 0 (filled 4))) ∷ one (Event.Deliver 2) ∷
      one (Event.Deliver 3) ∷ one (Event.Call 1 (Call.Put 1 0 (filled 5))) ∷ one (Event.Deliver 4) ∷
      one (Event.Deliver 5) ∷ one (Event.Call 1 (Call.Read 1 0)) ∷ one (Event.Call 1 (Call.Read 1 0)) ∷ round 8 ∷
      one (Event.Call 1 (Call.Read 1 0)) ∷ one (Event.Deliver 6) ∷ one (Event.Deliver 7) ∷ one (Event.Deliver 8) ∷
      one (Event.Deliver 9) ∷ one (Event.Deliver 10) ∷ one (Event.Deliver 11) ∷ one (Event.Deliver 12) ∷
      one (Event.Deliver 13) ∷ one (Event.Deliver 14) ∷ one (Event.Deliver 15) ∷ one (Event.Call 1 (Call.Read 1 0)) ∷
      one (Event.Call 1 (Call.Read 1 0)) ∷ one (Event.Call 1 (Call.Fetch 1 0)) ∷ one (Event.Call 1 (Call.Fetch 1 0)) ∷
      one (Event.Call 1 (Call.Fetch 1 0)) ∷ one (Event.Call 0 (Call.Put 1 0 (filled 6))) ∷ one (Event.Deliver 16) ∷
      one (Event.Deliver 17) ∷ round 8 ∷ one (Event.Deliver 18) ∷ times 7 (Event.ClientTick 1) ∷ one (Event.Deliver 19) ∷
      one (Event.Call 1 (Call.Read 1 0)) ∷ one (Event.Deliver 20) ∷ flow ∷ flow ∷
      one (Event.Call 1 (Call.Lookup (99 ∷ []))) ∷ one (Event.Call 0 (Call.Put 1 0 (filled 7))) ∷ one (Event.Deliver 30) ∷
      one (Event.Deliver 15) ∷ [];
  journal =
      Entry.A (record { host = 0; inc = 1 }) 2 Said.Busy ∷ Entry.C (record { host = 0; inc = 1 }) 2 (Told.Put 1 0 7) ∷
      Entry.C (record { host = 1; inc = 1 }) 17 (Told.Lookup (99 ∷ [])) ∷
      Entry.A (record { host = 1; inc = 1 }) 16 (Said.OkBy 5 29) ∷
      Entry.R (record { host = 1; inc = 1 }) 16 1 0 5 (Some 29) ∷
      Entry.G (record { host = 1; inc = 1 }) 1 Mode.Reading (record { boot = 1; number = 8 }) 5 16 ∷
      Entry.C (record { host = 1; inc = 1 }) 16 (Told.Read 1 0) ∷
      Entry.C (record { host = 0; inc = 1 }) 1 (Told.Put 1 0 6) ∷
      Entry.A (record { host = 1; inc = 1 }) 15 (Said.OkValue 5) ∷ Entry.R (record { host = 1; inc = 1 }) 15 1 0 5 None ∷
      Entry.C (record { host = 1; inc = 1 }) 15 (Told.Fetch 1 0) ∷
      Entry.A (record { host = 1; inc = 1 }) 14 (Said.OkValue 5) ∷ Entry.R (record { host = 1; inc = 1 }) 14 1 0 5 None ∷
      Entry.C (record { host = 1; inc = 1 }) 14 (Told.Fetch 1 0) ∷
      Entry.A (record { host = 1; inc = 1 }) 13 (Said.OkValue 5) ∷ Entry.R (record { host = 1; inc = 1 }) 13 1 0 5 None ∷
      Entry.C (record { host = 1; inc = 1 }) 13 (Told.Fetch 1 0) ∷
      Entry.A (record { host = 1; inc = 1 }) 12 (Said.OkValue 5) ∷ Entry.R (record { host = 1; inc = 1 }) 12 1 0 5 None ∷
      Entry.C (record { host = 1; inc = 1 }) 12 (Told.Read 1 0) ∷
      Entry.A (record { host = 1; inc = 1 }) 11 (Said.OkValue 5) ∷ Entry.R (record { host = 1; inc = 1 }) 11 1 0 5 None ∷
      Entry.C (record { host = 1; inc = 1 }) 11 (Told.Read 1 0) ∷
      Entry.A (record { host = 1; inc = 1 }) 10 (Said.OkBy 5 15) ∷
      Entry.R (record { host = 1; inc = 1 }) 10 1 0 5 (Some 15) ∷
      Entry.G (record { host = 1; inc = 1 }) 1 Mode.Writing (record { boot = 1; number = 7 }) 5 8 ∷
      Entry.G (record { host = 1; inc = 1 }) 1 Mode.Writing (record { boot = 1; number = 6 }) 5 8 ∷
      Entry.G (record { host = 1; inc = 1 }) 1 Mode.Writing (record { boot = 1; number = 5 }) 5 8 ∷
      Entry.G (record { host = 1; inc = 1 }) 1 Mode.Writing (record { boot = 1; number = 4 }) 5 8 ∷
      Entry.G (record { host = 1; inc = 1 }) 1 Mode.Writing (record { boot = 1; number = 3 }) 5 8 ∷
      Entry.C (record { host = 1; inc = 1 }) 10 (Told.Read 1 0) ∷
      Entry.A (record { host = 1; inc = 1 }) 9 (Said.OkValue 5) ∷ Entry.R (record { host = 1; inc = 1 }) 9 1 0 5 None ∷
      Entry.C (record { host = 1; inc = 1 }) 9 (Told.Read 1 0) ∷
      Entry.A (record { host = 1; inc = 1 }) 8 (Said.OkValue 5) ∷ Entry.R (record { host = 1; inc = 1 }) 8 1 0 5 None ∷
      Entry.C (record { host = 1; inc = 1 }) 8 (Told.Read 1 0) ∷ Entry.A (record { host = 1; inc = 1 }) 7 Said.Ok ∷
      Entry.S (record { host = 1; inc = 1 }) 1 0 1 2 0 ∷ Entry.W (record { host = 1; inc = 1 }) 1 0 2 5 false ∷
      Entry.C (record { host = 1; inc = 1 }) 7 (Told.Put 1 0 5) ∷ Entry.A (record { host = 1; inc = 1 }) 6 Said.Ok ∷
      Entry.W (record { host = 1; inc = 1 }) 1 0 1 4 false ∷
      Entry.G (record { host = 1; inc = 1 }) 1 Mode.Writing (record { boot = 1; number = 2 }) 5 0 ∷
      Entry.C (record { host = 1; inc = 1 }) 6 (Told.Write 1 0 4) ∷
      Entry.A (record { host = 1; inc = 1 }) 5 (Said.OkValue 0) ∷ Entry.R (record { host = 1; inc = 1 }) 5 1 0 0 None ∷
      Entry.C (record { host = 1; inc = 1 }) 5 (Told.Read 1 0) ∷
      Entry.A (record { host = 1; inc = 1 }) 4 (Said.OkValue 0) ∷ Entry.R (record { host = 1; inc = 1 }) 4 1 0 0 None ∷
      Entry.C (record { host = 1; inc = 1 }) 4 (Told.Read 1 0) ∷
      Entry.A (record { host = 1; inc = 1 }) 3 (Said.OkValue 0) ∷ Entry.R (record { host = 1; inc = 1 }) 3 1 0 0 None ∷
      Entry.C (record { host = 1; inc = 1 }) 3 (Told.Read 1 0) ∷
      Entry.A (record { host = 1; inc = 1 }) 2 (Said.OkValue 0) ∷ Entry.R (record { host = 1; inc = 1 }) 2 1 0 0 None ∷
      Entry.C (record { host = 1; inc = 1 }) 2 (Told.Read 1 0) ∷
      Entry.A (record { host = 1; inc = 1 }) 1 (Said.OkBy 0 1) ∷ Entry.R (record { host = 1; inc = 1 }) 1 1 0 0 (Some 1) ∷
      Entry.G (record { host = 1; inc = 1 }) 1 Mode.Reading (record { boot = 1; number = 1 }) 5 0 ∷
      Entry.C (record { host = 1; inc = 1 }) 1 (Told.Read 1 0) ∷ [];
}

-- all of these
abbrev pub mixed_three : List Example
mixed_three =
    run_41 ∷ run_42 ∷ run_43 ∷ run_44 ∷ run_45 ∷ run_46 ∷ run_47 ∷ run_48 ∷ run_49 ∷ run_50 ∷ run_51 ∷ run_52 ∷ run_53 ∷
    run_54 ∷ run_55 ∷ run_56 ∷ run_57 ∷ run_58 ∷ run_59 ∷ run_60 ∷ run_61 ∷ run_62 ∷ run_63 ∷ run_64 ∷ []
