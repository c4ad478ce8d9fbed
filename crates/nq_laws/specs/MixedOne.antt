use Rattle.std.specs.Prelude.{List, [], ◌∷◌, Some, None, true, false}
use Rattle.nq_base.specs.Block.{filled}
use Rattle.nq_base.specs.declared.Call.{Call}
use Rattle.nq_base.specs.declared.Entry.{Entry}
use Rattle.nq_base.specs.declared.Event.{Event}
use Rattle.nq_base.specs.declared.Mode.{Mode}
use Rattle.nq_base.specs.declared.Said.{Said}
use Rattle.nq_base.specs.declared.Told.{Told}
use Rattle.nq_laws.specs.Example.{Example}
use Rattle.nq_model.specs.protocol.Lines.{one, times, round, flow}

-- run 01
abbrev pub run_01 : Example
run_01 = record {
  head = record { hosts = 4; term = 15; longest = 60; files = ((98 ∷ []), 1) ∷ [] };
  lines =
      flow ∷ round 5 ∷ one (Event.Call 1 (Call.Write 0 0 (filled 1))) ∷ one (Event.Deliver 0) ∷ one (Event.Deliver 1) ∷ [];
  journal =
      Entry.A (record { host = 1; inc = 1 }) 1 Said.Stale ∷ Entry.C (record { host = 1; inc = 1 }) 1 (Told.Write 0 0 1) ∷
      [];
}

-- run 02
abbrev pub run_02 : Example
run_02 = record {
  head = record { hosts = 3; term = 10; longest = 60; files = ((97 ∷ []), 2) ∷ ((126 ∷ 46 ∷ 126 ∷ []), 7) ∷ [] };
  lines =
      times 2 (Event.ClientTick 2) ∷ times 3 Event.ServerTick ∷ round 8 ∷ one (Event.Call 2 (Call.Put 2 1 (filled 1))) ∷
      one (Event.Call 0 (Call.Attr 1)) ∷ [];
  journal =
      Entry.C (record { host = 0; inc = 1 }) 1 (Told.Attr 1) ∷ Entry.C (record { host = 2; inc = 1 }) 1 (Told.Put 2 1 1) ∷
      [];
}

-- run 03
abbrev pub run_03 : Example
run_03 = record {
  head = record { hosts = 5; term = 5; longest = 60; files = ((120 ∷ 120 ∷ 120 ∷ 120 ∷ 120 ∷ 120 ∷ 120 ∷ 120 ∷ 120 ∷ 120 ∷ 120 ∷ 120 ∷ 120 ∷ 120 ∷ 120 ∷ 120 ∷ 120 ∷ 120 ∷ 120 ∷ 120 ∷ 120 ∷ 120 ∷ 120 ∷ 120 ∷ 120 ∷ 120 ∷ 120 ∷ 120 ∷ 120 ∷ 120 ∷ 120 ∷ 120 ∷ 120 ∷ 120 ∷ 120 ∷ 120 ∷ 120 ∷ 120 ∷ 120 ∷ 120 ∷ 120 ∷ 120 ∷ 120 ∷ 120 ∷ 120 ∷ 120 ∷ 120 ∷ 120 ∷ 120 ∷ 120 ∷ 120 ∷ 120 ∷ 120 ∷ 120 ∷ 120 ∷ 120 ∷ 120 ∷ 120 ∷ 120 ∷ 120 ∷ 120 ∷ 120 ∷ 120 ∷ 120 ∷ []), 2) ∷ [] };
  lines =
      one (Event.Call 1 (Call.Write 1 0 (filled 1))) ∷ one (Event.Deliver 0) ∷
      one (Event.Call 3 (Call.Write 1 0 (filled 2))) ∷ one (Event.Call 4 (Call.Put 1 1 (filled 3))) ∷
      one (Event.Call 0 (Call.Attr 1)) ∷ [];
  journal =
      Entry.C (record { host = 0; inc = 1 }) 1 (Told.Attr 1) ∷ Entry.C (record { host = 4; inc = 1 }) 1 (Told.Put 1 1 3) ∷
      Entry.C (record { host = 3; inc = 1 }) 1 (Told.Write 1 0 2) ∷
      Entry.G (record { host = 1; inc = 1 }) 1 Mode.Writing (record { boot = 1; number = 1 }) 5 0 ∷
      Entry.C (record { host = 1; inc = 1 }) 1 (Told.Write 1 0 1) ∷ [];
}

-- run 04
abbrev pub run_04 : Example
run_04 = record {
  head = record { hosts = 2; term = 30; longest = 60; files = ((98 ∷ []), 4) ∷ ((120 ∷ 120 ∷ 120 ∷ 120 ∷ 120 ∷ 120 ∷ 120 ∷ 120 ∷ 120 ∷ 120 ∷ 120 ∷ 120 ∷ 120 ∷ 120 ∷ 120 ∷ 120 ∷ 120 ∷ 120 ∷ 120 ∷ 120 ∷ 120 ∷ 120 ∷ 120 ∷ 120 ∷ 120 ∷ 120 ∷ 120 ∷ 120 ∷ 120 ∷ 120 ∷ 120 ∷ 120 ∷ 120 ∷ 120 ∷ 120 ∷ 120 ∷ 120 ∷ 120 ∷ 120 ∷ 120 ∷ 120 ∷ 120 ∷ 120 ∷ 120 ∷ 120 ∷ 120 ∷ 120 ∷ 120 ∷ 120 ∷ 120 ∷ 120 ∷ 120 ∷ 120 ∷ 120 ∷ 120 ∷ 120 ∷ 120 ∷ 120 ∷ 120 ∷ 120 ∷ 120 ∷ 120 ∷ 120 ∷ 120 ∷ []), 3) ∷ [] };
  lines =
      one (Event.Restart 0) ∷ one (Event.Deliver 0) ∷ one (Event.Call 1 (Call.Fetch 1 3)) ∷ round 2 ∷
      one (Event.Deliver 1) ∷ one (Event.Deliver 2) ∷ one (Event.Deliver 3) ∷ one (Event.Deliver 4) ∷
      one (Event.Deliver 5) ∷ one (Event.Deliver 6) ∷ one (Event.Deliver 7) ∷ times 2 (Event.ClientTick 1) ∷ [];
  journal =
      Entry.A (record { host = 1; inc = 1 }) 1 (Said.OkBy 0 5) ∷ Entry.R (record { host = 1; inc = 1 }) 1 1 3 0 (Some 7) ∷
      Entry.R (record { host = 1; inc = 1 }) 1 1 3 0 (Some 5) ∷
      Entry.C (record { host = 1; inc = 1 }) 1 (Told.Fetch 1 3) ∷ Entry.B (record { host = 0; inc = 2 }) ∷ [];
}

-- run 05
abbrev pub run_05 : Example
run_05 = record {
  head = record { hosts = 2; term = 7; longest = 60; files = ((108 ∷ 111 ∷ 110 ∷ 103 ∷ 45 ∷ 110 ∷ 97 ∷ 109 ∷ 101 ∷ 95 ∷ 119 ∷ 105 ∷ 116 ∷ 104 ∷ 46 ∷ 100 ∷ 111 ∷ 116 ∷ 115 ∷ []), 1) ∷ [] };
  lines =
      one (Event.Call 1 (Call.Create (99 ∷ []) 1)) ∷ one (Event.Deliver 0) ∷ one (Event.Call 0 (Call.Sync 1)) ∷
      one (Event.Deliver 0) ∷ one (Event.Crash 60) ∷ one (Event.Deliver 1) ∷ one (Event.Deliver 2) ∷
      one (Event.Call 0 (Call.Write 1 0 (filled 1))) ∷ flow ∷ round 2 ∷ one (Event.Deliver 3) ∷
      times 1 (Event.ClientTick 1) ∷ one (Event.Restart 0) ∷ one (Event.Deliver 5) ∷ one (Event.Deliver 1) ∷ [];
  journal =
      Entry.B (record { host = 0; inc = 2 }) ∷ Entry.C (record { host = 0; inc = 1 }) 2 (Told.Write 1 0 1) ∷
      Entry.A (record { host = 1; inc = 1 }) 1 (Said.OkValue 2) ∷ Entry.X 2 0 60 ∷
      Entry.A (record { host = 0; inc = 1 }) 1 Said.Ok ∷ Entry.C (record { host = 0; inc = 1 }) 1 (Told.Sync 1) ∷
      Entry.C (record { host = 1; inc = 1 }) 1 (Told.Create (99 ∷ []) 1) ∷ [];
}

-- run 06
abbrev pub run_06 : Example
run_06 = record {
  head = record { hosts = 3; term = 5; longest = 60; files = ((120 ∷ 120 ∷ 120 ∷ 120 ∷ 120 ∷ 120 ∷ 120 ∷ 120 ∷ 120 ∷ 120 ∷ 120 ∷ 120 ∷ 120 ∷ 120 ∷ 120 ∷ 120 ∷ 120 ∷ 120 ∷ 120 ∷ 120 ∷ 120 ∷ 120 ∷ 120 ∷ 120 ∷ 120 ∷ 120 ∷ 120 ∷ 120 ∷ 120 ∷ 120 ∷ 120 ∷ 120 ∷ 120 ∷ 120 ∷ 120 ∷ 120 ∷ 120 ∷ 120 ∷ 120 ∷ 120 ∷ 120 ∷ 120 ∷ 120 ∷ 120 ∷ 120 ∷ 120 ∷ 120 ∷ 120 ∷ 120 ∷ 120 ∷ 120 ∷ 120 ∷ 120 ∷ 120 ∷ 120 ∷ 120 ∷ 120 ∷ 120 ∷ 120 ∷ 120 ∷ 120 ∷ 120 ∷ 120 ∷ 120 ∷ []), 1) ∷ [] };
  lines =
      round 5 ∷ round 2 ∷ one (Event.Call 1 (Call.Read 1 4294967295)) ∷ one (Event.Deliver 0) ∷ one (Event.Deliver 1) ∷
      one (Event.Call 0 (Call.Write 1 0 (filled 1))) ∷ flow ∷ round 2 ∷ one (Event.Deliver 4) ∷ one (Event.Deliver 5) ∷
      one (Event.Call 0 (Call.Write 4294967295 0 (filled 2))) ∷ one (Event.Deliver 6) ∷ one (Event.Deliver 7) ∷ round 68 ∷
      one (Event.Call 2 (Call.Put 1 0 (filled 3))) ∷ [];
  journal =
      Entry.C (record { host = 2; inc = 1 }) 1 (Told.Put 1 0 3) ∷ Entry.F (record { host = 0; inc = 1 }) 1 15 9 20 ∷
      Entry.A (record { host = 0; inc = 1 }) 2 Said.Stale ∷
      Entry.C (record { host = 0; inc = 1 }) 2 (Told.Write 4294967295 0 2) ∷
      Entry.S (record { host = 0; inc = 1 }) 1 0 1 1 9 ∷ Entry.A (record { host = 0; inc = 1 }) 1 Said.Ok ∷
      Entry.W (record { host = 0; inc = 1 }) 1 0 1 1 false ∷
      Entry.G (record { host = 0; inc = 1 }) 1 Mode.Writing (record { boot = 1; number = 1 }) 5 7 ∷
      Entry.C (record { host = 0; inc = 1 }) 1 (Told.Write 1 0 1) ∷ Entry.A (record { host = 1; inc = 1 }) 1 Said.Range ∷
      Entry.C (record { host = 1; inc = 1 }) 1 (Told.Read 1 4294967295) ∷ [];
}

-- run 07
abbrev pub run_07 : Example
run_07 = record {
  head = record { hosts = 4; term = 10; longest = 60; files = ((108 ∷ 111 ∷ 110 ∷ 103 ∷ 45 ∷ 110 ∷ 97 ∷ 109 ∷ 101 ∷ 95 ∷ 119 ∷ 105 ∷ 116 ∷ 104 ∷ 46 ∷ 100 ∷ 111 ∷ 116 ∷ 115 ∷ []), 2) ∷ ((126 ∷ 46 ∷ 126 ∷ []), 2) ∷ ((33 ∷ []), 1) ∷ [] };
  lines =
      one (Event.Call 2 (Call.Sync 1)) ∷ round 3 ∷ round 5 ∷ times 3 (Event.ClientTick 1) ∷
      one (Event.Call 2 (Call.Write 1 1 (filled 1))) ∷ one (Event.Deliver 0) ∷ one (Event.Deliver 1) ∷
      one (Event.Call 3 (Call.Lookup (126 ∷ 46 ∷ 126 ∷ []))) ∷ one (Event.Deliver 2) ∷ one (Event.Deliver 3) ∷
      one (Event.Call 3 (Call.Write 1 4294967295 (filled 2))) ∷ one (Event.Deliver 4) ∷ one (Event.Deliver 5) ∷ round 1 ∷
      one (Event.Deliver 7) ∷ [];
  journal =
      Entry.S (record { host = 2; inc = 1 }) 1 1 1 1 9 ∷
      Entry.C (record { host = 3; inc = 1 }) 2 (Told.Write 1 4294967295 2) ∷
      Entry.A (record { host = 3; inc = 1 }) 1 (Said.OkValue 2) ∷
      Entry.C (record { host = 3; inc = 1 }) 1 (Told.Lookup (126 ∷ 46 ∷ 126 ∷ [])) ∷
      Entry.A (record { host = 2; inc = 1 }) 2 Said.Ok ∷ Entry.W (record { host = 2; inc = 1 }) 1 1 1 1 false ∷
      Entry.G (record { host = 2; inc = 1 }) 1 Mode.Writing (record { boot = 1; number = 1 }) 10 8 ∷
      Entry.C (record { host = 2; inc = 1 }) 2 (Told.Write 1 1 1) ∷ Entry.A (record { host = 2; inc = 1 }) 1 Said.Ok ∷
      Entry.C (record { host = 2; inc = 1 }) 1 (Told.Sync 1) ∷ [];
}

-- run 08
abbrev pub run_08 : Example
run_08 = record {
  head = record { hosts = 1; term = 10; longest = 60; files = ((33 ∷ []), 1) ∷ ((98 ∷ []), 4) ∷ [] };
  lines =
      one (Event.Call 0 (Call.Read 0 0)) ∷ one (Event.Deliver 0) ∷ one (Event.Deliver 1) ∷ times 3 (Event.ClientTick 0) ∷
      one (Event.Call 0 (Call.Write 1 0 (filled 1))) ∷ one (Event.Deliver 2) ∷ one (Event.Deliver 3) ∷
      one (Event.Call 0 (Call.Read 2 3)) ∷ one (Event.Deliver 4) ∷ one (Event.Deliver 5) ∷
      one (Event.Call 0 (Call.Put 1 0 (filled 2))) ∷ one (Event.Deliver 4) ∷ one (Event.Deliver 7) ∷ round 6 ∷ [];
  journal =
      Entry.R (record { host = 0; inc = 1 }) 3 2 3 0 (Some 7) ∷
      Entry.G (record { host = 0; inc = 1 }) 2 Mode.Reading (record { boot = 1; number = 3 }) 10 0 ∷
      Entry.W (record { host = 0; inc = 1 }) 1 0 2 2 false ∷ Entry.C (record { host = 0; inc = 1 }) 4 (Told.Put 1 0 2) ∷
      Entry.A (record { host = 0; inc = 1 }) 3 (Said.OkBy 0 5) ∷ Entry.R (record { host = 0; inc = 1 }) 3 2 3 0 (Some 5) ∷
      Entry.G (record { host = 0; inc = 1 }) 2 Mode.Reading (record { boot = 1; number = 2 }) 10 0 ∷
      Entry.C (record { host = 0; inc = 1 }) 3 (Told.Read 2 3) ∷ Entry.A (record { host = 0; inc = 1 }) 2 Said.Ok ∷
      Entry.W (record { host = 0; inc = 1 }) 1 0 1 1 false ∷
      Entry.G (record { host = 0; inc = 1 }) 1 Mode.Writing (record { boot = 1; number = 1 }) 10 0 ∷
      Entry.C (record { host = 0; inc = 1 }) 2 (Told.Write 1 0 1) ∷ Entry.A (record { host = 0; inc = 1 }) 1 Said.Stale ∷
      Entry.C (record { host = 0; inc = 1 }) 1 (Told.Read 0 0) ∷ [];
}

-- run 09
abbrev pub run_09 : Example
run_09 = record {
  head = record { hosts = 3; term = 5; longest = 60; files = ((33 ∷ []), 7) ∷ [] };
  lines =
      one (Event.Call 2 (Call.Put 1 6 (filled 1))) ∷ one (Event.Deliver 0) ∷
      one (Event.Call 1 (Call.Write 1 2 (filled 2))) ∷ one (Event.Call 0 (Call.Sync 1)) ∷ one (Event.Deliver 1) ∷
      one (Event.Deliver 2) ∷ one (Event.Restart 0) ∷ round 2 ∷ one (Event.Call 2 (Call.Read 1 1)) ∷
      one (Event.Deliver 3) ∷ one (Event.Deliver 4) ∷ one (Event.Call 1 (Call.Fetch 1 2)) ∷ one (Event.Deliver 5) ∷
      times 7 (Event.ClientTick 0) ∷ one (Event.Deliver 6) ∷ [];
  journal =
      Entry.G (record { host = 1; inc = 1 }) 1 Mode.Writing (record { boot = 1; number = 2 }) 5 2 ∷
      Entry.A (record { host = 1; inc = 1 }) 2 (Said.OkValue 2) ∷ Entry.R (record { host = 1; inc = 1 }) 2 1 2 2 None ∷
      Entry.C (record { host = 1; inc = 1 }) 2 (Told.Fetch 1 2) ∷ Entry.A (record { host = 1; inc = 1 }) 1 Said.Ok ∷
      Entry.W (record { host = 1; inc = 1 }) 1 2 1 2 false ∷ Entry.C (record { host = 2; inc = 1 }) 2 (Told.Read 1 1) ∷
      Entry.B (record { host = 0; inc = 2 }) ∷
      Entry.G (record { host = 1; inc = 1 }) 1 Mode.Writing (record { boot = 1; number = 1 }) 5 0 ∷
      Entry.A (record { host = 2; inc = 1 }) 1 Said.Ok ∷ Entry.A (record { host = 0; inc = 1 }) 1 Said.Ok ∷
      Entry.C (record { host = 0; inc = 1 }) 1 (Told.Sync 1) ∷
      Entry.C (record { host = 1; inc = 1 }) 1 (Told.Write 1 2 2) ∷ Entry.W (record { host = 2; inc = 1 }) 1 6 1 1 true ∷
      Entry.C (record { host = 2; inc = 1 }) 1 (Told.Put 1 6 1) ∷ [];
}

-- run 10
abbrev pub run_10 : Example
run_10 = record {
  head = record { hosts = 3; term = 10; longest = 60; files = ((126 ∷ 46 ∷ 126 ∷ []), 3) ∷ ((97 ∷ []), 4) ∷ [] };
  lines =
      one (Event.Call 2 (Call.Put 1 0 (filled 1))) ∷ one (Event.Deliver 0) ∷ one (Event.Deliver 1) ∷
      one (Event.Call 2 (Call.Write 1 1 (filled 2))) ∷ round 3 ∷ one (Event.Call 0 (Call.Write 1 0 (filled 5))) ∷
      one (Event.Deliver 4) ∷ one (Event.Deliver 5) ∷ one (Event.Crash 60) ∷ one (Event.Deliver 2) ∷
      one (Event.Deliver 3) ∷ one (Event.Deliver 6) ∷ one (Event.Deliver 7) ∷
      one (Event.Call 0 (Call.Write 1 0 (filled 6))) ∷ one (Event.Call 1 (Call.Read 2 0)) ∷ one (Event.Crash 60) ∷
      one (Event.Deliver 8) ∷ times 2 Event.ServerTick ∷ [];
  journal =
      Entry.X 3 3 60 ∷ Entry.C (record { host = 1; inc = 1 }) 1 (Told.Read 2 0) ∷
      Entry.A (record { host = 0; inc = 1 }) 2 Said.Ok ∷ Entry.W (record { host = 0; inc = 1 }) 1 0 2 6 false ∷
      Entry.C (record { host = 0; inc = 1 }) 2 (Told.Write 1 0 6) ∷ Entry.X 2 3 60 ∷
      Entry.A (record { host = 0; inc = 1 }) 1 Said.Ok ∷ Entry.W (record { host = 0; inc = 1 }) 1 0 1 5 false ∷
      Entry.G (record { host = 0; inc = 1 }) 1 Mode.Writing (record { boot = 1; number = 1 }) 10 3 ∷
      Entry.C (record { host = 0; inc = 1 }) 1 (Told.Write 1 0 5) ∷
      Entry.C (record { host = 2; inc = 1 }) 2 (Told.Write 1 1 2) ∷ Entry.A (record { host = 2; inc = 1 }) 1 Said.Ok ∷
      Entry.W (record { host = 2; inc = 1 }) 1 0 1 1 true ∷ Entry.C (record { host = 2; inc = 1 }) 1 (Told.Put 1 0 1) ∷ [];
}

-- run 11
abbrev pub run_11 : Example
run_11 = record {
  head = record { hosts = 2; term = 5; longest = 60; files = ((120 ∷ 120 ∷ 120 ∷ 120 ∷ 120 ∷ 120 ∷ 120 ∷ 120 ∷ 120 ∷ 120 ∷ 120 ∷ 120 ∷ 120 ∷ 120 ∷ 120 ∷ 120 ∷ 120 ∷ 120 ∷ 120 ∷ 120 ∷ 120 ∷ 120 ∷ 120 ∷ 120 ∷ 120 ∷ 120 ∷ 120 ∷ 120 ∷ 120 ∷ 120 ∷ 120 ∷ 120 ∷ 120 ∷ 120 ∷ 120 ∷ 120 ∷ 120 ∷ 120 ∷ 120 ∷ 120 ∷ 120 ∷ 120 ∷ 120 ∷ 120 ∷ 120 ∷ 120 ∷ 120 ∷ 120 ∷ 120 ∷ 120 ∷ 120 ∷ 120 ∷ 120 ∷ 120 ∷ 120 ∷ 120 ∷ 120 ∷ 120 ∷ 120 ∷ 120 ∷ 120 ∷ 120 ∷ 120 ∷ 120 ∷ []), 7) ∷ [] };
  lines =
      round 2 ∷ round 4 ∷ one (Event.Crash 60) ∷ one (Event.Call 0 (Call.Put 1 0 (filled 1))) ∷ one (Event.Deliver 0) ∷
      round 1 ∷ one (Event.Call 1 (Call.Write 1 0 (filled 2))) ∷ one (Event.Deliver 1) ∷ flow ∷
      times 1 (Event.ClientTick 1) ∷ one (Event.Call 0 (Call.Read 1 0)) ∷ round 3 ∷ one (Event.Deliver 4) ∷
      one (Event.Deliver 5) ∷ one (Event.Deliver 6) ∷ round 2 ∷ one (Event.Deliver 7) ∷ one (Event.Deliver 8) ∷
      one (Event.Deliver 9) ∷ one (Event.Deliver 10) ∷ one (Event.Deliver 11) ∷ one (Event.Deliver 12) ∷
      one (Event.Deliver 13) ∷ round 14 ∷ flow ∷ flow ∷ flow ∷ flow ∷ flow ∷ round 3 ∷ flow ∷ [];
  journal =
      Entry.A (record { host = 0; inc = 1 }) 2 Said.Busy ∷ Entry.C (record { host = 0; inc = 1 }) 2 (Told.Read 1 0) ∷
      Entry.C (record { host = 1; inc = 1 }) 1 (Told.Write 1 0 2) ∷
      Entry.C (record { host = 0; inc = 1 }) 1 (Told.Put 1 0 1) ∷ Entry.X 2 6 60 ∷ [];
}

-- run 12
abbrev pub run_12 : Example
run_12 = record {
  head = record { hosts = 2; term = 15; longest = 60; files = ((98 ∷ []), 4) ∷ ((120 ∷ 120 ∷ 120 ∷ 120 ∷ 120 ∷ 120 ∷ 120 ∷ 120 ∷ 120 ∷ 120 ∷ 120 ∷ 120 ∷ 120 ∷ 120 ∷ 120 ∷ 120 ∷ 120 ∷ 120 ∷ 120 ∷ 120 ∷ 120 ∷ 120 ∷ 120 ∷ 120 ∷ 120 ∷ 120 ∷ 120 ∷ 120 ∷ 120 ∷ 120 ∷ 120 ∷ 120 ∷ 120 ∷ 120 ∷ 120 ∷ 120 ∷ 120 ∷ 120 ∷ 120 ∷ 120 ∷ 120 ∷ 120 ∷ 120 ∷ 120 ∷ 120 ∷ 120 ∷ 120 ∷ 120 ∷ 120 ∷ 120 ∷ 120 ∷ 120 ∷ 120 ∷ 120 ∷ 120 ∷ 120 ∷ 120 ∷ 120 ∷ 120 ∷ 120 ∷ 120 ∷ 120 ∷ 120 ∷ 120 ∷ []), 7) ∷ ((126 ∷ 46 ∷ 126 ∷ []), 1) ∷ [] };
  lines =
      one (Event.Call 1 (Call.Read 1 0)) ∷ one (Event.Deliver 0) ∷ one (Event.Call 0 (Call.Put 1 4 (filled 1))) ∷
      one (Event.Deliver 1) ∷ round 2 ∷ one (Event.Deliver 2) ∷ one (Event.Deliver 3) ∷ one (Event.Deliver 4) ∷
      one (Event.Deliver 5) ∷ flow ∷ one (Event.Call 1 (Call.Sync 1)) ∷ round 5 ∷
      one (Event.Call 1 (Call.Write 1 1 (filled 2))) ∷ one (Event.Deliver 6) ∷ one (Event.Call 0 (Call.Read 1 2)) ∷
      one (Event.Deliver 7) ∷ one (Event.Deliver 8) ∷ one (Event.Call 1 (Call.Put 1 3 (filled 3))) ∷
      one (Event.Deliver 9) ∷ [];
  journal =
      Entry.W (record { host = 1; inc = 1 }) 1 3 2 3 false ∷ Entry.C (record { host = 1; inc = 1 }) 4 (Told.Put 1 3 3) ∷
      Entry.A (record { host = 1; inc = 1 }) 3 Said.Ok ∷ Entry.W (record { host = 1; inc = 1 }) 1 1 1 2 false ∷
      Entry.C (record { host = 0; inc = 1 }) 2 (Told.Read 1 2) ∷
      Entry.G (record { host = 1; inc = 1 }) 1 Mode.Writing (record { boot = 1; number = 2 }) 15 7 ∷
      Entry.C (record { host = 1; inc = 1 }) 3 (Told.Write 1 1 2) ∷ Entry.A (record { host = 1; inc = 1 }) 2 Said.Ok ∷
      Entry.C (record { host = 1; inc = 1 }) 2 (Told.Sync 1) ∷ Entry.A (record { host = 0; inc = 1 }) 1 Said.Range ∷
      Entry.A (record { host = 1; inc = 1 }) 1 (Said.OkBy 0 1) ∷
      Entry.C (record { host = 0; inc = 1 }) 1 (Told.Put 1 4 1) ∷
      Entry.R (record { host = 1; inc = 1 }) 1 1 0 0 (Some 1) ∷
      Entry.G (record { host = 1; inc = 1 }) 1 Mode.Reading (record { boot = 1; number = 1 }) 15 0 ∷
      Entry.C (record { host = 1; inc = 1 }) 1 (Told.Read 1 0) ∷ [];
}

-- run 13
abbrev pub run_13 : Example
run_13 = record {
  head = record { hosts = 3; term = 15; longest = 60; files = ((120 ∷ 120 ∷ 120 ∷ 120 ∷ 120 ∷ 120 ∷ 120 ∷ 120 ∷ 120 ∷ 120 ∷ 120 ∷ 120 ∷ 120 ∷ 120 ∷ 120 ∷ 120 ∷ 120 ∷ 120 ∷ 120 ∷ 120 ∷ 120 ∷ 120 ∷ 120 ∷ 120 ∷ 120 ∷ 120 ∷ 120 ∷ 120 ∷ 120 ∷ 120 ∷ 120 ∷ 120 ∷ 120 ∷ 120 ∷ 120 ∷ 120 ∷ 120 ∷ 120 ∷ 120 ∷ 120 ∷ 120 ∷ 120 ∷ 120 ∷ 120 ∷ 120 ∷ 120 ∷ 120 ∷ 120 ∷ 120 ∷ 120 ∷ 120 ∷ 120 ∷ 120 ∷ 120 ∷ 120 ∷ 120 ∷ 120 ∷ 120 ∷ 120 ∷ 120 ∷ 120 ∷ 120 ∷ 120 ∷ 120 ∷ []), 2) ∷ [] };
  lines =
      one (Event.Call 0 (Call.Put 1 1 (filled 1))) ∷ one (Event.Deliver 0) ∷ one (Event.Deliver 1) ∷
      one (Event.Call 2 (Call.Create (108 ∷ 111 ∷ 110 ∷ 103 ∷ 45 ∷ 110 ∷ 97 ∷ 109 ∷ 101 ∷ 95 ∷ 119 ∷ 105 ∷ 116 ∷ 104 ∷ 46 ∷ 100 ∷ 111 ∷ 116 ∷ 115 ∷ []) 3)) ∷
      one (Event.Call 0 (Call.Read 1 0)) ∷ one (Event.Deliver 3) ∷ round 1 ∷ one (Event.Call 1 (Call.Sync 1)) ∷ round 4 ∷
      round 8 ∷ one (Event.Deliver 4) ∷ one (Event.Crash 60) ∷ one (Event.Call 0 (Call.Write 1 0 (filled 2))) ∷
      one (Event.Deliver 3) ∷ one (Event.Deliver 6) ∷ one (Event.Call 1 (Call.Write 1 0 (filled 3))) ∷
      one (Event.Deliver 7) ∷ one (Event.Deliver 8) ∷ round 5 ∷ one (Event.Deliver 9) ∷ one (Event.Deliver 26) ∷ flow ∷
      one (Event.Deliver 38) ∷ round 1 ∷ round 1 ∷ one (Event.Deliver 35) ∷ one (Event.Deliver 24) ∷
      one (Event.Deliver 51) ∷ one (Event.Deliver 53) ∷ one (Event.Deliver 49) ∷ one (Event.Deliver 50) ∷
      one (Event.Deliver 54) ∷ one (Event.Deliver 52) ∷ one (Event.Deliver 55) ∷ one (Event.Deliver 52) ∷ round 3 ∷ flow ∷
      [];
  journal =
      Entry.C (record { host = 1; inc = 1 }) 2 (Told.Write 1 0 3) ∷
      Entry.C (record { host = 0; inc = 1 }) 3 (Told.Write 1 0 2) ∷ Entry.X 2 13 60 ∷
      Entry.A (record { host = 0; inc = 1 }) 2 (Said.OkBy 0 4) ∷ Entry.A (record { host = 1; inc = 1 }) 1 Said.Ok ∷
      Entry.C (record { host = 1; inc = 1 }) 1 (Told.Sync 1) ∷ Entry.R (record { host = 0; inc = 1 }) 2 1 0 0 (Some 4) ∷
      Entry.G (record { host = 0; inc = 1 }) 1 Mode.Reading (record { boot = 1; number = 1 }) 15 0 ∷
      Entry.C (record { host = 0; inc = 1 }) 2 (Told.Read 1 0) ∷
      Entry.C (record { host = 2; inc = 1 }) 1 (Told.Create (108 ∷ 111 ∷ 110 ∷ 103 ∷ 45 ∷ 110 ∷ 97 ∷ 109 ∷ 101 ∷ 95 ∷ 119 ∷ 105 ∷ 116 ∷ 104 ∷ 46 ∷ 100 ∷ 111 ∷ 116 ∷ 115 ∷ []) 3) ∷
      Entry.A (record { host = 0; inc = 1 }) 1 Said.Ok ∷ Entry.W (record { host = 0; inc = 1 }) 1 1 1 1 true ∷
      Entry.C (record { host = 0; inc = 1 }) 1 (Told.Put 1 1 1) ∷ [];
}

-- run 14
abbrev pub run_14 : Example
run_14 = record {
  head = record { hosts = 3; term = 6; longest = 60; files = ((97 ∷ []), 1) ∷ ((99 ∷ []), 1) ∷ ((33 ∷ []), 2) ∷ [] };
  lines =
      one (Event.Call 1 (Call.Write 1 0 (filled 1))) ∷ one (Event.Deliver 0) ∷ one (Event.Deliver 1) ∷
      one (Event.Call 1 (Call.Sync 1)) ∷ one (Event.Deliver 2) ∷ one (Event.Deliver 3) ∷ round 3 ∷
      one (Event.Call 1 (Call.Put 1 0 (filled 2))) ∷ one (Event.Crash 60) ∷ one (Event.Deliver 4) ∷
      one (Event.Deliver 5) ∷ one (Event.Deliver 6) ∷ one (Event.Deliver 7) ∷ round 3 ∷ round 3 ∷ one (Event.Deliver 8) ∷
      round 2 ∷ one (Event.Deliver 9) ∷ one (Event.Deliver 10) ∷ one (Event.Deliver 11) ∷ one (Event.Deliver 12) ∷
      one (Event.Deliver 13) ∷ one (Event.Deliver 14) ∷ one (Event.Deliver 15) ∷ round 1 ∷ round 13 ∷
      one (Event.Call 0 (Call.Lookup (108 ∷ 111 ∷ 110 ∷ 103 ∷ 45 ∷ 110 ∷ 97 ∷ 109 ∷ 101 ∷ 95 ∷ 119 ∷ 105 ∷ 116 ∷ 104 ∷ 46 ∷ 100 ∷ 111 ∷ 116 ∷ 115 ∷ []))) ∷
      one (Event.Deliver 16) ∷ one (Event.Deliver 17) ∷ one (Event.Call 2 (Call.Fetch 1 0)) ∷ one (Event.Deliver 18) ∷
      one (Event.Deliver 19) ∷ round 1 ∷ one (Event.Call 1 (Call.Write 1 0 (filled 4))) ∷ one (Event.Deliver 20) ∷ [];
  journal =
      Entry.C (record { host = 1; inc = 1 }) 4 (Told.Write 1 0 4) ∷
      Entry.C (record { host = 2; inc = 1 }) 1 (Told.Fetch 1 0) ∷
      Entry.C (record { host = 0; inc = 1 }) 1 (Told.Lookup (108 ∷ 111 ∷ 110 ∷ 103 ∷ 45 ∷ 110 ∷ 97 ∷ 109 ∷ 101 ∷ 95 ∷ 119 ∷ 105 ∷ 116 ∷ 104 ∷ 46 ∷ 100 ∷ 111 ∷ 116 ∷ 115 ∷ [])) ∷
      Entry.A (record { host = 1; inc = 1 }) 3 Said.Ok ∷ Entry.S (record { host = 1; inc = 1 }) 1 0 2 2 3 ∷
      Entry.X 2 3 60 ∷ Entry.W (record { host = 1; inc = 1 }) 1 0 2 2 false ∷
      Entry.C (record { host = 1; inc = 1 }) 3 (Told.Put 1 0 2) ∷ Entry.A (record { host = 1; inc = 1 }) 2 Said.Ok ∷
      Entry.S (record { host = 1; inc = 1 }) 1 0 1 1 0 ∷ Entry.C (record { host = 1; inc = 1 }) 2 (Told.Sync 1) ∷
      Entry.A (record { host = 1; inc = 1 }) 1 Said.Ok ∷ Entry.W (record { host = 1; inc = 1 }) 1 0 1 1 false ∷
      Entry.G (record { host = 1; inc = 1 }) 1 Mode.Writing (record { boot = 1; number = 1 }) 6 0 ∷
      Entry.C (record { host = 1; inc = 1 }) 1 (Told.Write 1 0 1) ∷ [];
}

-- run 15
abbrev pub run_15 : Example
run_15 = record {
  head = record { hosts = 2; term = 8; longest = 60; files = ((99 ∷ []), 2) ∷ ((98 ∷ []), 2) ∷ [] };
  lines =
      flow ∷ round 2 ∷ flow ∷ one (Event.Call 1 (Call.Write 1 0 (filled 0))) ∷ flow ∷ round 2 ∷ round 14 ∷ flow ∷
      one (Event.Call 0 (Call.Sync 1)) ∷ flow ∷ one (Event.Call 0 (Call.Read 1 0)) ∷ flow ∷
      one (Event.Call 0 (Call.Sync 2)) ∷ flow ∷ one (Event.Call 0 (Call.Read 2 0)) ∷ flow ∷
      one (Event.Call 1 (Call.Sync 1)) ∷ flow ∷ one (Event.Call 1 (Call.Read 1 0)) ∷ flow ∷
      one (Event.Call 1 (Call.Sync 2)) ∷ flow ∷ one (Event.Call 1 (Call.Read 2 0)) ∷ flow ∷ round 3 ∷ flow ∷ [];
  journal =
      Entry.A (record { host = 1; inc = 1 }) 5 (Said.OkBy 0 21) ∷
      Entry.R (record { host = 1; inc = 1 }) 5 2 0 0 (Some 21) ∷
      Entry.G (record { host = 1; inc = 1 }) 2 Mode.Reading (record { boot = 1; number = 5 }) 8 18 ∷
      Entry.C (record { host = 1; inc = 1 }) 5 (Told.Read 2 0) ∷ Entry.A (record { host = 1; inc = 1 }) 4 Said.Ok ∷
      Entry.C (record { host = 1; inc = 1 }) 4 (Told.Sync 2) ∷ Entry.A (record { host = 1; inc = 1 }) 3 (Said.OkBy 0 19) ∷
      Entry.R (record { host = 1; inc = 1 }) 3 1 0 0 (Some 19) ∷
      Entry.G (record { host = 1; inc = 1 }) 1 Mode.Reading (record { boot = 1; number = 4 }) 8 18 ∷
      Entry.C (record { host = 1; inc = 1 }) 3 (Told.Read 1 0) ∷
      Entry.A (record { host = 1; inc = 1 }) 2 (Said.Lost (record { items = record { block = 0; first = 1; last = 1 } ∷ []; spare = 0 })) ∷
      Entry.C (record { host = 1; inc = 1 }) 2 (Told.Sync 1) ∷ Entry.A (record { host = 0; inc = 1 }) 4 (Said.OkBy 0 17) ∷
      Entry.R (record { host = 0; inc = 1 }) 4 2 0 0 (Some 17) ∷
      Entry.G (record { host = 0; inc = 1 }) 2 Mode.Reading (record { boot = 1; number = 3 }) 8 18 ∷
      Entry.C (record { host = 0; inc = 1 }) 4 (Told.Read 2 0) ∷ Entry.A (record { host = 0; inc = 1 }) 3 Said.Ok ∷
      Entry.C (record { host = 0; inc = 1 }) 3 (Told.Sync 2) ∷ Entry.A (record { host = 0; inc = 1 }) 2 (Said.OkBy 0 15) ∷
      Entry.R (record { host = 0; inc = 1 }) 2 1 0 0 (Some 15) ∷
      Entry.G (record { host = 0; inc = 1 }) 1 Mode.Reading (record { boot = 1; number = 2 }) 8 18 ∷
      Entry.C (record { host = 0; inc = 1 }) 2 (Told.Read 1 0) ∷ Entry.A (record { host = 0; inc = 1 }) 1 Said.Ok ∷
      Entry.C (record { host = 0; inc = 1 }) 1 (Told.Sync 1) ∷ Entry.L (record { host = 1; inc = 1 }) 1 0 1 1 ∷
      Entry.F (record { host = 1; inc = 1 }) 1 13 2 18 ∷ Entry.A (record { host = 1; inc = 1 }) 1 Said.Ok ∷
      Entry.W (record { host = 1; inc = 1 }) 1 0 1 0 false ∷
      Entry.G (record { host = 1; inc = 1 }) 1 Mode.Writing (record { boot = 1; number = 1 }) 8 2 ∷
      Entry.C (record { host = 1; inc = 1 }) 1 (Told.Write 1 0 0) ∷ [];
}

-- run 16
abbrev pub run_16 : Example
run_16 = record {
  head = record { hosts = 2; term = 6; longest = 60; files = ((108 ∷ 111 ∷ 110 ∷ 103 ∷ 45 ∷ 110 ∷ 97 ∷ 109 ∷ 101 ∷ 95 ∷ 119 ∷ 105 ∷ 116 ∷ 104 ∷ 46 ∷ 100 ∷ 111 ∷ 116 ∷ 115 ∷ []), 1) ∷ [] };
  lines =
      one (Event.Call 0 (Call.Read 1 0)) ∷ one (Event.Deliver 0) ∷ one (Event.Deliver 1) ∷ times 2 (Event.ClientTick 0) ∷
      one (Event.Deliver 0) ∷ one (Event.Deliver 2) ∷ round 3 ∷ one (Event.Call 1 (Call.Write 1 0 (filled 1))) ∷
      one (Event.Deliver 3) ∷ one (Event.Call 0 (Call.Read 1 0)) ∷ round 1 ∷ one (Event.Deliver 4) ∷
      one (Event.Deliver 6) ∷ round 2 ∷ one (Event.Deliver 5) ∷ one (Event.Deliver 7) ∷ one (Event.Deliver 8) ∷ round 1 ∷
      round 2 ∷ one (Event.Deliver 9) ∷ one (Event.Deliver 10) ∷ round 14 ∷ flow ∷ one (Event.Call 0 (Call.Sync 1)) ∷
      flow ∷ one (Event.Call 0 (Call.Read 1 0)) ∷ flow ∷ one (Event.Call 1 (Call.Sync 1)) ∷ flow ∷
      one (Event.Call 1 (Call.Read 1 0)) ∷ flow ∷ round 3 ∷ flow ∷ [];
  journal =
      Entry.A (record { host = 1; inc = 1 }) 3 (Said.OkBy 0 28) ∷
      Entry.R (record { host = 1; inc = 1 }) 3 1 0 0 (Some 28) ∷
      Entry.G (record { host = 1; inc = 1 }) 1 Mode.Reading (record { boot = 1; number = 7 }) 6 23 ∷
      Entry.C (record { host = 1; inc = 1 }) 3 (Told.Read 1 0) ∷
      Entry.A (record { host = 1; inc = 1 }) 2 (Said.Lost (record { items = record { block = 0; first = 1; last = 1 } ∷ []; spare = 0 })) ∷
      Entry.C (record { host = 1; inc = 1 }) 2 (Told.Sync 1) ∷ Entry.A (record { host = 0; inc = 1 }) 4 (Said.OkBy 0 26) ∷
      Entry.R (record { host = 0; inc = 1 }) 4 1 0 0 (Some 26) ∷
      Entry.G (record { host = 0; inc = 1 }) 1 Mode.Reading (record { boot = 1; number = 6 }) 6 23 ∷
      Entry.C (record { host = 0; inc = 1 }) 4 (Told.Read 1 0) ∷ Entry.A (record { host = 0; inc = 1 }) 3 Said.Ok ∷
      Entry.C (record { host = 0; inc = 1 }) 3 (Told.Sync 1) ∷ Entry.L (record { host = 1; inc = 1 }) 1 0 1 1 ∷
      Entry.F (record { host = 1; inc = 1 }) 1 18 9 23 ∷ Entry.A (record { host = 1; inc = 1 }) 1 Said.Ok ∷
      Entry.W (record { host = 1; inc = 1 }) 1 0 1 1 false ∷
      Entry.G (record { host = 1; inc = 1 }) 1 Mode.Writing (record { boot = 1; number = 5 }) 6 9 ∷
      Entry.G (record { host = 1; inc = 1 }) 1 Mode.NonCaching (record { boot = 1; number = 4 }) 3 6 ∷
      Entry.A (record { host = 0; inc = 1 }) 2 (Said.OkValue 0) ∷ Entry.R (record { host = 0; inc = 1 }) 2 1 0 0 None ∷
      Entry.C (record { host = 0; inc = 1 }) 2 (Told.Read 1 0) ∷
      Entry.C (record { host = 1; inc = 1 }) 1 (Told.Write 1 0 1) ∷
      Entry.R (record { host = 0; inc = 1 }) 1 1 0 0 (Some 2) ∷
      Entry.G (record { host = 0; inc = 1 }) 1 Mode.Reading (record { boot = 1; number = 2 }) 6 0 ∷
      Entry.A (record { host = 0; inc = 1 }) 1 (Said.OkBy 0 1) ∷ Entry.R (record { host = 0; inc = 1 }) 1 1 0 0 (Some 1) ∷
      Entry.G (record { host = 0; inc = 1 }) 1 Mode.Reading (record { boot = 1; number = 1 }) 6 0 ∷
      Entry.C (record { host = 0; inc = 1 }) 1 (Told.Read 1 0) ∷ [];
}

-- run 17
abbrev pub run_17 : Example
run_17 = record {
  head = record { hosts = 2; term = 6; longest = 60; files = ((98 ∷ []), 1) ∷ [] };
  lines =
      flow ∷ one (Event.Call 1 (Call.Put 1 0 (filled 1))) ∷ round 2 ∷ one (Event.Deliver 1) ∷ one (Event.Deliver 2) ∷
      one (Event.Call 0 (Call.Read 1 0)) ∷ one (Event.Deliver 3) ∷ one (Event.Deliver 4) ∷ round 5 ∷ flow ∷
      one (Event.Crash 60) ∷ one (Event.Call 1 (Call.Read 1 0)) ∷ one (Event.Deliver 6) ∷ one (Event.Deliver 7) ∷ flow ∷
      times 7 (Event.ClientTick 1) ∷ flow ∷ one (Event.Call 0 (Call.Fetch 1 0)) ∷ flow ∷ flow ∷ flow ∷ round 1 ∷
      one (Event.Call 0 (Call.Read 1 0)) ∷ flow ∷ flow ∷ round 3 ∷ one (Event.Deliver 16) ∷ one (Event.Deliver 17) ∷
      flow ∷ flow ∷ flow ∷ flow ∷ flow ∷ round 3 ∷ flow ∷ round 2 ∷ one (Event.Deliver 26) ∷ one (Event.Deliver 27) ∷
      flow ∷ round 1 ∷ round 2 ∷ one (Event.Deliver 30) ∷ one (Event.Deliver 31) ∷ one (Event.Deliver 32) ∷
      one (Event.Deliver 33) ∷ round 14 ∷ flow ∷ flow ∷ flow ∷ flow ∷ flow ∷ round 3 ∷ flow ∷ [];
  journal =
      Entry.C (record { host = 0; inc = 1 }) 3 (Told.Read 1 0) ∷
      Entry.A (record { host = 0; inc = 1 }) 2 (Said.OkValue 1) ∷ Entry.R (record { host = 0; inc = 1 }) 2 1 0 1 None ∷
      Entry.C (record { host = 0; inc = 1 }) 2 (Told.Fetch 1 0) ∷
      Entry.C (record { host = 1; inc = 1 }) 2 (Told.Read 1 0) ∷ Entry.X 2 7 60 ∷
      Entry.A (record { host = 0; inc = 1 }) 1 (Said.OkBy 1 4) ∷ Entry.R (record { host = 0; inc = 1 }) 1 1 0 1 (Some 4) ∷
      Entry.G (record { host = 0; inc = 1 }) 1 Mode.Reading (record { boot = 1; number = 1 }) 6 2 ∷
      Entry.C (record { host = 0; inc = 1 }) 1 (Told.Read 1 0) ∷ Entry.A (record { host = 1; inc = 1 }) 1 Said.Ok ∷
      Entry.W (record { host = 1; inc = 1 }) 1 0 1 1 true ∷ Entry.C (record { host = 1; inc = 1 }) 1 (Told.Put 1 0 1) ∷ [];
}

-- run 18
abbrev pub run_18 : Example
run_18 = record {
  head = record { hosts = 2; term = 6; longest = 60; files = ((33 ∷ []), 4) ∷ [] };
  lines =
      round 2 ∷ one (Event.Call 1 (Call.Put 1 3 (filled 1))) ∷ one (Event.Deliver 0) ∷ one (Event.Deliver 1) ∷
      one (Event.Call 0 (Call.Fetch 1 4)) ∷ one (Event.Call 1 (Call.Fetch 1 1)) ∷ one (Event.Deliver 2) ∷
      one (Event.Deliver 3) ∷ flow ∷ one (Event.Call 0 (Call.Lookup (99 ∷ []))) ∷ round 6 ∷ one (Event.Deliver 8) ∷
      one (Event.Deliver 1) ∷ one (Event.Call 1 (Call.Read 1 2)) ∷ one (Event.Deliver 6) ∷ round 2 ∷
      one (Event.Deliver 7) ∷ one (Event.Deliver 9) ∷ one (Event.Deliver 10) ∷ one (Event.Deliver 11) ∷
      one (Event.Deliver 12) ∷ one (Event.Deliver 13) ∷ one (Event.Deliver 14) ∷ one (Event.Deliver 15) ∷
      one (Event.Deliver 16) ∷ one (Event.Deliver 17) ∷ one (Event.Deliver 18) ∷ one (Event.Deliver 19) ∷ round 14 ∷
      flow ∷ one (Event.Call 0 (Call.Sync 1)) ∷ flow ∷ one (Event.Call 0 (Call.Read 1 0)) ∷ flow ∷
      one (Event.Call 1 (Call.Sync 1)) ∷ flow ∷ one (Event.Call 1 (Call.Read 1 0)) ∷ flow ∷ round 3 ∷ flow ∷ [];
  journal =
      Entry.A (record { host = 1; inc = 1 }) 5 (Said.OkBy 0 23) ∷
      Entry.R (record { host = 1; inc = 1 }) 5 1 0 0 (Some 23) ∷
      Entry.G (record { host = 1; inc = 1 }) 1 Mode.Reading (record { boot = 1; number = 4 }) 6 24 ∷
      Entry.C (record { host = 1; inc = 1 }) 5 (Told.Read 1 0) ∷ Entry.A (record { host = 1; inc = 1 }) 4 Said.Ok ∷
      Entry.C (record { host = 1; inc = 1 }) 4 (Told.Sync 1) ∷ Entry.A (record { host = 0; inc = 1 }) 4 (Said.OkBy 0 21) ∷
      Entry.R (record { host = 0; inc = 1 }) 4 1 0 0 (Some 21) ∷
      Entry.G (record { host = 0; inc = 1 }) 1 Mode.Reading (record { boot = 1; number = 3 }) 6 24 ∷
      Entry.C (record { host = 0; inc = 1 }) 4 (Told.Read 1 0) ∷ Entry.A (record { host = 0; inc = 1 }) 3 Said.Ok ∷
      Entry.C (record { host = 0; inc = 1 }) 3 (Told.Sync 1) ∷ Entry.A (record { host = 1; inc = 1 }) 3 (Said.OkBy 0 17) ∷
      Entry.R (record { host = 1; inc = 1 }) 3 1 2 0 (Some 19) ∷
      Entry.G (record { host = 1; inc = 1 }) 1 Mode.Reading (record { boot = 1; number = 2 }) 6 10 ∷
      Entry.R (record { host = 1; inc = 1 }) 3 1 2 0 (Some 17) ∷
      Entry.G (record { host = 1; inc = 1 }) 1 Mode.Reading (record { boot = 1; number = 1 }) 6 10 ∷
      Entry.A (record { host = 0; inc = 1 }) 2 Said.NoEntry ∷ Entry.C (record { host = 1; inc = 1 }) 3 (Told.Read 1 2) ∷
      Entry.C (record { host = 0; inc = 1 }) 2 (Told.Lookup (99 ∷ [])) ∷
      Entry.A (record { host = 1; inc = 1 }) 2 (Said.OkBy 0 5) ∷ Entry.A (record { host = 0; inc = 1 }) 1 Said.Range ∷
      Entry.R (record { host = 1; inc = 1 }) 2 1 1 0 (Some 5) ∷
      Entry.C (record { host = 1; inc = 1 }) 2 (Told.Fetch 1 1) ∷
      Entry.C (record { host = 0; inc = 1 }) 1 (Told.Fetch 1 4) ∷ Entry.A (record { host = 1; inc = 1 }) 1 Said.Ok ∷
      Entry.W (record { host = 1; inc = 1 }) 1 3 1 1 true ∷ Entry.C (record { host = 1; inc = 1 }) 1 (Told.Put 1 3 1) ∷ [];
}

-- run 19
abbrev pub run_19 : Example
run_19 = record {
  head = record { hosts = 1; term = 10; longest = 60; files = ((99 ∷ []), 2) ∷ ((108 ∷ 111 ∷ 110 ∷ 103 ∷ 45 ∷ 110 ∷ 97 ∷ 109 ∷ 101 ∷ 95 ∷ 119 ∷ 105 ∷ 116 ∷ 104 ∷ 46 ∷ 100 ∷ 111 ∷ 116 ∷ 115 ∷ []), 3) ∷ [] };
  lines =
      one (Event.Call 0 (Call.Write 1 0 (filled 1))) ∷ one (Event.Deliver 0) ∷ one (Event.Deliver 1) ∷
      one (Event.Call 0 (Call.Fetch 1 0)) ∷ one (Event.Call 0 (Call.Put 1 0 (filled 3))) ∷ round 2 ∷
      one (Event.Deliver 2) ∷ one (Event.Deliver 3) ∷ one (Event.Deliver 4) ∷ one (Event.Deliver 5) ∷
      one (Event.Call 0 (Call.Read 1 0)) ∷ round 5 ∷ one (Event.Call 0 (Call.Put 2 0 (filled 4))) ∷ round 2 ∷
      one (Event.Deliver 7) ∷ one (Event.Deliver 8) ∷ one (Event.Deliver 9) ∷ one (Event.Deliver 10) ∷
      one (Event.Call 0 (Call.Write 1 0 (filled 5))) ∷ round 2 ∷ round 14 ∷ flow ∷ one (Event.Call 0 (Call.Sync 1)) ∷
      flow ∷ one (Event.Call 0 (Call.Read 1 0)) ∷ flow ∷ one (Event.Call 0 (Call.Sync 2)) ∷ flow ∷
      one (Event.Call 0 (Call.Read 2 0)) ∷ flow ∷ round 3 ∷ flow ∷ [];
  journal =
      Entry.A (record { host = 0; inc = 1 }) 10 (Said.OkBy 4 27) ∷
      Entry.R (record { host = 0; inc = 1 }) 10 2 0 4 (Some 27) ∷
      Entry.G (record { host = 0; inc = 1 }) 2 Mode.Reading (record { boot = 1; number = 5 }) 10 25 ∷
      Entry.C (record { host = 0; inc = 1 }) 10 (Told.Read 2 0) ∷ Entry.A (record { host = 0; inc = 1 }) 9 Said.Ok ∷
      Entry.C (record { host = 0; inc = 1 }) 9 (Told.Sync 2) ∷ Entry.A (record { host = 0; inc = 1 }) 8 (Said.OkBy 5 25) ∷
      Entry.R (record { host = 0; inc = 1 }) 8 1 0 5 (Some 25) ∷
      Entry.G (record { host = 0; inc = 1 }) 1 Mode.Writing (record { boot = 1; number = 4 }) 10 25 ∷
      Entry.C (record { host = 0; inc = 1 }) 8 (Told.Read 1 0) ∷ Entry.A (record { host = 0; inc = 1 }) 7 Said.Ok ∷
      Entry.C (record { host = 0; inc = 1 }) 7 (Told.Sync 1) ∷ Entry.S (record { host = 0; inc = 1 }) 1 0 4 4 25 ∷
      Entry.G (record { host = 0; inc = 1 }) 1 Mode.Writing (record { boot = 1; number = 3 }) 10 25 ∷
      Entry.A (record { host = 0; inc = 1 }) 6 Said.Ok ∷ Entry.W (record { host = 0; inc = 1 }) 1 0 4 5 false ∷
      Entry.C (record { host = 0; inc = 1 }) 6 (Told.Write 1 0 5) ∷ Entry.A (record { host = 0; inc = 1 }) 5 Said.Ok ∷
      Entry.W (record { host = 0; inc = 1 }) 2 0 3 4 true ∷
      Entry.G (record { host = 0; inc = 1 }) 1 Mode.Writing (record { boot = 1; number = 2 }) 10 9 ∷
      Entry.C (record { host = 0; inc = 1 }) 5 (Told.Put 2 0 4) ∷
      Entry.A (record { host = 0; inc = 1 }) 4 (Said.OkValue 3) ∷ Entry.R (record { host = 0; inc = 1 }) 4 1 0 3 None ∷
      Entry.C (record { host = 0; inc = 1 }) 4 (Told.Read 1 0) ∷ Entry.A (record { host = 0; inc = 1 }) 3 Said.Ok ∷
      Entry.S (record { host = 0; inc = 1 }) 1 0 1 2 2 ∷ Entry.W (record { host = 0; inc = 1 }) 1 0 2 3 false ∷
      Entry.C (record { host = 0; inc = 1 }) 3 (Told.Put 1 0 3) ∷
      Entry.A (record { host = 0; inc = 1 }) 2 (Said.OkValue 1) ∷ Entry.R (record { host = 0; inc = 1 }) 2 1 0 1 None ∷
      Entry.C (record { host = 0; inc = 1 }) 2 (Told.Fetch 1 0) ∷ Entry.A (record { host = 0; inc = 1 }) 1 Said.Ok ∷
      Entry.W (record { host = 0; inc = 1 }) 1 0 1 1 false ∷
      Entry.G (record { host = 0; inc = 1 }) 1 Mode.Writing (record { boot = 1; number = 1 }) 10 0 ∷
      Entry.C (record { host = 0; inc = 1 }) 1 (Told.Write 1 0 1) ∷ [];
}

-- run 20
abbrev pub run_20 : Example
run_20 = record {
  head = record { hosts = 1; term = 7; longest = 60; files = ((99 ∷ []), 7) ∷ [] };
  lines =
      times 1 Event.ServerTick ∷ one (Event.Call 0 (Call.Put 1 6 (filled 1))) ∷ one (Event.Deliver 0) ∷
      one (Event.Deliver 1) ∷ round 4 ∷ one (Event.Deliver 0) ∷ one (Event.Deliver 2) ∷ times 2 (Event.ClientTick 0) ∷
      round 13 ∷ one (Event.Call 0 (Call.Read 1 0)) ∷ times 1 (Event.ClientTick 0) ∷ one (Event.Deliver 3) ∷
      one (Event.Deliver 4) ∷ one (Event.Call 0 (Call.Sync 1)) ∷ one (Event.Deliver 4) ∷
      one (Event.Call 0 (Call.Write 1 5 (filled 2))) ∷ round 2 ∷ one (Event.Deliver 5) ∷ one (Event.Deliver 6) ∷
      one (Event.Deliver 8) ∷ one (Event.Deliver 7) ∷ one (Event.Call 0 (Call.Read 1 0)) ∷
      one (Event.Call 0 (Call.Write 1 4294967295 (filled 3))) ∷ round 2 ∷ one (Event.Deliver 9) ∷ one (Event.Deliver 10) ∷
      one (Event.Crash 60) ∷ one (Event.Deliver 4) ∷ one (Event.Call 0 (Call.Write 1 0 (filled 4))) ∷
      one (Event.Deliver 8) ∷ one (Event.Deliver 11) ∷ one (Event.Deliver 12) ∷ one (Event.Call 0 (Call.Sync 1)) ∷
      round 4 ∷ one (Event.Call 0 (Call.Put 1 3 (filled 5))) ∷ round 1 ∷ one (Event.Deliver 13) ∷ one (Event.Deliver 14) ∷
      times 2 Event.ServerTick ∷ one (Event.Deliver 15) ∷ one (Event.Deliver 16) ∷ one (Event.Deliver 17) ∷ [];
  journal =
      Entry.C (record { host = 0; inc = 1 }) 9 (Told.Put 1 3 5) ∷ Entry.A (record { host = 0; inc = 1 }) 8 Said.Ok ∷
      Entry.C (record { host = 0; inc = 1 }) 8 (Told.Sync 1) ∷ Entry.S (record { host = 0; inc = 1 }) 1 0 3 3 22 ∷
      Entry.A (record { host = 0; inc = 1 }) 7 Said.Ok ∷ Entry.W (record { host = 0; inc = 1 }) 1 0 3 4 false ∷
      Entry.C (record { host = 0; inc = 1 }) 7 (Told.Write 1 0 4) ∷ Entry.X 2 22 60 ∷
      Entry.S (record { host = 0; inc = 1 }) 1 5 2 2 22 ∷ Entry.A (record { host = 0; inc = 1 }) 6 Said.Range ∷
      Entry.C (record { host = 0; inc = 1 }) 6 (Told.Write 1 4294967295 3) ∷
      Entry.A (record { host = 0; inc = 1 }) 5 (Said.OkValue 0) ∷ Entry.R (record { host = 0; inc = 1 }) 5 1 0 0 None ∷
      Entry.C (record { host = 0; inc = 1 }) 5 (Told.Read 1 0) ∷ Entry.A (record { host = 0; inc = 1 }) 4 Said.Ok ∷
      Entry.W (record { host = 0; inc = 1 }) 1 5 2 2 false ∷
      Entry.G (record { host = 0; inc = 1 }) 1 Mode.Writing (record { boot = 1; number = 3 }) 7 20 ∷
      Entry.G (record { host = 0; inc = 1 }) 1 Mode.Writing (record { boot = 1; number = 2 }) 7 20 ∷
      Entry.C (record { host = 0; inc = 1 }) 4 (Told.Write 1 5 2) ∷ Entry.A (record { host = 0; inc = 1 }) 3 Said.Ok ∷
      Entry.C (record { host = 0; inc = 1 }) 3 (Told.Sync 1) ∷ Entry.A (record { host = 0; inc = 1 }) 2 (Said.OkBy 0 4) ∷
      Entry.R (record { host = 0; inc = 1 }) 2 1 0 0 (Some 4) ∷
      Entry.G (record { host = 0; inc = 1 }) 1 Mode.Reading (record { boot = 1; number = 1 }) 7 18 ∷
      Entry.C (record { host = 0; inc = 1 }) 2 (Told.Read 1 0) ∷ Entry.A (record { host = 0; inc = 1 }) 1 Said.Ok ∷
      Entry.W (record { host = 0; inc = 1 }) 1 6 1 1 true ∷ Entry.C (record { host = 0; inc = 1 }) 1 (Told.Put 1 6 1) ∷ [];
}

-- all of these
abbrev pub mixed_one : List Example
mixed_one =
    run_01 ∷ run_02 ∷ run_03 ∷ run_04 ∷ run_05 ∷ run_06 ∷ run_07 ∷ run_08 ∷ run_09 ∷ run_10 ∷ run_11 ∷ run_12 ∷ run_13 ∷
    run_14 ∷ run_15 ∷ run_16 ∷ run_17 ∷ run_18 ∷ run_19 ∷ run_20 ∷ []
