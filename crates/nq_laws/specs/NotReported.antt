use Rattle.std.specs.Prelude.{List, [], ◌∷◌, Some, true, false}
use Rattle.nq_base.specs.declared.Entry.{Entry}
use Rattle.nq_base.specs.declared.Mode.{Mode}
use Rattle.nq_base.specs.declared.Said.{Said}
use Rattle.nq_base.specs.declared.Told.{Told}

-- a loss named late
abbrev pub a_loss_named_late : List Entry
a_loss_named_late =
    Entry.A (record { host = 0; inc = 1 }) 3 (Said.OkBy 8 12) ∷
    Entry.R (record { host = 0; inc = 1 }) 3 1 0 8 (Some 12) ∷
    Entry.G (record { host = 0; inc = 1 }) 1 Mode.Reading (record { boot = 1; number = 2 }) 5 13 ∷
    Entry.C (record { host = 0; inc = 1 }) 3 (Told.Read 1 0) ∷
    Entry.A (record { host = 0; inc = 1 }) 2 (Said.Lost (record { items = record { block = 0; first = 1; last = 1 } ∷ []; spare = 0 })) ∷
    Entry.B (record { host = 1; inc = 2 }) ∷ Entry.C (record { host = 0; inc = 1 }) 2 (Told.Sync 1) ∷
    Entry.L (record { host = 0; inc = 1 }) 1 0 1 1 ∷ Entry.A (record { host = 1; inc = 1 }) 1 Said.Ok ∷
    Entry.W (record { host = 1; inc = 1 }) 1 0 1 8 true ∷ Entry.C (record { host = 1; inc = 1 }) 1 (Told.Put 1 0 8) ∷
    Entry.F (record { host = 0; inc = 1 }) 1 8 0 13 ∷ Entry.A (record { host = 0; inc = 1 }) 1 Said.Ok ∷
    Entry.W (record { host = 0; inc = 1 }) 1 0 1 5 false ∷
    Entry.G (record { host = 0; inc = 1 }) 1 Mode.Writing (record { boot = 1; number = 1 }) 5 0 ∷
    Entry.C (record { host = 0; inc = 1 }) 1 (Told.Write 1 0 5) ∷ []

-- a loss named twice
abbrev pub a_loss_named_twice : List Entry
a_loss_named_twice =
    Entry.A (record { host = 0; inc = 1 }) 4 (Said.Lost (record { items = record { block = 0; first = 1; last = 1 } ∷ []; spare = 0 })) ∷
    Entry.C (record { host = 0; inc = 1 }) 4 (Told.Sync 1) ∷ Entry.A (record { host = 0; inc = 1 }) 3 (Said.OkBy 8 12) ∷
    Entry.R (record { host = 0; inc = 1 }) 3 1 0 8 (Some 12) ∷
    Entry.G (record { host = 0; inc = 1 }) 1 Mode.Reading (record { boot = 1; number = 2 }) 5 13 ∷
    Entry.C (record { host = 0; inc = 1 }) 3 (Told.Read 1 0) ∷
    Entry.A (record { host = 0; inc = 1 }) 2 (Said.Lost (record { items = record { block = 0; first = 1; last = 1 } ∷ []; spare = 0 })) ∷
    Entry.C (record { host = 0; inc = 1 }) 2 (Told.Sync 1) ∷ Entry.L (record { host = 0; inc = 1 }) 1 0 1 1 ∷
    Entry.A (record { host = 1; inc = 1 }) 1 Said.Ok ∷ Entry.W (record { host = 1; inc = 1 }) 1 0 1 8 true ∷
    Entry.C (record { host = 1; inc = 1 }) 1 (Told.Put 1 0 8) ∷ Entry.F (record { host = 0; inc = 1 }) 1 8 0 13 ∷
    Entry.A (record { host = 0; inc = 1 }) 1 Said.Ok ∷ Entry.W (record { host = 0; inc = 1 }) 1 0 1 5 false ∷
    Entry.G (record { host = 0; inc = 1 }) 1 Mode.Writing (record { boot = 1; number = 1 }) 5 0 ∷
    Entry.C (record { host = 0; inc = 1 }) 1 (Told.Write 1 0 5) ∷ []

-- a loss that nobody names
abbrev pub a_loss_that_nobody_names : List Entry
a_loss_that_nobody_names =
    Entry.A (record { host = 0; inc = 1 }) 3 (Said.OkBy 8 12) ∷
    Entry.R (record { host = 0; inc = 1 }) 3 1 0 8 (Some 12) ∷
    Entry.G (record { host = 0; inc = 1 }) 1 Mode.Reading (record { boot = 1; number = 2 }) 5 13 ∷
    Entry.C (record { host = 0; inc = 1 }) 3 (Told.Read 1 0) ∷ Entry.A (record { host = 0; inc = 1 }) 2 Said.DirtyFull ∷
    Entry.C (record { host = 0; inc = 1 }) 2 (Told.Write 1 0 6) ∷ Entry.L (record { host = 0; inc = 1 }) 1 0 1 1 ∷
    Entry.A (record { host = 1; inc = 1 }) 1 Said.Ok ∷ Entry.W (record { host = 1; inc = 1 }) 1 0 1 8 true ∷
    Entry.C (record { host = 1; inc = 1 }) 1 (Told.Put 1 0 8) ∷ Entry.F (record { host = 0; inc = 1 }) 1 8 0 13 ∷
    Entry.A (record { host = 0; inc = 1 }) 1 Said.Ok ∷ Entry.W (record { host = 0; inc = 1 }) 1 0 1 5 false ∷
    Entry.G (record { host = 0; inc = 1 }) 1 Mode.Writing (record { boot = 1; number = 1 }) 5 0 ∷
    Entry.C (record { host = 0; inc = 1 }) 1 (Told.Write 1 0 5) ∷ []

-- a name of no loss
abbrev pub a_name_of_no_loss : List Entry
a_name_of_no_loss =
    Entry.A (record { host = 0; inc = 1 }) 3 (Said.OkBy 8 12) ∷
    Entry.R (record { host = 0; inc = 1 }) 3 1 0 8 (Some 12) ∷
    Entry.G (record { host = 0; inc = 1 }) 1 Mode.Reading (record { boot = 1; number = 2 }) 5 13 ∷
    Entry.C (record { host = 0; inc = 1 }) 3 (Told.Read 1 0) ∷
    Entry.A (record { host = 0; inc = 1 }) 2 (Said.Lost (record { items = record { block = 0; first = 1; last = 1 } ∷ record { block = 0; first = 2; last = 2 } ∷ []; spare = 0 })) ∷
    Entry.C (record { host = 0; inc = 1 }) 2 (Told.Sync 1) ∷ Entry.L (record { host = 0; inc = 1 }) 1 0 1 1 ∷
    Entry.A (record { host = 1; inc = 1 }) 1 Said.Ok ∷ Entry.W (record { host = 1; inc = 1 }) 1 0 1 8 true ∷
    Entry.C (record { host = 1; inc = 1 }) 1 (Told.Put 1 0 8) ∷ Entry.F (record { host = 0; inc = 1 }) 1 8 0 13 ∷
    Entry.A (record { host = 0; inc = 1 }) 1 Said.Ok ∷ Entry.W (record { host = 0; inc = 1 }) 1 0 1 5 false ∷
    Entry.G (record { host = 0; inc = 1 }) 1 Mode.Writing (record { boot = 1; number = 1 }) 5 0 ∷
    Entry.C (record { host = 0; inc = 1 }) 1 (Told.Write 1 0 5) ∷ []

-- all of these
abbrev pub not_reported : List (List Entry)
not_reported =
    a_loss_named_late ∷ a_loss_named_twice ∷ a_loss_that_nobody_names ∷ a_name_of_no_loss ∷ []
