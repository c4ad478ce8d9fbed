use Rattle.std.specs.Prelude.{List, [], ◌∷◌, Some, true, false}
use Rattle.nq_base.specs.declared.Entry.{Entry}
use Rattle.nq_base.specs.declared.Mode.{Mode}
use Rattle.nq_base.specs.declared.Said.{Said}
use Rattle.nq_base.specs.declared.Told.{Told}

-- a loss of nothing
abbrev pub a_loss_of_nothing : List Entry
a_loss_of_nothing =
    Entry.L (record { host = 0; inc = 1 }) 1 0 2 2 ∷ Entry.A (record { host = 0; inc = 1 }) 3 (Said.OkBy 8 12) ∷
    Entry.R (record { host = 0; inc = 1 }) 3 1 0 8 (Some 12) ∷
    Entry.G (record { host = 0; inc = 1 }) 1 Mode.Reading (record { boot = 1; number = 2 }) 5 13 ∷
    Entry.C (record { host = 0; inc = 1 }) 3 (Told.Read 1 0) ∷
    Entry.A (record { host = 0; inc = 1 }) 2 (Said.Lost (record { items = record { block = 0; first = 1; last = 1 } ∷ []; spare = 0 })) ∷
    Entry.C (record { host = 0; inc = 1 }) 2 (Told.Sync 1) ∷ Entry.L (record { host = 0; inc = 1 }) 1 0 1 1 ∷
    Entry.A (record { host = 1; inc = 1 }) 1 Said.Ok ∷ Entry.W (record { host = 1; inc = 1 }) 1 0 1 8 true ∷
    Entry.C (record { host = 1; inc = 1 }) 1 (Told.Put 1 0 8) ∷ Entry.F (record { host = 0; inc = 1 }) 1 8 0 13 ∷
    Entry.A (record { host = 0; inc = 1 }) 1 Said.Ok ∷ Entry.W (record { host = 0; inc = 1 }) 1 0 1 5 false ∷
    Entry.G (record { host = 0; inc = 1 }) 1 Mode.Writing (record { boot = 1; number = 1 }) 5 0 ∷
    Entry.C (record { host = 0; inc = 1 }) 1 (Told.Write 1 0 5) ∷ []

-- a write covered twice
abbrev pub a_write_covered_twice : List Entry
a_write_covered_twice =
    Entry.A (record { host = 0; inc = 1 }) 4 Said.Ok ∷ Entry.S (record { host = 0; inc = 1 }) 1 0 3 3 0 ∷
    Entry.S (record { host = 0; inc = 1 }) 1 0 1 3 0 ∷ Entry.C (record { host = 0; inc = 1 }) 4 (Told.Sync 1) ∷
    Entry.A (record { host = 0; inc = 1 }) 3 Said.Ok ∷ Entry.W (record { host = 0; inc = 1 }) 1 0 3 7 false ∷
    Entry.C (record { host = 0; inc = 1 }) 3 (Told.Write 1 0 7) ∷ Entry.A (record { host = 0; inc = 1 }) 2 Said.Ok ∷
    Entry.W (record { host = 0; inc = 1 }) 1 0 2 6 false ∷ Entry.C (record { host = 0; inc = 1 }) 2 (Told.Write 1 0 6) ∷
    Entry.A (record { host = 0; inc = 1 }) 1 Said.Ok ∷ Entry.W (record { host = 0; inc = 1 }) 1 0 1 5 false ∷
    Entry.G (record { host = 0; inc = 1 }) 1 Mode.Writing (record { boot = 1; number = 1 }) 30 0 ∷
    Entry.C (record { host = 0; inc = 1 }) 1 (Told.Write 1 0 5) ∷ []

-- all of these
abbrev pub not_accounted : List (List Entry)
not_accounted =
    a_loss_of_nothing ∷ a_write_covered_twice ∷ []
