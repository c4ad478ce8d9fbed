use Rattle.std.specs.Prelude.{List, [], ◌∷◌, Some, true, false}
use Rattle.nq_base.specs.declared.Entry.{Entry}
use Rattle.nq_base.specs.declared.Mode.{Mode}
use Rattle.nq_base.specs.declared.Said.{Said}
use Rattle.nq_base.specs.declared.Told.{Told}

-- a lease that ended before the write
abbrev pub a_lease_that_ended_before_the_write : List Entry
a_lease_that_ended_before_the_write =
    Entry.L (record { host = 0; inc = 1 }) 1 1 2 2 ∷ Entry.S (record { host = 0; inc = 1 }) 1 0 1 1 12 ∷
    Entry.A (record { host = 0; inc = 1 }) 2 Said.Ok ∷ Entry.W (record { host = 0; inc = 1 }) 1 1 2 6 false ∷
    Entry.C (record { host = 0; inc = 1 }) 2 (Told.Write 1 1 6) ∷ Entry.A (record { host = 0; inc = 1 }) 1 Said.Ok ∷
    Entry.W (record { host = 0; inc = 1 }) 1 0 1 5 false ∷ Entry.F (record { host = 0; inc = 1 }) 1 8 12 17 ∷
    Entry.G (record { host = 0; inc = 1 }) 1 Mode.Writing (record { boot = 1; number = 1 }) 5 0 ∷
    Entry.C (record { host = 0; inc = 1 }) 1 (Told.Write 1 0 5) ∷ []

-- a lease that ended within write slack
abbrev pub a_lease_that_ended_within_write_slack : List Entry
a_lease_that_ended_within_write_slack =
    Entry.A (record { host = 0; inc = 1 }) 3 (Said.OkBy 8 12) ∷
    Entry.R (record { host = 0; inc = 1 }) 3 1 0 8 (Some 12) ∷
    Entry.G (record { host = 0; inc = 1 }) 1 Mode.Reading (record { boot = 1; number = 2 }) 5 13 ∷
    Entry.C (record { host = 0; inc = 1 }) 3 (Told.Read 1 0) ∷
    Entry.A (record { host = 0; inc = 1 }) 2 (Said.Lost (record { items = record { block = 0; first = 1; last = 1 } ∷ []; spare = 0 })) ∷
    Entry.C (record { host = 0; inc = 1 }) 2 (Told.Sync 1) ∷ Entry.L (record { host = 0; inc = 1 }) 1 0 1 1 ∷
    Entry.A (record { host = 1; inc = 1 }) 1 Said.Ok ∷ Entry.W (record { host = 1; inc = 1 }) 1 0 1 8 true ∷
    Entry.C (record { host = 1; inc = 1 }) 1 (Told.Put 1 0 8) ∷ Entry.F (record { host = 0; inc = 1 }) 1 8 0 12 ∷
    Entry.A (record { host = 0; inc = 1 }) 1 Said.Ok ∷ Entry.W (record { host = 0; inc = 1 }) 1 0 1 5 false ∷
    Entry.G (record { host = 0; inc = 1 }) 1 Mode.Writing (record { boot = 1; number = 1 }) 5 0 ∷
    Entry.C (record { host = 0; inc = 1 }) 1 (Told.Write 1 0 5) ∷ []

-- a loss with no end of the lease
abbrev pub a_loss_with_no_end_of_the_lease : List Entry
a_loss_with_no_end_of_the_lease =
    Entry.A (record { host = 0; inc = 1 }) 3 (Said.OkBy 8 12) ∷
    Entry.R (record { host = 0; inc = 1 }) 3 1 0 8 (Some 12) ∷
    Entry.G (record { host = 0; inc = 1 }) 1 Mode.Reading (record { boot = 1; number = 2 }) 5 13 ∷
    Entry.C (record { host = 0; inc = 1 }) 3 (Told.Read 1 0) ∷
    Entry.A (record { host = 0; inc = 1 }) 2 (Said.Lost (record { items = record { block = 0; first = 1; last = 1 } ∷ []; spare = 0 })) ∷
    Entry.C (record { host = 0; inc = 1 }) 2 (Told.Sync 1) ∷ Entry.L (record { host = 0; inc = 1 }) 1 0 1 1 ∷
    Entry.A (record { host = 1; inc = 1 }) 1 Said.Ok ∷ Entry.W (record { host = 1; inc = 1 }) 1 0 1 8 true ∷
    Entry.C (record { host = 1; inc = 1 }) 1 (Told.Put 1 0 8) ∷ Entry.A (record { host = 0; inc = 1 }) 1 Said.Ok ∷
    Entry.W (record { host = 0; inc = 1 }) 1 0 1 5 false ∷
    Entry.G (record { host = 0; inc = 1 }) 1 Mode.Writing (record { boot = 1; number = 1 }) 5 0 ∷
    Entry.C (record { host = 0; inc = 1 }) 1 (Told.Write 1 0 5) ∷ []

-- a recovery shorter than the term
abbrev pub a_recovery_shorter_than_the_term : List Entry
a_recovery_shorter_than_the_term =
    Entry.A (record { host = 0; inc = 1 }) 2 (Said.OkBy 0 10) ∷
    Entry.R (record { host = 0; inc = 1 }) 2 1 0 0 (Some 10) ∷
    Entry.G (record { host = 0; inc = 1 }) 1 Mode.Reading (record { boot = 2; number = 1 }) 5 108 ∷
    Entry.C (record { host = 0; inc = 1 }) 2 (Told.Read 1 0) ∷ Entry.L (record { host = 0; inc = 1 }) 1 0 1 1 ∷
    Entry.O 2 108 0 108 ∷ Entry.X 2 0 99 ∷ Entry.A (record { host = 0; inc = 1 }) 1 Said.Ok ∷
    Entry.W (record { host = 0; inc = 1 }) 1 0 1 5 false ∷
    Entry.G (record { host = 0; inc = 1 }) 1 Mode.Writing (record { boot = 1; number = 1 }) 100 0 ∷
    Entry.C (record { host = 0; inc = 1 }) 1 (Told.Write 1 0 5) ∷ []

-- a recovery that ended early
abbrev pub a_recovery_that_ended_early : List Entry
a_recovery_that_ended_early =
    Entry.A (record { host = 0; inc = 1 }) 2 (Said.OkBy 0 10) ∷
    Entry.R (record { host = 0; inc = 1 }) 2 1 0 0 (Some 10) ∷
    Entry.G (record { host = 0; inc = 1 }) 1 Mode.Reading (record { boot = 2; number = 1 }) 5 108 ∷
    Entry.C (record { host = 0; inc = 1 }) 2 (Told.Read 1 0) ∷ Entry.L (record { host = 0; inc = 1 }) 1 0 1 1 ∷
    Entry.O 2 107 0 107 ∷ Entry.X 2 0 100 ∷ Entry.A (record { host = 0; inc = 1 }) 1 Said.Ok ∷
    Entry.W (record { host = 0; inc = 1 }) 1 0 1 5 false ∷
    Entry.G (record { host = 0; inc = 1 }) 1 Mode.Writing (record { boot = 1; number = 1 }) 100 0 ∷
    Entry.C (record { host = 0; inc = 1 }) 1 (Told.Write 1 0 5) ∷ []

-- all of these
abbrev pub not_excused : List (List Entry)
not_excused =
    a_lease_that_ended_before_the_write ∷ a_lease_that_ended_within_write_slack ∷ a_loss_with_no_end_of_the_lease ∷
    a_recovery_shorter_than_the_term ∷ a_recovery_that_ended_early ∷ []
