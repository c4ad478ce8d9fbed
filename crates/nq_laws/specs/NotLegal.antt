use Rattle.std.specs.Prelude.{List, [], ◌∷◌, Some, None, true, false}
use Rattle.nq_base.specs.declared.Entry.{Entry}
use Rattle.nq_base.specs.declared.Mode.{Mode}
use Rattle.nq_base.specs.declared.Said.{Said}
use Rattle.nq_base.specs.declared.Told.{Told}

-- a read of a value that was cut
abbrev pub a_read_of_a_value_that_was_cut : List Entry
a_read_of_a_value_that_was_cut =
    Entry.A (record { host = 0; inc = 1 }) 7 (Said.OkValue 2) ∷
    Entry.C (record { host = 0; inc = 1 }) 7 (Told.Create (97 ∷ []) 1) ∷
    Entry.A (record { host = 0; inc = 1 }) 6 Said.Stale ∷ Entry.C (record { host = 0; inc = 1 }) 6 (Told.Fetch 1 0) ∷
    Entry.A (record { host = 0; inc = 1 }) 5 Said.Ok ∷ Entry.Z (record { host = 0; inc = 1 }) 5 1 2 0 ∷
    Entry.C (record { host = 0; inc = 1 }) 5 (Told.Remove 1) ∷
    Entry.A (record { host = 0; inc = 1 }) 4 (Said.OkBy 5 9) ∷ Entry.R (record { host = 0; inc = 1 }) 4 1 1 5 (Some 9) ∷
    Entry.C (record { host = 0; inc = 1 }) 4 (Told.Fetch 1 1) ∷ Entry.A (record { host = 0; inc = 1 }) 3 Said.Ok ∷
    Entry.Z (record { host = 0; inc = 1 }) 3 1 1 2 ∷ Entry.C (record { host = 0; inc = 1 }) 3 (Told.Resize 1 2) ∷
    Entry.A (record { host = 0; inc = 1 }) 2 Said.Ok ∷ Entry.Z (record { host = 0; inc = 1 }) 2 1 2 1 ∷
    Entry.S (record { host = 0; inc = 1 }) 1 1 1 1 0 ∷ Entry.C (record { host = 0; inc = 1 }) 2 (Told.Resize 1 1) ∷
    Entry.A (record { host = 0; inc = 1 }) 1 Said.Ok ∷ Entry.W (record { host = 0; inc = 1 }) 1 1 1 5 false ∷
    Entry.G (record { host = 0; inc = 1 }) 1 Mode.Writing (record { boot = 1; number = 1 }) 30 0 ∷
    Entry.C (record { host = 0; inc = 1 }) 1 (Told.Write 1 1 5) ∷ []

-- a read of anothers lost write
abbrev pub a_read_of_anothers_lost_write : List Entry
a_read_of_anothers_lost_write =
    Entry.A (record { host = 1; inc = 1 }) 2 (Said.OkBy 5 12) ∷
    Entry.R (record { host = 1; inc = 1 }) 2 1 0 5 (Some 12) ∷
    Entry.G (record { host = 1; inc = 1 }) 1 Mode.Reading (record { boot = 1; number = 2 }) 5 13 ∷
    Entry.C (record { host = 1; inc = 1 }) 2 (Told.Read 1 0) ∷
    Entry.A (record { host = 0; inc = 1 }) 2 (Said.Lost (record { items = record { block = 0; first = 1; last = 1 } ∷ []; spare = 0 })) ∷
    Entry.C (record { host = 0; inc = 1 }) 2 (Told.Sync 1) ∷ Entry.L (record { host = 0; inc = 1 }) 1 0 1 1 ∷
    Entry.F (record { host = 0; inc = 1 }) 1 8 0 13 ∷ Entry.A (record { host = 0; inc = 1 }) 1 Said.Ok ∷
    Entry.W (record { host = 0; inc = 1 }) 1 0 1 5 false ∷
    Entry.G (record { host = 0; inc = 1 }) 1 Mode.Writing (record { boot = 1; number = 1 }) 5 0 ∷
    Entry.C (record { host = 0; inc = 1 }) 1 (Told.Write 1 0 5) ∷ []

-- a wrong value in a cached read
abbrev pub a_wrong_value_in_a_cached_read : List Entry
a_wrong_value_in_a_cached_read =
    Entry.A (record { host = 0; inc = 1 }) 3 Said.Range ∷ Entry.C (record { host = 0; inc = 1 }) 3 (Told.Read 1 1) ∷
    Entry.A (record { host = 0; inc = 1 }) 2 (Said.OkValue 4) ∷ Entry.R (record { host = 0; inc = 1 }) 2 1 0 4 None ∷
    Entry.C (record { host = 0; inc = 1 }) 2 (Told.Read 1 0) ∷
    Entry.A (record { host = 0; inc = 1 }) 1 (Said.OkBy 0 1) ∷ Entry.R (record { host = 0; inc = 1 }) 1 1 0 0 (Some 1) ∷
    Entry.G (record { host = 0; inc = 1 }) 1 Mode.Reading (record { boot = 1; number = 1 }) 30 0 ∷
    Entry.C (record { host = 0; inc = 1 }) 1 (Told.Read 1 0) ∷ []

-- a wrong value in a served read
abbrev pub a_wrong_value_in_a_served_read : List Entry
a_wrong_value_in_a_served_read =
    Entry.A (record { host = 1; inc = 1 }) 1 (Said.OkBy 8 3) ∷ Entry.R (record { host = 1; inc = 1 }) 1 1 0 8 (Some 3) ∷
    Entry.C (record { host = 1; inc = 1 }) 1 (Told.Fetch 1 0) ∷ Entry.A (record { host = 0; inc = 1 }) 1 Said.Ok ∷
    Entry.W (record { host = 0; inc = 1 }) 1 0 1 7 true ∷ Entry.C (record { host = 0; inc = 1 }) 1 (Told.Put 1 0 7) ∷ []

-- an answer of another value
abbrev pub an_answer_of_another_value : List Entry
an_answer_of_another_value =
    Entry.A (record { host = 1; inc = 1 }) 1 (Said.OkBy 6 3) ∷ Entry.R (record { host = 1; inc = 1 }) 1 1 0 7 (Some 3) ∷
    Entry.C (record { host = 1; inc = 1 }) 1 (Told.Fetch 1 0) ∷ Entry.A (record { host = 0; inc = 1 }) 1 Said.Ok ∷
    Entry.W (record { host = 0; inc = 1 }) 1 0 1 7 true ∷ Entry.C (record { host = 0; inc = 1 }) 1 (Told.Put 1 0 7) ∷ []

-- an answer of no read
abbrev pub an_answer_of_no_read : List Entry
an_answer_of_no_read =
    Entry.A (record { host = 1; inc = 1 }) 1 (Said.OkBy 7 4) ∷ Entry.W (record { host = 0; inc = 1 }) 1 0 1 7 true ∷
    Entry.C (record { host = 0; inc = 1 }) 1 (Told.Put 1 0 7) ∷
    Entry.R (record { host = 1; inc = 1 }) 1 1 0 0 (Some 1) ∷
    Entry.C (record { host = 1; inc = 1 }) 1 (Told.Fetch 1 0) ∷ []

-- all of these
abbrev pub not_legal : List (List Entry)
not_legal =
    a_read_of_a_value_that_was_cut ∷ a_read_of_anothers_lost_write ∷ a_wrong_value_in_a_cached_read ∷
    a_wrong_value_in_a_served_read ∷ an_answer_of_another_value ∷ an_answer_of_no_read ∷ []
