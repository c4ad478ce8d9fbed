use Rattle.std.specs.Prelude.{List, [], ◌∷◌, Some, false}
use Rattle.nq_base.specs.declared.Entry.{Entry}
use Rattle.nq_base.specs.declared.Mode.{Mode}
use Rattle.nq_base.specs.declared.Said.{Said}
use Rattle.nq_base.specs.declared.Told.{Told}

-- a put answered before its store
abbrev pub a_put_answered_before_its_store : List Entry
a_put_answered_before_its_store =
    Entry.A (record { host = 0; inc = 1 }) 5 (Said.Lost (record { items = record { block = 0; first = 2; last = 2 } ∷ []; spare = 0 })) ∷
    Entry.C (record { host = 0; inc = 1 }) 5 (Told.Sync 1) ∷ Entry.S (record { host = 0; inc = 1 }) 1 0 3 3 38 ∷
    Entry.A (record { host = 0; inc = 1 }) 4 Said.Ok ∷ Entry.W (record { host = 0; inc = 1 }) 1 0 3 7 false ∷
    Entry.L (record { host = 0; inc = 1 }) 1 0 2 2 ∷
    Entry.G (record { host = 0; inc = 1 }) 1 Mode.Writing (record { boot = 1; number = 2 }) 30 38 ∷
    Entry.C (record { host = 0; inc = 1 }) 4 (Told.Put 1 0 7) ∷ Entry.F (record { host = 0; inc = 1 }) 1 33 0 38 ∷
    Entry.A (record { host = 0; inc = 1 }) 3 Said.Ok ∷ Entry.W (record { host = 0; inc = 1 }) 1 0 2 6 false ∷
    Entry.C (record { host = 0; inc = 1 }) 3 (Told.Write 1 0 6) ∷ Entry.A (record { host = 0; inc = 1 }) 2 Said.Ok ∷
    Entry.S (record { host = 0; inc = 1 }) 1 0 1 1 0 ∷ Entry.C (record { host = 0; inc = 1 }) 2 (Told.Sync 1) ∷
    Entry.A (record { host = 0; inc = 1 }) 1 Said.Ok ∷ Entry.W (record { host = 0; inc = 1 }) 1 0 1 5 false ∷
    Entry.G (record { host = 0; inc = 1 }) 1 Mode.Writing (record { boot = 1; number = 1 }) 30 0 ∷
    Entry.C (record { host = 0; inc = 1 }) 1 (Told.Write 1 0 5) ∷ []

-- a put answered with no write
abbrev pub a_put_answered_with_no_write : List Entry
a_put_answered_with_no_write =
    Entry.A (record { host = 1; inc = 1 }) 1 (Said.OkBy 0 3) ∷ Entry.R (record { host = 1; inc = 1 }) 1 1 0 0 (Some 3) ∷
    Entry.C (record { host = 1; inc = 1 }) 1 (Told.Fetch 1 0) ∷ Entry.A (record { host = 0; inc = 1 }) 1 Said.Ok ∷
    Entry.C (record { host = 0; inc = 1 }) 1 (Told.Put 1 0 7) ∷ []

-- a removal that was not made
abbrev pub a_removal_that_was_not_made : List Entry
a_removal_that_was_not_made =
    Entry.A (record { host = 0; inc = 1 }) 7 (Said.OkValue 2) ∷
    Entry.C (record { host = 0; inc = 1 }) 7 (Told.Create (97 ∷ []) 1) ∷
    Entry.A (record { host = 0; inc = 1 }) 6 Said.Stale ∷ Entry.C (record { host = 0; inc = 1 }) 6 (Told.Fetch 1 0) ∷
    Entry.A (record { host = 0; inc = 1 }) 5 Said.Ok ∷ Entry.C (record { host = 0; inc = 1 }) 5 (Told.Remove 1) ∷
    Entry.A (record { host = 0; inc = 1 }) 4 (Said.OkBy 0 9) ∷ Entry.R (record { host = 0; inc = 1 }) 4 1 1 0 (Some 9) ∷
    Entry.C (record { host = 0; inc = 1 }) 4 (Told.Fetch 1 1) ∷ Entry.A (record { host = 0; inc = 1 }) 3 Said.Ok ∷
    Entry.Z (record { host = 0; inc = 1 }) 3 1 1 2 ∷ Entry.C (record { host = 0; inc = 1 }) 3 (Told.Resize 1 2) ∷
    Entry.A (record { host = 0; inc = 1 }) 2 Said.Ok ∷ Entry.Z (record { host = 0; inc = 1 }) 2 1 2 1 ∷
    Entry.S (record { host = 0; inc = 1 }) 1 1 1 1 0 ∷ Entry.C (record { host = 0; inc = 1 }) 2 (Told.Resize 1 1) ∷
    Entry.A (record { host = 0; inc = 1 }) 1 Said.Ok ∷ Entry.W (record { host = 0; inc = 1 }) 1 1 1 5 false ∷
    Entry.G (record { host = 0; inc = 1 }) 1 Mode.Writing (record { boot = 1; number = 1 }) 30 0 ∷
    Entry.C (record { host = 0; inc = 1 }) 1 (Told.Write 1 1 5) ∷ []

-- a resize answered before its store
abbrev pub a_resize_answered_before_its_store : List Entry
a_resize_answered_before_its_store =
    Entry.A (record { host = 0; inc = 1 }) 7 (Said.OkValue 2) ∷
    Entry.C (record { host = 0; inc = 1 }) 7 (Told.Create (97 ∷ []) 1) ∷
    Entry.A (record { host = 0; inc = 1 }) 6 Said.Stale ∷ Entry.C (record { host = 0; inc = 1 }) 6 (Told.Fetch 1 0) ∷
    Entry.A (record { host = 0; inc = 1 }) 5 Said.Ok ∷ Entry.Z (record { host = 0; inc = 1 }) 5 1 2 0 ∷
    Entry.C (record { host = 0; inc = 1 }) 5 (Told.Remove 1) ∷
    Entry.A (record { host = 0; inc = 1 }) 4 (Said.OkBy 0 9) ∷ Entry.R (record { host = 0; inc = 1 }) 4 1 1 0 (Some 9) ∷
    Entry.C (record { host = 0; inc = 1 }) 4 (Told.Fetch 1 1) ∷ Entry.A (record { host = 0; inc = 1 }) 3 Said.Ok ∷
    Entry.Z (record { host = 0; inc = 1 }) 3 1 1 2 ∷ Entry.C (record { host = 0; inc = 1 }) 3 (Told.Resize 1 2) ∷
    Entry.A (record { host = 0; inc = 1 }) 2 Said.Ok ∷ Entry.S (record { host = 0; inc = 1 }) 1 1 1 1 0 ∷
    Entry.Z (record { host = 0; inc = 1 }) 2 1 2 1 ∷ Entry.C (record { host = 0; inc = 1 }) 2 (Told.Resize 1 1) ∷
    Entry.A (record { host = 0; inc = 1 }) 1 Said.Ok ∷ Entry.W (record { host = 0; inc = 1 }) 1 1 1 5 false ∷
    Entry.G (record { host = 0; inc = 1 }) 1 Mode.Writing (record { boot = 1; number = 1 }) 30 0 ∷
    Entry.C (record { host = 0; inc = 1 }) 1 (Told.Write 1 1 5) ∷ []

-- a sync answered before its store
abbrev pub a_sync_answered_before_its_store : List Entry
a_sync_answered_before_its_store =
    Entry.A (record { host = 0; inc = 1 }) 4 Said.Ok ∷ Entry.C (record { host = 0; inc = 1 }) 4 (Told.Sync 1) ∷
    Entry.A (record { host = 0; inc = 1 }) 3 Said.Ok ∷ Entry.W (record { host = 0; inc = 1 }) 1 0 3 7 false ∷
    Entry.C (record { host = 0; inc = 1 }) 3 (Told.Write 1 0 7) ∷ Entry.A (record { host = 0; inc = 1 }) 2 Said.Ok ∷
    Entry.W (record { host = 0; inc = 1 }) 1 0 2 6 false ∷ Entry.C (record { host = 0; inc = 1 }) 2 (Told.Write 1 0 6) ∷
    Entry.A (record { host = 0; inc = 1 }) 1 Said.Ok ∷ Entry.W (record { host = 0; inc = 1 }) 1 0 1 5 false ∷
    Entry.G (record { host = 0; inc = 1 }) 1 Mode.Writing (record { boot = 1; number = 1 }) 30 0 ∷
    Entry.C (record { host = 0; inc = 1 }) 1 (Told.Write 1 0 5) ∷ []

-- all of these
abbrev pub not_synchronized : List (List Entry)
not_synchronized =
    a_put_answered_before_its_store ∷ a_put_answered_with_no_write ∷ a_removal_that_was_not_made ∷
    a_resize_answered_before_its_store ∷ a_sync_answered_before_its_store ∷ []
