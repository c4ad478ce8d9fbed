use Rattle.std.specs.Prelude.{List, [], ◌∷◌, Some, None, true, false}
use Rattle.nq_base.specs.declared.Entry.{Entry}
use Rattle.nq_base.specs.declared.Mode.{Mode}
use Rattle.nq_base.specs.declared.Said.{Said}
use Rattle.nq_base.specs.declared.Told.{Told}

-- a read after its answer
abbrev pub a_read_after_its_answer : List Entry
a_read_after_its_answer =
    Entry.A (record { host = 0; inc = 1 }) 3 Said.Range ∷ Entry.C (record { host = 0; inc = 1 }) 3 (Told.Read 1 1) ∷
    Entry.R (record { host = 0; inc = 1 }) 2 1 0 0 None ∷ Entry.A (record { host = 0; inc = 1 }) 2 (Said.OkValue 0) ∷
    Entry.C (record { host = 0; inc = 1 }) 2 (Told.Read 1 0) ∷
    Entry.A (record { host = 0; inc = 1 }) 1 (Said.OkBy 0 1) ∷ Entry.R (record { host = 0; inc = 1 }) 1 1 0 0 (Some 1) ∷
    Entry.G (record { host = 0; inc = 1 }) 1 Mode.Reading (record { boot = 1; number = 1 }) 30 0 ∷
    Entry.C (record { host = 0; inc = 1 }) 1 (Told.Read 1 0) ∷ []

-- a repeated write number
abbrev pub a_repeated_write_number : List Entry
a_repeated_write_number =
    Entry.A (record { host = 0; inc = 1 }) 4 Said.Ok ∷ Entry.S (record { host = 0; inc = 1 }) 1 0 1 3 0 ∷
    Entry.C (record { host = 0; inc = 1 }) 4 (Told.Sync 1) ∷ Entry.A (record { host = 0; inc = 1 }) 3 Said.Ok ∷
    Entry.W (record { host = 0; inc = 1 }) 1 0 3 7 false ∷ Entry.C (record { host = 0; inc = 1 }) 3 (Told.Write 1 0 7) ∷
    Entry.A (record { host = 0; inc = 1 }) 2 Said.Ok ∷ Entry.W (record { host = 0; inc = 1 }) 1 0 1 6 false ∷
    Entry.C (record { host = 0; inc = 1 }) 2 (Told.Write 1 0 6) ∷ Entry.A (record { host = 0; inc = 1 }) 1 Said.Ok ∷
    Entry.W (record { host = 0; inc = 1 }) 1 0 1 5 false ∷
    Entry.G (record { host = 0; inc = 1 }) 1 Mode.Writing (record { boot = 1; number = 1 }) 30 0 ∷
    Entry.C (record { host = 0; inc = 1 }) 1 (Told.Write 1 0 5) ∷ []

-- a resize to another length
abbrev pub a_resize_to_another_length : List Entry
a_resize_to_another_length =
    Entry.A (record { host = 1; inc = 1 }) 2 Said.Range ∷ Entry.C (record { host = 1; inc = 1 }) 2 (Told.Read 1 1) ∷
    Entry.A (record { host = 0; inc = 1 }) 1 Said.Ok ∷ Entry.Z (record { host = 0; inc = 1 }) 1 1 2 2 ∷
    Entry.C (record { host = 0; inc = 1 }) 1 (Told.Resize 1 1) ∷
    Entry.A (record { host = 1; inc = 1 }) 1 (Said.OkBy 0 1) ∷ Entry.R (record { host = 1; inc = 1 }) 1 1 1 0 (Some 1) ∷
    Entry.G (record { host = 1; inc = 1 }) 1 Mode.Reading (record { boot = 1; number = 1 }) 30 0 ∷
    Entry.C (record { host = 1; inc = 1 }) 1 (Told.Read 1 1) ∷ []

-- a write after its answer
abbrev pub a_write_after_its_answer : List Entry
a_write_after_its_answer =
    Entry.A (record { host = 0; inc = 1 }) 4 Said.Ok ∷ Entry.S (record { host = 0; inc = 1 }) 1 0 1 3 0 ∷
    Entry.C (record { host = 0; inc = 1 }) 4 (Told.Sync 1) ∷ Entry.A (record { host = 0; inc = 1 }) 3 Said.Ok ∷
    Entry.W (record { host = 0; inc = 1 }) 1 0 3 7 false ∷ Entry.C (record { host = 0; inc = 1 }) 3 (Told.Write 1 0 7) ∷
    Entry.W (record { host = 0; inc = 1 }) 1 0 2 6 false ∷ Entry.A (record { host = 0; inc = 1 }) 2 Said.Ok ∷
    Entry.C (record { host = 0; inc = 1 }) 2 (Told.Write 1 0 6) ∷ Entry.A (record { host = 0; inc = 1 }) 1 Said.Ok ∷
    Entry.W (record { host = 0; inc = 1 }) 1 0 1 5 false ∷
    Entry.G (record { host = 0; inc = 1 }) 1 Mode.Writing (record { boot = 1; number = 1 }) 30 0 ∷
    Entry.C (record { host = 0; inc = 1 }) 1 (Told.Write 1 0 5) ∷ []

-- a write of another value
abbrev pub a_write_of_another_value : List Entry
a_write_of_another_value =
    Entry.A (record { host = 0; inc = 1 }) 4 Said.Ok ∷ Entry.S (record { host = 0; inc = 1 }) 1 0 1 3 0 ∷
    Entry.C (record { host = 0; inc = 1 }) 4 (Told.Sync 1) ∷ Entry.A (record { host = 0; inc = 1 }) 3 Said.Ok ∷
    Entry.W (record { host = 0; inc = 1 }) 1 0 3 7 false ∷ Entry.C (record { host = 0; inc = 1 }) 3 (Told.Write 1 0 7) ∷
    Entry.A (record { host = 0; inc = 1 }) 2 Said.Ok ∷ Entry.W (record { host = 0; inc = 1 }) 1 0 2 8 false ∷
    Entry.C (record { host = 0; inc = 1 }) 2 (Told.Write 1 0 6) ∷ Entry.A (record { host = 0; inc = 1 }) 1 Said.Ok ∷
    Entry.W (record { host = 0; inc = 1 }) 1 0 1 5 false ∷
    Entry.G (record { host = 0; inc = 1 }) 1 Mode.Writing (record { boot = 1; number = 1 }) 30 0 ∷
    Entry.C (record { host = 0; inc = 1 }) 1 (Told.Write 1 0 5) ∷ []

-- calls out of order
abbrev pub calls_out_of_order : List Entry
calls_out_of_order =
    Entry.C (record { host = 0; inc = 1 }) 1 (Told.Lookup (97 ∷ [])) ∷
    Entry.A (record { host = 1; inc = 1 }) 1 (Said.OkBy 7 3) ∷ Entry.R (record { host = 1; inc = 1 }) 1 1 0 7 (Some 3) ∷
    Entry.C (record { host = 1; inc = 1 }) 1 (Told.Fetch 1 0) ∷ Entry.A (record { host = 0; inc = 1 }) 1 Said.Ok ∷
    Entry.W (record { host = 0; inc = 1 }) 1 0 1 7 true ∷ Entry.C (record { host = 0; inc = 1 }) 1 (Told.Put 1 0 7) ∷ []

-- two answers to one call
abbrev pub two_answers_to_one_call : List Entry
two_answers_to_one_call =
    Entry.A (record { host = 0; inc = 1 }) 4 Said.Stale ∷ Entry.A (record { host = 0; inc = 1 }) 4 Said.Ok ∷
    Entry.S (record { host = 0; inc = 1 }) 1 0 1 3 0 ∷ Entry.C (record { host = 0; inc = 1 }) 4 (Told.Sync 1) ∷
    Entry.A (record { host = 0; inc = 1 }) 3 Said.Ok ∷ Entry.W (record { host = 0; inc = 1 }) 1 0 3 7 false ∷
    Entry.C (record { host = 0; inc = 1 }) 3 (Told.Write 1 0 7) ∷ Entry.A (record { host = 0; inc = 1 }) 2 Said.Ok ∷
    Entry.W (record { host = 0; inc = 1 }) 1 0 2 6 false ∷ Entry.C (record { host = 0; inc = 1 }) 2 (Told.Write 1 0 6) ∷
    Entry.A (record { host = 0; inc = 1 }) 1 Said.Ok ∷ Entry.W (record { host = 0; inc = 1 }) 1 0 1 5 false ∷
    Entry.G (record { host = 0; inc = 1 }) 1 Mode.Writing (record { boot = 1; number = 1 }) 30 0 ∷
    Entry.C (record { host = 0; inc = 1 }) 1 (Told.Write 1 0 5) ∷ []

-- two calls at once
abbrev pub two_calls_at_once : List Entry
two_calls_at_once =
    Entry.A (record { host = 0; inc = 1 }) 8 (Said.OkValue 2) ∷
    Entry.C (record { host = 0; inc = 1 }) 8 (Told.Create (99 ∷ []) 4) ∷
    Entry.A (record { host = 0; inc = 1 }) 7 Said.Range ∷
    Entry.C (record { host = 0; inc = 1 }) 7 (Told.Create (99 ∷ []) 1025) ∷
    Entry.A (record { host = 0; inc = 1 }) 6 Said.Range ∷ Entry.C (record { host = 0; inc = 1 }) 6 (Told.Fetch 1 1) ∷
    Entry.A (record { host = 0; inc = 1 }) 5 Said.Stale ∷ Entry.C (record { host = 0; inc = 1 }) 5 (Told.Fetch 9 0) ∷
    Entry.A (record { host = 0; inc = 1 }) 4 (Said.OkValue 1) ∷ Entry.C (record { host = 0; inc = 1 }) 4 (Told.Attr 1) ∷
    Entry.A (record { host = 0; inc = 1 }) 3 Said.NoEntry ∷
    Entry.C (record { host = 0; inc = 1 }) 3 (Told.Lookup (122 ∷ 122 ∷ [])) ∷
    Entry.A (record { host = 0; inc = 1 }) 2 Said.Busy ∷ Entry.A (record { host = 0; inc = 1 }) 1 Said.Exists ∷
    Entry.C (record { host = 0; inc = 1 }) 2 (Told.Lookup (97 ∷ [])) ∷
    Entry.C (record { host = 0; inc = 1 }) 1 (Told.Create (97 ∷ []) 4) ∷ []

-- two writes of one call
abbrev pub two_writes_of_one_call : List Entry
two_writes_of_one_call =
    Entry.A (record { host = 0; inc = 1 }) 4 Said.Ok ∷ Entry.S (record { host = 0; inc = 1 }) 1 0 1 4 0 ∷
    Entry.C (record { host = 0; inc = 1 }) 4 (Told.Sync 1) ∷ Entry.A (record { host = 0; inc = 1 }) 3 Said.Ok ∷
    Entry.W (record { host = 0; inc = 1 }) 1 0 4 7 false ∷ Entry.W (record { host = 0; inc = 1 }) 1 0 3 7 false ∷
    Entry.C (record { host = 0; inc = 1 }) 3 (Told.Write 1 0 7) ∷ Entry.A (record { host = 0; inc = 1 }) 2 Said.Ok ∷
    Entry.W (record { host = 0; inc = 1 }) 1 0 2 6 false ∷ Entry.C (record { host = 0; inc = 1 }) 2 (Told.Write 1 0 6) ∷
    Entry.A (record { host = 0; inc = 1 }) 1 Said.Ok ∷ Entry.W (record { host = 0; inc = 1 }) 1 0 1 5 false ∷
    Entry.G (record { host = 0; inc = 1 }) 1 Mode.Writing (record { boot = 1; number = 1 }) 30 0 ∷
    Entry.C (record { host = 0; inc = 1 }) 1 (Told.Write 1 0 5) ∷ []

-- all of these
abbrev pub not_ordered : List (List Entry)
not_ordered =
    a_read_after_its_answer ∷ a_repeated_write_number ∷ a_resize_to_another_length ∷ a_write_after_its_answer ∷
    a_write_of_another_value ∷ calls_out_of_order ∷ two_answers_to_one_call ∷ two_calls_at_once ∷
    two_writes_of_one_call ∷ []
