use Rattle.std.specs.Prelude.{List, [], ◌∷◌, Some, true}
use Rattle.nq_base.specs.declared.Entry.{Entry}
use Rattle.nq_base.specs.declared.Said.{Said}
use Rattle.nq_base.specs.declared.Told.{Told}

-- a read of another block
abbrev pub a_read_of_another_block : List Entry
a_read_of_another_block =
    Entry.A (record { host = 1; inc = 1 }) 1 (Said.OkBy 0 3) ∷ Entry.R (record { host = 1; inc = 1 }) 1 1 1 0 (Some 3) ∷
    Entry.C (record { host = 1; inc = 1 }) 1 (Told.Fetch 1 0) ∷ Entry.A (record { host = 0; inc = 1 }) 1 Said.Ok ∷
    Entry.W (record { host = 0; inc = 1 }) 1 0 1 7 true ∷ Entry.C (record { host = 0; inc = 1 }) 1 (Told.Put 1 0 7) ∷ []

-- all of these
abbrev pub not_of_their_call : List (List Entry)
not_of_their_call =
    a_read_of_another_block ∷ []
