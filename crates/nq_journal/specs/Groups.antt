-- Entries by what they tell of.
use Rattle.std.specs.Prelude.{Bool, true, false}
use Rattle.nq_base.specs.declared.Entry.{Entry}

-- an entry of a call: the call, its answer, or the new length that it gave
abbrev pub is_of_call : Entry → Bool
is_of_call (Entry.C who q told) = true
is_of_call (Entry.Z who q file from to) = true
is_of_call (Entry.A who q said) = true
is_of_call other = false

-- a write or a read of a block
abbrev pub is_of_block : Entry → Bool
is_of_block (Entry.W who file block number value through) = true
is_of_block (Entry.R who q file block value served) = true
is_of_block other = false

-- delayed writes that were stored or lost
abbrev pub is_of_span : Entry → Bool
is_of_span (Entry.S who file block first last now) = true
is_of_span (Entry.L who file block first last) = true
is_of_span other = false

-- a lease that was granted, or ended in silence
abbrev pub is_of_lease : Entry → Bool
is_of_lease (Entry.G who file mode tag term now) = true
is_of_lease (Entry.F who file until heard now) = true
is_of_lease other = false

-- a client or the server that begins anew, or the end of a recovery
abbrev pub is_of_start : Entry → Bool
is_of_start (Entry.B who) = true
is_of_start (Entry.O boot until heard now) = true
is_of_start (Entry.X boot now longest) = true
is_of_start other = false
