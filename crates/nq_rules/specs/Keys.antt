-- The keys by which the entries of a journal are found.
use Rattle.std.specs.Prelude.{ℕ, Bool, true, false}
use Rattle.nq_base.specs.declared.Entry.{Entry}
use Rattle.nq_base.specs.declared.Entry.TheVariants.{C, W, R, S, L, G, Z, A}
use Rattle.nq_rules.specs.declared.keys.KeyKind.{KeyKind}
use Rattle.nq_rules.specs.declared.keys.KeyKind.TheVariants.{Grants, Stores, Own, Calls, Reads, Writes, Covers, Cuts, Delays}
use Rattle.nq_rules.specs.Marks.{Spot, spot}

-- a block, whoever asks for it
abbrev pub block_spot : (file block : ℕ) → Spot
block_spot file block = ((0, 0), (file, block))

-- the file that an entry names, as its incarnation's own
abbrev pub file_spot : Entry → Spot
file_spot (G who file mode tag term now) = spot who file 0
file_spot (S who file block first last now) = spot who file 0
file_spot (L who file block first last) = spot who file 0
file_spot (W who file block number value through) = spot who file 0
file_spot other = block_spot 0 0

-- the block that it names, as its incarnation's own
abbrev pub own_spot : Entry → Spot
own_spot (W who file block number value through) = spot who file block
own_spot (R who q file block value served) = spot who file block
own_spot (S who file block first last now) = spot who file block
own_spot (L who file block first last) = spot who file block
own_spot other = block_spot 0 0

-- the call of which it tells
abbrev pub call_spot : Entry → Spot
call_spot (C who q told) = spot who q 0
call_spot (R who q file block value served) = spot who q 0
call_spot (Z who q file from to) = spot who q 0
call_spot (A who q said) = spot who q 0
call_spot other = block_spot 0 0

-- the key of an entry
abbrev pub spot_of : KeyKind → Entry → Spot
spot_of Grants entry = file_spot entry
spot_of Stores entry = file_spot entry
spot_of Delays entry = file_spot entry
spot_of Own entry = own_spot entry
spot_of Covers entry = own_spot entry
spot_of Calls entry = call_spot entry
spot_of Reads entry = call_spot entry
spot_of Writes (W who file block number value through) = block_spot file block
spot_of Writes (R who q file block value served) = block_spot file block
spot_of Cuts (Z who q file from to) = block_spot file 0
spot_of Cuts (R who q file block value served) = block_spot file 0
spot_of kind other = block_spot 0 0

-- whether links lead to an entry
abbrev pub is_member : KeyKind → Entry → Bool
is_member Grants (G who file mode tag term now) = true
is_member Stores (S who file block first last now) = true
is_member Own (W who file block number value through) = true
is_member Calls (C who q told) = true
is_member Calls (Z who q file from to) = true
is_member Calls (A who q said) = true
is_member Reads (R who q file block value served) = true
is_member Writes (W who file block number value through) = true
is_member Covers (S who file block first last now) = true
is_member Covers (L who file block first last) = true
is_member Cuts (Z who q file from to) = true
is_member Delays (W who file block number value false) = true
is_member kind other = false
