-- The image of a kept state, of version 2: the bodies of the files stand one behind another from the first block on, and the
-- tables behind them.
use Rattle.std.specs.Prelude.{ℕ, zero, suc, ◌+◌, ◌-◌, ◌*◌, List, [], ◌∷◌, ◌++◌, length, replicate}
use Rattle.std.specs.List.{concat}
use Rattle.std.specs.Int.{w32, w64, to_be_bytes}
use Rattle.nq_base.specs.declared.Heads.{Heads}
use Rattle.nq_base.specs.declared.HostRow.{HostRow}
use Rattle.nq_base.specs.declared.Verdict.{Verdict}
use Rattle.nq_model.specs.protocol.Kept.{File, Kept, blocks_in_all, blocks_of}

-- so many zeros
unfoldable pub zeros_of : (count : ℕ) → List ℕ
zeros_of count = replicate count 0

-- the number of a verdict
abbrev pub number_of : Verdict → ℕ
number_of Verdict.Done = 0
number_of Verdict.Fenced = 1
number_of Verdict.Exist = 2
number_of Verdict.NoSpace = 3
number_of Verdict.Invalid = 4
number_of Verdict.Stale = 5
number_of Verdict.TryLater = 6

-- the 32 bytes of a host's row
unfoldable pub host_bytes : HostRow → List ℕ
host_bytes row =
    to_be_bytes w32 row.inc
    ++ (to_be_bytes w32 (number_of row.verdict) ++ (to_be_bytes w64 row.seq ++ (to_be_bytes w64 row.value ++ replicate 8 0)))

-- the rows of hosts
unfoldable pub hosts_bytes : List HostRow → List ℕ
hosts_bytes [] = []
hosts_bytes (row ∷ rows) = host_bytes row ++ hosts_bytes rows

-- the 28 bytes of a file's row behind its name. Its first block has no meaning in version 2
unfoldable pub numbers_bytes : (blocks rev : ℕ) → List ℕ
numbers_bytes blocks rev = to_be_bytes w32 blocks ++ (replicate 4 0 ++ (to_be_bytes w64 rev ++ replicate 12 0))

-- the 96 bytes of a file's row
unfoldable pub row_bytes : (name : List ℕ) (blocks rev : ℕ) → List ℕ
row_bytes name blocks rev = to_be_bytes w32 (length name) ++ ((name ++ zeros_of (64 - length name)) ++ numbers_bytes blocks rev)

-- so many rows, of which the first are those of these files
unfoldable pub rows_bytes : (count : ℕ) → List File → List ℕ
rows_bytes zero files = []
rows_bytes (suc count) [] = zeros_of 96 ++ rows_bytes count []
rows_bytes (suc count) (file ∷ files) = row_bytes file.name (blocks_of file) file.rev ++ rows_bytes count files

-- so many entries of a table, of which the first names this block
unfoldable pub entries_bytes : (count block : ℕ) → List ℕ
entries_bytes zero block = []
entries_bytes (suc count) block = to_be_bytes w32 (block + 1) ++ entries_bytes count (block + 1)

-- the table of a file with so many blocks, of which the first is this one
unfoldable pub table_bytes : (count block : ℕ) → List ℕ
table_bytes count block = entries_bytes count block ++ zeros_of (4096 - 4 * count)

-- the entries of these blocks
unfoldable pub entries_of : (blocks : List ℕ) → List ℕ
entries_of [] = []
entries_of (block ∷ blocks) = to_be_bytes w32 (block + 1) ++ entries_of blocks

-- the table of a file with these blocks, wherever they are
unfoldable pub table_of_blocks : (blocks : List ℕ) → List ℕ
table_of_blocks blocks = entries_of blocks ++ zeros_of (4096 - 4 * length blocks)

-- so many tables, of which the first are those of these files, whose blocks begin at this one
unfoldable pub tables_bytes : (count block : ℕ) → List File → List ℕ
tables_bytes zero block files = []
tables_bytes (suc count) block [] = zeros_of 4096 ++ tables_bytes count block []
tables_bytes (suc count) block (file ∷ files) = table_bytes (blocks_of file) block ++ tables_bytes count (block + blocks_of file) files

-- the ids of so many rows
unfoldable pub ids_bytes : (count : ℕ) → List File → List ℕ
ids_bytes zero files = []
ids_bytes (suc count) [] = replicate 4 0 ++ ids_bytes count []
ids_bytes (suc count) (file ∷ files) = to_be_bytes w32 file.id ++ ids_bytes count files

-- the 16 bytes of the numbers of the server
unfoldable pub heads_bytes : Heads → List ℕ
heads_bytes heads = to_be_bytes w32 heads.boot ++ (to_be_bytes w32 heads.opened ++ (to_be_bytes w32 heads.longest ++ to_be_bytes w32 heads.next))

-- the first 64 bytes; the tables begin at this block
unfoldable pub front_bytes : (tables : ℕ) → Kept → List ℕ
front_bytes tables kept =
    78 ∷ 81 ∷ 78 ∷ 70 ∷ 83 ∷ 73 ∷ 77 ∷ 50 ∷ (
    to_be_bytes w32 kept.boot
    ++ (to_be_bytes w32 kept.opened ++ (to_be_bytes w32 kept.longest ++ (to_be_bytes w32 kept.next ++ (to_be_bytes w32 tables ++ replicate 36 0))))
    )

-- the bodies of these files
unfoldable pub bodies_of : List File → List ℕ
bodies_of [] = []
bodies_of (file ∷ files) = concat file.bodies ++ bodies_of files

-- the image of a kept state: its record is closed
unfoldable pub image_of : Kept → List ℕ
image_of kept =
    front_bytes (blocks_in_all kept.files) kept
    ++ (hosts_bytes kept.hosts
    ++ (rows_bytes 256 kept.files
    ++ (zeros_of 1984
    ++ (zeros_of 12288
    ++ (bodies_of kept.files
    ++ (tables_bytes 256 0 kept.files
    ++ (ids_bytes 256 kept.files
    ++ zeros_of 3072)))))))
