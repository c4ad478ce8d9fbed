-- Changes of the kept state. Whatever a step of the server keeps, it keeps in one change, which is whole or nothing.
use Rattle.std.specs.Prelude.{◌≡◌, ◌≤◌, ◌<◌, ◌^◌, ℕ, ◌+◌, ◌==◌, List, [], ◌∷◌, ◌++◌, Option, Some, None, All, IfSome, IsSome, find, length, nat_lt}
use Rattle.std.specs.Prelude.{slice_set, if◌then◌else◌}
use Rattle.nq_base.specs.Name.{IsName}
use Rattle.nq_base.specs.declared.BlockChange.{BlockChange}
use Rattle.nq_base.specs.declared.Change.{Change}
use Rattle.nq_base.specs.declared.FileRow.{FileRow}
use Rattle.nq_base.specs.declared.Heads.{Heads}
use Rattle.nq_base.specs.declared.HostChange.{HostChange}
use Rattle.nq_base.specs.declared.HostRow.{HostRow}
use Rattle.nq_base.specs.declared.Space.{Space}
use Rattle.nq_model.specs.protocol.Kept.{File, Kept, blocks_of, blocks_in_all, find_file, find_name, replace_file, drop_file, resized}
use Rattle.nq_model.specs.protocol.Profile.{shortest_term, longest_term, most_hosts, most_files, most_blocks, most_blocks_of_file, most_ids, inc_end, seq_end}
use Rattle.nq_model.specs.protocol.Profile.{rev_end}

-- a file without its blocks
abbrev pub row_of : File → FileRow
row_of file = record { id = file.id; name = file.name; blocks = blocks_of file; rev = file.rev }

-- the row of a file whose revision rises, with so many blocks
unfoldable pub raised_row : FileRow → (blocks : ℕ) → FileRow
raised_row row blocks = record row { blocks = blocks; rev = row.rev + 1 }

-- the file with the least id above this one; the files stand in order of their ids
abbrev pub file_after : (id : ℕ) → List File → Option File
file_after id files = find (λ f. nat_lt id f.id) files

-- the row of a kept file, None where the file is not kept
abbrev pub row_of_found : Option File → Option FileRow
row_of_found None = None
row_of_found (Some file) = Some (row_of file)

-- the numbers that a server keeps over its boots
abbrev pub heads_of : Kept → Heads
heads_of kept = record { boot = kept.boot; opened = kept.opened; longest = kept.longest; next = kept.next }

-- how many files are kept, and how many blocks
abbrev pub space_of : Kept → Space
space_of kept = record { files = length kept.files; blocks = blocks_in_all kept.files }

-- the file of a row, out of bodies that are cut, or to which zeros are added, until there are as many as the row says
unfoldable pub file_of : FileRow → List (List ℕ) → File
file_of row bodies = record { id = row.id; name = row.name; rev = row.rev; bodies = resized row.blocks bodies }

-- the files with a row's file: it takes the place of the kept one of its id, with that one's bodies, or is a new one
abbrev pub with_file_at : FileRow → List File → Option File → List File
with_file_at row files None = files ++ file_of row [] ∷ []
with_file_at row files (Some file) = replace_file (file_of row file.bodies) files

abbrev pub with_file : FileRow → List File → List File
with_file row files = with_file_at row files (find_file row.id files)

-- the files with another body of a block
unfoldable pub with_body : File → (block : ℕ) (body : List ℕ) → File
with_body file block body = record file { bodies = slice_set file.bodies block body }

abbrev pub with_block_in : BlockChange → List File → Option File → List File
with_block_in change files None = files
with_block_in change files (Some file) = replace_file (with_body file change.block change.body) files

abbrev pub with_block : BlockChange → List File → List File
with_block change files = with_block_in change files (find_file change.file files)

-- the files after the parts of a change: first one is taken away, then one is put there, then a block gets its body
abbrev pub files_without : Option ℕ → List File → List File
files_without None files = files
files_without (Some id) files = drop_file id files

abbrev pub files_with : Option FileRow → List File → List File
files_with None files = files
files_with (Some row) files = with_file row files

abbrev pub blocks_with : Option BlockChange → List File → List File
blocks_with None files = files
blocks_with (Some change) files = with_block change files

-- the rows of the hosts after a change
abbrev pub hosts_with : Option HostChange → List HostRow → List HostRow
hosts_with None hosts = hosts
hosts_with (Some change) hosts = slice_set hosts change.host change.row

-- the numbers of the server after a change
abbrev pub heads_with : Option Heads → Heads → Heads
heads_with None heads = heads
heads_with (Some changed) heads = changed

-- a kept state with these files, host rows and numbers
unfoldable pub kept_as : List File → List HostRow → Heads → Kept
kept_as files hosts heads = record {
  files = files;
  hosts = hosts;
  boot = heads.boot;
  opened = heads.opened;
  longest = heads.longest;
  next = heads.next;
}

-- the kept state after a change
abbrev pub applied : Kept → Change → Kept
applied kept change =
    kept_as
    (blocks_with change.block (files_with change.file (files_without change.removed kept.files)))
    (hosts_with change.host kept.hosts)
    (heads_with change.heads (heads_of kept))

-- the kept state after a change, if there is one
abbrev pub applied_if : Kept → Option Change → Kept
applied_if kept None = kept
applied_if kept (Some change) = applied kept change

-- the change that changes nothing
unfoldable pub no_change : Change
no_change = record { file = None; block = None; host = None; heads = None; removed = None }

-- the change of the server's numbers alone
unfoldable pub change_of_heads : Heads → Change
change_of_heads heads = record { file = None; block = None; host = None; heads = Some heads; removed = None }

-- the numbers after a boot: its own rises, and where none served before it serves at once, and is kept as one that did
abbrev pub booted_heads : Kept → (longest : ℕ) → Heads
booted_heads kept longest =
    if kept.opened == 0
    then record { boot = kept.boot + 1; opened = kept.boot + 1; longest = longest; next = kept.next }
    else record { boot = kept.boot + 1; opened = kept.opened; longest = kept.longest; next = kept.next }

-- the numbers after a recovery: the boot is kept as one that served, with its longest term
unfoldable pub opened_heads : Kept → (longest : ℕ) → Heads
opened_heads kept longest = record { boot = kept.boot; opened = kept.boot; longest = longest; next = kept.next }

-- the change by which a file is fenced: its revision rises, so that no older write is stored any more
unfoldable pub fencing : FileRow → Change
fencing row = record {
  file = Some (raised_row row row.blocks);
  block = None;
  host = None;
  heads = None;
  removed = None;
}

abbrev pub fencing_of : Option FileRow → Option Change
fencing_of None = None
fencing_of (Some row) = Some (fencing row)

-- the next id is raised by one
abbrev pub RaisesNext : Kept → Option Heads → Type 0
RaisesNext kept None = ⊥
RaisesNext kept (Some heads) = heads.next ≡ kept.next + 1

-- a row is that of a kept file, whose name stays, or of a new one, which takes the next id and a name that no kept file has
abbrev pub IsRowOf : Kept → Option Heads → FileRow → Option File → Type 0
IsRowOf kept heads row (Some file) = row.name ≡ file.name
IsRowOf kept heads row None =
    (row.id ≡ kept.next) × (find_name row.name kept.files ≡ None) × RaisesNext kept heads

-- a file row can be kept: its length is one that a file can have, and with it there are not too many files and blocks
pub record FitsFile (kept : Kept) (heads : Option Heads) (row : FileRow) : Type 0 where
  pub of_file : IsRowOf kept heads row (find_file row.id kept.files)
  pub not_empty : 1 ≤ row.blocks
  pub short : row.blocks ≤ most_blocks_of_file
  pub few_files : length (with_file row kept.files) ≤ most_files
  pub few_blocks : blocks_in_all (with_file row kept.files) ≤ most_blocks

-- a block is one that the file has
abbrev pub HasBlock : (block : ℕ) → Option File → Type 0
HasBlock block None = ⊥
HasBlock block (Some file) = block < blocks_of file

-- a file that is taken away is kept, and nothing else of the files changes
pub record FitsRemoval (kept : Kept) (change : Change) (id : ℕ) : Type 0 where
  pub is_kept : IsSome (find_file id kept.files)
  pub no_file : change.file ≡ None
  pub no_block : change.block ≡ None

-- a change can be kept. The block is one that its file has after the change, and the next id does not fall
pub record Fits (kept : Kept) (change : Change) : Type 0 where
  pub file : IfSome change.file (FitsFile kept change.heads)
  pub block : IfSome change.block (λ b. HasBlock b.block (find_file b.file (files_with change.file kept.files)))
  pub host : IfSome change.host (λ h. h.host < most_hosts)
  pub heads : IfSome change.heads (λ heads. kept.next ≤ heads.next)
  pub removed : IfSome change.removed (FitsRemoval kept change)

-- what is kept is changed once at most, by a change that can be kept
pub record IsChangedOnce (before after : Kept) : Type 0 where
  pub change : Option Change
  pub is_applied : after ≡ applied_if before change
  pub fits : IfSome change (Fits before)

-- a body is 4096 bytes
pub record IsBody (body : List ℕ) : Type 0 where
  pub size : length body ≡ 4096
  pub bytes : All (λ byte. byte < 256) body

-- the numbers of a file are within their bounds
pub record IsFileWithin (next : ℕ) (file : File) : Type 0 where
  pub from_one : 1 ≤ file.id
  pub below_next : file.id < next
  pub name : IsName file.name
  pub rev : file.rev < rev_end
  pub not_empty : 1 ≤ blocks_of file
  pub short : blocks_of file ≤ most_blocks_of_file
  pub bodies : All IsBody file.bodies

-- the files stand in order of their ids, each id once, and each name is that of one file
abbrev pub AreApart : List File → Type 0
AreApart [] = Unit {0}
AreApart (file ∷ files) =
    All (λ later. file.id < later.id) files × (find_name file.name files ≡ None) × AreApart files

-- the numbers of a host's row are within their bounds
pub record IsHostWithin (row : HostRow) : Type 0 where
  pub inc : row.inc < inc_end
  pub seq : row.seq < seq_end
  pub value : row.value < 2 ^ 64

-- the next id is that of no kept file
abbrev pub IsNextFree : Kept → Type 0
IsNextFree kept = find_file kept.next kept.files ≡ None

-- the shape of a kept state, whatever was kept in it: the files stand in order of their ids, which are below the next one;
-- each has a length that a file can have and a name of its own; there are not too many files and blocks; each host has a row
pub record IsOrderly (kept : Kept) : Type 0 where
  pub apart : AreApart kept.files
  pub below : All (λ file. file.id < kept.next) kept.files
  pub lengths : All (λ file. (1 ≤ blocks_of file) × (blocks_of file ≤ most_blocks_of_file)) kept.files
  pub few_files : length kept.files ≤ most_files
  pub few_blocks : blocks_in_all kept.files ≤ most_blocks
  pub all_hosts : length kept.hosts ≡ most_hosts

-- the kept numbers are within their bounds: those that an image can have
pub record IsWithinBounds (kept : Kept) : Type 0 where
  pub files : All (IsFileWithin kept.next) kept.files
  pub apart : AreApart kept.files
  pub few_files : length kept.files ≤ most_files
  pub few_blocks : blocks_in_all kept.files ≤ most_blocks
  pub hosts : All IsHostWithin kept.hosts
  pub all_hosts : length kept.hosts ≡ most_hosts
  pub opened : kept.opened ≤ kept.boot
  pub boot : kept.boot < 2 ^ 31
  pub long : shortest_term ≤ kept.longest
  pub short : kept.longest ≤ longest_term
  pub ids : 1 ≤ kept.next
  pub few_ids : kept.next ≤ most_ids

-- the server's numbers are within their bounds, and the next id does not fall
pub record AreHeadsWithin (next : ℕ) (heads : Heads) : Type 0 where
  pub opened : heads.opened ≤ heads.boot
  pub boot : heads.boot < 2 ^ 31
  pub long : shortest_term ≤ heads.longest
  pub short : heads.longest ≤ longest_term
  pub ids : next ≤ heads.next
  pub few_ids : heads.next ≤ most_ids

-- the numbers of a change are within their bounds
pub record IsChangeWithin (kept : Kept) (change : Change) : Type 0 where
  pub file : IfSome change.file (λ row. IsName row.name × (row.rev < rev_end))
  pub block : IfSome change.block (λ b. IsBody b.body)
  pub host : IfSome change.host (λ h. IsHostWithin h.row)
  pub heads : IfSome change.heads (AreHeadsWithin kept.next)
