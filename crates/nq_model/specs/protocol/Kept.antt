-- What the server keeps over its boots: files, one row for each host, and the numbers of its boots.
use Rattle.std.specs.Prelude.{ℕ, ◌+◌, ◌==◌, Bool, true, not, ◌&&◌, nat_lt, List, [], ◌∷◌, ◌++◌, Option, Some, None, find, filter, map, sum_by, length}
use Rattle.std.specs.Prelude.{take, replicate, slice_get, slice_set, unwrap_or, if◌then◌else◌}
use Rattle.nq_base.specs.Block.{zeros}
use Rattle.nq_base.specs.declared.HostRow.{HostRow}
use Rattle.nq_base.specs.declared.Verdict.{Verdict}
use Rattle.nq_model.specs.protocol.Profile.{inc_end, seq_end, rev_end, same_bytes}

-- a file: its id, its name, its modify revision (Macklem 1994), and the body of each block
pub record File : Type 0 where
  pub id : ℕ
  pub name : List ℕ
  pub rev : ℕ
  pub bodies : List (List ℕ)

-- the kept state: the files in order of their ids, the rows of the hosts, the number of the last boot, the last
-- boot that served, the longest term that it granted, and the next id
pub record Kept : Type 0 where
  pub files : List File
  pub hosts : List HostRow
  pub boot : ℕ
  pub opened : ℕ
  pub longest : ℕ
  pub next : ℕ

-- a file's length in blocks
abbrev pub blocks_of : File → ℕ
blocks_of file = length file.bodies

-- the file with this id
abbrev pub find_file : ℕ → List File → Option File
find_file id files = find (λ f. f.id == id) files

-- the file of this name
abbrev pub find_name : List ℕ → List File → Option File
find_name name files = find (λ f. same_bytes f.name name) files

-- the blocks of all files together
abbrev pub blocks_in_all : List File → ℕ
blocks_in_all files = sum_by blocks_of files

-- the files, with this one in place of the one of its id
abbrev pub replace_file : File → List File → List File
replace_file file files = map (λ f. if f.id == file.id then file else f) files

-- the files without this one
abbrev pub drop_file : ℕ → List File → List File
drop_file id files = filter (λ f. not (f.id == id)) files

-- a new file: so many blocks of zeros, at revision 0
unfoldable pub new_file : (id : ℕ) (name : List ℕ) (blocks : ℕ) → File
new_file id name blocks = record { id = id; name = name; rev = 0; bodies = replicate blocks zeros }

-- a file after its block was written: the revision rises by one
unfoldable pub written_file : File → (block : ℕ) (body : List ℕ) → File
written_file file block body = record file { rev = file.rev + 1; bodies = slice_set file.bodies block body }

-- bodies that are cut, or to which zeros are added, until there are so many
abbrev pub resized : ℕ → List (List ℕ) → List (List ℕ)
resized blocks bodies = take blocks (bodies ++ replicate blocks zeros)

-- a file after its length changed: the revision rises by one
unfoldable pub resized_file : File → (blocks : ℕ) → File
resized_file file blocks = record file { rev = file.rev + 1; bodies = resized blocks file.bodies }

-- a file whose revision alone rose, so that no older write is stored any more
unfoldable pub fenced_file : File → File
fenced_file file = record file { rev = file.rev + 1 }

-- the row of a host of which nothing was heard
abbrev pub fresh_row : HostRow
fresh_row = record { inc = 0; seq = 0; verdict = Verdict.Done; value = 0 }

-- whether a row of a host can be kept: its numbers are below their ends. Its value is a revision or an id
abbrev pub can_be_kept : HostRow → Bool
can_be_kept row = nat_lt row.inc inc_end && nat_lt row.seq seq_end && nat_lt row.value rev_end

-- whether a file's revision can rise once more; a file that is not kept has none
abbrev pub can_rise : Option File → Bool
can_rise None = true
can_rise (Some file) = nat_lt (file.rev + 1) rev_end

-- the row of a host
abbrev pub host_row : Kept → ℕ → HostRow
host_row kept host = unwrap_or (slice_get kept.hosts host) fresh_row

-- the kept state with this row for a host
unfoldable pub with_row : Kept → ℕ → HostRow → Kept
with_row kept host row = record kept { hosts = slice_set kept.hosts host row }

-- the kept state with these files
unfoldable pub with_files : Kept → List File → Kept
with_files kept files = record kept { files = files }

-- the kept state with one more file, which takes the next id
unfoldable pub with_new_file : Kept → (name : List ℕ) (blocks : ℕ) → Kept
with_new_file kept name blocks =
    record kept { files = kept.files ++ new_file kept.next name blocks ∷ []; next = kept.next + 1 }
