-- For which kept state an image stands.
use Rattle.std.specs.Prelude.{ℕ, Bool, ◌+◌, List, [], ◌∷◌, Option, Some, None, Result, Ok, Err, length, map, position, take, drop, nat_lt}
use Rattle.std.specs.Prelude.{slice_index_or, sum_by, unwrap_or, zero, suc}
use Rattle.std.specs.List.{insert}
use Rattle.nq_base.specs.declared.Heads.{Heads}
use Rattle.nq_base.specs.declared.HostRow.{HostRow}
use Rattle.nq_model.specs.protocol.Kept.{File, Kept}
use Rattle.nq_image.specs.declared.heads.Boots.{Boots}
use Rattle.nq_image.specs.declared.heads.Front.{Front}
use Rattle.nq_image.specs.declared.kept.FoundFile.{FoundFile}
use Rattle.nq_image.specs.declared.kept.KeptImage.{KeptImage}
use Rattle.nq_image.specs.declared.rows.Slot.{Slot}
use Rattle.nq_image.specs.Image.{FoundOne, FoundTwo}
use Rattle.nq_image.specs.Layout.{block_place, piece}
use Rattle.nq_image.specs.Rows.{blocks_of}
use Rattle.nq_image.specs.Whole.{Found, of_one, of_two, image_in}

-- so many numbers from one on
unfoldable pub numbers_from : (first count : ℕ) → List ℕ
numbers_from first zero = []
numbers_from first (suc count) = first ∷ numbers_from (first + 1) count

-- the file of a used row: its id, and where its blocks begin among those of all files
unfoldable pub found_file : (id start : ℕ) → Slot → FoundFile
found_file id start slot = record {
  row = record { id = id; name = slot.name; blocks = slot.blocks; rev = slot.rev };
  start = start;
}

-- whether a file has a later id
abbrev pub is_later : (id : ℕ) → FoundFile → Bool
is_later id file = nat_lt id file.row.id

-- where the file of an id goes among files: before the first with a later id
abbrev pub place_of : (id : ℕ) → List FoundFile → ℕ
place_of id files = unwrap_or (position (is_later id) files) (length files)

-- the files with that of one more row
abbrev pub with_slot : (id start : ℕ) → Option Slot → List FoundFile → List FoundFile
with_slot id start None files = files
with_slot id start (Some slot) files = insert files (place_of id files) (found_file id start slot)

-- these files with those of more rows, in order of their ids; the blocks of the next file begin at a number
unfoldable pub files_of : List FoundFile → (start : ℕ) → List (Option Slot) → (ids : List ℕ) → List FoundFile
files_of files start [] ids = files
files_of files start (slot ∷ slots) ids =
    files_of (with_slot (slice_index_or ids 0 0) start slot files) (start + blocks_of slot) slots (drop 1 ids)

-- what is kept in an image: the files in order of their ids, and the physical blocks of all of them
pub record FoundKept : Type 0 where
  pub heads : Heads
  pub hosts : List HostRow
  pub files : List FoundFile
  pub blocks : List ℕ

-- what was read
abbrev pub seen_kept : KeptImage → FoundKept
seen_kept image = record { heads = image.heads; hosts = image.hosts.items; files = image.files.items; blocks = image.blocks.items }

-- the numbers of version 1: the longest term is 60, and the next id is one above the number of files
abbrev pub heads_one : Boots → (files : ℕ) → Heads
heads_one boots files = record { boot = boots.boot; opened = boots.opened; longest = 60; next = files + 1 }

-- the numbers of version 2
abbrev pub heads_two : Front → Heads
heads_two front = record { boot = front.boot; opened = front.opened; longest = front.longest; next = front.next }

-- what is kept in an image of version 1: row n has id n + 1, and each file stands behind the one before it
unfoldable pub kept_one : FoundOne → FoundKept
kept_one found =
    let files = files_of [] 0 found.rows.slots (numbers_from 1 256) in
    record {
      heads = heads_one found.boots (length files);
      hosts = found.rows.hosts;
      files = files;
      blocks = numbers_from 0 (sum_by blocks_of found.rows.slots);
    }

-- what is kept in an image of version 2
unfoldable pub kept_two : FoundTwo → FoundKept
kept_two found = record {
  heads = heads_two found.front;
  hosts = found.rows.hosts;
  files = files_of [] 0 found.rows.slots found.tables.ids;
  blocks = found.tables.blocks;
}

-- what is kept in an image of either version
abbrev pub found_kept : Found → FoundKept
found_kept (of_one found) = kept_one found
found_kept (of_two found) = kept_two found

-- the body of a physical block
abbrev pub body_in : (bytes : List ℕ) (block : ℕ) → List ℕ
body_in bytes block = piece (block_place block) 4096 bytes

-- a file with its bodies
abbrev pub file_in : (bytes blocks : List ℕ) → FoundFile → File
file_in bytes blocks found = record {
  id = found.row.id;
  name = found.row.name;
  rev = found.row.rev;
  bodies = map (body_in bytes) (take found.row.blocks (drop found.start blocks));
}

-- the kept state, with the bodies that stand in the bytes
unfoldable pub kept_in : (bytes : List ℕ) → FoundKept → Kept
kept_in bytes found = record {
  files = map (file_in bytes found.blocks) found.files;
  hosts = found.hosts;
  boot = found.heads.boot;
  opened = found.heads.opened;
  longest = found.heads.longest;
  next = found.heads.next;
}

-- the kept state of what stands in an image
abbrev pub stands_for : (bytes : List ℕ) → Option (Result Found ℕ) → Option (Result Kept ℕ)
stands_for bytes None = None
stands_for bytes (Some (Err place)) = Some (Err place)
stands_for bytes (Some (Ok found)) = Some (Ok (kept_in bytes (found_kept found)))

-- for what bytes stand: a kept state, an image with a wrong field at a place, or no image
unfoldable pub opened : List ℕ → Option (Result Kept ℕ)
opened bytes = stands_for bytes (image_in bytes)
