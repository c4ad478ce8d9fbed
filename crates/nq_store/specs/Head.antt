-- What the first bytes of an image of version 1 say.
use Rattle.std.specs.Prelude.{ℕ, List, Result, Ok}
use Rattle.nq_image.specs.Check.{tested}
use Rattle.nq_image.specs.Heads.{boots_checks, boots_of}
use Rattle.nq_image.specs.Image.{FoundOne, ◌>>=◌, reached, rows_in}
use Rattle.nq_image.specs.Layout.{piece}
use Rattle.nq_image.specs.declared.Version.{Version}
use Rattle.nq_store.specs.Migrated.{blocks_in}

-- the numbers and rows that stand in the first bytes
unfoldable pub head_one : (head : List ℕ) → Result FoundOne ℕ
head_one head = do
  boots ← tested (boots_checks (piece 0 64 head)) (boots_of (piece 0 64 head))
  rows ← rows_in Version.One head
  Ok (record { boots = boots; rows = rows })

-- what was found, where a disk of so many bytes holds the blocks of the files
abbrev pub if_reached : (size : ℕ) → FoundOne → Result FoundOne ℕ
if_reached size found = reached size (blocks_in found.rows.slots) >>= λ holds. Ok found

-- what the first bytes of a disk of so many bytes say
abbrev pub one_in : (size : ℕ) (head : List ℕ) → Result FoundOne ℕ
one_in size head = head_one head >>= if_reached size
