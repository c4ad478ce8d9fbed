-- What a change through a redo record leaves: the state before it or the state after it.
use Rattle.std.specs.Prelude.{◌≡◌, ◌≢◌, ℕ, ◌+◌, ◌≤◌, List, [], ◌∷◌, Option, Some, None, Result, Ok, length, slice_index}
use Rattle.nq_disk.specs.Bytes.{written}
use Rattle.nq_disk.specs.Ranges.{Range, applied}
use Rattle.nq_disk.specs.Record.{blanked, opened, record_at, wrong_field}
use Rattle.nq_disk.specs.Saying.{Only}
use Rattle.nq_disk.specs.declared.redo.area.Area.{Area}

-- a record has room for its gate and its count, and ends within the bound
pub record IsArea (area : Area) : Type 0 where
  pub room : 16 ≤ area.size
  pub within : area.place + area.size ≤ area.bound

-- what an open of a disk gives
abbrev pub found : Area → List ℕ → Result (List ℕ) ℕ
found area disk = opened area.place area.size area.bound disk

-- the record of a disk
abbrev pub record_of : Area → List ℕ → List ℕ
record_of area disk = record_at area.place area.size disk

-- a disk with the whole record, and the gate is closed
pub record IsClosed (area : Area) (disk : List ℕ) : Type 0 where
  pub long : area.place + area.size ≤ length disk
  pub shut : slice_index disk area.place ≢ 1

-- a disk with the whole record, the gate is open, and no field is wrong
pub record IsOpen (area : Area) (disk : List ℕ) : Type 0 where
  pub long : area.place + area.size ≤ length disk
  pub gate : slice_index disk area.place ≡ 1
  pub right : wrong_field area.place area.size area.bound (length disk) (record_of area disk) ≡ None

-- what an open gives after these ranges were written
abbrev pub after : Area → List Range → List ℕ → Result (List ℕ) ℕ
after area ranges disk = Ok (applied ranges (blanked area.place area.size disk))

-- an image opens as a disk, and is no shorter
abbrev pub OpensAs : Area → (disk image : List ℕ) → Type 0
OpensAs area disk image = (length disk ≤ length image) × (found area image ≡ found area disk)

-- an image opens as a disk after these ranges were written, and is no shorter than the disk
abbrev pub OpensAfter : Area → List Range → (disk image : List ℕ) → Type 0
OpensAfter area ranges disk image = (length disk ≤ length image) × (found area image ≡ after area ranges disk)

-- an image opens as one of these disks
abbrev pub OpensAsOne : Area → (List ℕ → Type 0) → List ℕ → Type 0
OpensAsOne area before image = (old : List ℕ) × before old × OpensAs area old image

-- a disk with this record behind its gate, and the gate open
abbrev pub staged : Area → List ℕ → List ℕ → List ℕ
staged area body disk = written area.place (1 ∷ []) (written (area.place + 1) body disk)

-- the disk tells bytes with a closed gate that open so, and a stop leaves nothing else
pub record Settled (area : Area) (gives : Result (List ℕ) ℕ) (told : Option (List ℕ)) (may_leave : List ℕ → Type 0) : Type 0 where
  pub now : List ℕ
  pub tells : told ≡ Some now
  pub closed : IsClosed area now
  pub opens : found area now ≡ gives
  pub alone : Only now may_leave
