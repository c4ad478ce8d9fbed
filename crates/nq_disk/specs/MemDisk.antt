-- A disk in memory, as contracts see it: the bytes at first, and what was done to them since.
use Rattle.std.specs.Prelude.{◌≡◌, ℕ, ◌+◌, ◌-◌, ◌≤◌, ◌^◌, ◌==◌, Bool, false, ◌||◌, List, [], ◌∷◌, ◌++◌, Option, Some, None, Result, Ok, Err, length}
use Rattle.std.specs.Prelude.{drop, min, nat_le, nat_lt, if◌then◌else◌}
use Rattle.std.specs.List.{list_any}
use Rattle.nq_io.specs.Faults.{count_up}
use Rattle.nq_disk.specs.Bytes.{written, Torn}
use Rattle.nq_disk.specs.declared.disk.DiskFault.{DiskFault}
use Rattle.nq_disk.specs.declared.mem_disk.Room.{Room}

-- what was done to a disk: these bytes were written at a place, a write of so many bytes failed, or a sync succeeded
pub data Event : Type 0 where
  wrote : (place : ℕ) (bytes : List ℕ) → Event
  tore : (place n : ℕ) → Event
  synced : Event

-- the bytes after these events, the newest first
abbrev pub bytes_of : List ℕ → List Event → List ℕ
bytes_of first [] = first
bytes_of first (wrote place bytes ∷ earlier) = written place bytes (bytes_of first earlier)
bytes_of first (tore place n ∷ earlier) = bytes_of first earlier
bytes_of first (synced ∷ earlier) = bytes_of first earlier

-- a stop after these events may leave this
abbrev pub Image : List ℕ → List Event → List ℕ → Type 0
Image first [] image = image ≡ first
Image first (wrote place bytes ∷ earlier) image = (old : List ℕ) × Image first earlier old × Torn place (length bytes) old image
Image first (tore place n ∷ earlier) image = (old : List ℕ) × Image first earlier old × Torn place n old image
Image first (synced ∷ earlier) image = image ≡ bytes_of first earlier

-- the bytes at first, the events since, the newest first, how much room there is, how many calls were made, the numbers of
-- those that are to fail, the number of the first of those that all fail, and the count of faults
pub record StoredDisk : Type 0 where
  pub first : List ℕ
  pub events : List Event
  pub room : Room
  pub made : ℕ
  pub failing : List ℕ
  pub stop : Option ℕ
  pub faults : ℕ

-- the bytes as they read
abbrev pub reads : StoredDisk → List ℕ
reads disk = bytes_of disk.first disk.events

-- how many bytes were written in all
abbrev pub all_written : List Event → ℕ
all_written [] = 0
all_written (wrote place bytes ∷ earlier) = all_written earlier + length bytes
all_written (tore place n ∷ earlier) = all_written earlier
all_written (synced ∷ earlier) = all_written earlier

-- whether a call's number is at the stop or past it
abbrev pub is_stopped : ℕ → Option ℕ → Bool
is_stopped made None = false
is_stopped made (Some stop) = nat_le stop made

-- whether the next call fails by its number
abbrev pub is_refused : StoredDisk → Bool
is_refused disk =
    nat_le disk.room.calls disk.made || (is_stopped disk.made disk.stop || list_any (λ number. number == disk.made) disk.failing)

-- whether a write of n bytes at a place passes the room
abbrev pub passes_room : StoredDisk → (place n : ℕ) → Bool
passes_room disk place n = nat_lt disk.room.size (place + n) || nat_lt disk.room.written (all_written disk.events + n)

-- the count of calls that follows, which stands still at the end of its type
abbrev pub call_up : ℕ → ℕ
call_up made = min (made + 1) (2 ^ 32 - 1)

-- the disk after a call that does not fail
abbrev pub after_call : StoredDisk → StoredDisk
after_call disk = record disk { made = call_up disk.made }

-- the disk after a call that fails
abbrev pub after_fault : StoredDisk → StoredDisk
after_fault disk = record disk { made = call_up disk.made; faults = count_up disk.faults }

-- the disk after a call with this answer that changes nothing
abbrev pub after_reading : {X : Type 0} → Result X DiskFault → StoredDisk → StoredDisk
after_reading (Ok answer) disk = after_call disk
after_reading (Err fault) disk = after_fault disk

-- the disk after a write of n bytes that fails. A call past the number of calls that there is room for leaves no event
abbrev pub after_refusal : (place n : ℕ) → StoredDisk → StoredDisk
after_refusal place n disk =
    record disk {
      events = if nat_le disk.room.calls disk.made then disk.events else tore place n ∷ disk.events;
      made = call_up disk.made;
      faults = count_up disk.faults;
    }

-- the disk after a write of these bytes with this answer
abbrev pub after_writing : Result Unit DiskFault → ℕ → List ℕ → StoredDisk → StoredDisk
after_writing (Ok done) place bytes disk = record disk { events = wrote place bytes ∷ disk.events; made = call_up disk.made }
after_writing (Err fault) place bytes disk = after_refusal place (length bytes) disk

-- the disk after a sync with this answer
abbrev pub after_syncing : Result Unit DiskFault → StoredDisk → StoredDisk
after_syncing (Ok done) disk = record disk { events = synced ∷ disk.events; made = call_up disk.made }
after_syncing (Err fault) disk = after_fault disk

-- the second disk is the first one after some calls
pub record GoesOn (first second : StoredDisk) : Type 0 where
  pub more : List Event
  pub events : second.events ≡ more ++ first.events
  pub same : second.first ≡ first.first
  pub rises : first.faults ≤ second.faults

-- a stop after some of the events between two disks may leave this
pub record Left (first last : StoredDisk) (image : List ℕ) : Type 0 where
  pub undone : ℕ
  pub between : undone + length first.events ≤ length last.events
  pub image_then : Image last.first (drop undone last.events) image
