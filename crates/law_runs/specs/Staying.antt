-- A file stays until it is removed, in every run.
use Rattle.std.specs.Prelude.{◌≡◌, ◌⊎◌, ◌++◌, ℕ, List, Some, None}
use Rattle.nq_base.specs.declared.Entry.{Entry}
use Rattle.nq_base.specs.declared.Event.{Event}
use Rattle.nq_model.specs.laws.Journal.{Exists}
use Rattle.nq_model.specs.protocol.Kept.{File, find_file}
use Rattle.nq_model.specs.protocol.World.{Head, run}

-- a file of this id is kept, under this name
pub record KeepsUnder (id : ℕ) (name : List ℕ) (files : List File) : Type 0 where
  pub file : File
  pub found : find_file id files ≡ Some file
  pub named : file.name ≡ name

-- the entry is a Z that takes a file away
abbrev pub IsRemoval : (file : ℕ) → Entry → Type 0
IsRemoval file (Entry.Z who q f from to) = (f ≡ file) × (to ≡ 0)
IsRemoval file other = ⊥

-- between two moments of a schedule the journal only grew, and what was added has such a Z
pub record WasRemoved (file : ℕ) (head : Head) (later earlier : List Event) : Type 0 where
  pub more : List Entry
  pub grows : (run head (later ++ earlier)).journal ≡ more ++ (run head earlier).journal
  pub removal : Exists (IsRemoval file) more

-- after every schedule, which is told with its newest event first: a file that is kept at a moment is kept under its id and name at
-- each later one, unless it was removed between them
abbrev pub FilesStayUntilRemoved : Type 0
FilesStayUntilRemoved =
    (head : Head) (later earlier : List Event) (id : ℕ) (name : List ℕ)
    → KeepsUnder id name (run head earlier).server.kept.files
    → KeepsUnder id name (run head (later ++ earlier)).server.kept.files ⊎ WasRemoved id head later earlier

-- that this law speaks of something: after some schedule a file is kept that an earlier one had made, and after another one a Z by which
-- it was removed stands in the journal, and it is kept no more
pub record FilesStayIsMet : Type 0 where
  pub head : Head
  pub later : List Event
  pub made : List Event
  pub removing : List Event
  pub name : List ℕ
  pub is_made : KeepsUnder 1 name (run head made).server.kept.files
  pub stays : KeepsUnder 1 name (run head (later ++ made)).server.kept.files
  pub removed : Exists (IsRemoval 1) (run head (removing ++ made)).journal
  pub gone : find_file 1 (run head (removing ++ made)).server.kept.files ≡ None
