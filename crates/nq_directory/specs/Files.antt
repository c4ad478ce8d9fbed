-- Files with their names in order of their ids, read one behind the other. Below, `is_own` tells which names are those of a list.
use Rattle.std.specs.Prelude.{◌≡◌, ℕ, ◌&&◌, Bool, true, false, List, [], ◌∷◌, ◌++◌, Option, filter, length, nat_lt, take}
use Rattle.nq_base.specs.declared.FileRow.{FileRow}
use Rattle.nq_directory.specs.Messages.{most_names}
use Rattle.nq_directory.specs.declared.names.FileName.{FileName}
use Rattle.nq_model.specs.protocol.Change.{IsWithinBounds, file_after, row_of_found}
use Rattle.nq_model.specs.protocol.Kept.{File, Kept}

-- a file with its name
abbrev pub name_of : File → FileName
name_of f = record { file = f.id; name = f.name }

-- files with their names
abbrev pub names_of : List File → List FileName
names_of [] = []
names_of (f ∷ fs) = name_of f ∷ names_of fs

-- whether a file is one of a list, and its id is above this one
abbrev pub is_own_behind : (is_own : List ℕ → Bool) → (after : ℕ) → File → Bool
is_own_behind is_own after f = nat_lt after f.id && is_own f.name

-- the files of a list behind an id, by id
abbrev pub own_behind : (is_own : List ℕ → Bool) → (after : ℕ) → List File → List FileName
own_behind is_own after files = names_of (filter (is_own_behind is_own after) files)

-- a page without a lease: at most 32 files, and whether the list goes on behind them
pub record Leaf : Type 0 where
  pub names : List FileName
  pub more : Bool

-- the first page of these
abbrev pub leaf_of : List FileName → Leaf
leaf_of names = record { names = take most_names names; more = nat_lt most_names (length names) }

-- ---- reading

-- a page as far as it was read: up to this id
pub record ReadLeaf : Type 0 where
  pub leaf : Leaf
  pub last : ℕ

-- nothing was read behind this id
abbrev pub nothing_read : (after : ℕ) → ReadLeaf
nothing_read after = record { leaf = record { names = []; more = false }; last = after }

-- it has the names of a list among these files from behind this id on, up to the file that was read last
pub record IsUpTo (files : List File) (is_own : List ℕ → Bool) (start : ℕ) (l : ReadLeaf) : Type 0 where
  pub names : own_behind is_own start files ≡ l.leaf.names ++ own_behind is_own l.last files
  pub on : l.leaf.more ≡ false

-- it is the page behind this id, or it was read up to the last file
abbrev pub IsRead : (whole : Bool) → (files : List File) → (is_own : List ℕ → Bool) → (start : ℕ) → ReadLeaf → Type 0
IsRead true files is_own start l = l.leaf ≡ leaf_of (own_behind is_own start files)
IsRead false files is_own start l = IsUpTo files is_own start l

-- the row of the next file that is kept behind an id, if there is one
abbrev pub IsNext : Kept → (after : ℕ) → Option FileRow → Type 0
IsNext kept after row = row ≡ row_of_found (file_after after kept.files)

-- what reading the next file does, whatever is kept
abbrev pub ReadsOn : (whole : Bool) → (is_own : List ℕ → Bool) → (next : Option FileRow) → (old new : ReadLeaf) → Type 0
ReadsOn whole is_own next old new =
    (kept : Kept) (start : ℕ)
    → IsWithinBounds kept
    → IsNext kept old.last next
    → IsUpTo kept.files is_own start old
    → IsRead whole kept.files is_own start new
