-- What a server keeps of the leases on directories, in memory alone: from one boot to the next.
use Rattle.std.specs.Prelude.{ℕ, Bool, List, [], Option}
use Rattle.std.specs.List.{position}
use Rattle.nq_directory.specs.declared.FileName.{FileName}
use Rattle.nq_directory.specs.Prefix.{directory}
use Rattle.nq_directory.specs.Files.{is_own_behind, leaf_of, own_behind}
use Rattle.nq_model.specs.protocol.Kept.{File}
use Rattle.nq_model.specs.protocol.Profile.{same_bytes}
use Rattle.nq_model.specs.protocol.Table.{Table, empty_table}
pub use Rattle.nq_directory.specs.Files.{Leaf, name_of, names_of}

-- a lease table in which the number of a directory stands for a file, the directories by their numbers, the number of the next
-- DIREVICTED, the longest term of the boot, and the time
pub record Served : Type 0 where
  pub table : Table
  pub directories : List (List ℕ)
  pub notice : ℕ
  pub longest : ℕ
  pub time : ℕ

-- the number of the first DIREVICTED of a boot
abbrev pub first_notice : ℕ
first_notice = 2147483648

-- the most directories on which a boot grants leases
abbrev pub most_directories : ℕ
most_directories = 256

-- a new boot has granted nothing
abbrev pub new_served : (boot longest time : ℕ) → Served
new_served boot longest time =
    record { table = empty_table boot; directories = []; notice = first_notice; longest = longest; time = time }

-- the number of a directory, if it has one
abbrev pub number_of : (prefix : List ℕ) → List (List ℕ) → Option ℕ
number_of prefix directories = position (λ d. same_bytes d prefix) directories

-- ---- pages

-- whether a name is one of a directory
abbrev pub is_in : (prefix name : List ℕ) → Bool
is_in prefix name = same_bytes (directory name) prefix

-- whether a file is in a directory, with an id above this one
abbrev pub is_behind : (prefix : List ℕ) → (after : ℕ) → File → Bool
is_behind prefix after f = is_own_behind (is_in prefix) after f

-- the files of a directory behind an id, by id
abbrev pub names_behind : (prefix : List ℕ) → (after : ℕ) → List File → List FileName
names_behind prefix after files = own_behind (is_in prefix) after files

-- the page of a directory behind an id, without its lease
abbrev pub leaf_behind : (prefix : List ℕ) → (after : ℕ) → List File → Leaf
leaf_behind prefix after files = leaf_of (names_behind prefix after files)
