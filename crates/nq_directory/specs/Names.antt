-- Files with their names, in order of the names.
use Rattle.std.specs.Prelude.{◌≡◌, ℕ, Bool, false, List, [], ◌∷◌, Option, Some, None, find, if◌then◌else◌}
use Rattle.std.specs.Cmp.Lexicographic.{slice_cmp}
use Rattle.std.specs.Ordering.{is_lt, nat_cmp}
use Rattle.nq_model.specs.protocol.Profile.{same_bytes}
use Rattle.nq_directory.specs.declared.names.FileName.{FileName}

-- whether a name stands before another: by the first byte in which they differ
unfoldable pub name_before : List ℕ → List ℕ → Bool
name_before a b = is_lt (slice_cmp nat_cmp a b)

-- whether a file's name stands before a name
abbrev pub is_before : (name : List ℕ) → FileName → Bool
is_before name e = name_before e.name name

-- whether a file has a name
abbrev pub is_named : (name : List ℕ) → FileName → Bool
is_named name e = same_bytes e.name name

-- the names with one more, in its place
abbrev pub put_name : FileName → List FileName → List FileName
put_name e [] = e ∷ []
put_name e (x ∷ xs) = if is_before e.name x then x ∷ put_name e xs else e ∷ x ∷ xs

-- the names with these as well, each in its place
abbrev pub put_names : List FileName → List FileName → List FileName
put_names [] names = names
put_names (e ∷ es) names = put_names es (put_name e names)

-- the file of an entry, if there is one
abbrev pub file_of : Option FileName → Option ℕ
file_of None = None
file_of (Some e) = Some e.file

-- the file of an entry, if there is one and it has a name
abbrev pub file_if : (name : List ℕ) → Option FileName → Option ℕ
file_if name None = None
file_if name (Some e) = if is_named name e then Some e.file else None

-- the file that has a name, if one of these does
abbrev pub named : (name : List ℕ) → List FileName → Option ℕ
named name names = file_of (find (is_named name) names)

-- no name stands before this one
abbrev pub NoneBefore : (name : List ℕ) → List FileName → Type 0
NoneBefore name [] = Unit {0}
NoneBefore name (x ∷ xs) = (is_before name x ≡ false) × NoneBefore name xs

-- names stand in order
abbrev pub AreInOrder : List FileName → Type 0
AreInOrder [] = Unit {0}
AreInOrder (x ∷ xs) = NoneBefore x.name xs × AreInOrder xs
