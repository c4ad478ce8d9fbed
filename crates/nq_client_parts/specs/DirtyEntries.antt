-- The entries of the map, as lists of delayed writes.
use Rattle.std.specs.Prelude.{ℕ, Bool, not, ◌==◌, List, map}
use Rattle.nq_base.specs.declared.Push.{Push}
use Rattle.nq_client_parts.specs.declared.dirty.entries.Key.{Key}
use Rattle.nq_client_parts.specs.declared.dirty.entries.Writes.{Writes}

-- the delayed writes of an entry
abbrev pub push_of : Key × Writes → Push
push_of e = record { file = e.0.file; block = e.0.block; first = e.1.first; last = e.1.last; body = e.1.body }

-- the delayed writes of the entries
abbrev pub delayed : List (Key × Writes) → List Push
delayed entries = map push_of entries

-- whether an entry is of another file
abbrev pub is_of_other : ℕ → Key × Writes → Bool
is_of_other file e = not (e.0.file == file)
