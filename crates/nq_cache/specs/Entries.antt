-- The entries of the cache, as lists of clean blocks.
use Rattle.std.specs.Prelude.{ℕ, Bool, not, ◌==◌, ◌≡◌, List, [], ◌∷◌, ◌++◌, take, drop, filter, if◌then◌else◌, map}
use Rattle.nq_cache.specs.declared.entries.Key.{Key}
use Rattle.nq_model.specs.protocol.Client.{Clean, drop_clean, purge}

-- the clean block of an entry
abbrev pub clean_of : Key × List ℕ → Clean
clean_of e = record { file = e.0.file; block = e.0.block; body = e.1 }

-- the clean blocks of the entries
abbrev pub clean_blocks : List (Key × List ℕ) → List Clean
clean_blocks entries = map clean_of entries

-- whether an entry is of another file
abbrev pub is_of_other : ℕ → Key × List ℕ → Bool
is_of_other file e = not (e.0.file == file)

-- the last entry goes to the front, or goes if it is of the file
abbrev pub Turns : (file : ℕ) → (before after : List (Key × List ℕ)) → Type 0
Turns file before after =
    (front : List (Key × List ℕ)) (last : Key × List ℕ) → before ≡ front ++ last ∷ [] → after ≡ (if is_of_other file last then last ∷ front else front)

-- all but the first so many entries were looked at: those of other files stand in front, in their order
abbrev pub walked : (file left : ℕ) → List (Key × List ℕ) → List (Key × List ℕ)
walked file left entries = filter (is_of_other file) (drop left entries) ++ take left entries

-- a block that stands first stays there, and the others of its file go
abbrev pub StaysFirst : (file block : ℕ) → (before after : List Clean) → Type 0
StaysFirst file block before after =
    (body : List ℕ) (rest : List Clean) → before ≡ record { file = file; block = block; body = body } ∷ drop_clean file block rest
    → after ≡ record { file = file; block = block; body = body } ∷ drop_clean file block (purge file rest)
