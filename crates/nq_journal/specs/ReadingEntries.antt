-- Reading the words of an entry.
use Rattle.std.specs.Prelude.{◌≡◌, ℕ, ◌==◌, Bool, true, false, ◌&&◌, ◌||◌, List, ◌++◌, Option, Some, None, codes, if◌then◌else◌}
use Rattle.std.specs.Str.{bytes_eq}
use Rattle.nq_base.specs.declared.Entry.{Entry}
use Rattle.nq_base.specs.declared.Mode.{Mode}
use Rattle.nq_base.specs.Steps.{◌>>=◌}
use Rattle.nq_journal.specs.Text.{entry_words, Fits}
use Rattle.nq_journal.specs.declared.read_entries.EntryKind.{EntryKind}
use Rattle.nq_script.specs.WordsReading.{only_if, word_at, u64_at, u32_at, who_at, place_at, is_done, tag_at}
use Rattle.nq_script.specs.ReadingCalls.{told_at, has_told}
use Rattle.nq_script.specs.ReadingAnswers.{said_at}

-- the mode that a word names
unfoldable pub mode_of : List ℕ → Option Mode
mode_of word =
    if bytes_eq word (codes "noncaching") then Some Mode.NonCaching
    else (if bytes_eq word (codes "reading") then Some Mode.Reading
    else (if bytes_eq word (codes "writing") then Some Mode.Writing
    else None))

-- a mode in front
unfoldable pub mode_at : List (List ℕ) → Option (Mode × List (List ℕ))
mode_at words = do
  word ← word_at words
  mode ← mode_of word.0
  Some (mode, word.1)

-- whether a write went through
unfoldable pub way_of : List ℕ → Option Bool
way_of word =
    if bytes_eq word (codes "delayed") then Some false
    else (if bytes_eq word (codes "through") then Some true
    else None)

-- whether a write went through, in front
unfoldable pub way_at : List (List ℕ) → Option (Bool × List (List ℕ))
way_at words = do
  word ← word_at words
  way ← way_of word.0
  Some (way, word.1)

-- the reply packet of a read, if the server served it
abbrev pub source_by : List ℕ → List (List ℕ) → Option (Option ℕ × List (List ℕ))
source_by word words =
    if bytes_eq word (codes "cached") then Some (None, words)
    else (if bytes_eq word (codes "served") then (u64_at words >>= λ packet. Some (Some packet.0, packet.1))
    else None)

-- the words of a read's source
unfoldable pub source_at : List (List ℕ) → Option (Option ℕ × List (List ℕ))
source_at words = do
  word ← word_at words
  source_by word.0 word.1

-- the longest term, which version 1 does not tell
unfoldable pub longest_at : (version : ℕ) → List (List ℕ) → Option (ℕ × List (List ℕ))
longest_at version words = if version == 2 then u32_at words else Some (60, words)

-- the kinds of entry, by their letters
unfoldable pub kind_of : List ℕ → Option EntryKind
kind_of word =
    if bytes_eq word (codes "C") then Some EntryKind.C
    else (if bytes_eq word (codes "W") then Some EntryKind.W
    else (if bytes_eq word (codes "R") then Some EntryKind.R
    else (if bytes_eq word (codes "S") then Some EntryKind.S
    else (if bytes_eq word (codes "L") then Some EntryKind.L
    else (if bytes_eq word (codes "G") then Some EntryKind.G
    else (if bytes_eq word (codes "F") then Some EntryKind.F
    else (if bytes_eq word (codes "O") then Some EntryKind.O
    else (if bytes_eq word (codes "B") then Some EntryKind.B
    else (if bytes_eq word (codes "X") then Some EntryKind.X
    else (if bytes_eq word (codes "Z") then Some EntryKind.Z
    else (if bytes_eq word (codes "A") then Some EntryKind.A
    else None)))))))))))

-- the letter of a kind
abbrev pub kind_word : EntryKind → List ℕ
kind_word EntryKind.C = codes "C"
kind_word EntryKind.W = codes "W"
kind_word EntryKind.R = codes "R"
kind_word EntryKind.S = codes "S"
kind_word EntryKind.L = codes "L"
kind_word EntryKind.G = codes "G"
kind_word EntryKind.F = codes "F"
kind_word EntryKind.O = codes "O"
kind_word EntryKind.B = codes "B"
kind_word EntryKind.X = codes "X"
kind_word EntryKind.Z = codes "Z"
kind_word EntryKind.A = codes "A"

-- what stands behind the letter C: a call
unfoldable pub c_at : List (List ℕ) → Option (Entry × List (List ℕ))
c_at words = do
  who ← who_at words
  q ← u64_at who.1
  told ← told_at q.1
  Some (Entry.C who.0 q.0 told.0, told.1)

-- what stands behind the letter W: a write
unfoldable pub w_at : List (List ℕ) → Option (Entry × List (List ℕ))
w_at words = do
  who ← who_at words
  place ← place_at who.1
  number ← u64_at place.1
  value ← u32_at number.1
  way ← way_at value.1
  Some (Entry.W who.0 place.0.0 place.0.1 number.0 value.0 way.0, way.1)

-- what stands behind the letter R: a read
unfoldable pub r_at : List (List ℕ) → Option (Entry × List (List ℕ))
r_at words = do
  who ← who_at words
  q ← u64_at who.1
  place ← place_at q.1
  value ← u32_at place.1
  source ← source_at value.1
  Some (Entry.R who.0 q.0 place.0.0 place.0.1 value.0 source.0, source.1)

-- what stands behind the letter S: stored writes
unfoldable pub s_at : List (List ℕ) → Option (Entry × List (List ℕ))
s_at words = do
  who ← who_at words
  place ← place_at who.1
  first ← u64_at place.1
  last ← u64_at first.1
  now ← u64_at last.1
  Some (Entry.S who.0 place.0.0 place.0.1 first.0 last.0 now.0, now.1)

-- what stands behind the letter L: lost writes
unfoldable pub l_at : List (List ℕ) → Option (Entry × List (List ℕ))
l_at words = do
  who ← who_at words
  place ← place_at who.1
  first ← u64_at place.1
  last ← u64_at first.1
  Some (Entry.L who.0 place.0.0 place.0.1 first.0 last.0, last.1)

-- what stands behind the letter G: a grant
unfoldable pub g_at : List (List ℕ) → Option (Entry × List (List ℕ))
g_at words = do
  who ← who_at words
  file ← u32_at who.1
  mode ← mode_at file.1
  tag ← tag_at mode.1
  term ← u32_at tag.1
  now ← u64_at term.1
  Some (Entry.G who.0 file.0 mode.0 tag.0 term.0 now.0, now.1)

-- what stands behind the letter F: a writing lease that ended in silence
unfoldable pub f_at : List (List ℕ) → Option (Entry × List (List ℕ))
f_at words = do
  who ← who_at words
  file ← u32_at who.1
  until ← u64_at file.1
  heard ← u64_at until.1
  now ← u64_at heard.1
  Some (Entry.F who.0 file.0 until.0 heard.0 now.0, now.1)

-- what stands behind the letter O: the end of a recovery
unfoldable pub o_at : List (List ℕ) → Option (Entry × List (List ℕ))
o_at words = do
  boot ← u32_at words
  until ← u64_at boot.1
  heard ← u64_at until.1
  now ← u64_at heard.1
  Some (Entry.O boot.0 until.0 heard.0 now.0, now.1)

-- what stands behind the letter B: a host that started again
unfoldable pub b_at : List (List ℕ) → Option (Entry × List (List ℕ))
b_at words = do
  who ← who_at words
  Some (Entry.B who.0, who.1)

-- what stands behind the letter X: a boot
unfoldable pub x_at : (version : ℕ) → List (List ℕ) → Option (Entry × List (List ℕ))
x_at version words = do
  boot ← u32_at words
  now ← u64_at boot.1
  longest ← longest_at version now.1
  Some (Entry.X boot.0 now.0 longest.0, longest.1)

-- what stands behind the letter Z: a changed length
unfoldable pub z_at : List (List ℕ) → Option (Entry × List (List ℕ))
z_at words = do
  who ← who_at words
  q ← u64_at who.1
  file ← u32_at q.1
  from ← u32_at file.1
  to ← u32_at from.1
  Some (Entry.Z who.0 q.0 file.0 from.0 to.0, to.1)

-- what stands behind the letter A: an answer
unfoldable pub a_at : List (List ℕ) → Option (Entry × List (List ℕ))
a_at words = do
  who ← who_at words
  q ← u64_at who.1
  said ← said_at q.1
  Some (Entry.A who.0 q.0 said.0, said.1)

-- an entry behind its letter
abbrev pub entry_by : (version : ℕ) → EntryKind → List (List ℕ) → Option (Entry × List (List ℕ))
entry_by version EntryKind.C words = c_at words
entry_by version EntryKind.W words = w_at words
entry_by version EntryKind.R words = r_at words
entry_by version EntryKind.S words = s_at words
entry_by version EntryKind.L words = l_at words
entry_by version EntryKind.G words = g_at words
entry_by version EntryKind.F words = f_at words
entry_by version EntryKind.O words = o_at words
entry_by version EntryKind.B words = b_at words
entry_by version EntryKind.X words = x_at version words
entry_by version EntryKind.Z words = z_at words
entry_by version EntryKind.A words = a_at words

-- whether a version has an entry
abbrev pub has : (version : ℕ) → Entry → Bool
has version (Entry.C who q told) = has_told version told
has version (Entry.Z who q file from to) = version == 2
has version (Entry.X boot now longest) = (version == 2) || (longest == 60)
has version other = true

-- the entry that these words, all of them, spell in a version
unfoldable pub entry_of : (version : ℕ) → List (List ℕ) → Option Entry
entry_of version words = do
  word ← word_at words
  kind ← kind_of word.0
  entry ← entry_by version kind word.1
  only_if (is_done entry.1 && has version entry.0) entry.0

-- these words begin with those of an entry, whose numbers are in their ranges, and go on with these
abbrev pub Spells : (version : ℕ) → List (List ℕ) → Entry → List (List ℕ) → Type 0
Spells version words entry left = (words ≡ entry_words version entry ++ left) × Fits entry
