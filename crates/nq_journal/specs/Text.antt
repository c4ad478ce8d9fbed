-- The text of a journal: a line that names the version, a line for each entry, and the line `end`.
use Rattle.std.specs.Prelude.{◌≡◌, ◌⊎◌, ℕ, ◌<◌, ◌^◌, ◌==◌, Bool, true, false, List, [], ◌∷◌, ◌++◌, Option, Some, None, All, codes, if◌then◌else◌}
use Rattle.std.specs.Fmt.{decimal}
use Rattle.std.specs.List.{flat_map}
use Rattle.nq_base.specs.declared.Entry.{Entry}
use Rattle.nq_base.specs.declared.Mode.{Mode}
use Rattle.nq_base.specs.declared.Who.{Who}
use Rattle.nq_script.specs.Forms.{told_words, said_words, HasTold, FitsWho, FitsTold, FitsSaid}
use Rattle.nq_script.specs.Words.{line}

abbrev pub mode_word : Mode → List ℕ
mode_word Mode.NonCaching = codes "noncaching"
mode_word Mode.Reading = codes "reading"
mode_word Mode.Writing = codes "writing"

-- how a write came about
abbrev pub way_word : Bool → List ℕ
way_word false = codes "delayed"
way_word true = codes "through"

-- how a read came about; a served one names its reply packet
abbrev pub source_words : Option ℕ → List (List ℕ)
source_words None = codes "cached" ∷ []
source_words (Some packet) = codes "served" ∷ decimal packet ∷ []

-- a boot tells the longest term from version 2 on
abbrev pub longest_words : (version : ℕ) → ℕ → List (List ℕ)
longest_words version longest = if version == 2 then decimal longest ∷ [] else []

-- the words of a line that begins with a letter and an incarnation
abbrev pub of_who : List ℕ → Who → List (List ℕ) → List (List ℕ)
of_who letter who words = letter ∷ decimal who.host ∷ decimal who.inc ∷ words

-- the words of an entry
abbrev pub entry_words : (version : ℕ) → Entry → List (List ℕ)
entry_words version (Entry.C who q told) = of_who (codes "C") who (decimal q ∷ told_words told)
entry_words version (Entry.W who file block number value through) =
    of_who (codes "W") who (decimal file ∷ decimal block ∷ decimal number ∷ decimal value ∷ way_word through ∷ [])
entry_words version (Entry.R who q file block value served) =
    of_who (codes "R") who (decimal q ∷ decimal file ∷ decimal block ∷ decimal value ∷ source_words served)
entry_words version (Entry.S who file block first last now) =
    of_who (codes "S") who (decimal file ∷ decimal block ∷ decimal first ∷ decimal last ∷ decimal now ∷ [])
entry_words version (Entry.L who file block first last) =
    of_who (codes "L") who (decimal file ∷ decimal block ∷ decimal first ∷ decimal last ∷ [])
entry_words version (Entry.G who file mode tag term now) =
    of_who (codes "G") who (decimal file ∷ mode_word mode ∷ decimal tag.boot ∷ decimal tag.number ∷ decimal term ∷ decimal now ∷ [])
entry_words version (Entry.F who file until heard now) =
    of_who (codes "F") who (decimal file ∷ decimal until ∷ decimal heard ∷ decimal now ∷ [])
entry_words version (Entry.O boot until heard now) =
    codes "O" ∷ decimal boot ∷ decimal until ∷ decimal heard ∷ decimal now ∷ []
entry_words version (Entry.B who) = of_who (codes "B") who []
entry_words version (Entry.X boot now longest) = codes "X" ∷ decimal boot ∷ decimal now ∷ longest_words version longest
entry_words version (Entry.Z who q file from to) =
    of_who (codes "Z") who (decimal q ∷ decimal file ∷ decimal from ∷ decimal to ∷ [])
entry_words version (Entry.A who q said) = of_who (codes "A") who (decimal q ∷ said_words said)

-- the line of an entry
unfoldable pub entry_line : (version : ℕ) → Entry → List ℕ
entry_line version entry = line (entry_words version entry)

-- the first line
unfoldable pub head_line : (version : ℕ) → List ℕ
head_line version = line (codes "nqnfs-journal" ∷ decimal version ∷ [])

-- the last line
unfoldable pub end_line : List ℕ
end_line = line (codes "end" ∷ [])

-- the text of a journal
unfoldable pub journal_text : (version : ℕ) → List Entry → List ℕ
journal_text version entries = head_line version ++ flat_map (entry_line version) entries ++ end_line

-- there are two versions
abbrev pub IsVersion : ℕ → Type 0
IsVersion version = (version ≡ 1) ⊎ (version ≡ 2)

-- An entry that a version has. Only version 2 tells changed lengths; in version 1 the longest term is 60.
abbrev pub Has : (version : ℕ) → Entry → Type 0
Has version (Entry.C who q told) = HasTold version told
Has version (Entry.Z who q file from to) = version ≡ 2
Has version (Entry.X boot now longest) = (version ≡ 2) ⊎ (longest ≡ 60)
Has version other = Unit {0}

abbrev pub FitsSource : Option ℕ → Type 0
FitsSource None = Unit {0}
FitsSource (Some packet) = packet < 2 ^ 64

-- An entry whose numbers are in their ranges. Hosts, incarnations, files, blocks, values, boots, terms and lengths are
-- below 2^32; numbers of calls, of writes, of grants and of packets, and times, are below 2^64.
abbrev pub Fits : Entry → Type 0
Fits (Entry.C who q told) = FitsWho who × (q < 2 ^ 64) × FitsTold told
Fits (Entry.W who file block number value through) =
    FitsWho who × (file < 2 ^ 32) × (block < 2 ^ 32) × (number < 2 ^ 64) × (value < 2 ^ 32)
Fits (Entry.R who q file block value served) =
    FitsWho who × (q < 2 ^ 64) × (file < 2 ^ 32) × (block < 2 ^ 32) × (value < 2 ^ 32) × FitsSource served
Fits (Entry.S who file block first last now) =
    FitsWho who × (file < 2 ^ 32) × (block < 2 ^ 32) × (first < 2 ^ 64) × (last < 2 ^ 64) × (now < 2 ^ 64)
Fits (Entry.L who file block first last) =
    FitsWho who × (file < 2 ^ 32) × (block < 2 ^ 32) × (first < 2 ^ 64) × (last < 2 ^ 64)
Fits (Entry.G who file mode tag term now) =
    FitsWho who × (file < 2 ^ 32) × (tag.boot < 2 ^ 32) × (tag.number < 2 ^ 64) × (term < 2 ^ 32) × (now < 2 ^ 64)
Fits (Entry.F who file until heard now) =
    FitsWho who × (file < 2 ^ 32) × (until < 2 ^ 64) × (heard < 2 ^ 64) × (now < 2 ^ 64)
Fits (Entry.O boot until heard now) = (boot < 2 ^ 32) × (until < 2 ^ 64) × (heard < 2 ^ 64) × (now < 2 ^ 64)
Fits (Entry.B who) = FitsWho who
Fits (Entry.X boot now longest) = (boot < 2 ^ 32) × (now < 2 ^ 64) × (longest < 2 ^ 32)
Fits (Entry.Z who q file from to) = FitsWho who × (q < 2 ^ 64) × (file < 2 ^ 32) × (from < 2 ^ 32) × (to < 2 ^ 32)
Fits (Entry.A who q said) = FitsWho who × (q < 2 ^ 64) × FitsSaid said

-- these bytes are the text of these entries in this version
pub record IsText (version : ℕ) (entries : List Entry) (bytes : List ℕ) : Type 0 where
  pub version_known : IsVersion version
  pub has : All (Has version) entries
  pub fits : All Fits entries
  pub spelled : bytes ≡ journal_text version entries
