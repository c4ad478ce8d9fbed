-- What parsing a text gives.
use Rattle.std.specs.Prelude.{◌≡◌, ◌≢◌, ◌⊎◌, ℕ, ◌+◌, ◌-◌, ◌^◌, min, List, [], ◌++◌, length, All, map, Result, Ok, Err}
use Rattle.std.specs.List.{flat_map}
use Rattle.nq_base.specs.declared.Entry.{Entry}
use Rattle.nq_base.specs.declared.Journal.{Journal}
use Rattle.nq_journal.specs.declared.parsing.JournalFault.{JournalFault}
use Rattle.nq_journal.specs.declared.parsing.JournalFault.TheVariants as fault
use Rattle.nq_journal.specs.Fault.{IsFaultyAt, IsUnbroken, ended}
use Rattle.nq_base.specs.Plain.{plain}
use Rattle.nq_journal.specs.Text.{Has, Fits, entry_line, end_line, IsText}

-- the number of a line as a fault names it: it stands still at the end of its type
abbrev pub named : ℕ → ℕ
named line = min line (2 ^ 32 - 1)

-- the text is that of these entries in one of the versions
pub record IsTextOf (entries : List Entry) (bytes : List ℕ) : Type 0 where
  pub version : ℕ
  pub text : IsText version entries bytes

-- the number is that of the text's first faulty line
pub record IsFault (number : ℕ) (bytes : List ℕ) : Type 0 where
  pub line : ℕ
  pub faulty : IsFaultyAt line bytes
  pub is_named : number ≡ named line

-- what was parsed: the text's entries, or its first faulty line
abbrev pub Parses : List ℕ → Result Journal JournalFault → Type 0
Parses bytes (Ok journal) = IsTextOf journal.entries bytes
Parses bytes (Err (fault.Line number)) = IsFault number bytes
Parses bytes (Err fault.Memory) = Unit {0}

-- these entries were parsed, up to room reserved in them, or memory was wanting
abbrev pub GivesEntries : List Entry → Result Journal JournalFault → Type 0
GivesEntries entries (Ok journal) = map plain journal.entries ≡ map plain entries
GivesEntries entries (Err (fault.Line number)) = ⊥
GivesEntries entries (Err fault.Memory) = Unit {0}

-- this line was found faulty, or memory was wanting
abbrev pub GivesFault : (line : ℕ) → Result Journal JournalFault → Type 0
GivesFault line (Ok journal) = ⊥
GivesFault line (Err (fault.Line number)) = number ≡ named line
GivesFault line (Err fault.Memory) = Unit {0}

-- entries that a version has and whose numbers are in their ranges
pub record AreEntries (version : ℕ) (entries : List Entry) : Type 0 where
  pub has : All (Has version) entries
  pub fits : All Fits entries

-- no whole line in front of these bytes is an entry's or the last
pub record IsWrong (version : ℕ) (bytes : List ℕ) : Type 0 where
  pub no_end : (line after : List ℕ) → IsUnbroken line → bytes ≡ ended line ++ after → ended line ≢ end_line
  pub no_entry : (line after : List ℕ) (entry : Entry) → IsUnbroken line → bytes ≡ ended line ++ after → Fits entry → Has version entry
      → ended line ≢ entry_line version entry

-- the last line is in front of these bytes, and something stands behind it
pub record IsTooLong (bytes : List ℕ) : Type 0 where
  pub after : List ℕ
  pub some : after ≢ []
  pub split : bytes ≡ end_line ++ after

-- behind the first line of a text stand the lines of some entries, and then a faulty line, which is named so
pub record StopsAt (version : ℕ) (number : ℕ) (bytes : List ℕ) : Type 0 where
  pub entries : List Entry
  pub are : AreEntries version entries
  pub left : List ℕ
  pub split : bytes ≡ flat_map (entry_line version) entries ++ left
  pub why :
      ((number ≡ named (length entries + 2)) × IsWrong version left) ⊎ ((number ≡ named (length entries + 3)) × IsTooLong left)

-- behind the first line of a text stand the lines of these entries, and then the last
pub record Ends (version : ℕ) (entries : List Entry) (bytes : List ℕ) : Type 0 where
  pub are : AreEntries version entries
  pub split : bytes ≡ flat_map (entry_line version) entries ++ end_line

-- what was parsed behind the first line
abbrev pub ParsesRest : (version : ℕ) → List ℕ → Result Journal JournalFault → Type 0
ParsesRest version bytes (Ok journal) = Ends version journal.entries bytes
ParsesRest version bytes (Err (fault.Line number)) = StopsAt version number bytes
ParsesRest version bytes (Err fault.Memory) = Unit {0}
