-- A diary. Below, `held` is what a sink held before a call and `now` is what it holds after it, where the sink tells them.
use Rattle.std.specs.Fmt.{decimal}
use Rattle.std.specs.Prelude.{◌≡◌, ◌≢◌, ◌⊎◌, ℕ, List, [], ◌∷◌, ◌++◌, Option, codes}
use Rattle.nq_base.specs.declared.Entry.{Entry}
use Rattle.nq_diary.specs.declared.notes.Noted.{Noted}
use Rattle.nq_io.specs.Faults.{Rose}
use Rattle.nq_io.specs.Sink.{AppendsFront}
use Rattle.nq_io.specs.Told.{with_end}
use Rattle.nq_journal.specs.Text.{journal_text}

-- the line that tells a moment, in nanoseconds
abbrev pub moment_line : (nanos : ℕ) → List ℕ
moment_line nanos = codes "at " ++ (decimal nanos ++ 10 ∷ [])

-- the note of a turn: its moment, and the text of a journal with its entries
abbrev pub note_text : (nanos : ℕ) → List Entry → List ℕ
note_text nanos entries = moment_line nanos ++ journal_text 2 entries

-- What noting the entries of a turn does, by its answer. Where the sink failed, some of the note was appended, and where memory was wanting,
-- nothing. Neither comes where there are no entries.
abbrev pub Notes : Noted → List Entry → (held now : Option (List ℕ)) → Type 0
Notes Noted.All entries held now = ((entries ≡ []) × (now ≡ held)) ⊎ ((nanos : ℕ) × (now ≡ with_end held (note_text nanos entries)))
Notes Noted.Failed entries held now = (entries ≢ []) × ((nanos : ℕ) × AppendsFront (note_text nanos entries) held now)
Notes Noted.Memory entries held now = (entries ≢ []) × (now ≡ held)

-- noting raises the sink's count of faults where the sink failed, and leaves it where all was noted or memory was wanting
abbrev pub CountsNote : Noted → (before now : ℕ) → Type 0
CountsNote Noted.All before now = now ≡ before
CountsNote Noted.Failed before now = Rose before now
CountsNote Noted.Memory before now = now ≡ before
