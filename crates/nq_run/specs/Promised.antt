-- What is promised of a journal that is printed.
use Rattle.std.specs.Prelude.{◌≡◌, ℕ, List, ◌++◌, Option, Some, None, reverse}
use Rattle.nq_base.specs.declared.Entry.{Entry}
use Rattle.nq_base.specs.declared.Event.{Event}
use Rattle.nq_check.specs.Verdict.{verdict}
use Rattle.nq_io.specs.Told.{with_end}
use Rattle.nq_journal.specs.Text.{journal_text}
use Rattle.nq_model.specs.protocol.Kept.{Kept}
use Rattle.nq_replay.specs.Playing.{beginning}
use Rattle.nq_model.specs.laws.Headline.{HoldsAt}
use Rattle.nq_replay.specs.Replay.{Runs, journal_printed, kept_of}
use Rattle.nq_script.specs.declared.heads.Head.{Head}

-- the most bytes that are read
unfoldable pub most_bytes : ℕ
most_bytes = 16777216

-- the headline holds at each moment of a schedule, which is told with its newest event first
abbrev pub HoldsThroughout : Head → List Event → Type 0
HoldsThroughout head events = (later earlier : List Event) → events ≡ later ++ earlier → HoldsAt (beginning head) later earlier

-- the text is a schedule, playing it printed the journal of its run, the headline holds at each moment of that run, and what the run keeps
-- is told
pub record PrintsLawfully (text : List ℕ) (held now : Option (List ℕ)) (told : Option Kept) : Type 0 where
  pub head : Head
  pub events : List Event
  pub runs : Runs text head events
  pub printed : now ≡ with_end held (journal_printed head events)
  pub holds : HoldsThroughout head events
  pub keeps : told ≡ Some (kept_of head events)

-- a journal was printed, and nothing in it is at fault
pub record PrintsSound (held now : Option (List ℕ)) : Type 0 where
  pub version : ℕ
  pub entries : List Entry
  pub printed : now ≡ with_end held (journal_text version entries)
  pub judged : verdict (reverse entries) ≡ None
