-- What is promised of a world with leased directories.
use Rattle.std.specs.Prelude.{◌≡◌, ◌≢◌, ◌≤◌, ℕ, List, Option, Some, None, length}
use Rattle.walk_steps.specs.Within.{AreGiven, IsHeadWithin}
use Rattle.nq_directory.specs.Prefix.{IsPrefix}
use Rattle.nq_model.specs.laws.Journal.{Each}
use Rattle.nq_model.specs.protocol.Kept.{File, find_name}
use Rattle.nq_model.specs.protocol.Skew.{IsWithinSkew}
use Rattle.nq_model.specs.protocol.Stepped.{most_events}
use Rattle.nq_model.specs.protocol.World.{Head, run}
use Rattle.nq_directory.specs.declared.name_cache.found.Found.{Found}
use Rattle.nq_name_server.specs.declared.run.event.NameEvent.{NameEvent}
use Rattle.nq_name_server.specs.Outer.{Outside}
use Rattle.nq_name_server.specs.Outside.{found, outside_run, outside_step}
use Rattle.nq_model.specs.laws.Bounds.{KeepsBounds}

-- The inner world is the run of the inner events: so its journal is that run's, and all that is promised of runs holds of it.
abbrev pub RunsInside : Type 0
RunsInside = (head : Head) (events : List NameEvent) → (outside_run head events).world ≡ run head (outside_run head events).ran

-- To ask for a list leaves the inner world as it is.
abbrev pub ListsChangeNothing : Type 0
ListsChangeNothing = (o : Outside) (host : ℕ) (prefix : List ℕ) → (outside_step o (NameEvent.List host prefix)).world ≡ o.world

-- ---- what is found

-- the file of a name, or that no file has it
abbrev pub kept_as : Option File → Found
kept_as None = Found.Absent
kept_as (Some f) = Found.File f.id

-- A host that knows of a name knows what the server keeps under it at that moment.
abbrev pub FindsWhatIsKept : Outside → Type 0
FindsWhatIsKept o =
    (host : ℕ) (name : List ℕ)
    → found o host name ≢ Found.Unknown
    → found o host name ≡ kept_as (find_name name o.world.server.kept.files)

-- ---- which schedules this is promised of

-- the prefix of a list is one
abbrev pub BringsPrefix : NameEvent → Type 0
BringsPrefix (NameEvent.List host prefix) = IsPrefix prefix
BringsPrefix (NameEvent.Plain event) = Unit {0}

-- A schedule with lists has no more events than there may be, and brings prefixes. Its head is within its bounds. Its inner events keep
-- to bounds, bring names and blocks, and are within skew over the longest term of all boots.
pub record IsNamesSchedule (most : ℕ) (head : Head) (events : List NameEvent) : Type 0 where
  pub few : length events ≤ most_events
  pub prefixes : Each BringsPrefix events
  pub head_within : IsHeadWithin head
  pub bounds : KeepsBounds most head (outside_run head events).ran
  pub given : AreGiven head (outside_run head events).ran
  pub skew : IsWithinSkew head.hosts most (outside_run head events).ran

-- So it is after each such schedule.
abbrev pub EachFindIsKept : Type 0
EachFindIsKept =
    (most : ℕ) (head : Head) (events : List NameEvent)
    → IsNamesSchedule most head events
    → FindsWhatIsKept (outside_run head events)
