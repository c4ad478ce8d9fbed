-- What hosts find, and the lines that say it.
use Rattle.std.specs.Fmt.{decimal}
use Rattle.std.specs.List.{AllByRecursion}
use Rattle.std.specs.Prelude.{◌≡◌, ◌≢◌, ℕ, List, [], ◌∷◌, ◌++◌, codes, length}
use Rattle.nq_base.specs.declared.Event.{Event}
use Rattle.nq_model.specs.protocol.Kept.{find_name}
use Rattle.nq_model.specs.protocol.World.{Head as Beginning, run}
use Rattle.nq_directory.specs.declared.name_cache.found.Found.{Found}
use Rattle.nq_name_server.specs.declared.run.event.NameEvent.{NameEvent}
use Rattle.nq_name_server.specs.Outer.{Outside}
use Rattle.nq_name_server.specs.Outside.{found, outside_run}
use Rattle.nq_name_server.specs.Theorem.{kept_as}
use Rattle.nq_naming.specs.Playing.{Moment, Sought}
use Rattle.nq_script.specs.Words.{line}

-- the word of what was found: the id of the file, 0 where no file has the name, or `none` where the host does not know
abbrev pub found_word : Found → List ℕ
found_word (Found.File file) = decimal file
found_word Found.Absent = codes "0"
found_word Found.Unknown = codes "none"

-- the line of a find behind so many inner events
unfoldable pub find_line : (host : ℕ) → (name : List ℕ) → (events : ℕ) → Found → List ℕ
find_line host name events known =
    line (codes "find" ∷ decimal host ∷ name ∷ codes "at" ∷ decimal events ∷ found_word known ∷ [])

-- the run with lists as it was when a find came
abbrev pub then_of : Beginning → Sought → Outside
then_of head s = outside_run head s.events

-- what the host knew of the name
abbrev pub known_of : Beginning → Sought → Found
known_of head s = found (then_of head s) s.host s.name

-- the line of a find
abbrev pub line_of : Beginning → Sought → List ℕ
line_of head s = find_line s.host s.name (length (then_of head s).ran) (known_of head s)

-- the lines of finds, which are told with the newest first
abbrev pub lines_of : Beginning → List Sought → List ℕ
lines_of head [] = []
lines_of head (s ∷ finds) = lines_of head finds ++ line_of head s

-- A find is true: the inner events before it are the first of all inner events, and if the host knew of the name, it knew what the
-- server kept under it behind them, which is what the inner run of those events keeps.
pub record IsTrueFind (head : Beginning) (events : List NameEvent) (s : Sought) : Type 0 where
  pub later : List Event
  pub before : (outside_run head events).ran ≡ later ++ (then_of head s).ran
  pub kept : known_of head s ≢ Found.Unknown → known_of head s ≡ kept_as (find_name s.name (run head (then_of head s).ran).server.kept.files)

-- each find is
abbrev pub FindsAreTrue : Beginning → Moment → Type 0
FindsAreTrue head m = AllByRecursion (IsTrueFind head m.events) m.finds
