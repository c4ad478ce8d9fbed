-- What a host does in the lines of a schedule with lists that are none of a schedule.
use Rattle.std.specs.Prelude.{ℕ, ◌<◌, List, Option, Some, None}
use Rattle.nq_replay.specs.Text.{FirstBadMixed, MixedLine, SpellsMixed}
use Rattle.nq_directory.specs.Prefix.{IsPrefix}
use Rattle.nq_naming.specs.Line.{find_line, list_line}
use Rattle.nq_naming.specs.declared.script.aside.Aside.{Aside}
use Rattle.nq_script.specs.declared.heads.Head.{Head}

-- by what a line lists, and what it finds
abbrev pub aside_by : Option (ℕ × List ℕ) → Option (ℕ × List ℕ) → Option Aside
aside_by (Some l) find = Some (Aside.List l.0 l.1)
aside_by None (Some f) = Some (Aside.Find f.0 f.1)
aside_by None None = None

-- what a host does in a line, if it is none of a schedule
unfoldable pub aside_of : (hosts : ℕ) → List ℕ → Option Aside
aside_of hosts line = aside_by (list_line hosts line) (find_line hosts line)

-- a list or a find of a host that is there
abbrev pub IsOfHost : (hosts : ℕ) → Aside → Type 0
IsOfHost hosts (Aside.List host prefix) = (host < hosts) × IsPrefix prefix
IsOfHost hosts (Aside.Find host name) = host < hosts

-- a line of a schedule with lists
abbrev pub NamesLine : Type 0
NamesLine = MixedLine Aside

-- the text is a schedule with lists of this head and these lines
abbrev pub SpellsNames : Head → (lines : List NamesLine) → (text : List ℕ) → Type 0
SpellsNames = SpellsMixed aside_of

-- the first line that is wrong in a text that is no schedule with lists
abbrev pub FirstBadNames : (text : List ℕ) → (number : ℕ) → Type 0
FirstBadNames = FirstBadMixed aside_of
