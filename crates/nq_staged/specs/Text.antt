-- What the lines of a staged schedule say that are none of a schedule: `stage H`, the offer of a host's side.
use Rattle.std.specs.Prelude.{ℕ, ◌<◌, List, Option, Some, None}
use Rattle.nq_replay.specs.Text.{FirstBadMixed, MixedLine, SpellsMixed}
use Rattle.nq_staged.specs.Line.{stage_line}
use Rattle.nq_script.specs.declared.heads.Head.{Head}
use Rattle.nq_staged.specs.declared.offer.Offer.{Offer}

-- the offer of a host, if there is one
abbrev pub offer_by : Option ℕ → Option Offer
offer_by None = None
offer_by (Some host) = Some (record { host = host })

-- the offer that a line tells, if it tells one
unfoldable pub offer_of : (hosts : ℕ) → List ℕ → Option Offer
offer_of hosts line = offer_by (stage_line hosts line)

-- the offer of a host that is there
abbrev pub IsOfHost : (hosts : ℕ) → Offer → Type 0
IsOfHost hosts offer = offer.host < hosts

-- a line of a staged schedule
abbrev pub StagedLine : Type 0
StagedLine = MixedLine Offer

-- the text is a staged schedule of this head and these lines
abbrev pub SpellsStaged : Head → (lines : List StagedLine) → (text : List ℕ) → Type 0
SpellsStaged = SpellsMixed offer_of

-- the first line that is wrong in a text that is no staged schedule
abbrev pub FirstBadStaged : (text : List ℕ) → (number : ℕ) → Type 0
FirstBadStaged = FirstBadMixed offer_of
