-- Whoever is told to give up a row has given it up before a clock ticks: a row that is to go at such a moment was to go long before.
use Rattle.std.specs.Prelude.{◌≡◌, ◌≤◌, ℕ, ◌+◌, true, false, List, Some}
use Rattle.nq_base.specs.declared.Event.{Event}
use Rattle.nq_base.specs.declared.Row.{Row}
use Rattle.nq_base.specs.declared.Tag.{Tag}
use Rattle.nq_model.specs.protocol.Lines.{Play}
use Rattle.nq_model.specs.protocol.Table.{find_row}
use Rattle.nq_model.specs.protocol.World.{Head, run}
use Rattle.law_rounds.specs.CalmRoundsAreLawful.{IsLawful}
use Rattle.law_rounds.specs.DeliveryEnds.{calmed}
use Rattle.law_rounds.specs.RoundsEndQuiet.{IsSmall}
use Rattle.law_timely.specs.Timely.{is_dead, is_still, LeadsTo, ticks_to_settle}

-- a host has a row of a file with this tag, and it is to go
pub record IsToGo (rows : List Row) (file host : ℕ) (tag : Tag) : Type 0 where
  pub row : Row
  pub there : find_row file host rows ≡ Some row
  pub latest : row.tag ≡ tag
  pub going : row.evicting ≡ true

-- after every schedule within skew, whatever is under way and whoever is dead, the network is timely, and five ticks later or more nothing is under
-- way on any live link. Whenever that is so again, a live host's row that is to go was to go already at that moment, where the schedule with all
-- this is no longer than a schedule may be
abbrev pub RowsAreGivenUp : Type 0
RowsAreGivenUp =
    (most : ℕ) (head : Head) (events : List Event) (under_way dead : List ℕ) (moment later : Play)
    → LeadsTo dead (calmed head events under_way) moment
    → LeadsTo dead moment later
    → IsLawful most head later
    → IsSmall later
    → (run head events).server.now + ticks_to_settle ≤ moment.world.server.now
    → is_still dead moment.world.packets moment.fresh ≡ true
    → is_still dead later.world.packets later.fresh ≡ true
    → (file host : ℕ) (row : Row)
    → is_dead dead host ≡ false
    → find_row file host later.world.server.table.rows ≡ Some row
    → row.evicting ≡ true
    → IsToGo moment.world.server.table.rows file host row.tag
