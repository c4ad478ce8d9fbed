-- A storm as a whole. The events of a run are told with the newest first.
use Rattle.std.specs.Prelude.{◌≡◌, ℕ, List, length, map, reverse, Option}
use Rattle.nq_base.specs.declared.Event.{Event}
use Rattle.nq_replay.specs.Lawful.{IsLawful}
use Rattle.nq_replay.specs.Playing.{beginning}
use Rattle.nq_replay.specs.Replay.{Runs}
use Rattle.nq_script.specs.Lines.{once}
use Rattle.nq_script.specs.Schedule.{SpellsSchedule}
use Rattle.nq_storm.specs.Heads.{storm_head}
use Rattle.nq_storm.specs.Storming.{IsStorm}
use Rattle.nq_storm.specs.Rules.{Rule}

-- the text is a schedule with a line for each event, a tick as `tick s 1` or `tick H 1`, and its run is this one: a storm of so many
-- events that starts with this number, of a fate that tells this first. It is within skew and keeps to the bounds
pub record IsWholeStorm (start count : ℕ) (first : Option Rule) (text : List ℕ) (events : List Event) : Type 0 where
  pub last : Option Rule
  pub storm : IsStorm (beginning storm_head) start first events last
  pub many : length events ≡ count
  pub spelled : SpellsSchedule storm_head (map once (reverse events)) text
  pub runs : Runs text storm_head events
  pub lawful : IsLawful (beginning storm_head) events
