-- The run of a schedule that was played is lawful: all that the laws of the protocol ask of a schedule holds of its events.
use Rattle.std.specs.Prelude.{◌≡◌, ℕ, List}
use Rattle.nq_base.specs.declared.Event.{Event}
use Rattle.nq_model.specs.protocol.Skew.{IsWithinSkew}
use Rattle.nq_model.specs.protocol.World.{Head as Beginning}
use Rattle.nq_replay.specs.AsidesPlaying.{ran}
use Rattle.nq_replay.specs.Playing.{beginning, play}
use Rattle.nq_model.specs.laws.Bounds.{KeepsBounds}
use Rattle.nq_script.specs.Schedule.{SpellsSchedule}
use Rattle.nq_script.specs.declared.heads.Head.{Head}
use Rattle.nq_script.specs.declared.lines.Line.{Line}

-- a schedule keeps to the bounds, and is within skew
pub record IsLawful (head : Beginning) (events : List Event) : Type 0 where
  pub bounds : KeepsBounds head.longest head events
  pub skew : IsWithinSkew head.hosts head.longest events

-- where each line of a text was played, the run is lawful
abbrev pub PlayedRunsAreLawful : Type 0
PlayedRunsAreLawful =
    (head : Head) (lines : List Line) (text : List ℕ) (events : List Event)
    → SpellsSchedule head lines text
    → play head lines ≡ ran events
    → IsLawful (beginning head) events
