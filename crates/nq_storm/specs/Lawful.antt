-- The schedule of a storm. The events of a run are told with the newest first.
use Rattle.std.specs.Prelude.{◌≡◌, ℕ, List, map, reverse, Option}
use Rattle.nq_base.specs.declared.Event.{Event}
use Rattle.nq_replay.specs.Lawful.{IsLawful}
use Rattle.nq_replay.specs.AsidesPlaying.{ran}
use Rattle.nq_replay.specs.Playing.{beginning, play}
use Rattle.nq_script.specs.Lines.{once}
use Rattle.nq_script.specs.Schedule.{SpellsSchedule}
use Rattle.nq_script.specs.declared.heads.Head.{Head}
use Rattle.nq_storm.specs.Storming.{IsStorm}
use Rattle.nq_storm.specs.Rules.{Rule}

-- where a text spells the events of a storm one by one, with the oldest first, playing it makes the run of this storm, which is lawful
abbrev pub StormsAreLawful : Type 0
StormsAreLawful =
    (head : Head) (start : ℕ) (first last : Option Rule) (events : List Event) (text : List ℕ)
    → IsStorm (beginning head) start first (reverse events) last
    → SpellsSchedule head (map once events) text
    → (play head (map once events) ≡ ran (reverse events)) × IsLawful (beginning head) (reverse events)
