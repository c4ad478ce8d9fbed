-- How the lines of a schedule are played in the world of the protocol. The events of a run are told with the newest first.
use Rattle.std.specs.Prelude.{◌+◌, List, [], ◌∷◌, length, Some}
use Rattle.nq_base.specs.declared.Event.{Event}
use Rattle.nq_model.specs.protocol.Stepped.{most_events, stepped}
use Rattle.nq_model.specs.protocol.World.{run}
use Rattle.nq_replay.specs.AsidesPlaying.{Ended, took}
use Rattle.nq_replay.specs.Rules.{Rules, play_lines}
use Rattle.nq_replay.specs.Text.{mixed}
use Rattle.nq_script.specs.Heads.{head_lines}
use Rattle.nq_script.specs.declared.heads.Head.{Head}
use Rattle.nq_script.specs.declared.lines.Line.{Line}
pub use Rattle.nq_world.specs.Beginning.{beginning}

-- the rules of the protocol's world: each event is one of a schedule, and there are no asides. What playing comes to are the events
abbrev pub plain_rules : Rules Event (Unit {0}) (List Event)
plain_rules = record {
  of_schedule = λ event. event;
  in_schedule = λ event. Some event;
  answer = stepped;
  more = λ events event. event ∷ events;
  aside = λ head aside events. took events;
  scheduled = λ events. events;
  sent = λ head events. length (run head events).packets;
}

-- a schedule is played from the start; one delivery more than a schedule may have events is one too many
unfoldable pub play : Head → List Line → Ended (List Event)
play head lines = play_lines plain_rules (beginning head) (most_events + 1) (length (head_lines head) + 1) (mixed [] lines) []
