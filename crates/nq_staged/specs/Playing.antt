-- How the lines of a staged schedule are played, event by event. The events of a run are told with the newest first.
use Rattle.std.specs.Prelude.{◌+◌, List, [], ◌∷◌, length, Option, Some, None}
use Rattle.nq_base.specs.declared.Event.{Event}
use Rattle.nq_model.specs.protocol.Stepped.{most_events}
use Rattle.nq_replay.specs.AsidesPlaying.{Ended, answered}
use Rattle.nq_replay.specs.Playing.{beginning}
use Rattle.nq_replay.specs.Rules.{Rules, play_lines, with_event}
use Rattle.nq_script.specs.Heads.{head_lines}
use Rattle.nq_script.specs.declared.heads.Head.{Head}
use Rattle.nq_stage.specs.Outside.{outside_run}
use Rattle.nq_stage.specs.declared.run.event.StagedEvent.{StagedEvent}
use Rattle.nq_staged.specs.Text.{StagedLine}
use Rattle.nq_staged.specs.Worlds.{stepped_outside}
use Rattle.nq_staged.specs.declared.offer.Offer.{Offer}

-- the event of a schedule that a staged event is: an offer is none
abbrev pub plain_event : StagedEvent → Option Event
plain_event (StagedEvent.Plain event) = Some event
plain_event (StagedEvent.Stage host) = None

-- the events that are no offers
abbrev pub plain_events : List StagedEvent → List Event
plain_events [] = []
plain_events (event ∷ events) = with_event (plain_event event) (plain_events events)

-- the rules of a staged world: an aside is an offer, packets are those that travel outside, and what playing comes to are the events
abbrev pub staged_rules : Rules StagedEvent Offer (List StagedEvent)
staged_rules = record {
  of_schedule = λ event. StagedEvent.Plain event;
  in_schedule = plain_event;
  answer = stepped_outside;
  more = λ events event. event ∷ events;
  aside = λ head offer events. answered (StagedEvent.Stage offer.host ∷ events) (stepped_outside head events (StagedEvent.Stage offer.host));
  scheduled = plain_events;
  sent = λ head events. length (outside_run head events).sent;
}

-- a staged schedule is played from the start; one delivery more than a schedule may have events is one too many
unfoldable pub play : Head → List StagedLine → Ended (List StagedEvent)
play head lines = play_lines staged_rules (beginning head) (most_events + 1) (length (head_lines head) + 1) lines []
