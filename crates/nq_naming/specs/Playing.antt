-- How the lines of a schedule with lists are played. The events of a run are told with the newest first.
use Rattle.std.specs.Prelude.{ℕ, ◌+◌, List, [], ◌∷◌, length, Option, Some, None}
use Rattle.nq_base.specs.declared.Event.{Event}
use Rattle.nq_model.specs.protocol.Stepped.{Stepped, most_events}
use Rattle.nq_model.specs.protocol.World.{Head as Beginning}
use Rattle.nq_name_server.specs.Outside.{outside_run}
use Rattle.nq_name_server.specs.declared.run.event.NameEvent.{NameEvent}
use Rattle.nq_names.specs.Playing.{stepped_outside}
use Rattle.nq_naming.specs.Text.{NamesLine}
use Rattle.nq_naming.specs.declared.script.aside.Aside.{Aside}
use Rattle.nq_replay.specs.AsidesPlaying.{Ended, Played, answered, took}
use Rattle.nq_replay.specs.Playing.{beginning}
use Rattle.nq_replay.specs.Rules.{Rules, play_lines, with_event}
use Rattle.nq_script.specs.Heads.{head_lines}
use Rattle.nq_script.specs.declared.heads.Head.{Head}

-- the event of a schedule that an event is: a list is none
abbrev pub plain_event : NameEvent → Option Event
plain_event (NameEvent.Plain event) = Some event
plain_event (NameEvent.List host prefix) = None

-- the events that are no lists
abbrev pub plain_events : List NameEvent → List Event
plain_events [] = []
plain_events (event ∷ events) = with_event (plain_event event) (plain_events events)

-- ---- events and finds

-- a find: the host, the name, and the events before it
pub record Sought : Type 0 where
  pub host : ℕ
  pub name : List ℕ
  pub events : List NameEvent

-- a moment of a schedule with lists: the events that were taken, and the finds, the newest first
pub record Moment : Type 0 where
  pub events : List NameEvent
  pub finds : List Sought

-- nothing was played yet
abbrev pub first_moment : Moment
first_moment = record { events = []; finds = [] }

-- an event more
abbrev pub with_more : Moment → NameEvent → Moment
with_more m event = record { events = event ∷ m.events; finds = m.finds }

-- a find more
abbrev pub with_find : Moment → (host : ℕ) → (name : List ℕ) → Moment
with_find m host name = record { events = m.events; finds = record { host = host; name = name; events = m.events } ∷ m.finds }

-- ---- the rules

-- what is answered to an event at a moment
abbrev pub answer_at : Beginning → Moment → NameEvent → Stepped
answer_at head m event = stepped_outside head m.events event

-- what an aside comes to. A find is no event
abbrev pub play_aside : Beginning → Aside → Moment → Played Moment
play_aside head (Aside.List host prefix) m = answered (with_more m (NameEvent.List host prefix)) (answer_at head m (NameEvent.List host prefix))
play_aside head (Aside.Find host name) m = took (with_find m host name)

-- the events of a schedule that were taken before a moment
abbrev pub scheduled_at : Moment → List Event
scheduled_at m = plain_events m.events

-- how many packets travel at a moment
abbrev pub sent_at : Beginning → Moment → ℕ
sent_at head m = length (outside_run head m.events).sent

-- the rules of a world with leased directories: packets are those that travel outside
abbrev pub names_rules : Rules NameEvent Aside Moment
names_rules = record {
  of_schedule = λ event. NameEvent.Plain event;
  in_schedule = plain_event;
  answer = answer_at;
  more = with_more;
  aside = play_aside;
  scheduled = scheduled_at;
  sent = sent_at;
}

-- a schedule with lists is played from the start; one delivery more than a schedule may have events is one too many
unfoldable pub play : Head → List NamesLine → Ended Moment
play head lines = play_lines names_rules (beginning head) (most_events + 1) (length (head_lines head) + 1) lines first_moment
