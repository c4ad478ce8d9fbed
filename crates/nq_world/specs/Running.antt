-- The run of the events that a world has taken in, and what it answers to the next one. Events are told with the newest first.
use Rattle.std.specs.Prelude.{◌≡◌, ◌≤◌, ◌<◌, ℕ, List, [], ◌∷◌, Option, None, All, length, nat_lt, if◌then◌else◌}
use Rattle.nq_base.specs.declared.Event.{Event}
use Rattle.nq_base.specs.declared.SkewBroken.{SkewBroken}
use Rattle.nq_clock.specs.Counts.{SkewCounts}
use Rattle.nq_clock.specs.Tracks.{Follows}
use Rattle.nq_datagrams.specs.Messages.{FitsMessage, bytes_of}
use Rattle.nq_model.specs.protocol.Change.{IsWithinBounds}
use Rattle.nq_model.specs.protocol.Message.{Message}
use Rattle.nq_model.specs.protocol.Skew.{IsWithinSkew}
use Rattle.nq_model.specs.protocol.SkewBroken.{skew_broken}
use Rattle.nq_model.specs.protocol.Stepped.{Stepped, too_many_events, no_packet, most_events, most_sent, tested_room, tested_skew, stepped}
use Rattle.nq_model.specs.protocol.ServerStep.{boot}
use Rattle.nq_model.specs.protocol.World.{Head, first_clients, first_kept, run, step}
use Rattle.nq_model.specs.laws.Bounds.{BootsWithin, KeepsBounds}
use Rattle.walk_steps.specs.Within.{CarriesText, IsGiven, AreGiven, IsHeadWithin}
use Rattle.nq_world.specs.Counting.{HasNumbersLeft}
use Rattle.nq_world.specs.Shown.{Seen, Shows}

-- what is seen of a world, and its test of skew, are those of the run of these events from this head: there are not too many of
-- them, each was given so that it can be taken in, no boot has a longer term than the head's, and the clocks are within skew
pub record IsRunOf (head : Head) (events : List Event) (seen : Seen) (skew : SkewCounts) : Type 0 where
  pub within : IsHeadWithin head
  pub shows : Shows (run head events) seen
  pub few : length events ≤ most_events
  pub given : AreGiven head events
  pub boots : All (BootsWithin head.longest) events
  pub hosts : length skew.hosts ≡ head.hosts
  pub window : skew.window ≡ head.longest
  pub clocks : Follows skew events

-- what an event is answered after so many events and packets, where a tick of the server's clock would break this
abbrev pub tested_seen : (broken : Option SkewBroken) → (packets : ℕ) → Event → Stepped
tested_seen broken packets (Event.Deliver k) = if nat_lt k packets then tested_room packets else no_packet
tested_seen broken packets Event.ServerTick = tested_skew packets broken
tested_seen broken packets other = tested_room packets

abbrev pub stepped_seen : (events packets : ℕ) → (broken : Option SkewBroken) → Event → Stepped
stepped_seen events packets broken event =
    if nat_lt events most_events then tested_seen broken packets event else too_many_events

-- what is seen is enough to answer an event as the protocol does
abbrev pub TestsAreExact : Type 0
TestsAreExact =
    (head : Head) (events : List Event) (seen : Seen) (skew : SkewCounts) (event : Event)
    → IsRunOf head events seen skew
    → stepped head events event
    ≡ stepped_seen (length events) (length seen.datagrams) (skew_broken (length skew.hosts) skew.window events) event

-- a world without events is the start of the run: its clients are attached, and nothing was sent or told
abbrev pub RunsBegin : Type 0
RunsBegin =
    (head : Head) (seen : Seen) (skew : SkewCounts)
    → IsHeadWithin head
    → seen.clients ≡ first_clients head.term 0 head.hosts
    → seen.datagrams ≡ []
    → seen.entries ≡ []
    → length skew.hosts ≡ head.hosts
    → skew.window ≡ head.longest
    → Follows skew []
    → IsRunOf head [] seen skew

-- and its server is the boot of the protocol over what is kept first
abbrev pub ServersBegin : Type 0
ServersBegin = (head : Head) → (run head []).server ≡ boot (first_kept head) head.longest 0 None

-- an event that is given goes on with the run
abbrev pub RunsGoOn : Type 0
RunsGoOn =
    (head : Head) (events : List Event) (event : Event) (seen seen' : Seen) (skew skew' : SkewCounts)
    → IsRunOf head events seen skew
    → length events < most_events
    → length seen.datagrams ≤ most_sent
    → IsGiven (run head events) event
    → BootsWithin head.longest event
    → Shows (step (run head events) event) seen'
    → length skew'.hosts ≡ length skew.hosts
    → skew'.window ≡ skew.window
    → Follows skew' (event ∷ events)
    → IsRunOf head (event ∷ events) seen' skew'

-- in a run that a world has taken in, what the server keeps is within its bounds, and the schedule keeps to the bounds and is
-- within skew: nothing more is wanted for the headline
abbrev pub RunsAreLawful : Type 0
RunsAreLawful =
    (head : Head) (events : List Event) (seen : Seen) (skew : SkewCounts)
    → IsRunOf head events seen skew
    → IsWithinBounds (run head events).server.kept
    × KeepsBounds head.longest head events
    × IsWithinSkew head.hosts head.longest events

-- and none of its numbers comes to its end
abbrev pub RunsAreUnspent : Type 0
RunsAreUnspent =
    (head : Head) (events : List Event) (seen : Seen) (skew : SkewCounts)
    → IsRunOf head events seen skew
    → HasNumbersLeft (run head events)

-- a message whose numbers are within their fields, and whose bytes are bytes, carries a name that is one and a body of bytes
abbrev pub BytesCarryText : Type 0
BytesCarryText = (m : Message) → FitsMessage m → All (λ b. b < 256) (bytes_of m) → CarriesText m

-- the run of a world's events is a run of the protocol
pub record WorldsRun : Type 0 where
  pub begins : RunsBegin
  pub servers : ServersBegin
  pub tests : TestsAreExact
  pub goes_on : RunsGoOn
  pub lawful : RunsAreLawful
  pub unspent : RunsAreUnspent
  pub text : BytesCarryText
