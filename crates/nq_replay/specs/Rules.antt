-- The rules of a world in which a schedule is played, and how its lines are played by them, event by event. Below, `E` is an event of the
-- world, `A` is an aside, and `S` is a moment, which is what playing comes to.
use Rattle.std.specs.Prelude.{ℕ, ◌+◌, List, ◌∷◌, Option, Some, None, zero, suc}
use Rattle.nq_base.specs.declared.Event.{Event}
use Rattle.nq_model.specs.protocol.Stepped.{Stepped, too_many_events}
use Rattle.nq_model.specs.protocol.World.{Head}
use Rattle.nq_replay.specs.AsidesPlaying.{Ended, Played, and_then, answered, play_each, refused, repeated, took, with_packet}
use Rattle.nq_replay.specs.Delivering.{least_undelivered}
use Rattle.nq_replay.specs.Text.{MixedLine, beside, plain}
use Rattle.nq_script.specs.declared.lines.Line.{Line}

-- The rules of a world: an event of a schedule as one of the world, and which event of a schedule one of the world is, if it is one; what is
-- answered to an event at a moment, and the moment behind an event that was taken; what an aside comes to; the events of a schedule that
-- were taken before a moment, the newest first, and how many packets travel at it.
pub record Rules (E A S : Type 0) : Type 0 where
  pub of_schedule : Event → E
  pub in_schedule : E → Option Event
  pub answer : Head → S → E → Stepped
  pub more : S → E → S
  pub aside : Head → A → S → Played S
  pub scheduled : S → List Event
  pub sent : Head → S → ℕ

-- an event in front of others, if there is one
abbrev pub with_event : Option Event → List Event → List Event
with_event None events = events
with_event (Some event) events = event ∷ events

-- the packet that an event delivers, if it is a delivery
abbrev pub packet_of : Option Event → Option ℕ
packet_of (Some (Event.Deliver packet)) = Some packet
packet_of other = None

-- the least packet that travels and was never delivered
unfoldable pub next_packet : {E A S : Type 0} → Rules E A S → Head → S → Option ℕ
next_packet rules head moment = least_undelivered 0 (rules.sent head moment) (rules.scheduled moment)

-- an event is given to the world
unfoldable pub play_event : {E A S : Type 0} → Rules E A S → Head → E → S → Played S
play_event rules head event moment = answered (rules.more moment event) (rules.answer head moment event)

-- an event of a schedule is given to the world
abbrev pub play_plainly : {E A S : Type 0} → Rules E A S → Head → Event → S → Played S
play_plainly rules head event moment = play_event rules head (rules.of_schedule event) moment

-- the clocks of so many hosts tick, from this host on
abbrev pub play_ticks : {E A S : Type 0} → Rules E A S → Head → (host count : ℕ) → S → Played S
play_ticks rules head host zero moment = took moment
play_ticks rules head host (suc count) moment =
    and_then (play_plainly rules head (Event.ClientTick host) moment) (play_ticks rules head (host + 1) count)

-- a round: the clock of each host ticks, then the server's
unfoldable pub play_round : {E A S : Type 0} → Rules E A S → Head → S → Played S
play_round rules head moment = and_then (play_ticks rules head 0 head.hosts moment) (play_plainly rules head Event.ServerTick)

-- a flow: the least packet that was never delivered is delivered, again and again, until each packet was; so many deliveries are too
-- many events
abbrev pub play_flow : {E A S : Type 0} → Rules E A S → Head → (most : ℕ) → S → Played S
play_flow rules head zero moment = refused too_many_events
play_flow rules head (suc most) moment =
    with_packet (next_packet rules head moment) moment
    (λ packet. and_then (play_plainly rules head (Event.Deliver packet) moment) (λ next. play_flow rules head most next))

-- a line of a schedule, where a flow may have so many deliveries
abbrev pub play_plain : {E A S : Type 0} → Rules E A S → Head → (most : ℕ) → Line → S → Played S
play_plain rules head most (Line.Events event times) moment = repeated times (play_plainly rules head event) moment
play_plain rules head most (Line.Round times) moment = repeated times (play_round rules head) moment
play_plain rules head most Line.Flow moment = play_flow rules head most moment
play_plain rules head most Line.End moment = took moment

-- a line
abbrev pub play_line : {E A S : Type 0} → Rules E A S → Head → (most : ℕ) → MixedLine A → S → Played S
play_line rules head most (plain line) moment = play_plain rules head most line moment
play_line rules head most (beside aside) moment = rules.aside head aside moment

-- lines are played one after another, of which the first has this number in the text
abbrev pub play_lines : {E A S : Type 0} → Rules E A S → Head → (most number : ℕ) → List (MixedLine A) → S → Ended S
play_lines rules head most number lines moment = play_each (play_line rules head most) number lines moment
