-- A loop that printed its schedule, in which each datagram arrived before the next tick: all calls of all hosts are answered within so many ticks.
use Rattle.std.specs.Prelude.{◌≡◌, ◌≤◌, ◌<◌, ◌⊎◌, ℕ, ◌+◌, true, List, Option, length}
use Rattle.nq_base.specs.declared.Event.{Event}
use Rattle.nq_base.specs.Status.{status_of}
use Rattle.nq_base.specs.declared.ending.ending.Ending.{Ending}
use Rattle.nq_io.specs.Told.{with_end}
use Rattle.nq_loop.specs.Looped.{IsWhole, LoopEnds}
use Rattle.nq_loop.specs.Printed.{loop_text}
use Rattle.nq_loop.specs.Turning.{all_answered}
use Rattle.nq_loop.specs.Whole.{loop_head}
use Rattle.nq_model.specs.protocol.Stepped.{most_sent}
use Rattle.nq_model.specs.protocol.World.{run}
use Rattle.nq_clock.specs.Clocks.{ClockTold}
use Rattle.nq_link.specs.Links.{LinkTold}
use Rattle.nq_replay.specs.Playing.{beginning}
use Rattle.nq_loop.specs.InTime.{all_in_time}
use Rattle.nq_loop.specs.LoopsAreAnswered.{most_due, ticks_enough}

-- the server's clock shows less than this when such a loop ends: ticks in which all calls of so many hosts are answered, and those of one turn
abbrev pub most_ticks : (hosts : ℕ) → ℕ
most_ticks hosts = ticks_enough hosts + most_due

-- a loop that took so many of its turns ended soon, and with all calls of all hosts answered, or with all of its turns taken. In the second case
-- the server's clock shows less than all calls take, if no more packets were sent than may be sent before an event
pub record IsAnsweredSoon (hosts turns taken : ℕ) (events : List Event) : Type 0 where
  pub soon : (run (beginning (loop_head hosts)) events).server.now < most_ticks hosts
  pub answered : (all_answered (beginning (loop_head hosts)) events ≡ true) ⊎ (taken ≡ turns)
  pub sooner : length (run (beginning (loop_head hosts)) events).packets ≤ most_sent
      → (all_answered (beginning (loop_head hosts)) events ≡ true)
      ⊎ ((run (beginning (loop_head hosts)) events).server.now < ticks_enough hosts)

-- so it is with each loop that printed its schedule whole, where all came in time
abbrev pub PrintedLoopsAreAnswered : Type 0
PrintedLoopsAreAnswered =
    (hosts turns : ℕ) (text : List ℕ) (events : List Event) (clock clock' : ClockTold) (links links' : List LinkTold)
    → (whole : IsWhole hosts turns text events clock clock' links links')
    → all_in_time (beginning (loop_head hosts)) events ≡ true
    → IsAnsweredSoon hosts turns whole.turned.count events

-- a loop printed its schedule, the journal and the counts; where all came in time, its calls are answered soon
pub record PrintsAnswered (hosts turns : ℕ) (clock clock' : ClockTold) (links links' : List LinkTold) (held now : Option (List ℕ)) : Type 0 where
  pub text : List ℕ
  pub events : List Event
  pub whole : IsWhole hosts turns text events clock clock' links links'
  pub printed : now ≡ with_end held (loop_text (loop_head hosts) text events)
  pub answered : all_in_time (beginning (loop_head hosts)) events ≡ true → IsAnsweredSoon hosts turns whole.turned.count events

-- so it is with each loop that ended with status 0
abbrev pub EndedLoopsAreAnswered : Type 0
EndedLoopsAreAnswered =
    (end : Ending) (hosts turns : ℕ) (clock clock' : ClockTold) (links links' : List LinkTold) (held now : Option (List ℕ)) (w w' : ℕ)
    → status_of end ≡ 0
    → LoopEnds end hosts turns clock clock' links links' held now w w'
    → PrintsAnswered hosts turns clock clock' links links' held now
