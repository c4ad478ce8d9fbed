-- What the words of a loop do. Below, `held` is what the sink held before it and `now` is what it holds after it, where the sink tells
-- them; `w` and `w'` are the sink's counts of faults before and after. `clock` and `links` are the readings to come and the links before
-- it, and `clock'` and `links'` those after it. The events of a run are told with the newest first.
use Rattle.std.specs.Prelude.{◌≡◌, ◌⊎◌, ℕ, List, [], Option, Some, Result, Ok, Err, map, reverse, slice_get}
use Rattle.nq_base.specs.declared.Event.{Event}
use Rattle.nq_base.specs.declared.ending.ending.Ending.{Ending}
use Rattle.nq_io.specs.Faults.{Rose}
use Rattle.nq_io.specs.Told.{with_end}
use Rattle.nq_loop.specs.Printed.{PrintsRan, loop_text}
use Rattle.nq_loop.specs.Turning.{Between, Ran, Stops, TakesTurns}
use Rattle.nq_loop.specs.Whole.{loop_head}
use Rattle.nq_loop.specs.declared.turns.Halt.{Halt}
use Rattle.nq_model.specs.protocol.Kept.{Kept}
use Rattle.nq_clock.specs.Clocks.{ClockTold}
use Rattle.nq_link.specs.Links.{LinkTold}
use Rattle.nq_replay.specs.Lawful.{IsLawful}
use Rattle.nq_replay.specs.Playing.{beginning}
use Rattle.nq_replay.specs.Lines.{limit_line}
use Rattle.nq_io.specs.Sink.{PrintsLine}
use Rattle.nq_replay.specs.Replay.{Runs, kept_of}
use Rattle.nq_replay.specs.Schedules.{bound_of, PrintsBytes}
use Rattle.nq_script.specs.Lines.{once}
use Rattle.nq_script.specs.Schedule.{SpellsSchedule}
use Rattle.nq_script.specs.declared.heads.Head.{Head}
use Rattle.nq_world.specs.Playing.{Plays, WorldOver}
use Rattle.nq_world.specs.declared.Limit.{Limit}

-- between two turns, with these events, links and readings to come
abbrev pub between : List Event → List LinkTold → ClockTold → Between
between events links clock = record { moment = record { events = events; links = links }; clock = clock }

-- the text is a schedule with a line for each event, a tick as `tick s 1` or `tick H 1`, and its run is this one. Its events are those that
-- turns of a loop among so many hosts made of clock readings and datagrams, until all calls were answered or so many turns were taken. It is
-- within skew and keeps to the bounds
pub record IsWhole (hosts turns : ℕ) (text : List ℕ) (events : List Event) (clock clock' : ClockTold) (links links' : List LinkTold) : Type 0 where
  pub turned : Ran (beginning (loop_head hosts)) turns (between [] links clock) (between events links' clock')
  pub spelled : SpellsSchedule (loop_head hosts) (map once (reverse events)) text
  pub runs : Runs text (loop_head hosts) events
  pub lawful : IsLawful (beginning (loop_head hosts)) events

-- a loop printed, by its end, its schedule, the journal of that schedule, and its counts
pub record PrintsLoop (end : Ending) (hosts turns : ℕ) (clock clock' : ClockTold) (links links' : List LinkTold) (held now : Option (List ℕ))
    (w w' : ℕ) : Type 0 where
  pub text : List ℕ
  pub events : List Event
  pub whole : IsWhole hosts turns text events clock clock' links links'
  pub printed : PrintsBytes end (loop_text (loop_head hosts) text events) held now w w'

-- a loop came to a limit, and that was printed
pub record PrintsReached (hosts turns : ℕ) (clock clock' : ClockTold) (links links' : List LinkTold) (held now : Option (List ℕ)) (w w' : ℕ) : Type 0 where
  pub events : List Event
  pub limit : Limit
  pub stops : Stops (beginning (loop_head hosts)) turns (Halt.Limit limit) (between [] links clock) (between events links' clock')
  pub printed : PrintsLine (limit_line 0 (bound_of limit)) held now w w'

-- a turn stopped so, and nothing was printed
pub record StopsSilently (why : Halt) (hosts turns : ℕ) (clock clock' : ClockTold) (links links' : List LinkTold) (held now : Option (List ℕ))
    (w w' : ℕ) : Type 0 where
  pub events : List Event
  pub stops : Stops (beginning (loop_head hosts)) turns why (between [] links clock) (between events links' clock')
  pub silent : now ≡ held
  pub count : w' ≡ w

-- an end of turns behind which memory may be wanting: that it was, or one with which all goes on to what is printed
abbrev pub MayLack : Result Unit Halt → Type 0
MayLack (Err Halt.Link) = ⊥
MayLack (Err Halt.Keep) = ⊥
MayLack other = Unit {0}

-- turns were taken, and ended so; memory was wanting in it or behind it, and nothing was printed
pub record LacksMemory (hosts turns : ℕ) (clock clock' : ClockTold) (links links' : List LinkTold) (held now : Option (List ℕ)) : Type 0 where
  pub last : Result Unit Halt
  pub lacking : MayLack last
  pub events : List Event
  pub taken : TakesTurns (beginning (loop_head hosts)) turns last (between [] links clock) (between events links' clock')
  pub silent : now ≡ held

-- no turn was taken: the clock was not read, nothing was sent or received, and nothing was printed
pub record BeginsNone (clock clock' : ClockTold) (links links' : List LinkTold) (held now : Option (List ℕ)) (w w' : ℕ) : Type 0 where
  pub unread : clock' ≡ clock
  pub unsent : links' ≡ links
  pub silent : now ≡ held
  pub count : w' ≡ w

-- a loop printed all of that, and what its run keeps is told
pub record KeepsLoop (hosts turns : ℕ) (clock clock' : ClockTold) (links links' : List LinkTold) (held now : Option (List ℕ))
    (told : Option Kept) : Type 0 where
  pub text : List ℕ
  pub events : List Event
  pub whole : IsWhole hosts turns text events clock clock' links links'
  pub printed : now ≡ with_end held (loop_text (loop_head hosts) text events)
  pub keeps : told ≡ Some (kept_of (loop_head hosts) events)

-- what the words of a loop did, by the end. Where the keeper failed, it did so before the first turn or in the last
abbrev pub LoopEnds : Ending → (hosts turns : ℕ) → (clock clock' : ClockTold) → (links links' : List LinkTold) → (held now : Option (List ℕ))
    → (w w' : ℕ) → Type 0
LoopEnds Ending.Done hosts turns clock clock' links links' held now w w' = PrintsLoop Ending.Done hosts turns clock clock' links links' held now w w'
LoopEnds Ending.WriteFault hosts turns clock clock' links links' held now w w' = PrintsLoop Ending.WriteFault hosts turns clock clock' links links'
    held now w w'
LoopEnds Ending.Memory hosts turns clock clock' links links' held now w w' =
    BeginsNone clock clock' links links' held now w w'
    ⊎ (LacksMemory hosts turns clock clock' links links' held now ⊎ PrintsLoop Ending.Memory hosts turns clock clock' links links' held now w w')
LoopEnds Ending.LinkFault hosts turns clock clock' links links' held now w w' = StopsSilently Halt.Link hosts turns clock clock' links links' held now w w'
LoopEnds Ending.KeepFault hosts turns clock clock' links links' held now w w' =
    BeginsNone clock clock' links links' held now w w' ⊎ StopsSilently Halt.Keep hosts turns clock clock' links links' held now w w'
LoopEnds Ending.Limit hosts turns clock clock' links links' held now w w' = PrintsReached hosts turns clock clock' links links' held now w w'
LoopEnds other hosts turns clock clock' links links' held now w w' = ⊥

-- one of these links counted a fault
pub record HasRisen (links links' : List LinkTold) : Type 0 where
  pub place : ℕ
  pub link : LinkTold
  pub link' : LinkTold
  pub before : slice_get links place ≡ Some link
  pub behind : slice_get links' place ≡ Some link'
  pub rose : Rose link.faults link'.faults

-- an end that comes of a fault alone: memory was wanting, or the sink or a link counted a fault
abbrev pub IsLoopFault : Ending → (links links' : List LinkTold) → (w w' : ℕ) → Type 0
IsLoopFault Ending.Memory links links' w w' = Unit {0}
IsLoopFault Ending.WriteFault links links' w w' = Rose w w'
IsLoopFault Ending.LinkFault links links' w w' = HasRisen links links'
IsLoopFault other links links' w w' = ⊥

-- a loop took its turns or came to a limit, if no fault came in the place of that
abbrev pub LoopsUnlessFault : (end : Ending) → (links links' : List LinkTold) → (w w' : ℕ) → Type 0
LoopsUnlessFault end links links' w w' = (end ≡ Ending.Done) ⊎ ((end ≡ Ending.Limit) ⊎ IsLoopFault end links links' w w')

-- no turn stopped
abbrev pub HasEnded : Result Unit Halt → Type 0
HasEnded (Ok done) = Unit {0}
HasEnded (Err why) = ⊥

-- what telling a limit did
pub record TellsLimit (last : Result Unit Halt) (held now : Option (List ℕ)) (w w' : ℕ) : Type 0 where
  pub limit : Limit
  pub reached : last ≡ Err (Halt.Limit limit)
  pub printed : PrintsLine (limit_line 0 (bound_of limit)) held now w w'

-- what telling that turns stopped did, by the end and by how they ended: nothing, but for a limit
abbrev pub TellsStopped : Ending → Result Unit Halt → (held now : Option (List ℕ)) → (w w' : ℕ) → Type 0
TellsStopped end last held now w w' =
    ((end ≡ Ending.LinkFault) × (last ≡ Err Halt.Link) × (now ≡ held) × (w' ≡ w))
    ⊎ (((end ≡ Ending.KeepFault) × (last ≡ Err Halt.Keep) × (now ≡ held) × (w' ≡ w))
    ⊎ (((end ≡ Ending.Limit) × TellsLimit last held now w w')
    ⊎ ((end ≡ Ending.Memory) × MayLack last × (now ≡ held))))

-- what telling the end of turns did, by the end and by how they ended
abbrev pub TellsEnd : {K : Type 0} → Ending → Result Unit Halt → Head → WorldOver K → Option Kept → (ran : List Event) → (held now : Option (List ℕ))
    → (w w' : ℕ) → Type 0
TellsEnd end last head world kept ran held now w w' =
    (HasEnded last × (Plays (beginning head) (reverse ran) world kept → PrintsRan end head ran held now w w'))
    ⊎ TellsStopped end last held now w w'
