-- What the command of loops does. Below, `clock` and `links` are the readings to come and the links before it, and `clock'` and `links'`
-- those after it; `held` is what the sink held before and `now` is what it holds after, where the sink tells them; `w` and `w'` are its
-- counts of faults before and after, and `k` and `k'` the keeper's; `kept` is what is kept after, where the keeper tells it.
use Rattle.std.specs.Prelude.{◌≡◌, ◌⊎◌, ℕ, List, Option, Some, None}
use Rattle.nq_base.specs.declared.Event.{Event}
use Rattle.nq_check.specs.Verdict.{verdict}
use Rattle.nq_base.specs.Status.{status_of}
use Rattle.nq_base.specs.declared.ending.ending.Ending.{Ending}
use Rattle.nq_io.specs.Faults.{Rose}
use Rattle.nq_io.specs.Told.{with_end}
use Rattle.nq_loop.specs.Looped.{IsWhole, LoopEnds, LoopsUnlessFault}
use Rattle.nq_loop.specs.Printed.{loop_text}
use Rattle.nq_loop.specs.Whole.{loop_head}
use Rattle.nq_model.specs.protocol.Kept.{Kept}
use Rattle.nq_model.specs.protocol.World.{run}
use Rattle.nq_clock.specs.Clocks.{ClockTold}
use Rattle.nq_link.specs.Links.{LinkTold}
use Rattle.nq_replay.specs.Playing.{beginning}
use Rattle.nq_replay.specs.Ending.{CountsKeeper, CountsSink}
use Rattle.nq_replay.specs.Replay.{kept_of}
use Rattle.nq_run.specs.Promised.{HoldsThroughout}

-- a loop took its turns or came to a limit, if no fault came in the place of that
abbrev pub EndsUnlessFault : (end : Ending) → (links links' : List LinkTold) → (w w' k k' : ℕ) → Type 0
EndsUnlessFault end links links' w w' k k' = LoopsUnlessFault end links links' w w' ⊎ ((end ≡ Ending.KeepFault) × Rose k k')

-- a loop printed the text of the schedule that its turns made, the text of that schedule's journal, and its counts. The headline holds at
-- each moment of its run, nothing in its journal is at fault, and what its run keeps is told
pub record LoopsLawfully (hosts turns : ℕ) (clock clock' : ClockTold) (links links' : List LinkTold) (held now : Option (List ℕ))
    (kept : Option Kept) : Type 0 where
  pub text : List ℕ
  pub events : List Event
  pub whole : IsWhole hosts turns text events clock clock' links links'
  pub printed : now ≡ with_end held (loop_text (loop_head hosts) text events)
  pub holds : HoldsThroughout (loop_head hosts) events
  pub judged : verdict (run (beginning (loop_head hosts)) events).journal ≡ None
  pub keeps : kept ≡ Some (kept_of (loop_head hosts) events)

-- a loop among so many hosts took its turns, or ended before, and the status is that of its end, which has its cause. `sink` refuses a loop
-- that ends with 0 though its output failed
pub record LoopsFor (code hosts turns : ℕ) (clock clock' : ClockTold) (links links' : List LinkTold) (held now : Option (List ℕ)) (w w' k k' : ℕ)
    (kept : Option Kept) : Type 0 where
  pub end : Ending
  pub status : code ≡ status_of end
  pub ends : LoopEnds end hosts turns clock clock' links links' held now w w'
  pub unless : EndsUnlessFault end links links' w w' k k'
  pub counts : CountsKeeper end k k'
  pub sink : CountsSink end w w'
  pub lawful : end ≡ Ending.Done → LoopsLawfully hosts turns clock clock' links links' held now kept
