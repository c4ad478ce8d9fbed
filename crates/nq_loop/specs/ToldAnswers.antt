-- Where all calls of a loop were answered, the journal that it prints tells each answer.
use Rattle.std.specs.Prelude.{◌≡◌, ℕ, true, List, Some, slice_get}
use Rattle.nq_base.specs.declared.Entry.{Entry}
use Rattle.nq_base.specs.declared.Event.{Event}
use Rattle.nq_base.specs.declared.Who.{Who}
use Rattle.nq_loop.specs.Looped.{IsWhole}
use Rattle.nq_loop.specs.Turning.{all_answered}
use Rattle.nq_loop.specs.Whole.{loop_head}
use Rattle.nq_model.specs.protocol.Client.{Client}
use Rattle.nq_model.specs.laws.Journal.{Exists, IsAnswer, IsCall}
use Rattle.nq_model.specs.protocol.World.{run}
use Rattle.nq_clock.specs.Clocks.{ClockTold}
use Rattle.nq_link.specs.Links.{LinkTold}
use Rattle.nq_replay.specs.Playing.{beginning}

-- each call of an incarnation that a journal tells has its answer there
abbrev pub TellsAnswers : (journal : List Entry) → (who : Who) → Type 0
TellsAnswers journal who = (q : ℕ) → Exists (IsCall who q) journal → Exists (IsAnswer who q) journal

-- so it is with each client of a loop that printed its schedule whole, if all calls of all hosts were answered
abbrev pub AnsweredLoopsTellAnswers : Type 0
AnsweredLoopsTellAnswers =
    (hosts turns : ℕ) (text : List ℕ) (events : List Event) (clock clock' : ClockTold) (links links' : List LinkTold)
    → IsWhole hosts turns text events clock clock' links links'
    → all_answered (beginning (loop_head hosts)) events ≡ true
    → (host : ℕ) (c : Client) → slice_get (run (beginning (loop_head hosts)) events).clients host ≡ Some c
    → TellsAnswers (run (beginning (loop_head hosts)) events).journal c.who
