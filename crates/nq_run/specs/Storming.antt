-- What the command of storms does. Below, `told` are what the fates that were handed in tell of their rules, in their order; `held` is
-- what the sink held before and `now` is what it holds after, where the sink tells them; `w` and `w'` are its counts of faults before
-- and after, and `k` and `k'` the keeper's; `kept` is what is kept after, where the keeper tells it.
use Rattle.std.specs.Prelude.{◌≡◌, ◌⊎◌, ℕ, List, Option, Some, None}
use Rattle.nq_base.specs.declared.Event.{Event}
use Rattle.nq_check.specs.Verdict.{verdict}
use Rattle.nq_base.specs.Status.{status_of}
use Rattle.nq_base.specs.declared.ending.ending.Ending.{Ending}
use Rattle.nq_io.specs.Faults.{Rose}
use Rattle.nq_io.specs.Told.{with_end}
use Rattle.nq_model.specs.protocol.Kept.{Kept}
use Rattle.nq_model.specs.protocol.World.{run}
use Rattle.nq_replay.specs.Playing.{beginning}
use Rattle.nq_replay.specs.Ending.{CountsKeeper, CountsSink, IsFault}
use Rattle.nq_replay.specs.Lines.{usage_line}
use Rattle.nq_io.specs.Sink.{PrintsLine}
use Rattle.nq_replay.specs.Replay.{kept_of}
use Rattle.nq_run.specs.Fates.{AsksInStorm, FateTold}
use Rattle.nq_run.specs.Promised.{HoldsThroughout}
use Rattle.nq_storm.specs.Heads.{storm_head}
use Rattle.nq_storm.specs.Kinds.{IsFirstOf, LackKind}
use Rattle.nq_storm.specs.Printed.{StormEnds, storm_text}
use Rattle.nq_storm.specs.Whole.{IsWholeStorm}
use Rattle.nq_storm.specs.Rules.{Rule}

-- a storm of the first fate of the kind was run, and ended so
pub record RunsStorm (end : Ending) (kind start count : ℕ) (told : List (Option Rule)) (held now : Option (List ℕ)) (w w' : ℕ) : Type 0 where
  pub first : Option Rule
  pub found : IsFirstOf kind told first
  pub ends : StormEnds end start count first held now w w'

-- what the words of a storm did: a storm was run, or no fate is of the kind, as far as they tell
abbrev pub DoesStorm : Ending → (kind start count : ℕ) → (told : List (Option Rule)) → (held now : Option (List ℕ)) → (w w' : ℕ) → Type 0
DoesStorm end kind start count told held now w w' =
    RunsStorm end kind start count told held now w w'
    ⊎ ((end ≡ Ending.Usage) × LackKind kind told × PrintsLine usage_line held now w w')

-- a storm had all its events or came to a limit, if no fault came in the place of that
abbrev pub StormsUnlessFault : (end : Ending) → (w w' k k' : ℕ) → Type 0
StormsUnlessFault end w w' k k' =
    (end ≡ Ending.Usage) ⊎ ((end ≡ Ending.Done) ⊎ ((end ≡ Ending.Limit) ⊎ (IsFault end 0 0 w w' ⊎ ((end ≡ Ending.KeepFault) × Rose k k'))))

-- a storm of the first fate of the kind printed the text of its schedule, the text of that schedule's journal, and its counts. The
-- headline holds at each moment of its run, nothing in its journal is at fault, and what its run keeps is told
pub record StormsLawfully (kind start count : ℕ) (told : List (Option Rule)) (held now : Option (List ℕ)) (kept : Option Kept) : Type 0 where
  pub first : Option Rule
  pub found : IsFirstOf kind told first
  pub text : List ℕ
  pub events : List Event
  pub whole : IsWholeStorm start count first text events
  pub printed : now ≡ with_end held (storm_text text events)
  pub holds : HoldsThroughout storm_head events
  pub judged : verdict (run (beginning storm_head) events).journal ≡ None
  pub keeps : kept ≡ Some (kept_of storm_head events)

-- a storm was run, or it ended before, and the status is that of its end, which has its cause; a fate was asked once for each event. `sink`
-- refuses a storm that ends with 0 though its output failed
pub record StormsFor (code kind start count : ℕ) (told : List (Option Rule)) (old new : List FateTold) (held now : Option (List ℕ)) (w w' k k' : ℕ)
    (kept : Option Kept) : Type 0 where
  pub end : Ending
  pub status : code ≡ status_of end
  pub does : DoesStorm end kind start count told held now w w'
  pub unless : StormsUnlessFault end w w' k k'
  pub counts : CountsKeeper end k k'
  pub sink : CountsSink end w w'
  pub lawful : end ≡ Ending.Done → StormsLawfully kind start count told held now kept
  pub asked : AsksInStorm end kind count old new
