-- What the commands that make a run do over a disk. Below, `bytes` are what the disk tells after it, and `before` and `count` are its counts
-- of faults before and after; all other names are those of `Replaying`, `Storming` and `Looping`.
use Rattle.std.specs.Prelude.{◌≡◌, ◌⊎◌, ◌<◌, ◌≤◌, ◌-◌, ◌^◌, ℕ, List, Option, Some, length}
use Rattle.nq_service.specs.Emptying.{EmptiesNot}
use Rattle.nq_base.specs.declared.Event.{Event}
use Rattle.nq_base.specs.Status.{status_of}
use Rattle.nq_base.specs.declared.ending.ending.Ending.{Ending}
use Rattle.nq_clock.specs.Clocks.{ClockTold}
use Rattle.nq_link.specs.Links.{LinkTold}
use Rattle.nq_replay.specs.AsidesPlaying.{Ended}
use Rattle.nq_replay.specs.Ending.{CountsKeeper, CountsSink}
use Rattle.nq_replay.specs.Schedules.{EndsOver, KeepsPlayed}
use Rattle.nq_run.specs.Fates.{FateTold}
use Rattle.nq_run.specs.Looping.{LoopsFor}
use Rattle.nq_run.specs.Replaying.{ReplaysFor}
use Rattle.nq_run.specs.Storming.{StormsFor}
use Rattle.nq_script.specs.Schedule.{FirstBadLine}
use Rattle.nq_script.specs.declared.heads.Head.{Head}
use Rattle.nq_storm.specs.Rules.{Rule}
use Rattle.nq_store.specs.Storing.{HasRisen, kept_told}

-- Where the status says that the store failed, the disk failed; where the disk failed, the status says so; and where it did not fail, no fault
-- of the store is counted. A disk whose count stands at the end of its type cannot tell a further fault
pub record HidesNoFault (code before count first last : ℕ) : Type 0 where
  pub failed : code ≡ status_of Ending.KeepFault → HasRisen before count
  pub said : before < count → before < 2 ^ 64 - 1 → code ≡ status_of Ending.KeepFault
  pub still : count ≡ before → last ≡ first

-- a run did this over the store of a disk, by the store's counts of faults, and hides no fault of the disk
pub record OverStore (P : (k k' : ℕ) → Type 0) (code before count : ℕ) : Type 0 where
  pub first : ℕ
  pub last : ℕ
  pub does : P first last
  pub hides : HidesNoFault code before count first last

-- no empty store was made of the disk: it failed, which it has counted, or memory was wanting; nothing was printed
pub record StartsNot (code before count : ℕ) (held now : Option (List ℕ)) (w w' : ℕ) : Type 0 where
  pub end : Ending
  pub status : code ≡ status_of end
  pub empties : EmptiesNot end before count
  pub quiet : (now ≡ held) × (w' ≡ w)

-- A schedule that was read was played over an empty store of a disk, or none was made; this is what it printed, and what the disk stands for
-- where all was played
pub record PlaysOn (head : Head) (due : Ended (List Event)) (code : ℕ) (held now : Option (List ℕ)) (w w' before count : ℕ)
    (bytes : Option (List ℕ)) : Type 0 where
  pub end : Ending
  pub status : code ≡ status_of end
  pub ends : EndsOver end head due held now w w'
  pub keeps : end ≡ Ending.Done → KeepsPlayed head due (kept_told bytes)
  pub sink : CountsSink end w w'
  pub first : ℕ
  pub last : ℕ
  pub counts : CountsKeeper end first last
  pub hides : HidesNoFault code before count first last

-- A schedule was replayed over a disk, or it ended before. Where the input is none, or could not be read, the disk stays as it was
pub record ReplaysOn {D : Type 0} (limit code : ℕ) (left rest held now : Option (List ℕ)) (r r' w w' before count : ℕ) (bytes : Option (List ℕ))
    (disk disk' : D) : Type 0 where
  pub replays : OverStore (λ k k'. ReplaysFor limit code left rest held now r r' w w' k k' (kept_told bytes)) code before count
  pub over : (text : List ℕ) → left ≡ Some text → limit < length text → disk' ≡ disk
  pub bad : (text : List ℕ) → left ≡ Some text → length text ≤ limit → (number : ℕ) → FirstBadLine text number → disk' ≡ disk
  pub unread : code ≡ status_of Ending.ReadFault → disk' ≡ disk

-- a storm was run over a disk, or it ended before; where no empty store was made, no fate was asked
abbrev pub StormsOn : (code kind start count : ℕ) → (told : List (Option Rule)) → (old new : List FateTold) → (held now : Option (List ℕ))
    → (w w' before faults : ℕ) → (bytes : Option (List ℕ)) → Type 0
StormsOn code kind start count told old new held now w w' before faults bytes =
    (StartsNot code before faults held now w w' × (new ≡ old))
    ⊎ OverStore (λ k k'. StormsFor code kind start count told old new held now w w' k k' (kept_told bytes)) code before faults

-- a loop was run over a disk, or it ended before; where no empty store was made, neither the clock nor a link was asked
abbrev pub LoopsOn : (code hosts turns : ℕ) → (clock clock' : ClockTold) → (links links' : List LinkTold) → (held now : Option (List ℕ))
    → (w w' before count : ℕ) → (bytes : Option (List ℕ)) → Type 0
LoopsOn code hosts turns clock clock' links links' held now w w' before count bytes =
    (StartsNot code before count held now w w' × (clock' ≡ clock) × (links' ≡ links))
    ⊎ OverStore (λ k k'. LoopsFor code hosts turns clock clock' links links' held now w w' k k' (kept_told bytes)) code before count
