-- What running a schedule that was read prints. The names of what the sink holds and of its counts of faults are those of `Lines`.
use Rattle.std.specs.Prelude.{◌≡◌, ◌⊎◌, ◌+◌, ◌<◌, ◌^◌, ℕ, List, Option, Some, length}
use Rattle.nq_base.specs.declared.Entry.{Entry}
use Rattle.nq_base.specs.declared.Event.{Event}
use Rattle.nq_base.specs.declared.ending.ending.Ending.{Ending}
use Rattle.nq_io.specs.Faults.{Rose}
use Rattle.nq_io.specs.Sink.{AppendsFront, PrintsLine}
use Rattle.nq_io.specs.Told.{with_end}
use Rattle.nq_journal.specs.Text.{journal_text}
use Rattle.nq_model.specs.protocol.Kept.{Kept}
use Rattle.nq_replay.specs.AsidesGoing.{RanTo}
use Rattle.nq_replay.specs.AsidesPlaying.{Ended, ran, stopped}
use Rattle.nq_replay.specs.declared.play.played.Played.{Played}
use Rattle.nq_replay.specs.Lines.{limit_line, script_line, skew_line}
use Rattle.nq_replay.specs.Replay.{journal_of, kept_of}
use Rattle.nq_replay.specs.declared.printing.Bound.{Bound}
use Rattle.nq_script.specs.Heads.{head_lines}
use Rattle.nq_script.specs.Schedule.{SpellsSchedule}
use Rattle.nq_script.specs.declared.heads.Head.{Head}
use Rattle.nq_script.specs.declared.scripts.Script.{Script}
use Rattle.nq_world.specs.Answering.{told as answer_of}
use Rattle.nq_world.specs.declared.stepped.Limit.{Limit}
use Rattle.nq_world.specs.declared.stepped.Stepped.{Stepped}

-- a schedule as a text of fewer than 2^31 bytes gives it
pub record IsReady (script : Script) : Type 0 where
  pub text : List ℕ
  pub spelled : SpellsSchedule script.head script.lines text
  pub short : length text < 2 ^ 31
  pub first : script.first ≡ length (head_lines script.head) + 1

-- what printing these bytes did, by its end
abbrev pub PrintsBytes : Ending → (bytes : List ℕ) → (held now : Option (List ℕ)) → (w w' : ℕ) → Type 0
PrintsBytes Ending.Done bytes held now w w' = now ≡ with_end held bytes
PrintsBytes Ending.WriteFault bytes held now w w' = AppendsFront bytes held now × Rose w w'
PrintsBytes Ending.Memory bytes held now w w' = AppendsFront bytes held now
PrintsBytes other bytes held now w w' = ⊥

-- what printing these entries in a version did, by the end
abbrev pub PrintsEntries : Ending → (version : ℕ) → List Entry → (held now : Option (List ℕ)) → (w w' : ℕ) → Type 0
PrintsEntries Ending.Done version entries held now w w' = now ≡ with_end held (journal_text version entries)
PrintsEntries Ending.WriteFault version entries held now w w' = AppendsFront (journal_text version entries) held now × Rose w w'
PrintsEntries Ending.Memory version entries held now w w' = (now ≡ held) ⊎ AppendsFront (journal_text version entries) held now
PrintsEntries other version entries held now w w' = ⊥

-- what there is too much of where a world answers so
abbrev pub bound_of : Limit → Bound
bound_of Limit.Events = Bound.Events
bound_of Limit.Packets = Bound.Packets

-- what telling why a schedule stopped did, by the answer of the world and the end
abbrev pub TellsStop : Ending → (line : ℕ) → Stepped → (held now : Option (List ℕ)) → (w w' : ℕ) → Type 0
TellsStop Ending.Memory line answer held now w w' = now ≡ held
TellsStop Ending.Script line Stepped.NoPacket held now w w' = PrintsLine (script_line line) held now w w'
TellsStop Ending.Skew line (Stepped.SkewBroken broken) held now w w' = PrintsLine (skew_line line broken) held now w w'
TellsStop Ending.Limit line (Stepped.Limit limit) held now w w' = PrintsLine (limit_line line (bound_of limit)) held now w w'
TellsStop other line answer held now w w' = ⊥

-- the same over a keeper that may have failed: then nothing is printed
abbrev pub TellsWhy : Ending → (line : ℕ) → Stepped → (held now : Option (List ℕ)) → (w w' : ℕ) → Type 0
TellsWhy end line Stepped.Fault held now w w' = (end ≡ Ending.KeepFault) × (now ≡ held)
TellsWhy end line answer held now w w' = TellsStop end line answer held now w w'

-- what running a schedule printed, by what is due and the end
abbrev pub EndsPlayed : Ending → Head → Ended (List Event) → (held now : Option (List ℕ)) → (w w' : ℕ) → Type 0
EndsPlayed end head (ran events) held now w w' = PrintsEntries end head.version (journal_of head events) held now w w'
EndsPlayed end head (stopped line answer) held now w w' = TellsStop end line (answer_of answer) held now w w'

-- the same over a keeper: where it failed nothing was printed
abbrev pub EndsOver : Ending → Head → Ended (List Event) → (held now : Option (List ℕ)) → (w w' : ℕ) → Type 0
EndsOver end head due held now w w' = EndsPlayed end head due held now w w' ⊎ ((end ≡ Ending.KeepFault) × (now ≡ held))

-- the schedule was played to its end, and what its run keeps is told
abbrev pub KeepsPlayed : Head → Ended (List Event) → (told : Option Kept) → Type 0
KeepsPlayed head due told = RanTo due (λ events. told ≡ Some (kept_of head events))

-- an answer of a world over a keeper that never fails to an event that it did not take
abbrev pub IsReason : Stepped → Type 0
IsReason Stepped.Done = ⊥
IsReason Stepped.Fault = ⊥
IsReason other = Unit {0}

-- a schedule over such a keeper was played to its end, or stopped for a reason
abbrev pub HasReason : Played → Type 0
HasReason Played.All = Unit {0}
HasReason (Played.Stopped line answer) = IsReason answer
