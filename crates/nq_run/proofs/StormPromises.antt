-- What the command of storms promises.
use Rattle.std.proofs.Common.{◌≡◌, ℕ, List, Option, refl, subst, inl, inr}
use Rattle.nq_base.proofs.Ends.{one_end}
use Rattle.nq_base.specs.Status.{status_of}
use Rattle.nq_base.specs.declared.ending.ending.Ending.{Ending}
use Rattle.nq_model.specs.protocol.Kept.{Kept}
use Rattle.nq_replay.specs.Ending.{CountsKeeper, CountsSink}
use Rattle.nq_replay.specs.Lines.{usage_line}
use Rattle.nq_io.specs.Sink.{PrintsLine}
use Rattle.nq_run.proofs.Promises.{faultless, holds_throughout}
use Rattle.nq_run.specs.Fates.{AsksInStorm, FateTold}
use Rattle.nq_run.specs.Storming.{DoesStorm, StormsFor, StormsLawfully, StormsUnlessFault}
use Rattle.nq_storm.specs.Heads.{storm_head}
use Rattle.nq_storm.specs.Kinds.{IsFirstOf, LackKind}
use Rattle.nq_storm.specs.Printed.{KeepsStorm, StormEnds}
use Rattle.nq_storm.specs.Rules.{Rule}

-- a storm of the first fate of the kind did what its words say
does_storm : (end : Ending) (kind start count : ℕ) (told : List (Option Rule)) (first : Option Rule) (held now : Option (List ℕ)) (w w' : ℕ)
    → IsFirstOf kind told first → StormEnds end start count first held now w w'
    → DoesStorm end kind start count told held now w w'
does_storm end kind start count told first held now w w' found ends = inl (record { first = first; found = found; ends = ends })

-- ---- status 0

done_lawfully : (kind start count : ℕ) (told : List (Option Rule)) (first : Option Rule) (held now : Option (List ℕ)) (kept : Option Kept)
    → IsFirstOf kind told first → KeepsStorm start count first held now kept → StormsLawfully kind start count told held now kept
done_lawfully kind start count told first held now kept found keeps =
    let holds = holds_throughout storm_head keeps.events keeps.whole.lawful in
    record {
      first = first;
      found = found;
      text = keeps.text;
      events = keeps.events;
      whole = keeps.whole;
      printed = keeps.printed;
      holds = holds;
      judged = faultless storm_head keeps.events holds;
      keeps = keeps.keeps;
    }

-- ---- usage

-- a storm that is run does not end with usage
pub never_usage : (end : Ending) (status start count : ℕ) (first : Option Rule) (held now : Option (List ℕ)) (w w' : ℕ) → status ≡ status_of end
    → StormEnds end start count first held now w w' → status ≡ status_of Ending.Usage → ⊥
never_usage end status start count first held now w w' is ends none =
    subst (λ e. StormEnds e start count first held now w w') (one_end end Ending.Usage status is none) ends

-- words of a storm that ended with usage lack its fate
no_fate : (end : Ending) (status kind start count : ℕ) (told : List (Option Rule)) (held now : Option (List ℕ)) (w w' : ℕ) → status ≡ status_of end
    → DoesStorm end kind start count told held now w w' → status ≡ status_of Ending.Usage
    → LackKind kind told × PrintsLine usage_line held now w w'
no_fate end status kind start count told held now w w' is (inl ran) none =
    absurd (never_usage end status start count ran.first held now w w' is ran.ends none)
no_fate end status kind start count told held now w w' is (inr usage) none = (usage.1, usage.2)

-- words of a storm that ended with usage: no fate is of the kind
pub storm_usage : (status kind start count : ℕ) (told : List (Option Rule)) (old new : List FateTold) (held now : Option (List ℕ)) (w w' k k' : ℕ)
    (kept : Option Kept)
    → StormsFor status kind start count told old new held now w w' k k' kept → status ≡ status_of Ending.Usage → LackKind kind told
    × PrintsLine usage_line held now w w'
storm_usage status kind start count told old new held now w w' k k' kept s none = no_fate s.end status kind start count told held now w w' s.status s.does none

-- ---- a storm by its end

unless_storm : (end : Ending) (start count : ℕ) (first : Option Rule) (held now : Option (List ℕ)) (w w' k k' : ℕ) → StormEnds end start count first
    held now w w' → CountsKeeper end k k' → StormsUnlessFault end w w' k k'
unless_storm Ending.Done start count first held now w w' k k' ends counts = inr (inl refl)
unless_storm Ending.WriteFault start count first held now w w' k k' ends counts = inr (inr (inr (inl ends.printed.1)))
unless_storm Ending.KeepFault start count first held now w w' k k' ends counts = inr (inr (inr (inr (refl, counts))))
unless_storm Ending.Memory start count first held now w w' k k' ends counts = inr (inr (inr (inl tt)))
unless_storm Ending.Limit start count first held now w w' k k' ends counts = inr (inr (inl refl))
unless_storm other start count first held now w w' k k' ends counts = absurd ends

pub storms_for : (end : Ending) (code kind start count : ℕ) (told : List (Option Rule)) (old new : List FateTold) (first : Option Rule)
    (held now : Option (List ℕ)) (w w' k k' : ℕ) (kept : Option Kept) → code ≡ status_of end
    → IsFirstOf kind told first → StormEnds end start count first held now w w' → (end ≡ Ending.Done → KeepsStorm start count first held now kept)
    → CountsKeeper end k k' → CountsSink end w w' → AsksInStorm end kind count old new
    → StormsFor code kind start count told old new held now w w' k k' kept
storms_for end code kind start count told old new first held now w w' k k' kept status found ends keeps counts sink asked = record {
  end = end;
  status = status;
  does = does_storm end kind start count told first held now w w' found ends;
  unless = unless_storm end start count first held now w w' k k' ends counts;
  counts = counts;
  sink = sink;
  lawful = λ done. done_lawfully kind start count told first held now kept found (keeps done);
  asked = asked;
}

-- no fate is of the kind
pub storms_none : (code kind start count : ℕ) (told : List (Option Rule)) (fates : List FateTold) (held now : Option (List ℕ)) (w w' k : ℕ)
    (kept : Option Kept) → code ≡ status_of Ending.Usage
    → LackKind kind told → PrintsLine usage_line held now w w' → StormsFor code kind start count told fates fates held now w w' k k kept
storms_none code kind start count told fates held now w w' k kept status lack printed = record {
  end = Ending.Usage;
  status = status;
  does = inr (refl, lack, printed);
  unless = inl refl;
  counts = refl;
  sink = tt;
  lawful = λ done. absurd (cc);
  asked = inr (refl, refl);
}
