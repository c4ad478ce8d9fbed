-- What a staged run prints is lawful and sound.
use Rattle.std.proofs.Common.{◌≡◌, ◌≤◌, ℕ, List, [], ◌∷◌, ◌++◌, Option, length, subst, arith}
use Rattle.nq_base.proofs.Ends.{one_end}
use Rattle.nq_base.specs.Status.{status_of}
use Rattle.nq_base.specs.declared.ending.ending.Ending.{Ending}
use Rattle.nq_model.specs.laws.Journal.{Each}
use Rattle.nq_model.specs.protocol.Stepped.{most_events}
use Rattle.nq_model.specs.protocol.World.{Head as Beginning}
use Rattle.nq_replay.specs.Ending.{CountsSink, CountsSource}
use Rattle.nq_replay.specs.Playing.{beginning}
use Rattle.nq_replay.specs.Replay.{OfInput}
use Rattle.nq_run.proofs.Promises.{faultless, holds_throughout}
use Rattle.nq_run.specs.Staging.{StagesFor, StagesLawfully}
use Rattle.nq_staged.specs.Running.{EndsStaged, EndsStagedByInput, PrintsStaged, end_of}
use Rattle.nq_stage.proofs.Inner.{runs-inside}
use Rattle.nq_stage.proofs.Rebuilt.{rebuilds-what-was-meant}
use Rattle.nq_stage.specs.Outside.{outside_run}
use Rattle.nq_stage.specs.Theorem.{IsStagedSchedule, RebuildsMeant, StagedBrings}
use Rattle.nq_stage.specs.declared.run.event.StagedEvent.{StagedEvent}

-- ---- at each moment

-- what each event of a schedule brings, each earlier one brings
brings-behind : (later earlier : List StagedEvent) → Each StagedBrings (later ++ earlier) → Each StagedBrings earlier
brings-behind [] earlier all = all
brings-behind (event ∷ later) earlier all = brings-behind later earlier all.1

few-behind : (later earlier : List StagedEvent) (most : ℕ) → length (later ++ earlier) ≤ most → length earlier ≤ most
few-behind [] earlier most few = few
few-behind (event ∷ later) earlier most few = few-behind later earlier most (omega arith)

rebuilt-behind : (head : Beginning) (later earlier : List StagedEvent) → IsStagedSchedule head (later ++ earlier) → RebuildsMeant (outside_run head earlier)
rebuilt-behind head later earlier s = rebuilds-what-was-meant head earlier (record {
  hosts = s.hosts;
  few = few-behind later earlier most_events s.few;
  brings = brings-behind later earlier s.brings;
})

-- ---- a staged run

stages_lawfully : (text : List ℕ) (held now : Option (List ℕ)) → PrintsStaged text held now → StagesLawfully text held now
stages_lawfully text held now p =
    let ran = (end_of p.head p.reached).ran in
    let holds = holds_throughout p.head ran p.are.lawful in
    record {
      head = p.head;
      events = p.reached;
      runs = p.runs;
      bytes = p.bytes;
      are = p.are;
      printed = p.printed;
      inner = runs-inside (beginning p.head) p.reached;
      rebuilt = λ later earlier is. rebuilt-behind (beginning p.head) later earlier (subst (λ es. IsStagedSchedule (beginning p.head) es) is p.are.schedule);
      holds = holds;
      judged = faultless p.head ran holds;
    }

-- of an input whose staged run was printed
input_staged : (limit : ℕ) (left rest held now : Option (List ℕ)) → OfInput limit left rest (λ text. PrintsStaged text held now)
    → OfInput limit left rest (λ text. StagesLawfully text held now)
input_staged limit left rest held now p = record { text = p.text; read = p.read; so = stages_lawfully p.text held now p.so }

-- a staged run by its end
pub stages_for : (end : Ending) (limit code : ℕ) (left rest held now : Option (List ℕ)) (r r' w w' : ℕ) → code ≡ status_of end → EndsStaged end limit
    left rest held now r r' w w' → EndsStagedByInput end limit left r r' w w' → CountsSource end r r' → CountsSink end w w'
    → StagesFor limit code left rest held now r r' w w'
stages_for end limit code left rest held now r r' w w' status ends by_input source sink = record {
  end = end;
  status = status;
  ends = ends;
  by_input = by_input;
  source = source;
  sink = sink;
  lawful = λ done. input_staged limit left rest held now (subst (λ e. EndsStaged e limit left rest held now r r' w w') done ends);
}

-- words of a staged run say a command
pub stages_usage : (limit code : ℕ) (left rest held now : Option (List ℕ)) (r r' w w' : ℕ) → StagesFor limit code left rest held now r r' w w'
    → code ≡ status_of Ending.Usage → ⊥
stages_usage limit code left rest held now r r' w w' s none =
    subst (λ e. EndsStaged e limit left rest held now r r' w w') (one_end s.end Ending.Usage code s.status none) s.ends
