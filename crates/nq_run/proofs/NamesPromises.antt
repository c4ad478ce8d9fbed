-- What a run with lists prints is lawful and sound.
use Rattle.std.proofs.Common.{◌≡◌, ℕ, List, Option, subst}
use Rattle.nq_base.proofs.Ends.{one_end}
use Rattle.nq_base.specs.Status.{status_of}
use Rattle.nq_base.specs.declared.ending.ending.Ending.{Ending}
use Rattle.nq_replay.specs.Ending.{CountsSink, CountsSource}
use Rattle.nq_replay.specs.Playing.{beginning}
use Rattle.nq_replay.specs.Replay.{OfInput}
use Rattle.nq_run.proofs.Promises.{faultless, holds_throughout}
use Rattle.nq_run.specs.Naming.{NamesFor, NamesLawfully}
use Rattle.nq_naming.specs.Running.{EndsNames, EndsNamesByInput, PrintsNames, end_of}
use Rattle.nq_name_server.proofs.Inner.{runs-inside}

names_lawfully : (text : List ℕ) (held now : Option (List ℕ)) → PrintsNames text held now → NamesLawfully text held now
names_lawfully text held now p =
    let ran = (end_of p.head p.reached).ran in
    let holds = holds_throughout p.head ran p.are.lawful in
    record {
      head = p.head;
      moment = p.reached;
      runs = p.runs;
      bytes = p.bytes;
      are = p.are;
      printed = p.printed;
      finds = p.are.finds;
      inner = runs-inside (beginning p.head) p.reached.events;
      holds = holds;
      judged = faultless p.head ran holds;
    }

-- of an input whose run with lists was printed
input_names : (limit : ℕ) (left rest held now : Option (List ℕ)) → OfInput limit left rest (λ text. PrintsNames text held now)
    → OfInput limit left rest (λ text. NamesLawfully text held now)
input_names limit left rest held now p = record { text = p.text; read = p.read; so = names_lawfully p.text held now p.so }

-- a run with lists by its end
pub names_for : (end : Ending) (limit code : ℕ) (left rest held now : Option (List ℕ)) (r r' w w' : ℕ) → code ≡ status_of end
    → EndsNames end limit left rest held now r r' w w' → EndsNamesByInput end limit left r r' w w' → CountsSource end r r' → CountsSink end w w'
    → NamesFor limit code left rest held now r r' w w'
names_for end limit code left rest held now r r' w w' status ends by_input source sink = record {
  end = end;
  status = status;
  ends = ends;
  by_input = by_input;
  source = source;
  sink = sink;
  lawful = λ done. input_names limit left rest held now (subst (λ e. EndsNames e limit left rest held now r r' w w') done ends);
}

-- words of a run with lists say a command
pub names_usage : (limit code : ℕ) (left rest held now : Option (List ℕ)) (r r' w w' : ℕ) → NamesFor limit code left rest held now r r' w w'
    → code ≡ status_of Ending.Usage → ⊥
names_usage limit code left rest held now r r' w w' s none =
    subst (λ e. EndsNames e limit left rest held now r r' w w') (one_end s.end Ending.Usage code s.status none) s.ends
