-- What the command of loops promises.
use Rattle.std.proofs.Common.{◌≡◌, ℕ, List, Option, subst}
use Rattle.nq_base.proofs.Ends.{one_end}
use Rattle.nq_base.specs.Status.{status_of}
use Rattle.nq_base.specs.declared.ending.ending.Ending.{Ending}
use Rattle.nq_loop.proofs.Faults.{loops-unless}
use Rattle.nq_loop.specs.Looped.{KeepsLoop, LoopEnds}
use Rattle.nq_loop.specs.Whole.{loop_head}
use Rattle.nq_model.specs.protocol.Kept.{Kept}
use Rattle.nq_clock.specs.Clocks.{ClockTold}
use Rattle.nq_link.specs.Links.{LinkTold}
use Rattle.nq_replay.specs.Ending.{CountsKeeper, CountsSink}
use Rattle.nq_run.proofs.Promises.{faultless, holds_throughout}
use Rattle.nq_run.specs.Looping.{LoopsFor, LoopsLawfully}

done_looped : (hosts turns : ℕ) (clock clock' : ClockTold) (links links' : List LinkTold) (held now : Option (List ℕ)) (kept : Option Kept)
    → KeepsLoop hosts turns clock clock' links links' held now kept
    → LoopsLawfully hosts turns clock clock' links links' held now kept
done_looped hosts turns clock clock' links links' held now kept keeps =
    let holds = holds_throughout (loop_head hosts) keeps.events keeps.whole.lawful in
    record {
      text = keeps.text;
      events = keeps.events;
      whole = keeps.whole;
      printed = keeps.printed;
      holds = holds;
      judged = faultless (loop_head hosts) keeps.events holds;
      keeps = keeps.keeps;
    }

-- a loop by its end
pub loops_for : (end : Ending) (code hosts turns : ℕ) (clock clock' : ClockTold) (links links' : List LinkTold) (held now : Option (List ℕ))
    (w w' k k' : ℕ) (kept : Option Kept) → code ≡ status_of end
    → LoopEnds end hosts turns clock clock' links links' held now w w' → (end ≡ Ending.Done → KeepsLoop hosts turns clock clock' links links' held now
    kept) → CountsKeeper end k k' → CountsSink end w w'
    → LoopsFor code hosts turns clock clock' links links' held now w w' k k' kept
loops_for end code hosts turns clock clock' links links' held now w w' k k' kept status ends keeps counts sink = record {
  end = end;
  status = status;
  ends = ends;
  unless = loops-unless end hosts turns clock clock' links links' held now w w' k k' ends counts;
  counts = counts;
  sink = sink;
  lawful = λ done. done_looped hosts turns clock clock' links links' held now kept (keeps done);
}

-- a loop does not end with usage
pub loop_usage : (status hosts turns : ℕ) (clock clock' : ClockTold) (links links' : List LinkTold) (held now : Option (List ℕ)) (w w' k k' : ℕ)
    (kept : Option Kept) → LoopsFor status hosts turns clock clock' links links' held now w w' k k' kept
    → status ≡ status_of Ending.Usage → ⊥
loop_usage status hosts turns clock clock' links links' held now w w' k k' kept does none = subst (λ e. LoopEnds e hosts turns clock clock' links
    links' held now w w') (one_end does.end Ending.Usage status does.status none) does.ends
