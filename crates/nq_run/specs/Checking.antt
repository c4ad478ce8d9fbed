-- What the command of judgements does. The names of what stands in the source and in the sink before and after, and of the counts of
-- faults, are those of `Replaying`.
use Rattle.std.specs.Prelude.{◌≡◌, ◌<◌, ◌≤◌, ℕ, List, Option, Some, length}
use Rattle.nq_base.specs.Status.{status_of}
use Rattle.nq_base.specs.declared.ending.ending.Ending.{Ending}
use Rattle.nq_journal.specs.Fault.{IsFaultyAt, IsJournal}
use Rattle.nq_replay.specs.Ending.{CountsSink, CountsSource, IsUnlessFault}
use Rattle.nq_judge.specs.Judging.{IsSaidUnlessFault, Judges}

-- A journal was judged, or it ended before, and the status is that of its end, which has its cause: an input that passes the limit, a faulty
-- line, or the verdict on a journal. A fault that was counted, or want of memory, may come in the place of that. `source` and `sink` refuse a
-- judgement that ends with 0 though its input or its output failed
pub record ChecksFor (limit code : ℕ) (left rest held now : Option (List ℕ)) (r r' w w' : ℕ) : Type 0 where
  pub end : Ending
  pub status : code ≡ status_of end
  pub judges : Judges end limit left rest held now r r' w w'
  pub over : (text : List ℕ) → left ≡ Some text → limit < length text → IsUnlessFault end Ending.Limit r r' w w'
  pub script : (text : List ℕ) → left ≡ Some text → length text ≤ limit → (number : ℕ) → IsFaultyAt number text → IsUnlessFault end Ending.Script r r' w w'
  pub said : (text : List ℕ) → left ≡ Some text → length text ≤ limit → IsJournal text → IsSaidUnlessFault end r r' w w'
  pub source : CountsSource end r r'
  pub sink : CountsSink end w w'
