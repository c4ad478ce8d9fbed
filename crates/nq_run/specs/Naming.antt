-- What the command of runs with lists does. Below, `left` is what was left in the source before it and `rest` is what is left after it,
-- where the source tells them; `held` is what the sink held before and `now` is what it holds after, where the sink tells them; `r` and
-- `r'` are the source's counts of faults before and after, and `w` and `w'` the sink's.
use Rattle.std.specs.Prelude.{◌≡◌, ℕ, List, Option, None}
use Rattle.nq_base.specs.Status.{status_of}
use Rattle.nq_base.specs.declared.ending.ending.Ending.{Ending}
use Rattle.nq_io.specs.Told.{with_end}
use Rattle.nq_model.specs.protocol.World.{run}
use Rattle.nq_replay.specs.Playing.{beginning}
use Rattle.nq_replay.specs.Ending.{CountsSink, CountsSource}
use Rattle.nq_replay.specs.Replay.{OfInput}
use Rattle.nq_check.specs.Verdict.{verdict}
use Rattle.nq_run.specs.Promised.{HoldsThroughout}
use Rattle.nq_script.specs.declared.heads.Head.{Head}
use Rattle.nq_naming.specs.Finding.{FindsAreTrue}
use Rattle.nq_naming.specs.Playing.{Moment}
use Rattle.nq_naming.specs.Running.{EndsNames, EndsNamesByInput, IsPrinted, RunsNames, end_of}

-- The text is a schedule with lists, and playing it printed the schedule of the inner world, the journal of its run, and what was found:
-- of each find that is not `none`, what the server kept under the name behind the inner events before it. The inner world is the run of
-- the inner events, the headline holds at each moment of that run, and nothing in its journal is at fault.
pub record NamesLawfully (text : List ℕ) (held now : Option (List ℕ)) : Type 0 where
  pub head : Head
  pub moment : Moment
  pub runs : RunsNames text head moment
  pub bytes : List ℕ
  pub are : IsPrinted head moment bytes
  pub printed : now ≡ with_end held bytes
  pub finds : FindsAreTrue (beginning head) moment
  pub inner : (end_of head moment).world ≡ run (beginning head) (end_of head moment).ran
  pub holds : HoldsThroughout head (end_of head moment).ran
  pub judged : verdict (run (beginning head) (end_of head moment).ran).journal ≡ None

-- a schedule with lists was run, or it ended before, and the status is that of its end, which has its cause. `source` and
-- `sink` refuse a run that ends with 0 though its input or its output failed
pub record NamesFor (limit code : ℕ) (left rest held now : Option (List ℕ)) (r r' w w' : ℕ) : Type 0 where
  pub end : Ending
  pub status : code ≡ status_of end
  pub ends : EndsNames end limit left rest held now r r' w w'
  pub by_input : EndsNamesByInput end limit left r r' w w'
  pub source : CountsSource end r r'
  pub sink : CountsSink end w w'
  pub lawful : end ≡ Ending.Done → OfInput limit left rest (λ text. NamesLawfully text held now)
