-- What the command of replays does. Below, `left` is what was left in the source before it and `rest` is what is left after it, where the
-- source tells them; `held` is what the sink held before it and `now` is what it holds after, where the sink tells them; `r` and `r'` are
-- the source's counts of faults before and after, `w` and `w'` the sink's, and `k` and `k'` the keeper's. `told` is what is kept after it,
-- where the keeper tells it.
use Rattle.std.specs.Prelude.{◌≡◌, ℕ, List, Option}
use Rattle.nq_base.specs.Status.{status_of}
use Rattle.nq_base.specs.declared.ending.ending.Ending.{Ending}
use Rattle.nq_model.specs.protocol.Kept.{Kept}
use Rattle.nq_replay.specs.Ending.{CountsKeeper, CountsSink, CountsSource, Ends, EndsByInput}
use Rattle.nq_replay.specs.Replay.{OfInput}
use Rattle.nq_run.specs.Promised.{PrintsLawfully, PrintsSound}

-- A schedule was replayed, or it ended before, and the status is that of its end, which has its cause. Where all went well, the headline
-- holds at each moment of the run whose journal was printed, nothing in that journal is at fault, and what that run keeps is told. `source` and
-- `sink` refuse a replay that ends with 0 though its input or its output failed
pub record ReplaysFor (limit code : ℕ) (left rest held now : Option (List ℕ)) (r r' w w' k k' : ℕ) (told : Option Kept) : Type 0 where
  pub end : Ending
  pub status : code ≡ status_of end
  pub ends : Ends end limit left rest held now r r' w w'
  pub by_input : EndsByInput end limit left r r' w w' k k'
  pub counts : CountsKeeper end k k'
  pub source : CountsSource end r r'
  pub sink : CountsSink end w w'
  pub headline : end ≡ Ending.Done → OfInput limit left rest (λ text. PrintsLawfully text held now told)
  pub sound : end ≡ Ending.Done → OfInput limit left rest (λ text. PrintsSound held now)
