-- All laws of journals together.
use Rattle.std.specs.Prelude.{List}
use Rattle.nq_base.specs.declared.Entry.{Entry}
use Rattle.nq_model.specs.laws.CutOff.{IsExcused}
use Rattle.nq_model.specs.laws.Fate.{IsAccounted}
use Rattle.nq_model.specs.laws.Legal.{IsLegal}
use Rattle.nq_model.specs.laws.Ordered.{IsOrdered}
use Rattle.nq_model.specs.laws.Reported.{IsReported}
use Rattle.nq_model.specs.laws.Synchronized.{IsSynchronized}

-- a journal is sound: reads give the latest standing write, each client's order is kept, what is missing is excused and
-- reported, and what is answered ok is kept
pub record IsSound (journal : List Entry) : Type 0 where
  pub legal : IsLegal journal
  pub ordered : IsOrdered journal
  pub accounted : IsAccounted journal
  pub excused : IsExcused journal
  pub reported : IsReported journal
  pub synchronized : IsSynchronized journal
