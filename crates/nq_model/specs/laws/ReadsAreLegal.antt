-- Each counted read gives the latest write that stands for it, in every run.
use Rattle.nq_model.specs.laws.Bounds.{InEveryRun}
use Rattle.nq_model.specs.laws.Legal.{IsLegal}
use Rattle.nq_model.specs.protocol.World.{run}

-- after every schedule within skew the journal is legal
abbrev pub ReadsAreLegalInEveryRun : Type 0
ReadsAreLegalInEveryRun = InEveryRun (λ head events. IsLegal (run head events).journal)
