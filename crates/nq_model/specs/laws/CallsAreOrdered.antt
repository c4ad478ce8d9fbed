-- Each client's calls stand in order, and so do the entries that they make, in every run.
use Rattle.nq_model.specs.laws.Bounds.{InEveryRun}
use Rattle.nq_model.specs.laws.OfTheirCall.{AreOfTheirCall}
use Rattle.nq_model.specs.laws.Ordered.{IsOrdered}
use Rattle.nq_model.specs.protocol.World.{run}

-- after every schedule within skew the journal is ordered
abbrev pub OrderedInEveryRun : Type 0
OrderedInEveryRun = InEveryRun (λ head events. IsOrdered (run head events).journal)

-- after every schedule within skew each counted read of the journal is of the file and block for which its call asked
abbrev pub ReadsAreOfTheirCallInEveryRun : Type 0
ReadsAreOfTheirCallInEveryRun = InEveryRun (λ head events. AreOfTheirCall (run head events).journal)
