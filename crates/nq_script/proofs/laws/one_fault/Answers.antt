use Rattle.std.proofs.Common.{◌≡◌, []}
use Rattle.nq_script.specs.Schedule.{IsSchedule}
use Rattle.nq_script.proofs.Splitting.{wrong-once}
use Rattle.nq_script.proofs.Whole.{schedule-right}
use Rattle.nq_script.proofs.laws.one_fault.Goals as goal

pub returns-clause-once : goal.returns-clause-once
returns-clause-once c = λ text m n v w. wrong-once IsSchedule (λ before rest. IsSchedule before × (rest ≡ [])) text m n v w

pub returns-clause-none : goal.returns-clause-none
returns-clause-none c = λ text n head lines s w. schedule-right text n head lines s w
