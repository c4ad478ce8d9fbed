use Rattle.std.proofs.Common.{◌≡◌, ◌-◌, true}
use Rattle.nq_link.specs.Runs.{IsRepeated}
use Rattle.nq_link.proofs.net.runs.goes_on.Given as goal

abbrev pub invariant-loop-at : goal.invariant-loop-at
invariant-loop-at l = l.same ≡ true → IsRepeated l.bytes l.place (l.at - l.place)
