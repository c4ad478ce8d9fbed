use Rattle.std.proofs.Common.{◌≡◌, ◌≤◌, List, [], length, sym, ap, subst, arith}
use Rattle.nq_base.specs.declared.Entry.{Entry}
use Rattle.nq_model.specs.protocol.Client.{ClientStep}
use Rattle.nq_model.specs.protocol.ClientStep.{starts}
use Rattle.nq_client.proofs.starting.begin.Goals as goal

pub finish-requires-clause-room : goal.finish-requires-clause-room
unfolding starts
finish-requires-clause-room c =
    let none : c.in_ok-step.step.entries.items ≡ [] = ap (λ (t : ClientStep). t.entries) c.in_ok-step.ensures in
    subst (λ (es : List Entry). length es ≤ c.unwrap-log.result.spare) (sym none) (omega arith)
