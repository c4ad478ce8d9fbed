use Rattle.std.proofs.Common.{arith}
use Rattle.nq_hosts.proofs.Steps.{small, stepped}
use Rattle.nq_hosts.proofs.calls.lines.find_fault.Goals as goal

pub overflow_add-number : goal.overflow_add-number
overflow_add-number c =
    let few = small c.args.text.now c.loop-rest.rest.now c.loop-rest.number c.loop-rest.invariant in
    let short = c.requires in omega arith

pub loop-rest-preserved : goal.loop-rest-preserved
loop-rest-preserved c =
    let over = c.in-Some.ensures in
    stepped c.args.text.now c.loop-rest.rest.now c.in-Some.after.now c.loop-rest.number c.loop-rest.invariant over.0 over.1 over.2
