use Rattle.std.proofs.Common.{sym}
use Rattle.nq_hosts.proofs.Steps.{no-call, other-line, over}
use Rattle.nq_hosts.proofs.calls.lines.after_call.Goals as goal

pub returns-in_default : goal.returns-in_default
returns-in_default c = no-call c.args.text.now (sym c.in_default.ensures)

pub returns-then-is_call : goal.returns-then-is_call
returns-then-is_call c = let call = c.is_call.ensures.yes c.if-is_call.true in over c.args.text.now c.in-Some.line.now c.in-Some.after.now call.0
    (sym c.in-Some.ensures) call.1

pub returns-else-is_call : goal.returns-else-is_call
returns-else-is_call c = other-line c.args.text.now c.in-Some.line.now c.in-Some.after.now (sym c.in-Some.ensures) (c.is_call.ensures.no c.if-is_call.false)
