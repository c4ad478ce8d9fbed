use Rattle.std.proofs.Common.{sym, ◌∙◌}
use Rattle.nq_hosts.proofs.Steps.{spelled, unspelled}
use Rattle.nq_hosts.proofs.calls.lines.is_call.Goals as goal

pub returns-clause-yes : goal.returns-clause-yes
returns-clause-yes c = λ yes. spelled c.args.line.now c.parse_call.result (sym c.is_ok.ensures.value ∙ yes) c.parse_call.ensures.found

pub returns-clause-no : goal.returns-clause-no
returns-clause-no c = λ no. unspelled c.args.line.now c.parse_call.result (sym c.is_ok.ensures.value ∙ no) c.parse_call.ensures.memory
    c.parse_call.ensures.only
