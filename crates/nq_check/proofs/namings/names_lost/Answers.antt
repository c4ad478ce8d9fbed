use Rattle.nq_check.proofs.NamingLosses.{lost_ok}
use Rattle.nq_check.proofs.namings.names_lost.Goals as goal

pub returns : goal.returns
returns c =
    let answer = c.args.answer.now in
    lost_ok c.name_all_anew.result c.args.whole.now c.args.place answer.who.now answer.q c.call_along-call.result answer.spans.now.items
    c.args.names.now.named.entries c.name_all_anew.new.names.named.entries c.call_along-call.ensures c.name_all_anew.ensures
