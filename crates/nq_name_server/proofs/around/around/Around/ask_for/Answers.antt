use Rattle.std.proofs.Common.{◌≤◌, length, arith}
use Rattle.std.proofs.lemmas.Bool.{iff_false}
use Rattle.nq_name_server.proofs.Showing.{asks_nothing, asks_on}
use Rattle.nq_name_server.proofs.around.around.Around.ask_for.Goals as goal

pub returns-then-is_there-clause-asks : goal.returns-then-is_there-clause-asks
returns-then-is_there-clause-asks c =
    asks_on c.ask_there.result c.args.self.now c.ask_there.new.self c.args.host c.args.prefix.now c.args.term c.args.now
    (c.is_there.ensures.0 c.if-is_there.true) c.ask_there.ensures.asks

pub returns-else-is_there-clause-asks : goal.returns-else-is_there-clause-asks
returns-else-is_there-clause-asks c = λ w ran client its-term its-now may.
    let not = iff_false c.is_there.ensures c.if-is_there.false in
    let past : length c.args.self.now.sides ≤ c.args.host = omega arith in
    asks_nothing w ran c.args.self.now c.args.host c.args.prefix.now client c.requires past
