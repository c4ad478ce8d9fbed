use Rattle.std.proofs.Common.{◌≤◌, length, arith}
use Rattle.std.proofs.lemmas.Bool.{iff_false}
use Rattle.nq_name_server.proofs.Showing.{hears_nothing, hears_on}
use Rattle.nq_name_server.proofs.around.around.Around.hear.Goals as goal

pub returns-then-is_there-clause-hears : goal.returns-then-is_there-clause-hears
returns-then-is_there-clause-hears c =
    hears_on c.hear_there.result c.args.self.now c.hear_there.new.self c.args.host c.args.datagram.now c.args.term c.args.now
    (c.is_there.ensures.0 c.if-is_there.true) c.hear_there.ensures.hears

pub returns-else-is_there-clause-hears : goal.returns-else-is_there-clause-hears
returns-else-is_there-clause-hears c = λ w ran client its-term its-now.
    let not = iff_false c.is_there.ensures c.if-is_there.false in
    let past : length c.args.self.now.sides ≤ c.args.host = omega arith in
    hears_nothing w ran c.args.self.now c.args.host c.args.datagram.now client c.requires past
