use Rattle.std.proofs.Common.{ap, ◌∙◌, sym, arith}
use Rattle.nq_stage.specs.Bodies.{most_bodies}
use Rattle.nq_stage.proofs.Keys.{keys-test, put-kept, with_body-is}
use Rattle.nq_stage.proofs.pool.entries.put_body.Goals as goal

pub returns-clause-put : goal.returns-clause-put
returns-clause-put c =
    let room = c.requires in
    let few = c.len-distinct.ensures.valid.1 in
    ap (λ x. x.entries) c.in_ok-put.ensures.entries
    ∙ put-kept c.args.written c.args.entries.now c.args.body most_bodies c.len-distinct.ensures.valid.0 keys-test room (omega arith) (omega (arith, few, room))
    ∙ sym (with_body-is c.args.written c.args.body c.args.entries.now.entries)
