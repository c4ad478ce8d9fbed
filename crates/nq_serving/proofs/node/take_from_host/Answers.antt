use Rattle.std.proofs.Common.{◌∙◌, refl, sym, subst}
use Rattle.nq_serving.specs.Extending.{extension_told}
use Rattle.nq_serving.specs.Leaving.{IsLeftAt, LeavesOnly}
use Rattle.nq_serving.specs.ServerTurn.{TakesOf, datagram, given_as}
use Rattle.nq_serving.specs.declared.node.Node.{Node}
use Rattle.nq_serving.proofs.Leaves.{answer_leaves, step_leaves}
use Rattle.nq_serving.proofs.node.take_from_host.Goals as goal

pub returns-then-is_own-clause-takes : goal.returns-then-is_own-clause-takes
returns-then-is_own-clause-takes g c =
    let after : Node g.row.K.Denot = record { server = c.answer.new.server; out = c.answer.new.out; log = c.args.node.now.log } in
    subst (λ own. TakesOf g.K.Keeper.content g.K.Keeper.faults (extension_told g.E.Extension.owns g.E.Extension.replies) own c.args.host
    c.args.datagram.now c.answered.result c.args.node.now after) (sym c.if-is_own.true ∙ c.is_own.ensures.own)
    record {
      made = c.answer.result;
      so = c.answered.ensures;
      first = c.answer.ensures.first;
      replies = c.answer.ensures.replies;
      untouched = c.answer.ensures.reads.untouched;
      reads = c.answer.ensures.reads.reads;
      silent = refl;
    }

pub returns-then-is_own-clause-leaves : goal.returns-then-is_own-clause-leaves
returns-then-is_own-clause-leaves g c =
    subst (λ own. LeavesOnly g.K.Keeper.content g.K.Keeper.follows g.K.Keeper.leaves c.args.node.now.server.keeper c.answer.new.server.keeper
    (IsLeftAt g.K.Keeper.content (given_as own c.args.host c.args.datagram.now) c.args.node.now)) (sym c.if-is_own.true ∙ c.is_own.ensures.own)
    (answer_leaves g.K.Keeper.content g.K.Keeper.faults g.K.Keeper.follows g.K.Keeper.leaves g.met.K.Keeper.follows_on g.met.K.Keeper.parts
    c.args.node.now.server.keeper c.answer.new.server.keeper c.answer.ensures.reads.same c.answer.ensures.reads.left c.args.node.now refl)

pub returns-else-is_own-clause-takes : goal.returns-else-is_own-clause-takes
returns-else-is_own-clause-takes g c =
    let after : Node g.row.K.Denot = record { server = c.receive.new.self; out = c.receive.new.out; log = c.receive.new.log } in
    subst (λ own. TakesOf g.K.Keeper.content g.K.Keeper.faults (extension_told g.E.Extension.owns g.E.Extension.replies) own c.args.host
    c.args.datagram.now c.received.result c.args.node.now after) (sym c.if-is_own.false ∙ c.is_own.ensures.own)
    record { how = c.receive.result; so = c.received.ensures; takes = c.receive.ensures.takes; spent = c.receive.ensures.spent }

pub returns-else-is_own-clause-leaves : goal.returns-else-is_own-clause-leaves
returns-else-is_own-clause-leaves g c =
    let after : Node g.row.K.Denot = record { server = c.receive.new.self; out = c.receive.new.out; log = c.receive.new.log } in
    subst (λ own. LeavesOnly g.K.Keeper.content g.K.Keeper.follows g.K.Keeper.leaves c.args.node.now.server.keeper after.server.keeper
    (IsLeftAt g.K.Keeper.content (given_as own c.args.host c.args.datagram.now) c.args.node.now)) (sym c.if-is_own.false ∙ c.is_own.ensures.own)
    (step_leaves g.K.Keeper.content g.K.Keeper.faults g.K.Keeper.follows g.K.Keeper.leaves g.met.K.Keeper.follows_on g.met.K.Keeper.parts
    (datagram c.args.host c.args.datagram.now) c.args.node.now after c.receive.ensures.follows c.receive.ensures.leaves)
