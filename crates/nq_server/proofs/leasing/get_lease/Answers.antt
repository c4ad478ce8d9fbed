use Rattle.std.proofs.Common.{Some, sym, ap, ◌∙◌}
use Rattle.nq_base.specs.declared.Refusal.{Refusal}
use Rattle.nq_base.specs.declared.Reply.{Reply as Answer}
use Rattle.nq_model.specs.protocol.Ask.{ask}
use Rattle.nq_model.specs.protocol.Kept.{find_file}
use Rattle.nq_model.specs.protocol.Message.{reply}
use Rattle.nq_model.specs.protocol.ServerStep.{get_lease, lease_asked}
use Rattle.nq_server.proofs.AnsweredSteps.{takes-answered}
use Rattle.nq_server.proofs.AskedStates.{may-ask, stays-sound}
use Rattle.nq_server.proofs.LeasedFinds.{lease-leaves, get-lease-stale, get-lease-found}
use Rattle.nq_server.proofs.LeasedSteps.{takes-does}
use Rattle.nq_server.specs.State.{beside_of, server_of}
use Rattle.nq_server.proofs.leasing.get_lease.Goals as goal

pub returns-in-None-clause-takes : goal.returns-in-None-clause-takes
returns-in-None-clause-takes g c =
    takes-answered c.args.caller.who.host (reply c.args.caller.xid (Answer.Refused c.args.caller.who.inc Refusal.Stale)) c.refuse.result
    (λ kept. get_lease (server_of (beside_of c.args.state.now) kept) c.args.caller.who c.args.caller.xid c.args.wish.want
    (find_file c.args.wish.file kept.files)) (g.K.Keeper.content c.args.keeper.now) _ _ _ (beside_of c.args.state.now) c.args.out.now _
    c.args.log.now c.in_ok-file.ensures.reads.0 c.in_ok-file.ensures.reads.1 c.refuse.ensures
    (λ kept told. get-lease-stale (server_of (beside_of c.args.state.now) kept) c.args.caller.who c.args.caller.xid c.args.wish.want
    (find_file c.args.wish.file kept.files) (sym c.in-None.is ∙ c.in_ok-file.ensures.told kept told))

pub lease-requires : goal.lease-requires
lease-requires g c =
    may-ask c.args.state.now c.args.caller.who c.in-Some.row (Some c.args.wish.want) c.question-question.result c.requires c.question-question.ensures

pub returns-in-Some-clause-takes : goal.returns-in-Some-clause-takes
returns-in-Some-clause-takes g c =
    let q = c.question-question.result in
    takes-does (λ kept. get_lease (server_of (beside_of c.args.state.now) kept) c.args.caller.who c.args.caller.xid c.args.wish.want
    (find_file c.args.wish.file kept.files)) (λ kept. lease_asked (server_of (beside_of c.args.state.now) kept) q.who c.args.caller.xid q.file
    q.access (ask c.args.state.now.table q).table (ask c.args.state.now.table q).asked) c.lease.result (g.K.Keeper.content c.args.keeper.now) _ _
    _ (beside_of c.args.state.now) (beside_of c.lease.new.state) c.args.out.now c.lease.new.out c.args.log.now c.lease.new.log
    c.in_ok-file.ensures.reads.0 c.in_ok-file.ensures.reads.1 c.lease.ensures
    (λ kept told. get-lease-found (beside_of c.args.state.now) kept c.args.caller.who c.args.caller.xid c.args.wish.want (find_file c.args.wish.file
    kept.files) c.in-Some.row q (sym c.in-Some.is ∙ c.in_ok-file.ensures.told kept told) c.question-question.ensures)
    (λ kept. ap (λ s. s.kept) (lease-leaves (server_of (beside_of c.args.state.now) kept) q.who c.args.caller.xid q.file q.access
    (ask c.args.state.now.table q).table (ask c.args.state.now.table q).asked))

pub returns-in-Some-clause-stays : goal.returns-in-Some-clause-stays
returns-in-Some-clause-stays g c =
    let s = c.args.state.now in
    let q = c.question-question.result in
    let may = may-ask s c.args.caller.who c.in-Some.row (Some c.args.wish.want) q c.requires c.question-question.ensures in
    stays-sound s c.lease.new.state q (λ kept. lease_asked (server_of (beside_of s) kept) q.who c.args.caller.xid q.file q.access
    (ask s.table q).table (ask s.table q).asked) c.lease.result c.args.out.now c.lease.new.out c.args.log.now c.lease.new.log may
    (λ kept. lease-leaves (server_of (beside_of s) kept) q.who c.args.caller.xid q.file q.access (ask s.table q).table (ask s.table q).asked)
    c.lease.ensures
