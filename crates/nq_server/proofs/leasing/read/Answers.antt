use Rattle.std.proofs.Common.{sym, ap, ◌∙◌}
use Rattle.nq_base.specs.declared.Refusal.{Refusal}
use Rattle.nq_base.specs.declared.Reply.{Reply as Answer}
use Rattle.nq_model.specs.protocol.Ask.{ask}
use Rattle.nq_model.specs.protocol.Kept.{find_file}
use Rattle.nq_model.specs.protocol.Message.{reply}
use Rattle.nq_model.specs.protocol.ServerStep.{read, read_asked}
use Rattle.nq_server.proofs.AnsweredSteps.{takes-answered}
use Rattle.nq_server.proofs.AskedStates.{may-ask, stays-sound}
use Rattle.nq_server.proofs.LeasedFinds.{read-leaves, read-stale, read-invalid, read-found}
use Rattle.nq_server.proofs.LeasedSteps.{takes-does}
use Rattle.nq_server.specs.Leasing.{file_asked}
use Rattle.nq_server.specs.State.{beside_of, server_of}
use Rattle.nq_server.specs.Stepping.{next_of}
use Rattle.nq_server.proofs.leasing.read.Goals as goal

pub returns-in-Stale-clause-takes : goal.returns-in-Stale-clause-takes
returns-in-Stale-clause-takes g c =
    takes-answered c.args.caller.who.host (reply c.args.caller.xid (Answer.Refused c.args.caller.who.inc Refusal.Stale)) c.refuse.result
    (λ kept. read (server_of (beside_of c.args.state.now) kept) c.args.caller.who c.args.caller.xid (next_of c.args.out.now) c.args.wish.now.call
    c.args.wish.now.block c.args.wish.now.want (find_file c.args.wish.now.file kept.files)) (g.K.Keeper.content c.args.keeper.now) _ _ _
    (beside_of c.args.state.now) c.args.out.now _ c.args.log.now c.in_ok-read_block.ensures.reads.0 c.in_ok-read_block.ensures.reads.1 c.refuse.ensures
    (λ kept told. read-stale (server_of (beside_of c.args.state.now) kept) c.args.caller.who c.args.caller.xid (next_of c.args.out.now)
    c.args.wish.now.call c.args.wish.now.block c.args.wish.now.want (find_file c.args.wish.now.file kept.files) (sym c.in-Stale.is
    ∙ c.in_ok-read_block.ensures.told kept told))

pub returns-in-Invalid-clause-takes : goal.returns-in-Invalid-clause-takes
returns-in-Invalid-clause-takes g c =
    takes-answered c.args.caller.who.host (reply c.args.caller.xid (Answer.Refused c.args.caller.who.inc Refusal.Inval)) c.refuse-in-Invalid.result
    (λ kept. read (server_of (beside_of c.args.state.now) kept) c.args.caller.who c.args.caller.xid (next_of c.args.out.now) c.args.wish.now.call
    c.args.wish.now.block c.args.wish.now.want (find_file c.args.wish.now.file kept.files)) (g.K.Keeper.content c.args.keeper.now) _ _ _
    (beside_of c.args.state.now) c.args.out.now _ c.args.log.now c.in_ok-read_block.ensures.reads.0 c.in_ok-read_block.ensures.reads.1
    c.refuse-in-Invalid.ensures
    (λ kept told. read-invalid (server_of (beside_of c.args.state.now) kept) c.args.caller.who c.args.caller.xid (next_of c.args.out.now)
    c.args.wish.now.call c.args.wish.now.block c.args.wish.now.want (find_file c.args.wish.now.file kept.files) (sym c.in-Invalid.is
    ∙ c.in_ok-read_block.ensures.told kept told))

pub read_found-requires : goal.read_found-requires
read_found-requires g c =
    may-ask c.args.state.now c.args.caller.who c.in-Got.row c.args.wish.now.want c.question-question.result c.requires c.question-question.ensures

pub returns-in-Got-clause-takes : goal.returns-in-Got-clause-takes
returns-in-Got-clause-takes g c =
    let q = c.question-question.result in
    takes-does (λ kept. read (server_of (beside_of c.args.state.now) kept) c.args.caller.who c.args.caller.xid (next_of c.args.out.now)
    c.args.wish.now.call c.args.wish.now.block c.args.wish.now.want (find_file c.args.wish.now.file kept.files))
    (λ kept. read_asked (server_of (beside_of c.args.state.now) kept) q.who c.args.caller.xid (next_of c.args.out.now) c.args.wish.now.call
    (file_asked q) c.args.wish.now.block c.in-Got.body q.access (ask c.args.state.now.table q).table (ask c.args.state.now.table q).asked)
    c.read_found.result (g.K.Keeper.content c.args.keeper.now) _ _ _ (beside_of c.args.state.now) (beside_of c.read_found.new.state)
    c.args.out.now c.read_found.new.out c.args.log.now c.read_found.new.log c.in_ok-read_block.ensures.reads.0 c.in_ok-read_block.ensures.reads.1
    c.read_found.ensures
    (λ kept told. read-found (beside_of c.args.state.now) kept c.args.caller.who c.args.caller.xid (next_of c.args.out.now) c.args.wish.now.call
    c.args.wish.now.block c.args.wish.now.want (find_file c.args.wish.now.file kept.files) c.in-Got.row c.in-Got.body q (sym c.in-Got.is
    ∙ c.in_ok-read_block.ensures.told kept told) c.question-question.ensures)
    (λ kept. ap (λ s. s.kept) (read-leaves (server_of (beside_of c.args.state.now) kept) q.who c.args.caller.xid (next_of c.args.out.now)
    c.args.wish.now.call (file_asked q) c.args.wish.now.block c.in-Got.body q.access (ask c.args.state.now.table q).table
    (ask c.args.state.now.table q).asked))

pub returns-in-Got-clause-stays : goal.returns-in-Got-clause-stays
returns-in-Got-clause-stays g c =
    let s = c.args.state.now in
    let q = c.question-question.result in
    let may = may-ask s c.args.caller.who c.in-Got.row c.args.wish.now.want q c.requires c.question-question.ensures in
    stays-sound s c.read_found.new.state q (λ kept. read_asked (server_of (beside_of s) kept) q.who c.args.caller.xid (next_of c.args.out.now)
    c.args.wish.now.call (file_asked q) c.args.wish.now.block c.in-Got.body q.access (ask s.table q).table (ask s.table q).asked)
    c.read_found.result c.args.out.now c.read_found.new.out c.args.log.now c.read_found.new.log may
    (λ kept. read-leaves (server_of (beside_of s) kept) q.who c.args.caller.xid (next_of c.args.out.now) c.args.wish.now.call (file_asked q)
    c.args.wish.now.block c.in-Got.body q.access (ask s.table q).table (ask s.table q).asked)
    c.read_found.ensures
