use Rattle.std.proofs.Common.{Ok, refl, sym, subst}
use Rattle.nq_model.specs.protocol.Ask.{ask}
use Rattle.nq_model.specs.protocol.ServerStep.{serves}
use Rattle.nq_server.proofs.LeasedSteps.{after-room, next-same, read-later, read-given}
use Rattle.nq_server.specs.declared.received.EventTaken.TheVariants.{Done}
use Rattle.nq_server.specs.Leasing.{Does, MakesBeside, file_asked, granted_in}
use Rattle.nq_server.specs.State.{beside_of, server_of}
use Rattle.nq_server.specs.Stepping.{next_of}
use Rattle.nq_server.proofs.leasing.read_found.Goals as goal

pub returns-in-Some : goal.returns-in-Some
returns-in-Some c =
    λ kept.
    subst
    (λ step. Does step c.later.result (beside_of c.args.state.now) (beside_of c.later.new.state) c.args.out.now c.later.new.out c.args.log.now c.args.log.now)
    (read-later (server_of (beside_of c.args.state.now) kept) c.args.xid (next_of c.args.out.now) c.args.found.call c.args.question.now
    (file_asked c.args.question.now) c.args.found.block c.args.found.body c.in-Some.to refl (sym c.in-Some.ensures))
    (c.later.ensures kept c.args.log.now)

pub returns-in-Ok : goal.returns-in-Ok
unfolding serves
returns-in-Ok c =
    λ kept.
    let q = c.args.question.now in
    let table = c.args.state.now.table in
    subst
    (λ step. Does step (Ok Done) (beside_of c.args.state.now) (beside_of c.serve.new.state) c.args.out.now c.serve.new.out c.args.log.now c.serve.new.log)
    (read-given (server_of (beside_of c.args.state.now) kept) c.args.xid (next_of c.args.out.now) c.args.found.call q (file_asked q)
    c.args.found.block c.args.found.body (sym c.in-None.ensures)) (
      refl,
      after-room (serves (server_of (beside_of c.args.state.now) kept) q.who c.args.xid (next_of c.args.out.now) c.args.found.call (file_asked q)
          c.args.found.block c.args.found.body (ask table q).table (granted_in (ask table q).asked)) (beside_of c.serve.new.state) c.args.out.now
          c.make_room.new.out c.serve.new.out c.args.log.now c.make_room.new.log c.serve.new.log c.in-Ok.ensures.room.nothing
          (subst
          (λ next. MakesBeside (serves (server_of (beside_of c.args.state.now) kept) q.who c.args.xid next c.args.found.call (file_asked q)
          c.args.found.block c.args.found.body (ask table q).table (granted_in (ask table q).asked)) (beside_of c.serve.new.state)
          c.make_room.new.out c.serve.new.out c.make_room.new.log c.serve.new.log)
          (next-same c.args.out.now c.make_room.new.out c.args.log.now c.make_room.new.log c.in-Ok.ensures.room.nothing)
          (subst
          (λ xid. MakesBeside (serves (server_of (beside_of c.args.state.now) kept) q.who xid (next_of c.make_room.new.out) c.args.found.call
          (file_asked q) c.args.found.block c.args.found.body (ask table q).table (granted_in (ask table q).asked)) (beside_of c.serve.new.state)
          c.make_room.new.out c.serve.new.out c.make_room.new.log c.serve.new.log)
          c.in-Ok.ensures.begun.0
          (c.serve.ensures kept))),
    )
