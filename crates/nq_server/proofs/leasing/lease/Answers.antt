use Rattle.std.proofs.Common.{Ok, refl, sym, subst}
use Rattle.nq_model.specs.protocol.Ask.{ask}
use Rattle.nq_model.specs.protocol.ServerStep.{leases}
use Rattle.nq_server.proofs.LeasedSteps.{after-room, lease-later, lease-given}
use Rattle.nq_server.specs.declared.received.EventTaken.TheVariants.{Done}
use Rattle.nq_server.specs.Leasing.{Does, MakesBeside, granted_in}
use Rattle.nq_server.specs.State.{beside_of, server_of}
use Rattle.nq_server.proofs.leasing.lease.Goals as goal

pub returns-in-Some : goal.returns-in-Some
returns-in-Some c =
    λ kept.
    subst
    (λ step. Does step c.later.result (beside_of c.args.state.now) (beside_of c.later.new.state) c.args.out.now c.later.new.out c.args.log.now c.args.log.now)
    (lease-later (server_of (beside_of c.args.state.now) kept) c.args.xid c.args.question.now c.in-Some.to (sym c.in-Some.ensures))
    (c.later.ensures kept c.args.log.now)

pub returns-in-Ok : goal.returns-in-Ok
unfolding leases
returns-in-Ok c =
    λ kept.
    let q = c.args.question.now in
    let table = c.args.state.now.table in
    subst
    (λ step. Does step (Ok Done) (beside_of c.args.state.now) (beside_of c.give.new.state) c.args.out.now c.give.new.out c.args.log.now c.give.new.log)
    (lease-given (server_of (beside_of c.args.state.now) kept) c.args.xid q (sym c.in-None.ensures)) (
      refl,
      after-room (leases (server_of (beside_of c.args.state.now) kept) q.who c.args.xid q.file (ask table q).table (granted_in (ask table q).asked))
          (beside_of c.give.new.state) c.args.out.now c.make_room.new.out c.give.new.out c.args.log.now c.make_room.new.log c.give.new.log
          c.in-Ok.ensures.room.nothing
          (subst
          (λ xid. MakesBeside (leases (server_of (beside_of c.args.state.now) kept) q.who xid q.file (ask table q).table
          (granted_in (ask table q).asked)) (beside_of c.give.new.state) c.make_room.new.out c.give.new.out c.make_room.new.log c.give.new.log)
          c.in-Ok.ensures.begun.0
          (c.give.ensures kept)),
    )
