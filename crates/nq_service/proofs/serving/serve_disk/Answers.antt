use Rattle.std.proofs.Common.{Err, inl, inr, refl, ap, ◌∙◌}
use Rattle.nq_clock.specs.Clocks.{clock_told}
use Rattle.nq_link.specs.Links.{link_told}
use Rattle.nq_store.specs.Opening.{disk_of}
use Rattle.nq_service.proofs.Refusing.{bad_field, failed, lacks_memory, not_an_image, stays_back}
use Rattle.nq_service.proofs.Surviving.{serves_opened}
use Rattle.nq_service.proofs.serving.serve_disk.Goals as goal

pub returns-in-Ok-clause-serves : goal.returns-in-Ok-clause-serves
returns-in-Ok-clause-serves g c =
    let clock_of = clock_told g.C.Clock.floor g.C.Clock.readings g.C.Clock.reads in
    let link_of = link_told g.L.Link.sent g.L.Link.waiting g.L.Link.faults g.L.Link.receives in
    let disk = c.args.disk in
    inr (serves_opened g.D.Disk.told g.D.Disk.faults g.D.Disk.may_leave g.D.Disk.follows g.D.Disk.leaves c.args.longest
    c.serve_store.result.end c.args.turns disk c.in-Ok.store c.serve_store.result.left (clock_of c.args.clock.now) (clock_of
    c.serve_store.new.clock)
    (link_of c.args.link.now) (link_of c.serve_store.new.link) (g.K.Sink.held c.args.out.now) (g.K.Sink.held c.serve_store.new.out)
    (g.K.Sink.faults c.args.out.now) (g.K.Sink.faults c.serve_store.new.out) c.open.result c.in-Ok.is (g.met.D.Disk.told_may_stay disk)
    (g.met.D.Disk.parts disk) g.met.D.Disk.rises c.open.ensures.stands c.open.ensures.content c.open.ensures.fresh c.open.ensures.cause
    c.open.ensures.follows c.open.ensures.leaves
    c.serve_store.ensures.serves)

pub returns-in-Err-NotAnImage-clause-serves : goal.returns-in-Err-NotAnImage-clause-serves
returns-in-Err-NotAnImage-clause-serves g c =
    let is = c.in-Err-NotAnImage.is ∙ ap Err c.in-Err-NotAnImage.field-0-is in
    let disk = c.args.disk in
    let left = c.refuse.result.left in
    inl (record {
      why = not_an_image (λ store. store.disk) g.D.Disk.told g.D.Disk.faults disk c.in-Err-NotAnImage.disk left c.open.result c.refuse.result.end
          (g.K.Sink.held c.args.out.now) (g.K.Sink.held c.refuse.new.out) (g.K.Sink.faults c.args.out.now) (g.K.Sink.faults c.refuse.new.out) is
          c.refuse.ensures.disk
          c.open.ensures.wrong c.open.ensures.stays c.open.ensures.cause c.refuse.ensures.tells;
      clocks = refl;
      links = refl;
      survives = stays_back (λ store. store.disk) g.D.Disk.told g.D.Disk.faults disk c.in-Err-NotAnImage.disk left c.open.result g.D.Disk.may_leave
          g.D.Disk.leaves
          (ap (disk_of (λ store. store.disk)) is) c.refuse.ensures.disk (g.met.D.Disk.told_may_stay disk) c.open.ensures.leaves;
    })

pub returns-in-Err-BadField-clause-serves : goal.returns-in-Err-BadField-clause-serves
returns-in-Err-BadField-clause-serves g c =
    let is = c.in-Err-BadField.is ∙ ap Err c.in-Err-BadField.field-0-is in
    let disk = c.args.disk in
    let left = c.refuse-in-Err-BadField.result.left in
    inl (record {
      why = bad_field (λ store. store.disk) g.D.Disk.told g.D.Disk.faults disk c.in-Err-BadField.disk left c.open.result c.in-Err-BadField.place
          c.refuse-in-Err-BadField.result.end
          (g.K.Sink.held c.args.out.now) (g.K.Sink.held c.refuse-in-Err-BadField.new.out) (g.K.Sink.faults c.args.out.now) (g.K.Sink.faults
          c.refuse-in-Err-BadField.new.out) is c.refuse-in-Err-BadField.ensures.disk
          c.open.ensures.wrong c.open.ensures.stays c.open.ensures.cause c.refuse-in-Err-BadField.ensures.tells;
      clocks = refl;
      links = refl;
      survives = stays_back (λ store. store.disk) g.D.Disk.told g.D.Disk.faults disk c.in-Err-BadField.disk left c.open.result g.D.Disk.may_leave
          g.D.Disk.leaves
          (ap (disk_of (λ store. store.disk)) is) c.refuse-in-Err-BadField.ensures.disk (g.met.D.Disk.told_may_stay disk) c.open.ensures.leaves;
    })

pub returns-in-Err-Failed-clause-serves : goal.returns-in-Err-Failed-clause-serves
returns-in-Err-Failed-clause-serves g c =
    let is = c.in-Err-Failed.is ∙ ap Err c.in-Err-Failed.field-0-is in
    let disk = c.args.disk in
    let left = c.ended_with.result.left in
    inl (record {
      why = failed (λ store. store.disk) g.D.Disk.told g.D.Disk.faults disk c.in-Err-Failed.disk left c.open.result c.ended_with.result.end
          (g.K.Sink.held c.args.out.now) (g.K.Sink.faults c.args.out.now) is c.ended_with.ensures.disk
          c.ended_with.ensures.status c.open.ensures.cause;
      clocks = refl;
      links = refl;
      survives = stays_back (λ store. store.disk) g.D.Disk.told g.D.Disk.faults disk c.in-Err-Failed.disk left c.open.result g.D.Disk.may_leave
          g.D.Disk.leaves
          (ap (disk_of (λ store. store.disk)) is) c.ended_with.ensures.disk (g.met.D.Disk.told_may_stay disk) c.open.ensures.leaves;
    })

pub returns-in-Err-Memory-clause-serves : goal.returns-in-Err-Memory-clause-serves
returns-in-Err-Memory-clause-serves g c =
    let is = c.in-Err-Memory.is ∙ ap Err c.in-Err-Memory.field-0-is in
    let disk = c.args.disk in
    let left = c.ended_with-in-Err-Memory.result.left in
    inl (record {
      why = lacks_memory (λ store. store.disk) g.D.Disk.told g.D.Disk.faults disk c.in-Err-Memory.disk left c.open.result
          c.ended_with-in-Err-Memory.result.end
          (g.K.Sink.held c.args.out.now) (g.K.Sink.faults c.args.out.now) is c.ended_with-in-Err-Memory.ensures.disk
          c.ended_with-in-Err-Memory.ensures.status c.open.ensures.cause;
      clocks = refl;
      links = refl;
      survives = stays_back (λ store. store.disk) g.D.Disk.told g.D.Disk.faults disk c.in-Err-Memory.disk left c.open.result g.D.Disk.may_leave
          g.D.Disk.leaves
          (ap (disk_of (λ store. store.disk)) is) c.ended_with-in-Err-Memory.ensures.disk (g.met.D.Disk.told_may_stay disk) c.open.ensures.leaves;
    })
