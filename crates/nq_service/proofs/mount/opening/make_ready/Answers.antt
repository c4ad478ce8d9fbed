use Rattle.std.proofs.Common.{arith}
use Rattle.nq_service.proofs.Readying.{sized}
use Rattle.nq_service.proofs.mount.opening.make_ready.Goals as goal

pub returns-in-Ok : goal.returns-in-Ok
returns-in-Ok g c =
    let some = c.in-Ok.field-0-test in
    sized g.D.Disk.told g.D.Disk.faults g.D.Disk.may_leave g.D.Disk.follows g.D.Disk.leaves c.args.disk.now c.size.new.self c.in-Ok.field-0
    c.size.ensures.follows c.size.ensures.same c.size.ensures.leaves c.in-Ok.ensures.cause c.in-Ok.ensures.told (λ none. absurd (omega (arith, some, none)))
