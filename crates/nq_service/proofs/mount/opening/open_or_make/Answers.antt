use Rattle.nq_service.proofs.Opened.{makes_from}
use Rattle.nq_service.proofs.mount.opening.open_or_make.Goals as goal

pub returns-in-Ok-clause-makes : goal.returns-in-Ok-clause-makes
returns-in-Ok-clause-makes g c =
    λ none.
    makes_from g.D.Disk.told g.D.Disk.faults g.D.Disk.may_leave g.D.Disk.follows g.D.Disk.leaves c.args.disk c.open.result
    (g.D.Disk.told c.make_ready.new.disk) (c.in-Ok.ensures.made none).0 c.open.ensures.content
