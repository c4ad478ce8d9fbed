use Rattle.std.proofs.Common.{drop, refl}
use Rattle.nq_image.specs.Writing.{zeros_of}
use Rattle.nq_plan.proofs.Formatting.{formatted, on-ok, then-ok}
use Rattle.nq_plan.proofs.format.empty.format.Goals as goal

pub returns-clause-formatted : goal.returns-clause-formatted
returns-clause-formatted g c = on-ok c.sync.result _ (λ is old told.
    formatted (g.D.Disk.told c.write_zeros.new.disk) (g.D.Disk.told c.write_at.new.self) (g.D.Disk.told c.sync.new.self)
    (g.D.Disk.may_leave c.sync.new.self) (drop 1093632 old)
    (c.in_ok-write_zeros.ensures.written old told) c.in_ok-write_at.ensures.writes c.sync.ensures.same
    (then-ok c.sync.result _ is c.sync.ensures.settles))

pub write_zeros-requires-clause-zeros : goal.write_zeros-requires-clause-zeros
unfolding zeros_of
write_zeros-requires-clause-zeros g c = refl
