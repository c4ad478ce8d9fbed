use Rattle.std.proofs.Common.{◌∙◌}
use Rattle.nq_loop.proofs.Takings.{through}
use Rattle.nq_loop.proofs.taking.is_through.Goals as goal

pub returns : goal.returns
returns g c = λ head events plays counts.
    through head events c.args.host c.begun-begun.result c.is_busy-busy.result c.is_over.result c.is_over.ensures (c.begun-begun.ensures
    ∙ counts c.args.host) (c.is_busy-busy.ensures head events plays)
