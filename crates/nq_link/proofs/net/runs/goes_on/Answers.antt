use Rattle.std.proofs.Common.{◌≡◌, ◌-◌, refl, arith}
use Rattle.nq_link.proofs.net.runs.goes_on.Goals as goal

pub loop-at-init : goal.loop-at-init
loop-at-init c = λ is.
    let none : c.args.place - c.args.place ≡ 0 = omega arith in rw none refl
