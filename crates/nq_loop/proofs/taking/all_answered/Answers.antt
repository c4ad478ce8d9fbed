use Rattle.std.proofs.Common.{◌≡◌, ◌∙◌, ap, arith, refl}
use Rattle.nq_loop.proofs.Takings.{more-below}
use Rattle.nq_loop.specs.Turning.{all_below, is_through}
use Rattle.nq_loop.proofs.taking.all_answered.Goals as goal

pub loop-host-init : goal.loop-host-init
loop-host-init g c = λ head events plays counts. refl

pub loop-host-preserved : goal.loop-host-preserved
loop-host-preserved g c = λ head events plays counts.
    more-below (is_through head events) c.loop-host.host c.loop-host.all c.is_through-through.result c.both-all.result c.both-all.ensures
    (c.loop-host.invariant head events plays counts) (c.is_through-through.ensures head events plays counts)

pub returns : goal.returns
returns g c = λ head events hosts plays counts.
    let whole : c.loop-host.host ≡ head.hosts = omega (arith, c.loop-host.auto.host-end, c.loop-host-test.false, c.hosts-host-end.ensures, hosts) in
    c.loop-host.invariant head events plays counts ∙ ap (λ n. all_below n (is_through head events)) whole
