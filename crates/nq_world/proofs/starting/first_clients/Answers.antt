use Rattle.std.proofs.Common.{◌≡◌, ◌+◌, [], ◌∷◌, ◌++◌, length, ap, sym, subst, add-one, arith, length-append}
use Rattle.nq_world.proofs.Begun.{pushed}
use Rattle.nq_world.proofs.Counting.{took-last}
use Rattle.nq_world.specs.Counting.{TookIn}
use Rattle.nq_world.proofs.starting.first_clients.Goals as goal

pub loop-host-preserved : goal.loop-host-preserved
loop-host-preserved c =
    let host = c.loop-host.host in
    let before = c.loop-host.clients.items in
    let after = c.push.new.self.items in
    let one = c.in-Ok-attached.client in
    let items : after ≡ before ++ one ∷ [] = rw c.unwrap.ensures at c.push.ensures.items in
    let so_far : length before ≡ host = c.loop-host.invariant.1 in
    let size : length after ≡ host + 1 = omega (arith, ap length items, length-append before (one ∷ [])) in (
      rw add-one (pushed c.args.term host before after one c.loop-host.invariant.0 items c.in-Ok-attached.ensures.client),
      size,
      omega (arith, c.push.ensures.capacity, c.loop-host.invariant.2),
      subst (TookIn 0) (sym items)
          (took-last 0 before one (omega (arith, c.in-Ok-attached.ensures.taken)) c.loop-host.invariant.3),
    )
