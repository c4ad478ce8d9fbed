use Rattle.std.proofs.Common.{◌≡◌, map, None, take}
use Rattle.nq_stage.specs.Staged.{new_stager}
use Rattle.nq_staged.proofs.commit.world.sides_of.Given as goal

-- the sides of the hosts before this one
abbrev pub invariant-loop-host : goal.invariant-loop-host
invariant-loop-host g l = l.sides.items ≡ map (λ c. record { stager = new_stager c.client.who; last = None }) (take l.host l.world.clients)
