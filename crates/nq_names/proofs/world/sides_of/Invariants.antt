use Rattle.std.proofs.Common.{◌≡◌, map, take}
use Rattle.nq_directory.specs.NameCacheNames.{new_names}
use Rattle.nq_names.proofs.world.sides_of.Given as goal

-- the sides of the hosts before this one
abbrev pub invariant-loop-host : goal.invariant-loop-host
invariant-loop-host g l = l.sides.items ≡ map (λ c. new_names c.client.who) (take l.host l.world.clients)
