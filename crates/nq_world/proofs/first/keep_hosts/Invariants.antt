use Rattle.std.proofs.Common.{◌≡◌, ℕ, List}
use Rattle.nq_world.specs.First.{Tells, kept_first, told_as}
use Rattle.nq_world.proofs.first.keep_hosts.Given as goal

abbrev pub invariant-loop-host : goal.invariant-loop-host
invariant-loop-host g l =
    ((longest : ℕ) (files : List (List ℕ × ℕ)) → Tells (kept_first longest files 0) (g.K.Keeper.content l.initial.keeper)
    → g.K.Keeper.content l.keeper ≡ told_as (kept_first longest files l.host) (g.K.Keeper.content l.initial.keeper))
    × (g.K.Keeper.faults l.keeper ≡ g.K.Keeper.faults l.initial.keeper)
    × g.K.Keeper.follows l.initial.keeper l.keeper
