use Rattle.std.proofs.Common.{◌≡◌, take}
use Rattle.nq_world.specs.First.{kept_first, told_as}
use Rattle.nq_world.proofs.first.keep_files.Given as goal

abbrev pub invariant-loop-place : goal.invariant-loop-place
invariant-loop-place g l =
    (g.K.Keeper.content l.keeper ≡ told_as (kept_first l.longest (take l.place l.files) 0) (g.K.Keeper.content l.initial.keeper))
    × (g.K.Keeper.faults l.keeper ≡ g.K.Keeper.faults l.initial.keeper)
    × g.K.Keeper.follows l.initial.keeper l.keeper
