use Rattle.std.proofs.Common.{◌≡◌, List}
use Rattle.nq_base.specs.declared.Event.{Event}
use Rattle.nq_loop.specs.Counting.{Counts}
use Rattle.nq_loop.specs.Turning.{all_below, is_through}
use Rattle.nq_model.specs.protocol.World.{Head}
use Rattle.nq_world.specs.Playing.{Plays}
use Rattle.nq_loop.proofs.taking.all_answered.Given as goal

abbrev pub invariant-loop-host : goal.invariant-loop-host
invariant-loop-host g l = (head : Head) (events : List Event) → Plays head events l.world (g.P.Keeper.content l.world.server.keeper)
    → Counts l.state.begun events → l.all ≡ all_below l.host (is_through head events)
