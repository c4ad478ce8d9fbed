-- What a step of a staged world means for what is played.
use Rattle.std.proofs.Common.{List, Option}
use Rattle.nq_model.specs.protocol.Kept.{Kept}
use Rattle.nq_model.specs.protocol.World.{Head}
use Rattle.nq_replay.specs.RulesGoing.{StepsBy}
use Rattle.nq_stage.specs.declared.run.event.StagedEvent.{StagedEvent}
use Rattle.nq_staged.specs.Playing.{staged_rules}
use Rattle.nq_staged.specs.Worlds.{PlaysOutside, StagedOver, StepsOutside}
use Rattle.nq_world.specs.declared.stepped.Stepped.{Stepped}

-- by the rules of a staged world
pub steps-by : {K : Type 0} (content : K → Option Kept) (head : Head) (events : List StagedEvent) (event : StagedEvent) (said : Stepped)
    (new : StagedOver K) (told : Option Kept) → StepsOutside head events event said new told (content new.inner.server.keeper)
    → StepsBy staged_rules (λ h es w. PlaysOutside h es w (content w.inner.server.keeper)) head events event said new
steps-by content head events event Stepped.Done new told steps = steps
steps-by content head events event Stepped.NoPacket new told steps = steps.0
steps-by content head events event (Stepped.SkewBroken broken) new told steps = steps.0
steps-by content head events event (Stepped.Limit limit) new told steps = steps.0
steps-by content head events event Stepped.Fault new told steps = tt
steps-by content head events event Stepped.Memory new told steps = tt
