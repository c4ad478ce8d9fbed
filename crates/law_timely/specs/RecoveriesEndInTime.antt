-- A recovery ends in time, whatever live hosts call and store in it.
use Rattle.std.specs.Prelude.{◌≡◌, ◌≤◌, ℕ, ◌+◌, false, List}
use Rattle.nq_base.specs.declared.Event.{Event}
use Rattle.nq_model.specs.protocol.Lines.{Play}
use Rattle.nq_model.specs.protocol.Profile.{skew, write_slack}
use Rattle.nq_model.specs.protocol.World.{Head, run}
use Rattle.law_rounds.specs.CalmRoundsAreLawful.{IsLawful}
use Rattle.law_rounds.specs.DeliveryEnds.{calmed}
use Rattle.law_rounds.specs.QuietDeliveries.{recovers}
use Rattle.law_rounds.specs.RoundsEndQuiet.{IsSmall}
use Rattle.law_timely.specs.Timely.{LeadsTo}

-- after every schedule within skew, whatever is under way and whoever is dead, the network is timely: the server serves once its clock shows as many
-- ticks more as the longest term of all boots, the skew and the write slack are together, or later
abbrev pub RecoveriesEndInTime : Type 0
RecoveriesEndInTime =
    (most : ℕ) (head : Head) (events : List Event) (under_way dead : List ℕ) (moment : Play)
    → LeadsTo dead (calmed head events under_way) moment
    → IsLawful most head moment
    → IsSmall moment
    → (run head events).server.now + (most + (skew + write_slack)) ≤ moment.world.server.now
    → recovers moment.world.server.phase ≡ false
