-- Whenever a clock ticks in a timely network no live host waits for a reply, and none has an open `sync`: not even while the server recovers.
use Rattle.std.specs.Prelude.{◌≡◌, ◌≤◌, ℕ, ◌+◌, true, false, List, Some, slice_get}
use Rattle.nq_base.specs.declared.Event.{Event}
use Rattle.nq_model.specs.protocol.Client.{Client}
use Rattle.nq_model.specs.protocol.Lines.{Play}
use Rattle.nq_model.specs.protocol.World.{Head, run}
use Rattle.law_rounds.specs.CalmRoundsAreLawful.{IsLawful}
use Rattle.law_rounds.specs.DeliveryEnds.{calmed}
use Rattle.law_rounds.specs.RoundsEndQuiet.{IsSmall, IsQuiet}
use Rattle.law_timely.specs.Timely.{is_dead, is_still, LeadsTo, ticks_to_settle}

-- after every schedule within skew, whatever is under way and whoever is dead, the network is timely: five ticks later or more each live host is
-- quiet whenever nothing is under way on any live link, where the schedule with all this is no longer than a schedule may be
abbrev pub QuietWhenStill : Type 0
QuietWhenStill =
    (most : ℕ) (head : Head) (events : List Event) (under_way dead : List ℕ) (moment : Play)
    → LeadsTo dead (calmed head events under_way) moment
    → IsLawful most head moment
    → IsSmall moment
    → (run head events).server.now + ticks_to_settle ≤ moment.world.server.now
    → is_still dead moment.world.packets moment.fresh ≡ true
    → (host : ℕ) (c : Client)
    → is_dead dead host ≡ false
    → slice_get moment.world.clients host ≡ Some c
    → IsQuiet c
