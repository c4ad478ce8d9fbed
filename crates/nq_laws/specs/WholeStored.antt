-- By whole rounds all that is delayed is stored, though nobody syncs.
use Rattle.std.specs.Prelude.{◌≤◌, ℕ, ◌+◌, List, All, length}
use Rattle.nq_base.specs.declared.Event.{Event}
use Rattle.nq_model.specs.laws.Bounds.{KeepsBounds}
use Rattle.nq_model.specs.protocol.Skew.{IsWithinSkew}
use Rattle.nq_model.specs.protocol.World.{Head, run}
use Rattle.law_rounds.specs.DeliveryEnds.{AreUnderWay, calmed}
use Rattle.law_rounds.specs.AtRest.{HasStored}
use Rattle.law_rounds.specs.RoundsEndQuiet.{IsSmall}
use Rattle.law_rounds.specs.WholeRounds.{whole_rounds, AreWhole, LinksKeepOrder}
use Rattle.nq_laws.specs.WholeCallsAnswered.{open_calls, rounds_for}

-- after every schedule within skew, whatever is under way: no client has delayed writes after as many whole rounds more than answer each call as the
-- longest term of all boots has ticks, and one, or after more, where each link keeps its order, and the schedule with these rounds is no longer than
-- a schedule may be
abbrev pub WholeStored : Type 0
WholeStored =
    (most : ℕ) (head : Head) (events : List Event)
    → KeepsBounds most head events
    → IsWithinSkew head.hosts most events
    → (under_way : List ℕ) (orders : List (List ℕ))
    → AreUnderWay (length (run head events).packets) under_way
    → rounds_for most (open_calls (run head events).clients) + (most + 1) ≤ length orders
    → AreWhole orders (calmed head events under_way)
    → LinksKeepOrder orders (calmed head events under_way)
    → IsSmall (whole_rounds orders (calmed head events under_way))
    → All HasStored (whole_rounds orders (calmed head events under_way)).world.clients
