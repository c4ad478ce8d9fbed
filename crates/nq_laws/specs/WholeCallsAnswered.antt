-- Whole rounds answer every call: all that is under way arrives before the clocks tick, in any order in which each link keeps its own.
use Rattle.std.specs.Prelude.{◌≡◌, ◌≤◌, ℕ, ◌+◌, ◌*◌, false, List, [], ◌∷◌, Option, Some, None, All, length}
use Rattle.nq_base.specs.declared.Event.{Event}
use Rattle.nq_model.specs.laws.Bounds.{KeepsBounds}
use Rattle.nq_model.specs.protocol.Client.{Client, UnderWay}
use Rattle.nq_model.specs.protocol.Profile.{skew, write_slack}
use Rattle.nq_model.specs.protocol.Skew.{IsWithinSkew}
use Rattle.nq_model.specs.protocol.World.{Head, run}
use Rattle.law_rounds.specs.DeliveryEnds.{AreUnderWay, calmed}
use Rattle.law_rounds.specs.AtRest.{IsAnswered}
use Rattle.law_rounds.specs.QuietDeliveries.{recovers}
use Rattle.law_rounds.specs.RoundsEndQuiet.{IsSmall}
use Rattle.law_rounds.specs.WholeRounds.{whole_rounds, AreWhole, LinksKeepOrder}

-- how many calls are open
abbrev pub one_if_open : Option UnderWay → ℕ
one_if_open None = 0
one_if_open (Some u) = 1

abbrev pub open_calls : List Client → ℕ
open_calls [] = 0
open_calls (c ∷ clients) = one_if_open c.call + open_calls clients

-- rounds in which so many open calls are answered, where no term is longer than this: a recovery ends first, with skew and write slack; then at most
-- four rounds pass until the next call is answered
abbrev pub rounds_for : (most calls : ℕ) → ℕ
rounds_for most calls = most + (skew + write_slack) + (4 * calls + 1)

-- after every schedule within skew, whatever is under way: all clients are attached and no call is open after as many whole rounds as answer the
-- calls that were open, or more, where each link keeps its order, and the schedule with these rounds is no longer than a schedule may be
abbrev pub WholeCallsAnswered : Type 0
WholeCallsAnswered =
    (most : ℕ) (head : Head) (events : List Event)
    → KeepsBounds most head events
    → IsWithinSkew head.hosts most events
    → (under_way : List ℕ) (orders : List (List ℕ))
    → AreUnderWay (length (run head events).packets) under_way
    → rounds_for most (open_calls (run head events).clients) ≤ length orders
    → AreWhole orders (calmed head events under_way)
    → LinksKeepOrder orders (calmed head events under_way)
    → IsSmall (whole_rounds orders (calmed head events under_way))
    → All IsAnswered (whole_rounds orders (calmed head events under_way)).world.clients

-- rounds in which so many open calls are answered while the server serves: two until nobody waits for a reply that was lost, and one; then at most
-- four rounds pass until the next call is answered
abbrev pub served_rounds_for : (calls : ℕ) → ℕ
served_rounds_for calls = 3 + 4 * calls

-- so where the server serves already, fewer are enough
abbrev pub ServedCallsAnswered : Type 0
ServedCallsAnswered =
    (most : ℕ) (head : Head) (events : List Event)
    → KeepsBounds most head events
    → IsWithinSkew head.hosts most events
    → recovers (run head events).server.phase ≡ false
    → (under_way : List ℕ) (orders : List (List ℕ))
    → AreUnderWay (length (run head events).packets) under_way
    → served_rounds_for (open_calls (run head events).clients) ≤ length orders
    → AreWhole orders (calmed head events under_way)
    → LinksKeepOrder orders (calmed head events under_way)
    → IsSmall (whole_rounds orders (calmed head events under_way))
    → All IsAnswered (whole_rounds orders (calmed head events under_way)).world.clients
