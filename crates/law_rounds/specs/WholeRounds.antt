-- Whole rounds: all that is under way arrives, in whatever order; then each clock ticks once.
use Rattle.std.specs.Prelude.{◌≡◌, ◌≤◌, ℕ, ◌+◌, ◌==◌, ◌&&◌, ◌||◌, not, Bool, true, false, List, [], ◌∷◌, Option, Some, All, length, slice_get}
use Rattle.nq_base.specs.declared.Event.{Event}
use Rattle.nq_base.specs.declared.Party.{Party}
use Rattle.nq_model.specs.laws.Bounds.{InEveryRun, KeepsBounds}
use Rattle.nq_model.specs.protocol.Lines.{Play, play, play_rounds}
use Rattle.nq_model.specs.protocol.Message.{Packet}
use Rattle.nq_model.specs.protocol.Profile.{skew, write_slack}
use Rattle.nq_model.specs.protocol.Skew.{IsWithinSkew}
use Rattle.nq_model.specs.protocol.World.{Head, run}
use Rattle.law_rounds.specs.DeliveryEnds.{AreUnderWay, calmed}
use Rattle.law_rounds.specs.QuietDeliveries.{recovers}
use Rattle.law_rounds.specs.RoundsEndQuiet.{IsSmall, IsQuiet}

-- ---- links

-- whether two parties are one
abbrev pub same_party : Party → Party → Bool
same_party Party.Server Party.Server = true
same_party (Party.Client a) (Party.Client b) = a == b
same_party a b = false

-- whether two packets are of one link: they go from the same party to the same party
abbrev pub of_one_link : Option Packet → Option Packet → Bool
of_one_link (Some a) (Some b) = same_party a.sender b.sender && same_party a.to b.to
of_one_link a b = false

-- whether a packet is the next of its link: it is under way, and no packet of its link that was sent before it is
abbrev pub is_next : (sent : List Packet) → (under_way : List ℕ) → (k : ℕ) → Bool
is_next sent [] k = false
is_next sent (j ∷ under_way) k = (j == k) || (not (of_one_link (slice_get sent j) (slice_get sent k)) && is_next sent under_way k)

-- ---- deliveries

-- packets of these numbers are delivered, one after another
abbrev pub play_order : List ℕ → Play → Play
play_order [] p = p
play_order (k ∷ order) p = play_order order (play p (Event.Deliver k))

-- each of them is the next of its link when it is delivered
abbrev pub IsInOrder : List ℕ → Play → Type 0
IsInOrder [] p = Unit {0}
IsInOrder (k ∷ order) p = (is_next p.world.packets p.fresh k ≡ true) × IsInOrder order (play p (Event.Deliver k))

-- ---- rounds

-- a round: these packets are delivered; then each host's clock ticks, in order, and the server's
unfoldable pub whole_round : List ℕ → Play → Play
whole_round order p = play_rounds 1 (play_order order p)

-- a round for each of these orders
abbrev pub whole_rounds : List (List ℕ) → Play → Play
whole_rounds [] p = p
whole_rounds (order ∷ orders) p = whole_rounds orders (whole_round order p)

-- the rounds are whole: in each of them nothing is under way any more when the clocks tick
abbrev pub AreWhole : List (List ℕ) → Play → Type 0
AreWhole [] p = Unit {0}
AreWhole (order ∷ orders) p = ((play_order order p).fresh ≡ []) × AreWhole orders (whole_round order p)

-- and each link keeps its order in them
abbrev pub LinksKeepOrder : List (List ℕ) → Play → Type 0
LinksKeepOrder [] p = Unit {0}
LinksKeepOrder (order ∷ orders) p = IsInOrder order p × LinksKeepOrder orders (whole_round order p)

-- ---- that there are some

-- so many whole rounds can be made, in which each link keeps its order
pub record CanBeMade (count : ℕ) (p : Play) : Type 0 where
  pub orders : List (List ℕ)
  pub many : length orders ≡ count
  pub whole : AreWhole orders p
  pub links : LinksKeepOrder orders p

-- after every schedule within skew, whatever is under way: any number of whole rounds can be made, since each delivery ends
abbrev pub WholeRoundsCanBeMade : Type 0
WholeRoundsCanBeMade =
    InEveryRun (λ head events.
    (under_way : List ℕ) (count : ℕ) → AreUnderWay (length (run head events).packets) under_way → CanBeMade count (calmed head events under_way))

-- ---- what holds of them in whatever order

-- after every schedule within skew, whatever is under way: once two whole rounds or more are over, and then all has arrived, all clients are quiet,
-- where the schedule with all these is no longer than a schedule may be
abbrev pub WholeRoundsEndQuiet : Type 0
WholeRoundsEndQuiet =
    InEveryRun (λ head events.
    (under_way : List ℕ) (orders : List (List ℕ)) (order : List ℕ)
    → 2 ≤ length orders
    → AreWhole orders (calmed head events under_way)
    → (play_order order (whole_rounds orders (calmed head events under_way))).fresh ≡ []
    → IsSmall (play_order order (whole_rounds orders (calmed head events under_way)))
    → All IsQuiet (play_order order (whole_rounds orders (calmed head events under_way))).world.clients)

-- after every schedule within skew, whatever is under way: the server serves after as many whole rounds as the longest term of all boots, the skew
-- and the write slack are together, or more, where the schedule with these is no longer than a schedule may be
abbrev pub WholeRecoveriesEnd : Type 0
WholeRecoveriesEnd =
    (most : ℕ) (head : Head) (events : List Event)
    → KeepsBounds most head events
    → IsWithinSkew head.hosts most events
    → (under_way : List ℕ) (orders : List (List ℕ))
    → most + (skew + write_slack) ≤ length orders
    → AreWhole orders (calmed head events under_way)
    → IsSmall (whole_rounds orders (calmed head events under_way))
    → recovers (whole_rounds orders (calmed head events under_way)).world.server.phase ≡ false
