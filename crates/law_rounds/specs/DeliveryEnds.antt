-- Delivery ends: what is under way leads to no more packets than a formula tells, in every run.
use Rattle.std.specs.Prelude.{◌≡◌, ◌<◌, ℕ, ◌+◌, ◌*◌, List, [], ◌∷◌, All, length, sum_by, zero, suc}
use Rattle.nq_base.specs.declared.Event.{Event}
use Rattle.nq_model.specs.laws.Bounds.{InEveryRun}
use Rattle.nq_model.specs.protocol.Client.{Client}
use Rattle.nq_model.specs.protocol.Lines.{Play, play_flow}
use Rattle.nq_model.specs.protocol.Settle.{pending}
use Rattle.nq_model.specs.protocol.Stepped.{most_sends}
use Rattle.nq_model.specs.protocol.World.{Head, run}

-- the numbers of packets that are under way stand in order, and each was sent
abbrev pub AreUnderWay : (sent : ℕ) → List ℕ → Type 0
AreUnderWay sent [] = Unit {0}
AreUnderWay sent (k ∷ numbers) = (k < sent) × All (λ later. k < later) numbers × AreUnderWay sent numbers

-- the network is calm from now on: these packets are under way, and each other one that was sent so far was delivered or is lost for
-- ever
unfoldable pub calmed : Head → List Event → (under_way : List ℕ) → Play
calmed head events under_way = record { world = run head events; fresh = under_way; events = events }

-- how many delayed writes all clients have, those under way among them
abbrev pub delayed_in_all : List Client → ℕ
delayed_in_all clients = sum_by pending clients

-- a number, so many times multiplied by another
abbrev pub power : (base count : ℕ) → ℕ
power base zero = 1
power base (suc count) = base * power base count

-- by how much what is under way may grow, while nothing else happens than that rows are given up, where an event sends so many packets
abbrev pub growth : (few : ℕ) → ℕ
growth few = (few + 2) * (5 * few + 8) + 3

-- how often a client may send another request than before in a delivery: three times for each delayed write, and nine times more
abbrev pub most_turns : (hosts delayed : ℕ) → ℕ
most_turns hosts delayed = 3 * delayed + 9 * hosts

-- how often what is under way may grow so between two of these times: while old packets are delivered, or a host comes to share the file
-- that it wants, or a row goes that is to go
abbrev pub most_growths : (hosts : ℕ) → ℕ
most_growths hosts = hosts * (hosts + 2) + 4

-- a bound of the deliveries of one calm round: by the hosts, the packets under way, and the delayed writes
abbrev pub enough_for : (few hosts under_way delayed : ℕ) → ℕ
enough_for few hosts under_way delayed =
    power (growth few) ((most_turns hosts delayed + 1) * most_growths hosts) * ((few + 2) * under_way + 1)

abbrev pub enough_deliveries : Play → ℕ
enough_deliveries p = enough_for most_sends (length p.world.clients) (length p.fresh) (delayed_in_all p.world.clients)

-- after so many deliveries nothing is under way
abbrev pub IsDelivered : Play → Type 0
IsDelivered p = (play_flow (enough_deliveries p) p).fresh ≡ []

-- after every schedule within skew, whatever is under way
abbrev pub DeliveryEnds : Type 0
DeliveryEnds =
    InEveryRun (λ head events.
    (under_way : List ℕ) → AreUnderWay (length (run head events).packets) under_way → IsDelivered (calmed head events under_way))
