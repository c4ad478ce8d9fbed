-- What a world answers to an event. An event that is not taken leaves the world as it was.
use Rattle.std.specs.Prelude.{ℕ, List, length, Option, Some, None, nat_lt, if◌then◌else◌}
use Rattle.nq_base.specs.declared.Event.{Event}
use Rattle.nq_base.specs.declared.SkewBroken.{SkewBroken}
use Rattle.nq_model.specs.protocol.SkewBroken.{skew_broken}
use Rattle.nq_model.specs.protocol.World.{Head, run}

-- it was taken; the packet was not sent; the tick breaks the rule on skew; there were so many events already, or so many
-- packets
pub data Stepped : Type 0 where
  done : Stepped
  no_packet : Stepped
  out_of_skew : SkewBroken → Stepped
  too_many_events : Stepped
  too_many_packets : Stepped

-- the most events of a schedule
abbrev pub most_events : ℕ
most_events = 100000

-- the most packets that an event sends
abbrev pub most_sends : ℕ
most_sends = 64

-- the most packets that were sent before an event, so that with its own there are at most a million
abbrev pub most_sent : ℕ
most_sent = 999936

-- the test of packets, which is the last
abbrev pub tested_room : (packets : ℕ) → Stepped
tested_room packets = if nat_lt most_sent packets then too_many_packets else done

-- the test of skew, of a tick of the server's clock
abbrev pub tested_skew : (packets : ℕ) → Option SkewBroken → Stepped
tested_skew packets None = tested_room packets
tested_skew packets (Some broken) = out_of_skew broken

-- the tests behind that of the number of events: whether the packet was sent, the skew, the number of packets
abbrev pub tested : Head → (earlier : List Event) → (packets : ℕ) → Event → Stepped
tested head earlier packets (Event.Deliver k) = if nat_lt k packets then tested_room packets else no_packet
tested head earlier packets Event.ServerTick = tested_skew packets (skew_broken head.hosts head.longest earlier)
tested head earlier packets other = tested_room packets

-- what is answered after so many packets were sent
abbrev pub stepped_at : Head → (earlier : List Event) → (packets : ℕ) → Event → Stepped
stepped_at head earlier packets event =
    if nat_lt (length earlier) most_events then tested head earlier packets event else too_many_events

-- what is answered to an event, after these that were taken, the newest first
abbrev pub stepped : Head → (earlier : List Event) → Event → Stepped
stepped head earlier event = stepped_at head earlier (length (run head earlier).packets) event
