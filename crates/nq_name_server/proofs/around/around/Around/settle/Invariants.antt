use Rattle.std.proofs.Common.{◌≡◌, ◌≤◌, ◌-◌, List, [], length, map}
use Rattle.nq_base.specs.declared.Event.{Event}
use Rattle.nq_name_server.specs.Around.{datagram, shown}
use Rattle.nq_model.specs.protocol.World.{World}
use Rattle.nq_name_server.proofs.around.around.Around.settle.Given as goal

-- what has gone out shows as before, nothing is due, and no more packets have gone out than there are
abbrev pub invariant-packets : goal.invariant-packets
invariant-packets l = record {
  shows : (w : World) (ran : List Event) → l.packets.datagrams ≡ map datagram w.packets → shown w ran l.self ≡ shown w ran l.fn.self;
  none : l.self.due ≡ [];
  gone : l.fn.self.gone ≤ length l.packets.datagrams → l.self.gone ≤ length l.packets.datagrams;
}

abbrev pub decreases-packets : goal.decreases-packets
decreases-packets l = length l.packets.datagrams - l.self.gone
