use Rattle.std.proofs.Common.{List}
use Rattle.nq_base.specs.declared.Event.{Event}
use Rattle.nq_loop.proofs.Finding.{FoundBelow, NoneFresh}
use Rattle.nq_replay.specs.Delivering.{Marks}
use Rattle.nq_loop.proofs.matching.packet_of.Given as goal

abbrev pub invariant-loop-number : goal.invariant-loop-number
invariant-loop-number l = record {
  none : (events : List Event) → Marks l.state.flags events → NoneFresh l.packets.datagrams events (record {
    sender = l.letter.sender;
    to = l.letter.to;
    bytes = l.letter.bytes.now;
  }) l.number;
  found : FoundBelow l.packets.datagrams (record { sender = l.letter.sender; to = l.letter.to; bytes = l.letter.bytes.now }) l.number l.least;
}
