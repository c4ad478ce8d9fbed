-- What a world answers, in the words of its code.
use Rattle.nq_model.specs.protocol.Stepped.{Stepped as Answer, done, no_packet, out_of_skew, too_many_events, too_many_packets}
use Rattle.nq_world.specs.declared.stepped.Limit.{Limit}
use Rattle.nq_world.specs.declared.stepped.Stepped.{Stepped}

-- the answer of the protocol
abbrev pub told : Answer → Stepped
told done = Stepped.Done
told no_packet = Stepped.NoPacket
told (out_of_skew broken) = Stepped.SkewBroken broken
told too_many_events = Stepped.Limit Limit.Events
told too_many_packets = Stepped.Limit Limit.Packets

-- an answer that the tests before an event may give: no keeper failed, and no memory was wanted
abbrev pub IsOfTests : Stepped → Type 0
IsOfTests Stepped.Fault = ⊥
IsOfTests Stepped.Memory = ⊥
IsOfTests other = Unit {0}
