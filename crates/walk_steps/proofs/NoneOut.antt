-- In a run of few events no request goes out of bounds.
use Rattle.std.proofs.Common.{length, arith}
use Rattle.nq_model.specs.protocol.Kept.{host_row}
use Rattle.nq_model.specs.protocol.World.{World, sending_host, run}
use Rattle.walk_steps.proofs.Packets.{in-get}
use Rattle.walk_steps.proofs.Worlds.{Holds, to-server, run-holds}
use Rattle.walk_steps.specs.Within.{GrewTo, NoneGoesOut}
use Rattle.walk_steps.proofs.LowValues.{stays-within}
use Rattle.walk_steps.proofs.WorldNumbers.{DrawnUpTo, drawn-up-to, numbers-stay-within}

pub none-goes-out : NoneGoesOut
none-goes-out head events first given few room k p xid r who there to is by =
    let w : World = run head events in
    let h : Holds w = run-holds head events in
    let i = in-get w.packets k p there in
    let asked = (to-server w.packets p (h.sent p i) to i xid r is).0 in
    let drawn : DrawnUpTo (length events) w = drawn-up-to head events in
    let grew : GrewTo (length events) w.server.kept = (numbers-stay-within head events first given few).grew in
    let low = drawn.asked (sending_host p.sender) xid r who asked by in
    stays-within (length events) w.server few grew.revisions who low (host_row w.server.kept who.host) r
    (λ seq sequence. let low = drawn.sent (sending_host p.sender) xid r seq asked sequence in omega arith)
