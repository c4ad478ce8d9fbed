use Rattle.std.proofs.Common.{◌≡◌, ◌≤◌, ◌+◌, ◌++◌, length, map, take, drop}
use Rattle.nq_world.specs.Sending.{bytes_together}
use Rattle.nq_world.specs.Shown.{sent_from}
use Rattle.nq_world.proofs.sending.send_all.Given as goal

abbrev pub invariant-loop-place : goal.invariant-loop-place
invariant-loop-place l =
    (l.packets.datagrams ≡ l.initial.packets.datagrams ++ map (sent_from l.sender) (take l.place l.out.datagrams))
    × (length l.out.datagrams ≤ l.packets.spare + l.place)
    × (bytes_together (drop l.place l.out.datagrams) ≤ l.packets.spare_bytes)
