use Rattle.std.proofs.Common.{◌≡◌, take}
use Rattle.nq_world.specs.Sending.{bytes_together}
use Rattle.nq_world.proofs.sending.bytes_together.Given as goal

abbrev pub invariant-loop-place : goal.invariant-loop-place
invariant-loop-place l = l.bytes ≡ bytes_together (take l.place l.out.datagrams)
