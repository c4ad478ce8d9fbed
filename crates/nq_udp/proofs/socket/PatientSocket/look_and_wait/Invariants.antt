use Rattle.std.proofs.Common.{◌≡◌}
use Rattle.nq_udp.proofs.socket.PatientSocket.look_and_wait.Given as goal

abbrev pub invariant-loop-look : goal.invariant-loop-look
invariant-loop-look l = record { receiver : l.self.receiver ≡ l.fn.self.receiver; home : l.self.home ≡ l.fn.self.home }
