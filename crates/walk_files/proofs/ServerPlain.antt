-- The server makes no entries of delayed writes, and none of losses.
use Rattle.std.proofs.Common.{ℕ}
use Rattle.nq_model.specs.protocol.Message.{Datagram}
use Rattle.nq_model.specs.protocol.Server.{Server}
use Rattle.nq_model.specs.protocol.ServerStep.{receive, tick, crash}
use Rattle.walk_files.proofs.Cuts.{IsPlain, ArePlain}
use Rattle.walk_steps.proofs.ServerEntries.{OfServer, receive-each, tick-each}

plain : OfServer IsPlain
plain = record {
  served = λ who q file block value packet. tt;
  granted = λ who file mode tag term now. tt;
  wrote = λ who file block number value. tt;
  stored = λ who file block first last now. tt;
  resized = λ who q file before after. tt;
  fenced = λ who file until heard now. tt;
  opened = λ boot until heard now. tt;
}

pub receive-plain : (s : Server) (sender next : ℕ) (d : Datagram) → ArePlain (receive s sender next d).entries
receive-plain s sender next d = receive-each IsPlain plain s sender next d

pub tick-plain : (s : Server) (now : ℕ) → ArePlain (tick s now).entries
tick-plain s now = tick-each IsPlain plain s now

pub crash-plain : (s : Server) (longest : ℕ) → ArePlain (crash s longest).entries
unfolding crash
crash-plain s longest = (tt, tt)
