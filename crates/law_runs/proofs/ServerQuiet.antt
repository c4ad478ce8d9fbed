-- The server's entries are no C, A or L.
use Rattle.std.proofs.Common.{ℕ, List}
use Rattle.nq_base.specs.declared.Entry.{Entry}
use Rattle.law_runs.proofs.JournalMoves.{IsQuiet}
use Rattle.nq_model.specs.laws.Journal.{Each}
use Rattle.nq_model.specs.protocol.Message.{Datagram}
use Rattle.nq_model.specs.protocol.Server.{Server}
use Rattle.nq_model.specs.protocol.ServerStep.{receive, tick, crash}
use Rattle.walk_steps.proofs.ServerEntries.{OfServer, receive-each, tick-each}

abbrev pub AllQuiet : List Entry → Type 0
AllQuiet entries = Each IsQuiet entries

quiet : OfServer IsQuiet
quiet = record {
  served = λ who q file block value packet. tt;
  granted = λ who file mode tag term now. tt;
  wrote = λ who file block number value. tt;
  stored = λ who file block first last now. tt;
  resized = λ who q file before after. tt;
  fenced = λ who file until heard now. tt;
  opened = λ boot until heard now. tt;
}

pub received-quiet : (s : Server) (sender next : ℕ) (d : Datagram) → AllQuiet (receive s sender next d).entries
received-quiet s sender next d = receive-each IsQuiet quiet s sender next d

pub tick-quiet : (s : Server) (now : ℕ) → AllQuiet (tick s now).entries
tick-quiet s now = tick-each IsQuiet quiet s now

pub crash-quiet : (s : Server) (longest : ℕ) → AllQuiet (crash s longest).entries
unfolding crash
crash-quiet s longest = (tt, tt)
