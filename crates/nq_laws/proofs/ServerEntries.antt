-- A step of the server answers no call.
use Rattle.std.proofs.Common.{ℕ, List}
use Rattle.std.specs.Prelude.{⊤}
use Rattle.nq_base.specs.declared.Entry.{Entry}
use Rattle.nq_model.specs.laws.Journal.{Each}
use Rattle.nq_model.specs.protocol.Message.{Datagram}
use Rattle.nq_model.specs.protocol.Server.{Server}
use Rattle.nq_model.specs.protocol.ServerStep.{receive, tick, crash}
use Rattle.walk_steps.proofs.ServerEntries.{OfServer, receive-each, tick-each}

abbrev pub IsNoAnswer : Entry → Type 0
IsNoAnswer (Entry.A who q said) = ⊥
IsNoAnswer other = ⊤

abbrev pub NoneAnswers : List Entry → Type 0
NoneAnswers entries = Each IsNoAnswer entries

no-answers : OfServer IsNoAnswer
no-answers = record {
  served = λ who q file block value packet. tt;
  granted = λ who file mode tag term now. tt;
  wrote = λ who file block number value. tt;
  stored = λ who file block first last now. tt;
  resized = λ who q file before after. tt;
  fenced = λ who file until heard now. tt;
  opened = λ boot until heard now. tt;
}

pub receive-answers-none : (s : Server) (sender next : ℕ) (d : Datagram) → NoneAnswers (receive s sender next d).entries
receive-answers-none s sender next d = receive-each IsNoAnswer no-answers s sender next d

pub tick-answers-none : (s : Server) (now : ℕ) → NoneAnswers (tick s now).entries
tick-answers-none s now = tick-each IsNoAnswer no-answers s now

pub crash-answers-none : (s : Server) (longest : ℕ) → NoneAnswers (crash s longest).entries
unfolding crash
crash-answers-none s longest = (tt, tt)
