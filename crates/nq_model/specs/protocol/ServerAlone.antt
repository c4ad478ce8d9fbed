-- A server alone, to which anything may come, in any order.
use Rattle.std.specs.Prelude.{ℕ, ◌+◌, List, [], ◌∷◌, ◌++◌, None}
use Rattle.nq_base.specs.declared.Entry.{Entry}
use Rattle.nq_model.specs.protocol.Kept.{Kept}
use Rattle.nq_model.specs.protocol.Message.{Datagram}
use Rattle.nq_model.specs.protocol.Server.{Server, ServerStep}
use Rattle.nq_model.specs.protocol.ServerStep.{receive, tick, boot, crash}

-- what may come to a server: a datagram of any content from any host, where this is the number of the next packet; ticks,
-- by which its clock goes on by so much; or a crash, after which it boots with this longest term
pub data Coming : Type 0 where
  datagram : (sender next : ℕ) → Datagram → Coming
  ticks : (passed : ℕ) → Coming
  crashes : (longest : ℕ) → Coming

-- what the server does then
abbrev pub step_for : Server → Coming → ServerStep
step_for s (datagram sender next d) = receive s sender next d
step_for s (ticks passed) = tick s (s.now + passed)
step_for s (crashes longest) = crash s longest

-- the server after all that came. The latest comes first in the list
abbrev pub server_after : Server → List Coming → Server
server_after s [] = s
server_after s (c ∷ earlier) = (step_for (server_after s earlier) c).server

-- a server that boots over any kept state, and knows no last table
abbrev pub first_boot : Kept → (longest now : ℕ) → Server
first_boot kept longest now = boot kept longest now None

-- the time at which it booted last
abbrev pub booted_last : Server → List Coming → ℕ
booted_last s [] = s.now
booted_last s (crashes longest ∷ earlier) = (server_after s earlier).now
booted_last s (c ∷ earlier) = booted_last s earlier

-- the entries that it made since then, the newest first
abbrev pub entries_since_boot : Server → List Coming → List Entry
entries_since_boot s [] = []
entries_since_boot s (crashes longest ∷ earlier) = []
entries_since_boot s (c ∷ earlier) = (step_for (server_after s earlier) c).entries ++ entries_since_boot s earlier
