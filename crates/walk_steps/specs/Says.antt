-- What the server says in a step.
use Rattle.std.specs.Prelude.{◌≡◌, ℕ, All, map}
use Rattle.nq_base.specs.Plain.{plain}
use Rattle.nq_base.specs.declared.Party.{Party}
use Rattle.nq_model.specs.protocol.Message.{Datagram}
use Rattle.nq_model.specs.protocol.Server.{Server, ServerStep}
use Rattle.nq_model.specs.protocol.ServerStep.{receive, tick, crash}

-- each packet is the server's own, and each entry is as it is compared, since none names losses
pub record SaysPlainly (t : ServerStep) : Type 0 where
  pub own : All (λ p. p.sender ≡ Party.Server) t.sends
  pub plain : map plain t.entries ≡ t.entries

-- each step of the server says so
pub record ServerSaysPlainly : Type 0 where
  pub receives : (s : Server) (sender next : ℕ) (d : Datagram) → SaysPlainly (receive s sender next d)
  pub ticks : (s : Server) (now : ℕ) → SaysPlainly (tick s now)
  pub crashes : (s : Server) (longest : ℕ) → SaysPlainly (crash s longest)
