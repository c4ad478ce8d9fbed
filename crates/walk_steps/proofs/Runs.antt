-- What is known of a world within a run: of the server alone, and of it and each client.
use Rattle.std.proofs.Common.{◌≡◌, ◌<◌, ℕ, false, List, Some}
use Rattle.std.specs.Prelude.{slice_get}
use Rattle.nq_base.specs.declared.Event.{Event}
use Rattle.walk_steps.proofs.KnownWorlds.{Known}
use Rattle.walk_steps.proofs.ServerFacts.{IncsFitOf}
use Rattle.walk_steps.proofs.ServerLives.{HasServed}
use Rattle.walk_steps.proofs.ServerNumbers.{TermsFitOf, LinesFitOf}
use Rattle.walk_steps.proofs.ServerTables.{BootsFitOf, StandingFitsOf, NoneRecoveringOf, none-of-boots}
use Rattle.walk_steps.proofs.Unrowed.{IsUnrowed}
use Rattle.nq_model.specs.protocol.Client.{Client}
use Rattle.nq_model.specs.protocol.Server.{Server}
use Rattle.nq_model.specs.protocol.World.{World}

-- what holds of the server alone: some boot served, terms are no longer than this
pub record Served (most : ℕ) (s : Server) : Type 0 where
  pub boots : BootsFitOf s
  pub stood : StandingFitsOf s
  pub incs : IncsFitOf s
  pub terms : TermsFitOf most s
  pub lines : LinesFitOf s
  pub opened : HasServed s.kept

pub none-served : (most : ℕ) (s : Server) → Served most s → NoneRecoveringOf s
none-served most s f = none-of-boots s.kept.boot s.kept.opened s.phase s.table f.boots

pub record Runs (hosts most : ℕ) (w : World) (events : List Event) : Type 0 where
  pub served : Served most w.server
  pub few : (host : ℕ) (c : Client) → slice_get w.clients host ≡ Some c → host < hosts
  pub known : Known w events
  pub unrowed : (host : ℕ) (c : Client) → slice_get w.clients host ≡ Some c → c.attached ≡ false → IsUnrowed c.who w.server.table.rows
