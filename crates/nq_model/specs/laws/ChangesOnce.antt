-- Each step of the server keeps one change at most. So one commit a step serves, and a crash leaves what was kept before the
-- step or after it.
use Rattle.std.specs.Prelude.{◌≡◌, ◌<◌, ◌≤◌, ◌^◌, ℕ, ◌+◌, true, Some}
use Rattle.nq_base.specs.declared.Decided.TheVariants.{Fresh, Again}
use Rattle.nq_base.specs.declared.Gate.{Gate}
use Rattle.nq_base.specs.declared.Request.{Request}
use Rattle.nq_base.specs.declared.Verdict.TheVariants.{Done}
use Rattle.nq_base.specs.declared.Who.{Who}
use Rattle.nq_model.specs.protocol.Change.{IsWithinBounds, IsChangedOnce, applied_if}
use Rattle.nq_model.specs.protocol.Decided.{is_decided_once, gate_of, decided, change_of, decided_step, HasText}
use Rattle.nq_model.specs.protocol.Kept.{Kept}
use Rattle.nq_model.specs.protocol.Message.{Datagram, request, asker}
use Rattle.nq_model.specs.protocol.Profile.{most_hosts, shortest_term, longest_term}
use Rattle.nq_model.specs.protocol.Server.{Server}
use Rattle.nq_model.specs.protocol.ServerStep.{receive, tick, crash}

-- whatever comes, from a kept state within its bounds what is kept is changed once at most
pub record EachStepChangesOnce : Type 0 where
  pub receives : (s : Server) (sender next : ℕ) (d : Datagram) → IsWithinBounds s.kept → IsChangedOnce s.kept (receive s sender next d).server.kept
  pub ticks : (s : Server) (now : ℕ) → IsWithinBounds s.kept → IsChangedOnce s.kept (tick s now).server.kept
  pub crashes : (s : Server) (longest : ℕ) → IsWithinBounds s.kept → IsChangedOnce s.kept (crash s longest).server.kept

-- the server's step on a request of the host that sent it, which is decided once: the kept state and the gate decide, and a
-- fresh one is kept in one change
abbrev pub RequestsAreDecided : Type 0
RequestsAreDecided =
    (s : Server) (sender xid next : ℕ) (r : Request) (who : Who)
    → asker r ≡ Some who
    → is_decided_once r ≡ true
    → who.host ≡ sender
    → who.host < most_hosts
    → IsWithinBounds s.kept
    → receive s sender next (request xid r) ≡ decided_step s who xid r (decided s.kept (gate_of s who r) r)

-- what a server keeps is within its bounds, and its longest term is one that there can be
pub record IsServerWithin (s : Server) : Type 0 where
  pub kept : IsWithinBounds s.kept
  pub long : shortest_term ≤ s.longest
  pub short : s.longest ≤ longest_term

-- if a datagram is a request, its name and its body are such as there can be. Bytes that spell a request spell no others
abbrev pub HasItsText : Datagram → Type 0
HasItsText (request xid r) = HasText r
HasItsText other = Unit {0}

-- from a kept state within its bounds each step leads to one within them, whoever sends what: a request that would lead out is
-- dropped. A crash has to be one before the last boot, with a longest term that there can be
pub record BoundsAreKept : Type 0 where
  pub receives : (s : Server) (sender next : ℕ) (d : Datagram) → IsServerWithin s → HasItsText d → IsServerWithin (receive s sender next d).server
  pub ticks : (s : Server) (now : ℕ) → IsServerWithin s → IsServerWithin (tick s now).server
  pub crashes : (s : Server) (longest : ℕ) → IsServerWithin s → s.kept.boot + 1 < 2 ^ 31 → shortest_term ≤ longest → longest ≤ longest_term
      → IsServerWithin (crash s longest).server

-- that these laws speak of something: from a kept state within its bounds, over which a server boots and serves, a request is
-- done, and is kept with its effect; when it comes again it is answered again
pub record ChangesAreMet : Type 0 where
  pub kept : Kept
  pub gate : Gate
  pub write : Request
  pub value : ℕ
  pub within : IsWithinBounds kept
  pub fresh : decided kept gate write ≡ Fresh Done value
  pub again : decided (applied_if kept (change_of kept gate write)) gate write ≡ Again Done value
