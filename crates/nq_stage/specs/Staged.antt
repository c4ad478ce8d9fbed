-- What a client's side keeps of staged bodies.
use Rattle.std.specs.Prelude.{ℕ, List, [], Option, None}
use Rattle.nq_base.specs.declared.Who.{Who}
use Rattle.nq_stage.specs.declared.messages.Written.{Written}
use Rattle.nq_stage.specs.declared.stager.stager.Offered.{Offered}
use Rattle.nq_stage.specs.declared.stager.stager.Shortened.{Shortened}

-- The incarnation, the number of its next STAGE, its latest STAGE, the latest push that it shortened (with its WRITE whole),
-- and the writes whose bodies were acknowledged, each with the verifier of the latest reply that did so.
pub record Staged : Type 0 where
  pub who : Who
  pub next : ℕ
  pub offered : Option Offered
  pub shortened : Option Shortened
  pub acknowledged : List (Written × ℕ)

-- the number of the first STAGE of an incarnation
abbrev pub first_xid : ℕ
first_xid = 2147483648

-- a new incarnation has offered nothing
abbrev pub new_stager : Who → Staged
new_stager who = record { who = who; next = first_xid; offered = None; shortened = None; acknowledged = [] }
