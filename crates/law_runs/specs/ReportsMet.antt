-- There is a schedule in which a loss waits to be named, and is named.
use Rattle.std.specs.Prelude.{◌≡◌, ℕ, List, [], ◌∷◌, Option, Some, None, slice_get}
use Rattle.nq_base.specs.declared.Call.{Call}
use Rattle.nq_base.specs.declared.Event.{Event}
use Rattle.nq_base.specs.declared.Loss.{Loss}
use Rattle.nq_base.specs.declared.Who.{Who}
use Rattle.nq_model.specs.laws.Bounds.{KeepsBounds}
use Rattle.nq_model.specs.protocol.Client.{Client}
use Rattle.nq_model.specs.laws.Journal.{Exists}
use Rattle.nq_model.specs.laws.Reported.{Names}
use Rattle.nq_model.specs.protocol.Skew.{IsWithinSkew}
use Rattle.nq_model.specs.protocol.World.{Head, run}
use Rattle.nq_model.specs.laws.LossesAreReported.{IsLossOf}

-- the losses of a client that no answer named yet
abbrev pub untold : Option Client → List Loss
untold None = []
untold (Some c) = c.losses

-- not in vain: after some schedule within skew a loss waits to be named; after one more call of its client an A names it
pub record IsLostAndNamed : Type 0 where
  pub most : ℕ
  pub head : Head
  pub events : List Event
  pub host : ℕ
  pub op : Call
  pub who : Who
  pub loss : Loss
  pub bounds : KeepsBounds most head events
  pub within : IsWithinSkew head.hosts most events
  pub waits : untold (slice_get (run head events).clients host) ≡ loss ∷ []
  pub lost : Exists (IsLossOf who loss) (run head events).journal
  pub named : Exists (Names (run head (Event.Call host op ∷ events)).journal who loss) (run head (Event.Call host op ∷ events)).journal
