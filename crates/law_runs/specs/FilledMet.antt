-- There is a schedule whose calls bring filled bodies, and after which a block was written.
use Rattle.std.specs.Prelude.{◌≡◌, List, [], ◌∷◌, map}
use Rattle.nq_base.specs.Block.{value_of}
use Rattle.nq_base.specs.declared.Event.{Event}
use Rattle.nq_model.specs.laws.Journal.{Each}
use Rattle.nq_model.specs.protocol.World.{Head, run}
use Rattle.nq_model.specs.laws.BodiesAreFilled.{BringsFilledBody}

-- the premise is met, and not in vain: after some schedule the server keeps one file, whose only block has the value 7
pub record FilledBodiesAreMet : Type 0 where
  pub head : Head
  pub events : List Event
  pub brings : Each BringsFilledBody events
  pub kept : map (λ f. map value_of f.bodies) (run head events).server.kept.files ≡ (7 ∷ []) ∷ []
