-- What a call of a user needs.
use Rattle.std.specs.Prelude.{◌≤◌}
use Rattle.nq_client.specs.declared.step.Step.{Step}

-- there is room for what a call may need: three entries, and a block that becomes dirty
pub record HasRoomToCall (s : Step) : Type 0 where
  pub entries : 3 ≤ s.entries.spare
  pub block : 1 ≤ s.state.dirty.spare
