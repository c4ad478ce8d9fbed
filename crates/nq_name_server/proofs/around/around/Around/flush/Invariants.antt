use Rattle.std.proofs.Common.{◌≡◌, List, length}
use Rattle.nq_base.specs.declared.Event.{Event}
use Rattle.nq_name_server.specs.Around.{shown}
use Rattle.nq_model.specs.protocol.World.{World}
use Rattle.nq_name_server.proofs.around.around.Around.flush.Given as goal

-- what has gone out shows as before
abbrev pub invariant-due : goal.invariant-due
invariant-due l = record {
  shows : (w : World) (ran : List Event) → shown w ran l.self ≡ shown w ran l.fn.self;
  gone : l.self.gone ≡ l.fn.self.gone;
}

abbrev pub decreases-due : goal.decreases-due
decreases-due l = length l.self.due
