-- A client reads its own delayed write, stores it, gives its lease up, and reads it from the server.
use Rattle.std.proofs.Common.{◌≡◌, true, refl}
use Rattle.nq_base.specs.Block.{filled, zeros}
use Rattle.law_runs.proofs.SomeHeld.{one-host, some-events, bounds, within}
use Rattle.nq_model.specs.protocol.World.{run}
use Rattle.law_runs.specs.LegalMet.{ReadsAreMet, has_reads}
use Rattle.walk_steps.proofs.GivenRuns.{given-run}

all-there : has_reads (run one-host some-events).journal ≡ true
unfolding filled zeros given-run
all-there = refl

pub reads-are-met : ReadsAreMet
reads-are-met = record {
  most = 60;
  head = one-host;
  events = some-events;
  bounds = bounds;
  within = within;
  met = all-there;
}
