-- A boot that did not begin.
use Rattle.std.proofs.Common.{ℕ, Err, Option}
use Rattle.nq_serving.specs.Running.{NoBoot, halt_of}
use Rattle.nq_model.specs.protocol.Kept.{Kept}
use Rattle.nq_server.specs.Holding.{Boots, keeper_in}
use Rattle.nq_server.specs.declared.server.BootFault.{BootFault}
use Rattle.nq_server.specs.declared.server.BootFault.TheVariants as fault

-- the keeper is left as the boot left it
pub none : {K : Type 0} (content : K → Option Kept) (faults : K → ℕ) (longest time : ℕ) (keeper : K) (why : BootFault K)
    → Boots longest time (Err why) (content keeper) (content (keeper_in (Err why))) (faults keeper) (faults (keeper_in (Err why)))
    → NoBoot content faults keeper (keeper_in (Err why)) (halt_of why)
none content faults longest time keeper (fault.Failed left) boots = boots
none content faults longest time keeper (fault.Memory left) boots = boots
none content faults longest time keeper (fault.Spent left) boots = (boots.0, (boots.1, boots.2))
