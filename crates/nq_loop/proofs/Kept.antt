-- What the events of a loop write.
use Rattle.std.proofs.Common.{ℕ}
use Rattle.nq_base.specs.declared.Call.{Call}
use Rattle.nq_base.specs.declared.Event.{Event}
use Rattle.nq_loop.specs.Holding.{IsLoopCall, IsLooped}
use Rattle.nq_script.specs.Calls.{IsFilledCall}
use Rattle.nq_script.specs.Lines.{IsFilledEvent}

filled_call : (call : Call) → IsLoopCall call → IsFilledCall call
filled_call (Call.Write file block body) writes = writes
filled_call (Call.Put file block body) writes = absurd writes
filled_call other writes = tt

-- what an event of a loop writes is filled with a number
pub filled_event : (hosts : ℕ) (event : Event) → IsLooped hosts event → IsFilledEvent event
filled_event hosts (Event.Call host call) looped = filled_call call looped.1
filled_event hosts (Event.Deliver packet) looped = tt
filled_event hosts Event.ServerTick looped = tt
filled_event hosts (Event.ClientTick host) looped = tt
filled_event hosts (Event.Restart host) looped = absurd looped
filled_event hosts (Event.Crash longest) looped = absurd looped
