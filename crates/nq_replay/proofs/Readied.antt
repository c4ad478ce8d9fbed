-- A schedule with asides that was read.
use Rattle.std.proofs.Common.{ℕ, List, Option}
use Rattle.nq_replay.specs.Text.{IsReadyMixed}
use Rattle.nq_replay.specs.Schedules.{IsReady}
use Rattle.nq_script.specs.declared.scripts.Script.{Script}

-- the schedule in it was read as every schedule is
pub is-ready : {A : Type 0} (fits : (hosts : ℕ) → A → Type 0) (s : Script) (asides : List (Option A)) → IsReadyMixed fits s asides → IsReady s
is-ready fits s asides ready = record { text = ready.text; spelled = ready.spelled; short = ready.short; first = ready.first }
