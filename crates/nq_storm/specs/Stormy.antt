-- The events of which a menu is made.
use Rattle.std.specs.Prelude.{◌≡◌, ℕ, ◌<◌, ◌^◌}
use Rattle.nq_base.specs.Block.{filled}
use Rattle.nq_base.specs.declared.Call.{Call}
use Rattle.nq_base.specs.declared.Event.{Event}

-- a call that reads, synchronizes, or writes the block of a number
abbrev pub WritesNumber : Call → Type 0
WritesNumber (Call.Read file block) = Unit {0}
WritesNumber (Call.Write file block body) = (number : ℕ) × (number < 2 ^ 32) × (body ≡ filled number)
WritesNumber (Call.Put file block body) = (number : ℕ) × (number < 2 ^ 32) × (body ≡ filled number)
WritesNumber (Call.Sync file) = Unit {0}
WritesNumber other = ⊥

-- an event of a storm: it is of one of four hosts, its call is such a call, and each boot has the longest term 60
abbrev pub IsStormy : Event → Type 0
IsStormy (Event.Call host call) = (host < 4) × WritesNumber call
IsStormy (Event.ClientTick host) = host < 4
IsStormy (Event.Restart host) = host < 4
IsStormy (Event.Crash longest) = longest ≡ 60
IsStormy other = Unit {0}
