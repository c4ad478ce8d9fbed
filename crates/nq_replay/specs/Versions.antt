-- What a schedule of version 1 has, and what its journal has.
use Rattle.std.specs.Prelude.{◌≡◌, ℕ, List}
use Rattle.std.specs.List.{AllByRecursion}
use Rattle.nq_base.specs.declared.Event.{Event}
use Rattle.nq_script.specs.Forms.{HasTold}
use Rattle.nq_journal.specs.Text.{Has}
use Rattle.nq_base.specs.Calls.{told}
use Rattle.nq_model.specs.laws.Journal.{Each}
use Rattle.nq_model.specs.protocol.Skew.{IsWithinSkew}
use Rattle.nq_model.specs.protocol.World.{Head, run}
use Rattle.nq_model.specs.laws.Bounds.{KeepsBounds}

-- an event that version 1 has: its call is one of version 1, and each boot has the longest term 60
abbrev pub IsOfFirst : Event → Type 0
IsOfFirst (Event.Call host op) = HasTold 1 (told op)
IsOfFirst (Event.Crash longest) = longest ≡ 60
IsOfFirst other = Unit {0}

-- after every schedule within skew of such events, over a head with the longest term 60, the journal has entries of version 1 alone
abbrev pub FirstTellsItsRuns : Type 0
FirstTellsItsRuns =
    (most : ℕ) (head : Head) (events : List Event)
    → KeepsBounds most head events
    → IsWithinSkew head.hosts most events
    → head.longest ≡ 60
    → AllByRecursion IsOfFirst events
    → Each (Has 1) (run head events).journal
