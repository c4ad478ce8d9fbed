-- `lost` names some write, in every run.
use Rattle.std.specs.Prelude.{List, [], ◌∷◌, ⊤}
use Rattle.nq_base.specs.declared.Entry.{Entry}
use Rattle.nq_base.specs.declared.Entry.TheVariants.{A}
use Rattle.nq_base.specs.declared.Said.TheVariants.{Lost}
use Rattle.nq_base.specs.declared.Span.{Span}
use Rattle.nq_model.specs.laws.Bounds.{InEveryRun}
use Rattle.nq_model.specs.laws.Journal.{Each}
use Rattle.nq_model.specs.protocol.World.{run}

-- these name some write
abbrev pub NameSome : List Span → Type 0
NameSome [] = ⊥
NameSome (span ∷ spans) = ⊤

-- an A `lost` names some write. That each of its names is of an earlier L of the call's file, and is named once, is said where losses are
-- reported; that each L is of some write, where writes are accounted
abbrev pub IsLostNaming : Entry → Type 0
IsLostNaming (A who q (Lost spans)) = NameSome spans.items
IsLostNaming other = ⊤

-- each `lost` of a journal names some write
abbrev pub LossesAreNamed : (journal : List Entry) → Type 0
LossesAreNamed journal = Each IsLostNaming journal

-- after every schedule within skew
abbrev pub LossesAreNamedInEveryRun : Type 0
LossesAreNamedInEveryRun = InEveryRun (λ head events. LossesAreNamed (run head events).journal)
