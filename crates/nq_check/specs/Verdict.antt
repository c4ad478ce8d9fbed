-- The verdict on a journal: its least entry at fault, and the first rule under which that entry is.
use Rattle.std.specs.Prelude.{◌≡◌, ℕ, List, [], ◌∷◌, length, Option, Some, None, ⊤}
use Rattle.std.specs.Option.{option_or}
use Rattle.nq_base.specs.declared.Entry.{Entry}
use Rattle.nq_check.specs.declared.rules.Judged.{Judged}
use Rattle.nq_check.specs.declared.rules.Judged.TheVariants.{Yes, No, Memory}
use Rattle.nq_check.specs.declared.rules.Rule.{Rule}
use Rattle.nq_check.specs.Rules.{first_rule}

-- an entry at fault: its place, counted from the oldest entry on, and the first rule under which it is
pub record Fault : Type 0 where
  pub place : ℕ
  pub rule : Rule

abbrev pub fault_at : (place : ℕ) → Option Rule → Option Fault
fault_at place None = None
fault_at place (Some rule) = Some (record { place = place; rule = rule })

-- the oldest entry at fault among these; those behind them stand in `after`
abbrev pub least_fault : (whole after : List Entry) → List Entry → Option Fault
least_fault whole after [] = None
least_fault whole after (entry ∷ before) = option_or (least_fault whole (entry ∷ after) before)
    (fault_at (length before) (first_rule whole after entry before))

-- the verdict: none where nothing is at fault
abbrev pub verdict : (journal : List Entry) → Option Fault
verdict journal = least_fault journal [] journal

-- what was said is the verdict, unless memory was wanting
abbrev pub IsVerdict : Judged → Option Fault → Type 0
IsVerdict Yes found = found ≡ None
IsVerdict (No place rule) found = found ≡ Some (record { place = place; rule = rule })
IsVerdict Memory found = ⊤
