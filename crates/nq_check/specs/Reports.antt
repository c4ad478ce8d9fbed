-- Which call has to report the losses of a file next.
use Rattle.std.specs.Prelude.{◌≡◌, ◌+◌, ◌-◌, ℕ, List, Option, Some, None, Bool, true, false, length, reverse}
use Rattle.nq_base.specs.declared.Entry.{Entry}
use Rattle.nq_base.specs.declared.Entry.TheVariants.{C}
use Rattle.nq_base.specs.declared.Told.{Told}
use Rattle.nq_base.specs.declared.Told.TheVariants.{Write, Put, Sync, Resize, Remove}
use Rattle.nq_base.specs.declared.Who.{Who}
use Rattle.nq_rules.specs.Marks.{Spot, mark_at, spot}
use Rattle.nq_check.specs.Tables.{NoneBetween}
use Rattle.nq_model.specs.laws.JournalTest.{is_answer}
use Rattle.nq_model.specs.laws.ReportedTest.{must_report}

-- the incarnation and file whose losses a call reports, where it reports any
abbrev pub reports_of : (who : Who) → Told → Option Spot
reports_of who (Write file block value) = Some (spot who file 0)
reports_of who (Put file block value) = Some (spot who file 0)
reports_of who (Sync file) = Some (spot who file 0)
reports_of who (Resize file blocks) = Some (spot who file 0)
reports_of who (Remove file) = Some (spot who file 0)
reports_of who other = None

-- whether an entry is the A of a C
abbrev pub answers : (call entry : Entry) → Bool
answers (C who q told) entry = is_answer who q entry
answers other entry = false

-- where an entry has to report the losses of an incarnation on a file, their key is known
abbrev pub IsReportKey : (whole : List Entry) → Entry → Option Spot → Type 0
IsReportKey whole entry key = (who : Who) (file : ℕ) → must_report whole who file entry ≡ true → key ≡ Some (spot who file 0)

-- from a place on, no entry has to report the losses of an incarnation on a file before the one that their mark tells,
-- counted from the end
abbrev pub AreNext : (whole : List Entry) (place : ℕ) → List (Spot × ℕ) → Type 0
AreNext whole place next =
    (who : Who) (file : ℕ) → NoneBetween (must_report (reverse whole) who file) whole place (length whole - mark_at next (spot who file 0))

-- what tells so from the next place on tells so from the place of an entry on
abbrev pub TakesReport : (whole : List Entry) (place : ℕ) → (old new : List (Spot × ℕ)) → Type 0
TakesReport whole place old new = AreNext whole (place + 1) old → AreNext whole place new
