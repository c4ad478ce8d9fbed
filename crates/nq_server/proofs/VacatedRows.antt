-- The rows of a table after a lease was given up.
use Rattle.std.proofs.Common.{◌≡◌, ◌==◌, ℕ, Bool, true, false, ◌&&◌, not, List, [], Option, Some, None, if◌then◌else◌, refl}
use Rattle.nq_base.specs.declared.Row.{Row}
use Rattle.nq_base.specs.declared.Tag.{Tag}
use Rattle.nq_base.specs.declared.Who.{Who}
use Rattle.nq_model.specs.protocol.ServerStep.{vacated_rows}
use Rattle.nq_model.specs.protocol.Table.{same_tag, is_row_of, drop_row}
use Rattle.nq_server.proofs.TickedRows.{some-run}
use Rattle.nq_server.specs.declared.state.Phase.{Phase}
use Rattle.nq_server.specs.declared.state.Phase.TheVariants.{Serving, Recovering}
use Rattle.nq_server.specs.Sound.{RowsRun, IsOfBoot}

-- the rows run, where they ran before
pub vacated-run : (time : ℕ) (who : Who) (file : ℕ) (tag : Tag) (rows : List Row) (own : Option Row) → RowsRun time rows
    → RowsRun time (vacated_rows who file tag rows own)
vacated-run time who file tag rows None h = h
vacated-run time who file tag rows (Some row) h = step (row.who.inc == who.inc && same_tag row.tag tag)
  where
    step : (b : Bool) → RowsRun time (if b then drop_row file who.host rows else rows)
    step true = some-run time (λ r. not (is_row_of file who.host r)) rows h
    step false = h

-- there is none, where there was none before
vacated-none : (who : Who) (file : ℕ) (tag : Tag) (own : Option Row) → vacated_rows who file tag [] own ≡ []
vacated-none who file tag None = refl
vacated-none who file tag (Some row) = step (row.who.inc == who.inc && same_tag row.tag tag)
  where
    step : (b : Bool) → (if b then drop_row file who.host [] else []) ≡ []
    step true = refl
    step false = refl

pub vacated-of-boot : (longest : ℕ) (phase : Phase) (who : Who) (file : ℕ) (tag : Tag) (rows : List Row) (own : Option Row) → IsOfBoot longest phase
    rows → IsOfBoot longest phase (vacated_rows who file tag rows own)
vacated-of-boot longest (Serving boot) who file tag rows own h = tt
vacated-of-boot longest (Recovering recovery last) who file tag rows own h =
    (h.0, rw h.1 (vacated-none who file tag own))
