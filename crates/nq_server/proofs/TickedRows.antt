-- The rows of a table after a tick.
use Rattle.std.proofs.Common.{◌≡◌, ◌<◌, ◌≤◌, ℕ, Bool, true, false, List, [], ◌∷◌, Some, not, ◌&&◌, if◌then◌else◌, refl, sym, ◌∙◌, ap, arith}
use Rattle.std.specs.Prelude.{nat_le}
use Rattle.std.specs.List.{find, filter}
use Rattle.std.proofs.lemmas.Bool.Decides.{nat_tests}
use Rattle.nq_base.specs.declared.Row.{Row}
use Rattle.nq_base.specs.declared.Mode.{Mode}
use Rattle.nq_base.specs.declared.Mode.TheVariants.{NonCaching, Reading, Writing}
use Rattle.nq_model.specs.protocol.ServerStep.{is_over, is_due, end_reading}
use Rattle.nq_model.specs.protocol.Table.{is_writing, caches}
use Rattle.nq_server.specs.Sound.{Runs, RowsRun}

-- a row that is over is not due
over-is-not-due : (w a b : Bool) → not w && a ≡ true → w && b ≡ false
over-is-not-due true a b h = cc
over-is-not-due false a b h = refl

-- the first row that is due is the same where others have ended
pub due-after-reading : (now : ℕ) (rows : List Row) → find (is_due now) (end_reading now rows) ≡ find (is_due now) rows
due-after-reading now [] = refl
due-after-reading now (row ∷ rows) =
    step (is_over now row) (is_due now row) refl (over-is-not-due (is_writing row.mode) _ _) (due-after-reading now rows)
  where
    step : (o d : Bool) → is_due now row ≡ d → (o ≡ true → d ≡ false) → find (is_due now) (end_reading now rows) ≡ find (is_due now) rows
        → find (is_due now) (if not o then row ∷ end_reading now rows else end_reading now rows) ≡ (if d then Some row else find (is_due now) rows)
    step true true e h rest = absurd (cc (h refl))
    step true false e h rest = rest
    step false d e h rest =
        ap (λ b. if b then Some row else find (is_due now) (end_reading now rows)) e ∙ ap (λ t. if d then Some row else t) rest

-- rows are taken out in any order
pub filters-commute : (p q : Row → Bool) (rows : List Row) → filter p (filter q rows) ≡ filter q (filter p rows)
filters-commute p q [] = refl
filters-commute p q (row ∷ rows) = step (p row) (q row) refl refl (filters-commute p q rows)
  where
    step : (a b : Bool) → p row ≡ a → q row ≡ b → filter p (filter q rows) ≡ filter q (filter p rows) → filter p (if b then row ∷ filter q rows
        else filter q rows) ≡ filter q (if a then row ∷ filter p rows else filter p rows)
    step true true ea eb rest =
        ap (λ c. if c then row ∷ filter p (filter q rows) else filter p (filter q rows)) ea ∙ ap (λ t. row ∷ t) rest
        ∙ sym (ap (λ c. if c then row ∷ filter q (filter p rows) else filter q (filter p rows)) eb)
    step true false ea eb rest =
        rest ∙ sym (ap (λ c. if c then row ∷ filter q (filter p rows) else filter q (filter p rows)) eb)
    step false true ea eb rest =
        ap (λ c. if c then row ∷ filter p (filter q rows) else filter p (filter q rows)) ea ∙ rest
    step false false ea eb rest = rest

-- some of the rows run, where all do
pub some-run : (time : ℕ) (p : Row → Bool) (rows : List Row) → RowsRun time rows → RowsRun time (filter p rows)
some-run time p [] h = tt
some-run time p (row ∷ rows) h = step (p row) h.0 (some-run time p rows h.1)
  where
    step : (b : Bool) → Runs time row → RowsRun time (filter p rows) → RowsRun time (if b then row ∷ filter p rows else filter p rows)
    step true own rest = (own, rest)
    step false own rest = rest

-- a row that is not over ends later
not-over-yet : (now : ℕ) (mode : Mode) (until : ℕ) → not (is_writing mode) && nat_le until now ≡ false → caches mode ≡ false → now < until
not-over-yet now NonCaching until h c = grind (arith, nat_tests)
not-over-yet now Reading until h c = absurd (cc)
not-over-yet now Writing until h c = absurd (cc)

-- the rows that are left at a later time run
pub run-later : (time now : ℕ) (rows : List Row) → time ≤ now → RowsRun time rows → RowsRun now (end_reading now rows)
run-later time now [] later h = tt
run-later time now (row ∷ rows) later h = step (is_over now row) refl (run-later time now rows later h.1)
  where
    own : is_over now row ≡ false → Runs now row
    own e c = let before = h.0 c in let yet = not-over-yet now row.mode row.until e c in (yet, omega arith)

    step : (o : Bool) → is_over now row ≡ o → RowsRun now (end_reading now rows) → RowsRun now (if not o then row ∷ end_reading now rows
        else end_reading now rows)
    step true e rest = rest
    step false e rest = (own e, rest)
