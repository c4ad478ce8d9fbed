-- Where the earliest end of all rows is still to come, no row ends.
use Rattle.std.proofs.Common.{◌≡◌, ◌<◌, ◌+◌, ℕ, Bool, true, false, List, [], ◌∷◌, Option, Some, None, not, ◌&&◌, if◌then◌else◌, max, min, refl, ap, arith}
use Rattle.std.specs.Prelude.{nat_le}
use Rattle.std.specs.List.{find}
use Rattle.std.specs.Option.{option_map, IfSome}
use Rattle.std.proofs.lemmas.Bool.Decides.{nat_tests}
use Rattle.nq_base.specs.declared.Row.{Row}
use Rattle.nq_base.specs.declared.Mode.{Mode}
use Rattle.nq_base.specs.declared.Mode.TheVariants.{NonCaching, Reading, Writing}
use Rattle.nq_base.specs.declared.RowKey.{RowKey}
use Rattle.nq_model.specs.protocol.Table.{is_writing, row_end, find_row}
use Rattle.nq_model.specs.protocol.ServerStep.{is_over, is_due, end_reading}
use Rattle.nq_lease.specs.Ends.{end_of, lesser, earliest}
use Rattle.nq_lease.specs.Rows.{AreInOrder, key_of}
use Rattle.nq_lease.proofs.Order.{found-is-own}

-- each of these ends later
abbrev pub AllEndAfter : (now : ℕ) → List Row → Type 0
AllEndAfter now [] = Unit {0}
AllEndAfter now (row ∷ rows) = (now < row_end row) × AllEndAfter now rows

later-end : (now : ℕ) (row : Row) → now < end_of row → now < row_end row
later-end now row h = omega arith

-- where the earliest end is later, each is
pub all-after-none : (now : ℕ) (rows : List Row) → earliest rows ≡ None → AllEndAfter now rows
all-after-none now [] h = tt
all-after-none now (row ∷ rows) h = cc

pub all-after : (now end : ℕ) (rows : List Row) → earliest rows ≡ Some end → now < end → AllEndAfter now rows
all-after now end [] h lt = tt
all-after now end (row ∷ rows) h lt = step (earliest rows) (all-after-none now rows) (λ e x. all-after now e rows x) h
  where
    step : (o : Option ℕ) → (o ≡ None → AllEndAfter now rows) → ((e : ℕ) → o ≡ Some e → now < e → AllEndAfter now rows) → Some (lesser (end_of row) o)
        ≡ Some end → AllEndAfter now (row ∷ rows)
    step None none some e = let same : end_of row ≡ end = cc in (later-end now row (omega arith), none refl)
    step (Some other) none some e = let same : min (end_of row) other ≡ end = cc in (later-end now row (omega arith), some other refl (omega arith))

not-over : (now : ℕ) (mode : Mode) (until heard : ℕ) → now < (if is_writing mode then max until heard + 5 else until) → not (is_writing mode)
    && nat_le until now ≡ false
not-over now NonCaching until heard h = grind (arith, nat_tests)
not-over now Reading until heard h = grind (arith, nat_tests)
not-over now Writing until heard h = refl

not-due : (now : ℕ) (mode : Mode) (until heard : ℕ) → now < (if is_writing mode then max until heard + 5 else until) → is_writing mode
    && nat_le (max until heard + 5) now ≡ false
not-due now NonCaching until heard h = refl
not-due now Reading until heard h = refl
not-due now Writing until heard h = grind (arith, nat_tests)

pub none-due : (now : ℕ) (rows : List Row) → AllEndAfter now rows → find (is_due now) rows ≡ None
none-due now [] h = refl
none-due now (row ∷ rows) h = step (is_due now row) (not-due now row.mode row.until row.heard h.0) (none-due now rows h.1)
  where
    step : (b : Bool) → b ≡ false → find (is_due now) rows ≡ None → (if b then Some row else find (is_due now) rows) ≡ None
    step true e rest = cc
    step false e rest = rest

pub none-over : (now : ℕ) (rows : List Row) → AllEndAfter now rows → end_reading now rows ≡ rows
none-over now [] h = refl
none-over now (row ∷ rows) h = step (is_over now row) (not-over now row.mode row.until row.heard h.0) (none-over now rows h.1)
  where
    step : (b : Bool) → b ≡ false → end_reading now rows ≡ rows → (if not b then row ∷ end_reading now rows else end_reading now rows) ≡ row ∷ rows
    step true e rest = cc
    step false e rest = ap (λ l. row ∷ l) rest

-- the row that is found as due is the one of its file and host
pub due-is-there : (now : ℕ) (rows : List Row) (key : Option RowKey) → AreInOrder rows → key ≡ option_map key_of (find (is_due now) rows)
    → IfSome key (λ k. find_row k.file k.host rows ≡ find (is_due now) rows)
due-is-there now rows key ordered e =
    rw e (step (find (is_due now) rows) (λ row h. found-is-own (is_due now) row rows ordered h))
  where
    step : (o : Option Row) → ((row : Row) → o ≡ Some row → find_row row.file row.who.host rows ≡ Some row) → IfSome (option_map key_of o)
        (λ k. find_row k.file k.host rows ≡ o)
    step None found = tt
    step (Some row) found = found row refl
