-- Look-ups in lists of rows after each change of the list.
use Rattle.std.proofs.Common.{◌≡◌, ℕ, Bool, true, false, List, ◌∷◌, Some, if◌then◌else◌, refl}
use Rattle.std.proofs.lemmas.Bool.{and_parts}
use Rattle.nq_base.specs.declared.Row.{Row}
pub use Rattle.nq_model.proofs.Finding.{choice, decided, same-number, number-same, find-passes, find-none, find-filter, find-dropped, find-map}
use Rattle.nq_model.specs.protocol.Table.{is_row_of, find_row, insert_row}

-- a row that was looked up is of that file and host
pub found-row : (file host : ℕ) (rows : List Row) (row : Row) → find_row file host rows ≡ Some row → (row.file ≡ file) × (row.who.host ≡ host)
found-row file host rows row h =
    let e = and_parts _ _ (find-passes (is_row_of file host) row rows h) in (same-number _ _ e.0, same-number _ _ e.1)

-- rows after one was put in its place: it is found under its key, and the others are found as before
pub insert-step : (file host : ℕ) (row r : Row) (rows : List Row) (b : Bool)
    → find_row file host (insert_row row rows) ≡ (if is_row_of file host row then Some row else find_row file host rows)
    → (is_row_of file host row ≡ true → is_row_of file host r ≡ false)
    → find_row file host (if b then row ∷ r ∷ rows else r ∷ insert_row row rows) ≡
    (if is_row_of file host row then Some row else find_row file host (r ∷ rows))
insert-step file host row r rows true rest other = refl
insert-step file host row r rows false rest other = later (is_row_of file host row) (is_row_of file host r) refl refl
  where
    later : (b c : Bool) → is_row_of file host row ≡ b → is_row_of file host r ≡ c
        → find_row file host (r ∷ insert_row row rows) ≡ (if is_row_of file host row then Some row else find_row file host (r ∷ rows))
    later true true e f = let bad : is_row_of file host r ≡ false = other e in cc
    later true false e f = rw (f, rest, e) refl
    later false true e f = rw (f, e) refl
    later false false e f = rw (f, rest, e) refl
