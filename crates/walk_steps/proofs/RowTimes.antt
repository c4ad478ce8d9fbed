-- The times of the rows that stand: no row was heard later than now, and while the server serves none runs that is over.
use Rattle.std.proofs.Common.{◌≡◌, ◌<◌, ◌≤◌, ◌⊎◌, ℕ, ◌+◌, ◌==◌, Bool, true, false, List, Some, sym, subst, arith, inl, inr, if◌then◌else◌}
use Rattle.std.specs.Prelude.{Option}
use Rattle.nq_base.specs.declared.Row.{Row}
use Rattle.nq_model.specs.protocol.Kept.{Kept}
use Rattle.nq_model.specs.protocol.Profile.{shortest_term, granted_term}
use Rattle.nq_model.specs.protocol.Server.{Phase, serving, recovering, Server, last_table}
use Rattle.nq_model.specs.protocol.ServerStep.{boot}
use Rattle.nq_model.specs.protocol.Table.{Table, caches, is_writing, is_row_of, find_row, put_row, empty_table}
use Rattle.walk_steps.proofs.RowChanges.{found-put}

-- a row was heard by now; where it does not let its holder write it ends later than now; and where it does not let him cache
-- it ends within the longest term
pub record RowRuns (longest now : ℕ) (row : Row) : Type 0 where
  pub heard_by_now : row.heard ≤ now
  pub runs : is_writing row.mode ≡ false → now < row.until
  pub bounded : caches row.mode ≡ false → row.until ≤ now + longest

-- each row that is found
abbrev pub EachRow : (Row → Type 0) → List Row → Type 0
EachRow P rows = (file host : ℕ) (row : Row) → find_row file host rows ≡ Some row → P row

pub each-fewer : (P : Row → Type 0) (rows fewer : List Row)
    → ((file host : ℕ) (row : Row) → find_row file host fewer ≡ Some row → find_row file host rows ≡ Some row) → EachRow P rows → EachRow P fewer
each-fewer P rows fewer stood each = λ file host row found. each file host row (stood file host row found)

pub each-put : (P : Row → Type 0) (rows : List Row) (row : Row) → P row → EachRow P rows → EachRow P (put_row row rows)
each-put P rows row holds each = λ file host r found. by file host r (found-put file host row r rows found)
  where
    by : (file host : ℕ) (r : Row) → ((is_row_of file host row ≡ true) × (r ≡ row))
        ⊎ ((is_row_of file host row ≡ false) × (find_row file host rows ≡ Some r)) → P r
    by file host r (inl e) = subst P (sym e.1) holds
    by file host r (inr e) = each file host r e.1

-- the times of the rows that stand
abbrev pub TimesFit : (longest now : ℕ) → Phase → Table → Type 0
TimesFit longest now serving table = EachRow (RowRuns longest now) table.rows
TimesFit longest now (recovering until heard last) table = EachRow (λ row. row.heard ≤ now) (last_table last).rows

abbrev pub TimesFitOf : Server → Type 0
TimesFitOf s = TimesFit s.longest s.now s.phase s.table

pub term-bounds : (longest wish : ℕ) → shortest_term ≤ longest → (0 < granted_term longest wish) × (granted_term longest wish ≤ longest)
term-bounds longest wish long = (omega arith, omega arith)

-- and after a boot with a table in mind whose rows were heard by now
pub times-boot : (kept : Kept) (longest now : ℕ) (last : Option Table) → EachRow (λ row. row.heard ≤ now) (last_table last).rows
    → TimesFitOf (boot kept longest now last)
unfolding boot empty_table
times-boot kept longest now last f = by (kept.opened == 0)
  where
    by : (b : Bool) → TimesFit longest now (if b then serving else recovering (now + kept.longest + 8) now last) (empty_table (kept.boot + 1))
    by true = λ file host row found. absurd (cc)
    by false = f
