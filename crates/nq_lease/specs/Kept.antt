-- How a table is kept: its rows in order, their ends in order of time, and room for all that there can be.
use Rattle.std.specs.Prelude.{◌≡◌, ◌≤◌, ◌==◌, ℕ, List, All, length, count_by, sum_by, if◌then◌else◌}
use Rattle.std.specs.List.Sorted.{IsNonDecreasingBy}
use Rattle.nq_base.specs.declared.Row.{Row}
use Rattle.nq_model.specs.protocol.Profile.{most_rows}
use Rattle.nq_lease.specs.declared.ends.End.{End}
use Rattle.nq_lease.specs.Rows.{AreInOrder}
use Rattle.nq_lease.specs.Ends.{end_of}

-- how many rows end, at all these ends together
abbrev pub rows_ending : List End → ℕ
rows_ending ends = sum_by (λ e. e.rows) ends

-- how many rows end at a time
abbrev pub rows_ending_at : (time : ℕ) → List End → ℕ
rows_ending_at time ends = sum_by (λ e. if e.time == time then e.rows else 0) ends

-- these ends stand in order of time, and at each of them a row ends
pub record AreEnds (ends : List End) : Type 0 where
  pub rise : IsNonDecreasingBy (λ e. e.time) ends
  pub some : All (λ e. 1 ≤ e.rows) ends

-- these are the ends of these rows: at each time as many rows end as the ends say
pub record AreEndsOf (rows : List Row) (ends : List End) : Type 0 where
  pub well : AreEnds ends
  pub same : (time : ℕ) → rows_ending_at time ends ≡ count_by (λ r. end_of r == time) rows

-- rows and ends with room for so many
pub record IsKept (rows : List Row) (room : ℕ) (ends : List End) (room_of_ends : ℕ) : Type 0 where
  pub ordered : AreInOrder rows
  pub few : length rows ≤ most_rows
  pub has_room : most_rows ≤ room
  pub are_ends : AreEndsOf rows ends
  pub as_many : rows_ending ends ≡ length rows
  pub has_room_of_ends : most_rows ≤ room_of_ends
