-- What holds at every moment of a server of names.
use Rattle.std.specs.Prelude.{◌<◌, ◌≤◌, ◌^◌, length}
use Rattle.nq_model.specs.protocol.Profile.{shortest_term, longest_term}
use Rattle.nq_server.specs.Sound.{RowsRun}
use Rattle.nq_name_server.specs.Served.{Served, most_directories}

-- its time is one that a clock shows, its longest term is one that it can be told, the rows that let nobody cache run, and no more
-- directories have a number than may
pub record IsSound (s : Served) : Type 0 where
  pub early : s.time < 2 ^ 62
  pub long : shortest_term ≤ s.longest
  pub short : s.longest ≤ longest_term
  pub run : RowsRun s.time s.table.rows
  pub few : length s.directories ≤ most_directories
