-- That the law of served rows speaks of something: a server that gave a host a lease to write.
use Rattle.std.specs.Prelude.{◌≡◌, ℕ, true, List, Some, IsSomeAnd}
use Rattle.nq_loop.specs.Serving.{Coming, IsServed}
use Rattle.nq_model.specs.protocol.Kept.{Kept}
use Rattle.nq_model.specs.protocol.Table.{is_writing, find_row}
use Rattle.nq_server.specs.Holding.{Holding}

-- over a keeper that always tells what it keeps a server boots, and something comes to it; then it has a row that lets its holder
-- write
pub record ServedRowsAreMet : Type 0 where
  pub came : List Coming
  pub s : Holding Kept
  pub file : ℕ
  pub host : ℕ
  pub served : IsServed Some (λ kept. 0) came s
  pub writes : IsSomeAnd (find_row file host s.beside.table.rows) (λ row. is_writing row.mode ≡ true)
