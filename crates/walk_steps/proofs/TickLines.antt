-- A tick of the server leaves the kept line of each host.
use Rattle.std.proofs.Common.{◌≡◌, ℕ, List, refl}
use Rattle.nq_base.specs.declared.Row.{Row}
use Rattle.walk_steps.proofs.ServerCases.{server-ticks}
use Rattle.walk_steps.proofs.ServerFacts.{fence-lines}
use Rattle.nq_model.specs.protocol.Kept.{find_file, host_row}
use Rattle.nq_model.specs.protocol.Server.{Server, quiet, with_table, keeping_with}
use Rattle.nq_model.specs.protocol.ServerStep.{tick, opens, ends_writing, at_time}
use Rattle.nq_model.specs.protocol.Table.{with_rows}

waits-line : (s : Server) (now host : ℕ) → host_row (quiet (at_time s now)).server.kept host ≡ host_row s.kept host
unfolding quiet at_time
waits-line s now host = refl

opens-line : (s : Server) (now until heard host : ℕ) → host_row (opens (at_time s now) until heard).server.kept host ≡ host_row s.kept host
unfolding opens at_time
opens-line s now until heard host = refl

ends-line : (s : Server) (now host : ℕ) (rows : List Row)
    → host_row (quiet (with_table (at_time s now) (with_rows s.table rows))).server.kept host ≡ host_row s.kept host
unfolding quiet at_time with_table with_rows
ends-line s now host rows = refl

ends-writing-line : (s : Server) (now host : ℕ) (rows : List Row) (row : Row)
    → host_row (ends_writing (at_time s now) rows row).server.kept host ≡ host_row s.kept host
unfolding ends_writing at_time keeping_with with_rows
ends-writing-line s now host rows row = fence-lines s.kept (find_file row.file s.kept.files) host

pub tick-line : (s : Server) (now host : ℕ) → host_row (tick s now).server.kept host ≡ host_row s.kept host
tick-line s now host = server-ticks s now (λ t. host_row t.server.kept host ≡ host_row s.kept host) (record {
  waits = λ until heard last p goes_on. waits-line s now host;
  opening = λ until heard last p over. opens-line s now until heard host;
  ends_reading = λ p none. ends-line s now host _;
  ending_writing = λ row p due. ends-writing-line s now host _ row;
})
