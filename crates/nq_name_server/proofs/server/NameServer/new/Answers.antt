use Rattle.std.proofs.Common.{◌≤◌, length, sym, subst, arith}
use Rattle.nq_model.specs.protocol.Table.{empty_table}
use Rattle.nq_name_server.specs.Served.{most_directories}
use Rattle.nq_server.specs.Sound.{RowsRun}
use Rattle.nq_name_server.proofs.server.NameServer.new.Goals as goal

pub invariant_of-result : goal.invariant_of-result
unfolding empty_table
invariant_of-result c = (
  record {
    early = omega arith;
    long = omega arith;
    short = omega arith;
    run = subst (λ t. RowsRun c.args.time t.rows) (sym c.in_ok-table.ensures) tt;
    few = subst (λ l. length l ≤ most_directories) (sym c.in_ok-directories.ensures.items) (omega arith);
  },
  c.in_ok-directories.ensures.capacity,
)
