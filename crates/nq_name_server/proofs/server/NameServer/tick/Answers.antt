use Rattle.std.proofs.Common.{◌≤◌, sym, ap, subst}
use Rattle.nq_model.specs.protocol.Table.{with_rows}
use Rattle.nq_name_server.specs.Served.{Served}
use Rattle.nq_server.proofs.TickedRows.{run-later}
use Rattle.nq_server.specs.Sound.{RowsRun}
use Rattle.nq_name_server.proofs.server.NameServer.tick.Goals as goal

pub invariant_of-self : goal.invariant_of-self
unfolding with_rows
invariant_of-self c =
    let i = c.self.inside in
    let sound = c.self.invariant.0 in
    let later = subst (λ n. n ≤ c.args.time) (sym (ap (λ (s : Served). s.time) c.self.view_is)) c.requires.later in (
      record {
        early = c.requires.early;
        long = sound.long;
        short = sound.short;
        run = subst (λ t. RowsRun c.args.time t.rows) (sym c.drop_over.ensures) (run-later i.time c.args.time i.table.rows later sound.run);
        few = sound.few;
      },
      c.self.invariant.1,
    )
