use Rattle.std.proofs.Common.{sym, subst}
use Rattle.nq_model.specs.protocol.Table.{find_row, with_rows}
use Rattle.nq_server.proofs.VacatedRows.{vacated-run}
use Rattle.nq_server.specs.Sound.{RowsRun}
use Rattle.nq_name_server.proofs.server.NameServer.vacated.Goals as goal

pub invariant_of-self : goal.invariant_of-self
unfolding with_rows
invariant_of-self c =
    let i = c.self.inside in
    let sound = c.self.invariant.0 in
    let said = c.args.said.now in
    let own = find_row c.in-Some.number said.who.host i.table.rows in (
      record {
        early = sound.early;
        long = sound.long;
        short = sound.short;
        run = subst (λ t. RowsRun i.time t.rows) (sym c.vacated.ensures.table) (vacated-run i.time said.who c.in-Some.number said.tag i.table.rows own
            sound.run);
        few = sound.few;
      },
      c.self.invariant.1,
    )
