use Rattle.std.proofs.Common.{◌≡◌, sym, ap, subst, arith}
use Rattle.nq_base.specs.declared.Access.{Access}
use Rattle.nq_model.specs.protocol.Table.{with_rows}
use Rattle.nq_server.proofs.AskedRows.{marked-run}
use Rattle.nq_server.proofs.LeasedSteps.{of-serving}
use Rattle.nq_server.specs.Sound.{RowsRun}
use Rattle.nq_server.specs.State.{phase_of}
use Rattle.nq_server.proofs.aside.put_off.Goals as goal

pub returns-in-Serving-Some-clause-stays : goal.returns-in-Serving-Some-clause-stays
unfolding with_rows
returns-in-Serving-Some-clause-stays c =
    let same : c.mark_evicting.new.self.drawn ≡ c.args.state.now.table.drawn = ap (λ t. t.drawn) c.mark_evicting.ensures in
    record {
      sound = record {
        early = c.requires.early;
        long = c.requires.long;
        short = c.requires.short;
        run = subst (λ t. RowsRun c.args.state.now.time t.rows) (sym c.mark_evicting.ensures) (marked-run c.args.state.now.time c.in-Serving-Some.file
            c.args.who.host Access.Write c.args.state.now.table.rows c.requires.run);
        of_boot = of-serving _ _ _ (ap phase_of c.in-Serving-Some.is-0);
      };
      drawn = omega arith;
    }
