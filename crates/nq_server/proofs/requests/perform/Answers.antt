use Rattle.std.proofs.Common.{◌≡◌, refl, sym, ap, subst, arith}
use Rattle.nq_model.specs.protocol.Table.{find_row, with_rows}
use Rattle.nq_model.specs.protocol.Server.{serving}
use Rattle.nq_model.specs.protocol.ServerStep.{look, perform}
use Rattle.nq_server.proofs.AdmittedSteps.{looks-served}
use Rattle.nq_server.proofs.TakenSteps.{takes-after}
use Rattle.nq_server.specs.State.{beside_of, phase_of, server_of}
use Rattle.nq_server.specs.Stepping.{next_of}
use Rattle.nq_server.proofs.VacatedRows.{vacated-run, vacated-of-boot}
use Rattle.nq_server.specs.Sound.{RowsRun, IsOfBoot}
use Rattle.nq_server.proofs.requests.perform.Goals as goal

pub returns-in-Vacated-default-clause-stays : goal.returns-in-Vacated-default-clause-stays
unfolding with_rows
returns-in-Vacated-default-clause-stays g c =
    let rows = c.args.state.now.table.rows in
    let own = find_row c.in-Vacated-default.file c.args.caller.who.host c.args.state.now.table.rows in
    let same : c.vacated.new.table.drawn ≡ c.args.state.now.table.drawn = ap (λ t. t.drawn) c.vacated.ensures.table in
    record {
      sound = record {
        early = c.requires.sound.early;
        long = c.requires.sound.long;
        short = c.requires.sound.short;
        run = subst (λ t. RowsRun c.args.state.now.time t.rows) (sym c.vacated.ensures.table) (vacated-run c.args.state.now.time c.args.caller.who
            c.in-Vacated-default.file c.in-Vacated-default.tag rows own c.requires.sound.run);
        of_boot = subst (λ t. IsOfBoot c.args.state.now.longest c.args.state.now.phase t.rows) (sym c.vacated.ensures.table)
            (vacated-of-boot c.args.state.now.longest c.args.state.now.phase c.args.caller.who c.in-Vacated-default.file c.in-Vacated-default.tag rows
            own c.requires.sound.of_boot);
      };
      drawn = omega arith;
    }

pub look-requires : goal.look-requires
look-requires g c = record {
  sound = c.requires.sound;
  serves = ap phase_of c.in_default-Serving.is-1;
  drawn = c.requires.drawn;
}

pub returns-in_default-Serving-clause-takes : goal.returns-in_default-Serving-clause-takes
returns-in_default-Serving-clause-takes g c =
    λ line.
    let held = beside_of c.args.state.now in
    let r = c.args.request.now in
    takes-after (λ kept. perform (server_of held kept) c.args.caller.who c.args.caller.xid (next_of c.args.out.now) (line kept) r)
    (λ kept. look (server_of held kept) serving c.args.caller.who c.args.caller.xid (next_of c.args.out.now) r) c.look.result
    (g.K.Keeper.content c.args.keeper.now) (g.K.Keeper.content c.args.keeper.now) (g.K.Keeper.content c.look.new.keeper)
    (g.K.Keeper.faults c.args.keeper.now) (g.K.Keeper.faults c.args.keeper.now) (g.K.Keeper.faults c.look.new.keeper) held
    (beside_of c.look.new.state) c.args.out.now c.look.new.out c.args.log.now c.look.new.log refl refl
    (λ kept told. looks-served (server_of held kept) c.args.caller.who c.args.caller.xid (next_of c.args.out.now) (line kept) r c.requires.other
    (λ w file tag is. c.in_default-Serving.not-Vacated-0 w file tag is) (ap phase_of c.in_default-Serving.is-1))
    c.look.ensures.takes
