use Rattle.std.proofs.Common.{◌≡◌, Option, refl, sym, ap, subst, ◌∙◌, arith}
use Rattle.nq_keeper.specs.Recovery.{Recovery}
use Rattle.nq_model.specs.protocol.Table.{with_rows}
use Rattle.nq_server.proofs.DecidedSteps.{serving-runs, does-serving, does-recovering, recovery-keeps, of-recovering}
use Rattle.nq_server.proofs.LeasedSteps.{of-serving}
use Rattle.nq_server.specs.Sound.{RowsRun}
use Rattle.nq_server.specs.declared.state.Phase.{Phase}
use Rattle.nq_server.specs.State.{beside_of, phase_of, server_of}
use Rattle.nq_server.proofs.aside.done.Goals as goal

pub returns-in-Serving-clause-stays : goal.returns-in-Serving-clause-stays
unfolding with_rows
returns-in-Serving-clause-stays c =
    let same : c.done_serving.new.table.drawn ≡ c.args.state.now.table.drawn = ap (λ t. t.drawn) c.done_serving.ensures.table in
    record {
      sound = record {
        early = c.requires.sound.early;
        long = c.requires.sound.long;
        short = c.requires.sound.short;
        run = subst (λ t. RowsRun c.args.state.now.time t.rows) (sym c.done_serving.ensures.table) (serving-runs c.args.state.now.time
            c.args.state.now.time c.args.who c.args.request.now c.args.state.now.table.rows c.requires.sound.run);
        of_boot = of-serving _ _ _ (ap phase_of c.in-Serving.is);
      };
      drawn = omega arith;
    }

pub returns-in-Serving-clause-does : goal.returns-in-Serving-clause-does
returns-in-Serving-clause-does c =
    λ kept is.
    does-serving (server_of (beside_of c.args.state.now) kept) (phase_of c.args.state.now.phase) c.args.who c.args.request.now c.args.length
    (beside_of c.args.state.now) _ c.args.log.now c.done_serving.new.log
    (ap phase_of c.in-Serving.is)
    is c.done_serving.ensures.table refl refl refl refl c.done_serving.ensures.entries

pub returns-in-Recovering-Some-default-clause-stays : goal.returns-in-Recovering-Some-default-clause-stays
returns-in-Recovering-Some-default-clause-stays c =
    let old = of-recovering c.args.state.now.longest c.args.state.now.phase c.args.state.now.table.rows c.in-Recovering-Some-default.recovery
    c.in-Recovering-Some-default.last (c.in-Recovering-Some-default.is ∙ ap (λ (r : Option Recovery). Phase.Recovering r
    c.in-Recovering-Some-default.last) c.in-Recovering-Some-default.recovery-is) c.requires.sound.of_boot in
    record {
      sound = record {
        early = c.requires.sound.early;
        long = c.requires.sound.long;
        short = c.requires.sound.short;
        run = c.requires.sound.run;
        of_boot = (
          ap (λ x. x.longest) c.done_recovering.ensures.recovery ∙ recovery-keeps c.args.request.now c.args.state.now.time
              c.in-Recovering-Some-default.recovery ∙ old.0,
          old.1,
        );
      };
      drawn = omega arith;
    }

pub returns-in-Recovering-Some-default-clause-does : goal.returns-in-Recovering-Some-default-clause-does
returns-in-Recovering-Some-default-clause-does c =
    let old = of-recovering c.args.state.now.longest c.args.state.now.phase c.args.state.now.table.rows c.in-Recovering-Some-default.recovery
    c.in-Recovering-Some-default.last (c.in-Recovering-Some-default.is ∙ ap (λ (r : Option Recovery). Phase.Recovering r
    c.in-Recovering-Some-default.last) c.in-Recovering-Some-default.recovery-is) c.requires.sound.of_boot in
    λ kept is.
    does-recovering (server_of (beside_of c.args.state.now) kept) (phase_of c.args.state.now.phase) c.in-Recovering-Some-default.recovery
    c.done_recovering.new.recovery c.in-Recovering-Some-default.last c.args.who c.args.request.now (beside_of c.args.state.now) _ c.args.log.now
    c.done_recovering.new.log
    (ap phase_of (c.in-Recovering-Some-default.is ∙ ap (λ (r : Option Recovery). Phase.Recovering r c.in-Recovering-Some-default.last)
    c.in-Recovering-Some-default.recovery-is))
    refl old.1 c.done_recovering.ensures.recovery refl refl refl refl refl c.done_recovering.ensures.entries
