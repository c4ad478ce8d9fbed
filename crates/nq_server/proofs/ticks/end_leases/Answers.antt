use Rattle.std.proofs.Common.{◌≡◌, sym, ap, arith}
use Rattle.std.specs.List.{find}
use Rattle.nq_model.specs.protocol.ServerStep.{is_due}
use Rattle.nq_server.specs.State.{beside_of}
use Rattle.nq_server.specs.Ticking.{at_tick}
use Rattle.nq_server.proofs.Ticked.{draws-none, kept-ended, or-as, runs-on, serves-of-boot, takes-ends}
use Rattle.nq_server.proofs.ticks.end_leases.Goals as goal

pub returns-in_err-fence-clause-leaves : goal.returns-in_err-fence-clause-leaves
returns-in_err-fence-clause-leaves g c =
    λ kept told found left.
    or-as found kept _ _ (sym (kept-ended (beside_of c.args.state.now) kept c.args.now c.requires.serves)) (c.end_first.ensures.leaves kept told found left)

pub returns-clause-takes : goal.returns-clause-takes
returns-clause-takes g c =
    λ out.
    takes-ends (beside_of c.args.state.now) _ c.args.now c.in_ok-fence.fence c.end_first.new.table (g.K.Keeper.content c.args.keeper.now)
    (g.K.Keeper.content c.end_first.new.keeper) (g.K.Keeper.faults c.args.keeper.now) (g.K.Keeper.faults c.end_first.new.keeper) c.args.log.now
    c.tell_fence.new.log c.requires.serves c.in_ok-fence.ensures.ends.0 c.in_ok-fence.ensures.ends.1
    (ap (λ t. at_tick (beside_of c.args.state.now) t c.args.now) c.end_reading.ensures) c.tell_fence.ensures out

pub returns-clause-stays : goal.returns-clause-stays
returns-clause-stays g c =
    let same : c.end_reading.new.table.drawn ≡ c.args.state.now.table.drawn = draws-none c.args.now
    (find (is_due c.args.now) c.args.state.now.table.rows) c.in_ok-fence.fence c.args.state.now.table c.end_first.new.table
    c.end_reading.new.table _ _ c.in_ok-fence.ensures.ends.0 c.end_reading.ensures in
    record {
      sound = record {
        early = c.requires.early;
        long = c.requires.sound.long;
        short = c.requires.sound.short;
        run = runs-on c.args.state.now.time c.args.now (find (is_due c.args.now) c.args.state.now.table.rows) c.in_ok-fence.fence
            c.args.state.now.table c.end_first.new.table c.end_reading.new.table _ _ c.requires.later c.in_ok-fence.ensures.ends.0
            c.end_reading.ensures c.requires.sound.run;
        of_boot = serves-of-boot c.args.state.now.longest c.args.state.now.phase c.end_reading.new.table.rows c.requires.serves;
      };
      drawn = omega arith;
    }

pub returns-clause-leaves : goal.returns-clause-leaves
returns-clause-leaves g c =
    λ kept told found left.
    or-as found kept _ _ (sym (kept-ended (beside_of c.args.state.now) kept c.args.now c.requires.serves)) (c.end_first.ensures.leaves kept told found left)
