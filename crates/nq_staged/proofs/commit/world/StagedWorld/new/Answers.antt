use Rattle.std.proofs.Common.{[], subst, sym}
use Rattle.nq_staged.proofs.Reaching.{begins-plays, first-sides}
use Rattle.nq_staged.specs.Around.{new_around}
use Rattle.nq_staged.specs.Worlds.{PlaysOutside}
use Rattle.nq_staged.proofs.commit.world.StagedWorld.new.Goals as goal

pub returns-in-Ok-clause-plays : goal.returns-in-Ok-clause-plays
returns-in-Ok-clause-plays g c = λ head told plays.
    subst (λ a. PlaysOutside head [] (record { inner = c.args.world; around = a; ran = c.no_events.result; events = 0 }) told) (sym c.in-Ok.ensures)
    (subst (λ l. PlaysOutside head [] (record {
      inner = c.args.world;
      around = new_around c.args.world.server.beside.table.boot
          (first-sides c.args.world.clients);
      ran = l;
      events = 0;
    }) told) (sym c.no_events.ensures) (begins-plays head c.args.world told plays))
