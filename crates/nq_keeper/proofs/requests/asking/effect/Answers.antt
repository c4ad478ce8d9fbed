use Rattle.std.proofs.Common.{sym, subst}
use Rattle.nq_keeper.specs.Asking.{Asks}
use Rattle.nq_keeper.specs.RequestsCapped.{capped}
use Rattle.nq_model.specs.protocol.Decided.{effect_of}
use Rattle.nq_keeper.proofs.requests.asking.effect.Goals as goal

pub returns-in-Recovering : goal.returns-in-Recovering
returns-in-Recovering g c =
    subst
    (λ gate. Asks (λ kept. capped (effect_of kept gate c.args.request)) c.while_recovering.result (g.K.Keeper.content c.args.keeper.now)
    (g.K.Keeper.content c.while_recovering.new.keeper) (g.K.Keeper.faults c.args.keeper.now) (g.K.Keeper.faults c.while_recovering.new.keeper)
    (g.K.Keeper.follows c.args.keeper.now c.while_recovering.new.keeper) (g.K.Keeper.leaves c.args.keeper.now c.while_recovering.new.keeper))
    (sym c.in-Recovering.is)
    c.while_recovering.ensures

pub returns-in-Serving : goal.returns-in-Serving
returns-in-Serving g c =
    subst
    (λ gate. Asks (λ kept. capped (effect_of kept gate c.args.request)) c.while_serving.result (g.K.Keeper.content c.args.keeper.now)
    (g.K.Keeper.content c.while_serving.new.keeper) (g.K.Keeper.faults c.args.keeper.now) (g.K.Keeper.faults c.while_serving.new.keeper)
    (g.K.Keeper.follows c.args.keeper.now c.while_serving.new.keeper) (g.K.Keeper.leaves c.args.keeper.now c.while_serving.new.keeper))
    (sym c.in-Serving.is)
    c.while_serving.ensures
