use Rattle.std.proofs.Common.{sym, subst}
use Rattle.nq_keeper.specs.Asking.{Asks}
use Rattle.nq_keeper.specs.RequestsCapped.{capped}
use Rattle.nq_model.specs.protocol.Change.{row_of_found}
use Rattle.nq_model.specs.protocol.Decided.{effect_of_write_recovering}
use Rattle.nq_model.specs.protocol.Kept.{find_file}
use Rattle.nq_keeper.proofs.requests.asking.write_recovering.Goals as goal

pub returns-in-None : goal.returns-in-None
returns-in-None g c =
    subst
    (λ base. Asks (λ kept. capped (effect_of_write_recovering c.args.opened (row_of_found (find_file c.args.file kept.files)) c.args.block base
    c.args.body)) c.unasked.result (g.K.Keeper.content c.args.keeper.now) (g.K.Keeper.content c.unasked.new.keeper)
    (g.K.Keeper.faults c.args.keeper.now) (g.K.Keeper.faults c.unasked.new.keeper) (g.K.Keeper.follows c.args.keeper.now c.unasked.new.keeper)
    (g.K.Keeper.leaves c.args.keeper.now c.unasked.new.keeper))
    (sym c.in-None.is)
    c.unasked.ensures

pub returns-in-Some : goal.returns-in-Some
returns-in-Some g c =
    subst
    (λ base. Asks (λ kept. capped (effect_of_write_recovering c.args.opened (row_of_found (find_file c.args.file kept.files)) c.args.block base
    c.args.body)) c.write.result (g.K.Keeper.content c.args.keeper.now) (g.K.Keeper.content c.write.new.keeper)
    (g.K.Keeper.faults c.args.keeper.now) (g.K.Keeper.faults c.write.new.keeper) (g.K.Keeper.follows c.args.keeper.now c.write.new.keeper)
    (g.K.Keeper.leaves c.args.keeper.now c.write.new.keeper))
    (sym c.in-Some.is)
    c.write.ensures
