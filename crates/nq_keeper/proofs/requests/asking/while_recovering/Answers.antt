use Rattle.std.proofs.Common.{sym, ap, subst}
use Rattle.nq_base.specs.declared.Gate.{Gate}
use Rattle.nq_base.specs.declared.Verdict.{Verdict}
use Rattle.nq_keeper.specs.Asking.{Asks}
use Rattle.nq_keeper.specs.RequestsCapped.{capped}
use Rattle.nq_model.specs.protocol.Decided.{effect_of, no_effect}
use Rattle.nq_keeper.proofs.Asking.{asks-as, later-recovering}
use Rattle.nq_keeper.proofs.requests.asking.while_recovering.Goals as goal

pub returns-in-Attach : goal.returns-in-Attach
returns-in-Attach g c =
    subst
    (λ r. Asks (λ kept. capped (effect_of kept (Gate.Recovering c.args.opened) r)) c.unasked.result (g.K.Keeper.content c.args.keeper.now)
    (g.K.Keeper.content c.unasked.new.keeper) (g.K.Keeper.faults c.args.keeper.now) (g.K.Keeper.faults c.unasked.new.keeper)
    (g.K.Keeper.follows c.args.keeper.now c.unasked.new.keeper) (g.K.Keeper.leaves c.args.keeper.now c.unasked.new.keeper))
    (sym c.in-Attach.is)
    c.unasked.ensures

pub returns-in-Write : goal.returns-in-Write
returns-in-Write g c =
    subst
    (λ r. Asks (λ kept. capped (effect_of kept (Gate.Recovering c.args.opened) r)) c.write_recovering.result (g.K.Keeper.content c.args.keeper.now)
    (g.K.Keeper.content c.write_recovering.new.keeper) (g.K.Keeper.faults c.args.keeper.now) (g.K.Keeper.faults c.write_recovering.new.keeper)
    (g.K.Keeper.follows c.args.keeper.now c.write_recovering.new.keeper) (g.K.Keeper.leaves c.args.keeper.now c.write_recovering.new.keeper))
    (sym c.in-Write.is)
    c.write_recovering.ensures

pub returns-in_default : goal.returns-in_default
returns-in_default g c =
    asks-as (λ kept. capped (no_effect Verdict.TryLater)) (λ kept. capped (effect_of kept (Gate.Recovering c.args.opened) c.args.request))
    c.unasked-in_default.result (g.K.Keeper.content c.args.keeper.now) (g.K.Keeper.content c.unasked-in_default.new.keeper)
    (g.K.Keeper.faults c.args.keeper.now) (g.K.Keeper.faults c.unasked-in_default.new.keeper) (g.K.Keeper.follows c.args.keeper.now
    c.unasked-in_default.new.keeper) (g.K.Keeper.leaves c.args.keeper.now c.unasked-in_default.new.keeper)
    (λ kept. ap capped (sym (later-recovering kept c.args.opened c.args.request c.in_default.not-Attach c.in_default.not-Write)))
    c.unasked-in_default.ensures
