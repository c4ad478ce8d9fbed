use Rattle.std.proofs.Common.{sym, ap, subst}
use Rattle.nq_base.specs.declared.Gate.{Gate}
use Rattle.nq_base.specs.declared.Verdict.{Verdict}
use Rattle.nq_keeper.specs.Asking.{Asks}
use Rattle.nq_keeper.specs.RequestsCapped.{capped}
use Rattle.nq_model.specs.protocol.Decided.{effect_of, no_effect}
use Rattle.nq_keeper.proofs.Asking.{asks-as, later-serving}
use Rattle.nq_keeper.proofs.requests.asking.while_serving.Goals as goal

pub returns-in-Attach : goal.returns-in-Attach
returns-in-Attach g c =
    subst
    (λ r. Asks (λ kept. capped (effect_of kept (Gate.Serving c.args.boot c.args.conflict c.args.writing_row) r)) c.unasked.result
    (g.K.Keeper.content c.args.keeper.now) (g.K.Keeper.content c.unasked.new.keeper) (g.K.Keeper.faults c.args.keeper.now)
    (g.K.Keeper.faults c.unasked.new.keeper) (g.K.Keeper.follows c.args.keeper.now c.unasked.new.keeper) (g.K.Keeper.leaves c.args.keeper.now
    c.unasked.new.keeper))
    (sym c.in-Attach.is)
    c.unasked.ensures

pub returns-in-Create : goal.returns-in-Create
returns-in-Create g c =
    subst
    (λ r. Asks (λ kept. capped (effect_of kept (Gate.Serving c.args.boot c.args.conflict c.args.writing_row) r)) c.create.result
    (g.K.Keeper.content c.args.keeper.now) (g.K.Keeper.content c.create.new.keeper) (g.K.Keeper.faults c.args.keeper.now)
    (g.K.Keeper.faults c.create.new.keeper) (g.K.Keeper.follows c.args.keeper.now c.create.new.keeper) (g.K.Keeper.leaves c.args.keeper.now
    c.create.new.keeper))
    (sym c.in-Create.is)
    c.create.ensures

pub returns-in-Write : goal.returns-in-Write
returns-in-Write g c =
    subst
    (λ r. Asks (λ kept. capped (effect_of kept (Gate.Serving c.args.boot c.args.conflict c.args.writing_row) r)) c.write.result
    (g.K.Keeper.content c.args.keeper.now) (g.K.Keeper.content c.write.new.keeper) (g.K.Keeper.faults c.args.keeper.now)
    (g.K.Keeper.faults c.write.new.keeper) (g.K.Keeper.follows c.args.keeper.now c.write.new.keeper) (g.K.Keeper.leaves c.args.keeper.now
    c.write.new.keeper))
    (sym c.in-Write.is)
    c.write.ensures

pub returns-in-Resize : goal.returns-in-Resize
returns-in-Resize g c =
    subst
    (λ r. Asks (λ kept. capped (effect_of kept (Gate.Serving c.args.boot c.args.conflict c.args.writing_row) r)) c.resize.result
    (g.K.Keeper.content c.args.keeper.now) (g.K.Keeper.content c.resize.new.keeper) (g.K.Keeper.faults c.args.keeper.now)
    (g.K.Keeper.faults c.resize.new.keeper) (g.K.Keeper.follows c.args.keeper.now c.resize.new.keeper) (g.K.Keeper.leaves c.args.keeper.now
    c.resize.new.keeper))
    (sym c.in-Resize.is)
    c.resize.ensures

pub returns-in-Remove : goal.returns-in-Remove
returns-in-Remove g c =
    subst
    (λ r. Asks (λ kept. capped (effect_of kept (Gate.Serving c.args.boot c.args.conflict c.args.writing_row) r)) c.remove.result
    (g.K.Keeper.content c.args.keeper.now) (g.K.Keeper.content c.remove.new.keeper) (g.K.Keeper.faults c.args.keeper.now)
    (g.K.Keeper.faults c.remove.new.keeper) (g.K.Keeper.follows c.args.keeper.now c.remove.new.keeper) (g.K.Keeper.leaves c.args.keeper.now
    c.remove.new.keeper))
    (sym c.in-Remove.is)
    c.remove.ensures

pub returns-in_default : goal.returns-in_default
returns-in_default g c =
    asks-as (λ kept. capped (no_effect Verdict.TryLater))
    (λ kept. capped (effect_of kept (Gate.Serving c.args.boot c.args.conflict c.args.writing_row) c.args.request)) c.unasked-in_default.result
    (g.K.Keeper.content c.args.keeper.now) (g.K.Keeper.content c.unasked-in_default.new.keeper) (g.K.Keeper.faults c.args.keeper.now)
    (g.K.Keeper.faults c.unasked-in_default.new.keeper) (g.K.Keeper.follows c.args.keeper.now c.unasked-in_default.new.keeper)
    (g.K.Keeper.leaves c.args.keeper.now c.unasked-in_default.new.keeper)
    (λ kept. ap capped (sym (later-serving kept c.args.boot c.args.conflict c.args.writing_row c.args.request c.in_default.not-Attach
    c.in_default.not-Create c.in_default.not-Write c.in_default.not-Resize c.in_default.not-Remove)))
    c.unasked-in_default.ensures
