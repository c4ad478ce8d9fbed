use Rattle.nq_names.proofs.Leading.{listed-leads, listed-memory}
use Rattle.nq_names.proofs.world.NameWorld.list.Goals as goal

pub returns-in-Ok-clause-leads : goal.returns-in-Ok-clause-leads
returns-in-Ok-clause-leads g c = λ head events told ready r left.
    let a = c.in-Ok.ensures in
    listed-leads head events c.args.host c.args.prefix.now c.args.self.now c.ask.new.self told ready r c.requires.there c.prefix_is_short.ensures
    a.inner a.ran a.gone a.asks left

pub returns-in-Err-Memory-clause-leads : goal.returns-in-Err-Memory-clause-leads
returns-in-Err-Memory-clause-leads g c = λ head events told ready r left.
    let a = c.in-Err-Memory.ensures in
    listed-memory head events c.args.self.now c.ask.new.self told r a.inner a.ran a.refused
