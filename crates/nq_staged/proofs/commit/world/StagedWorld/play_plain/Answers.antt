use Rattle.nq_staged.proofs.Agreeing.{no-delivery}
use Rattle.nq_staged.proofs.Leading.{plain-leads}
use Rattle.nq_staged.proofs.commit.world.StagedWorld.play_plain.Goals as goal

pub returns-in_default-clause-leads : goal.returns-in_default-clause-leads
returns-in_default-clause-leads g c = λ head events ready r left.
    plain-leads head events c.args.event.now c.run.result c.args.self.now c.run.new.self _ _ (no-delivery c.args.event.now c.in_default.not-Deliver)
    c.requires.brings ready r left (c.run.ensures.ran head)
