use Rattle.std.proofs.Common.{refl}
use Rattle.nq_staged.proofs.Leading.{offered-leads}
use Rattle.nq_staged.proofs.Reaching.{reaches-same}
use Rattle.nq_staged.proofs.commit.world.StagedWorld.offer.Goals as goal
use Rattle.nq_staged.proofs.commit.world.StagedWorld.offer.Goals.{in-Ok, in-Err-Memory}

pub returns-clause-leads : goal.returns-clause-leads
returns-clause-leads g c = λ head events told ready r left.
    let ready' = rw (← c.self.view_is) at ready in
    let r' = rw (← c.self.view_is) at r in
    let there' = rw (← c.self.view_is) at c.requires.there in
    elim c.match-offer.branch [
      | in-Ok w ↦ rw w.result-is (offered-leads head events c.args.host _ _ told c.dirty.result.now ready' r' there' c.dirty.ensures.dirty
          c.dirty.ensures.push refl refl w.in-Ok.ensures.gone w.in-Ok.ensures.offers left)
      | in-Err-Memory w ↦ rw w.result-is (reaches-same head events _ _ told told r' r'.inner refl w.in-Err-Memory.ensures.refused, refl)
    ]
