use Rattle.nq_world.proofs.starting.begin_surely.Goals as goal

pub returns-in-Ok-clause-never : goal.returns-in-Ok-clause-never
returns-in-Ok-clause-never g c = λ later follows.
    let begins = c.begin.ensures.follows in
    c.requires.never later (g.met.K.Keeper.follows_on _ _ _ (rw c.in-Ok.is at begins) follows)
