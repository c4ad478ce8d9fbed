use Rattle.std.proofs.Common.{◌∙◌}
use Rattle.nq_keeper.proofs.Leaving.{one-of}
use Rattle.nq_server.proofs.deciding.read_before.Goals as goal

pub returns-in_err-length-clause-leaves : goal.returns-in_err-length-clause-leaves
returns-in_err-length-clause-leaves g c =
    λ kept told found left.
    one-of found kept _ _ (g.met.K.Keeper.parts _ c.heads.new.self _ found c.heads.ensures.follows c.length_of.ensures.follows left)
    (c.heads.ensures.leaves kept told found)
    (c.length_of.ensures.leaves kept (c.in_ok-heads.ensures.reads.0 ∙ told) found)

pub returns-clause-leaves : goal.returns-clause-leaves
returns-clause-leaves g c =
    λ kept told found left.
    one-of found kept _ _ (g.met.K.Keeper.parts _ c.heads.new.self _ found c.heads.ensures.follows c.length_of.ensures.follows left)
    (c.heads.ensures.leaves kept told found)
    (c.length_of.ensures.leaves kept (c.in_ok-heads.ensures.reads.0 ∙ told) found)

pub returns-in_err-length-clause-follows : goal.returns-in_err-length-clause-follows
returns-in_err-length-clause-follows g c = g.met.K.Keeper.follows_on _ c.heads.new.self _ c.heads.ensures.follows c.length_of.ensures.follows

pub returns-clause-follows : goal.returns-clause-follows
returns-clause-follows g c = g.met.K.Keeper.follows_on _ c.heads.new.self _ c.heads.ensures.follows c.length_of.ensures.follows
