use Rattle.std.proofs.Common.{◌∙◌}
use Rattle.nq_keeper.proofs.Leaving.{one-of}
use Rattle.nq_keeper.proofs.requests.reading.read_block.Goals as goal

pub returns-in_err-body-clause-leaves : goal.returns-in_err-body-clause-leaves
returns-in_err-body-clause-leaves g c =
    λ kept told found left.
    one-of found kept _ _ (g.met.K.Keeper.parts _ c.file.new.self _ found c.file.ensures.follows c.block-2.ensures.follows left)
    (c.file.ensures.leaves kept told found)
    (c.block-2.ensures.leaves kept (c.in_ok-row.ensures.reads.0 ∙ told) found)

pub returns-clause-leaves : goal.returns-clause-leaves
returns-clause-leaves g c =
    λ kept told found left.
    one-of found kept _ _ (g.met.K.Keeper.parts _ c.file.new.self _ found c.file.ensures.follows c.block-2.ensures.follows left)
    (c.file.ensures.leaves kept told found)
    (c.block-2.ensures.leaves kept (c.in_ok-row.ensures.reads.0 ∙ told) found)

pub returns-in_err-body-clause-follows : goal.returns-in_err-body-clause-follows
returns-in_err-body-clause-follows g c = g.met.K.Keeper.follows_on _ c.file.new.self _ c.file.ensures.follows c.block-2.ensures.follows

pub returns-clause-follows : goal.returns-clause-follows
returns-clause-follows g c = g.met.K.Keeper.follows_on _ c.file.new.self _ c.file.ensures.follows c.block-2.ensures.follows
